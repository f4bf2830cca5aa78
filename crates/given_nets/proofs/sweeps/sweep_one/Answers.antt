use Rattle.std.proofs.Common.{sym, subst}
use Rattle.net_worker.specs.Workers.{IsMadeOf}
use Rattle.given_nets.proofs.Turns.{crew_later, whole_later}
use Rattle.given_nets.proofs.sweeps.sweep_one.Goals as goal

pub sweep-requires-clause-made : goal.sweep-requires-clause-made
sweep-requires-clause-made c =
    let a = c.index_mut.result.now in
    subst (IsMadeOf c.args.crew.now.tables) (sym c.index_mut.ensures.value) (c.requires.crew.0.made c.args.at a c.requires.within (c.requires.whole c.args.at a c.requires.within).not_closed)

pub invariant_of-crew : goal.invariant_of-crew
invariant_of-crew c =
    let crew = crew_later c.args.crew.now.tables c.args.crew.now.workers.items c.args.at c.index_mut.result.now c.sweep.new.self c.requires.within c.index_mut.ensures.value c.requires.crew c.requires.whole c.sweep.ensures.made c.sweep.ensures.same in
    record { made = ∣ crew.0 ∣₁; linked = crew.1 }

pub returns-clause-crew : goal.returns-clause-crew
returns-clause-crew c =
    crew_later c.args.crew.now.tables c.args.crew.now.workers.items c.args.at c.index_mut.result.now c.sweep.new.self c.requires.within c.index_mut.ensures.value c.requires.crew c.requires.whole c.sweep.ensures.made c.sweep.ensures.same

pub returns-clause-whole : goal.returns-clause-whole
returns-clause-whole c =
    whole_later c.args.crew.now.tables c.args.crew.now.workers.items c.args.at c.index_mut.result.now c.sweep.new.self c.requires.within c.index_mut.ensures.value c.requires.crew.0 c.requires.whole c.sweep.ensures.made c.sweep.ensures.same
