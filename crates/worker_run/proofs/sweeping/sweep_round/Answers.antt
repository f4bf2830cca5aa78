use Rattle.std.proofs.Common.{◌≡◌, refl}
use Rattle.std.proofs.lemmas.Option.{IfSome_then}
use Rattle.worker_run.specs.declared.sweeping.Asked.TheVariants as who
use Rattle.worker_run.proofs.SweepLemmas.{all_swept_then, all_whole, turns_asked}
use Rattle.worker_run.proofs.sweeping.sweep_round.Goals as goal

pub sweep_each-requires-2-clause-whole : goal.sweep_each-requires-2-clause-whole
sweep_each-requires-2-clause-whole g c = all_whole c.args.tables.now c.args.workers.now c.sweep_each.new.workers c.sweep_each.ensures.swept c.requires.whole

pub returns-clause-swept : goal.returns-clause-swept
returns-clause-swept g c =
    all_swept_then c.args.tables.now c.args.workers.now c.sweep_each.new.workers c.sweep_each-2.new.workers c.sweep_each.ensures.swept c.sweep_each-2.ensures.swept

pub returns-clause-turns : goal.returns-clause-turns
returns-clause-turns g c =
    IfSome_then c.sweep_each-2.result c.sweep_each-2.ensures.turns
    (λ b. turns_asked (who.All ≡ who.All) c.args.tables.now b.made c.args.workers.now c.sweep_each.new.workers c.sweep_each-2.new.workers c.requires.made c.sweep_each.ensures.swept refl)
