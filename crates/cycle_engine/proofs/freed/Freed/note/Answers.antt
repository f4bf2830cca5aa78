use Rattle.std.proofs.Common.{◌∷◌, [], sym, subst}
use Rattle.net_core.specs.Plans.{chans_of}
use Rattle.net_core.specs.declared.plan.Taken.{Taken}
use Rattle.cycle_engine.specs.private.Marking.{IsFreed}
use Rattle.cycle_engine.proofs.FollowLemmas.{freed_then}
use Rattle.cycle_engine.proofs.freed.Freed.note.Goals as goal

pub returns-in_ok-note_one-in-Two-2 : goal.returns-in_ok-note_one-in-Two-2
returns-in_ok-note_one-in-Two-2 c =
    let P : Taken → Type 0 = λ t. IsFreed c.args.net.now c.args.state.now c.args.now (chans_of t) c.args.self.now c.note_one-in-Two-2.new.self in
    subst P (sym c.in-Two.is) (freed_then c.args.net.now c.args.state.now c.args.now c.in-Two.c (c.in-Two.d ∷ []) c.args.self.now c.note_one-in-Two.new.self c.note_one-in-Two-2.new.self c.in_ok-note_one-in-Two.ensures c.in_ok-note_one-in-Two-2.ensures)
