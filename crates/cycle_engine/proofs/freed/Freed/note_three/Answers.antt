use Rattle.std.proofs.Common.{◌∷◌, []}
use Rattle.cycle_engine.proofs.FollowLemmas.{freed_then}
use Rattle.cycle_engine.proofs.freed.Freed.note_three.Goals as goal

pub returns : goal.returns
returns c =
    freed_then c.args.net.now c.args.state.now c.args.now c.args.c (c.args.d ∷ c.args.e ∷ []) c.args.self.now c.note_one.new.self c.note_one-3.new.self c.in_ok-note_one.ensures
    (freed_then c.args.net.now c.args.state.now c.args.now c.args.d (c.args.e ∷ []) c.note_one.new.self c.note_one-2.new.self c.note_one-3.new.self c.in_ok-note_one-2.ensures c.in_ok-note_one-3.ensures)
