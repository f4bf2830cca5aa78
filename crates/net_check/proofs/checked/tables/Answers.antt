use Rattle.net_check.specs.declared.wires.Side.TheVariants.{In, Out}
use Rattle.net_check.proofs.BoundLemmas.{has_room}
use Rattle.net_check.proofs.WiredLemmas.{ends_kept}
use Rattle.net_check.proofs.checked.tables.Goals as goal

pub new-requires-clause-ends : goal.new-requires-clause-ends
new-requires-clause-ends c = ends_kept c.args.net.now c.requires.places

pub new-requires-clause-room : goal.new-requires-clause-room
new-requires-clause-room c = has_room In c.args.net.now c.requires.places c.requires.numbered

pub new-requires-2-clause-ends : goal.new-requires-2-clause-ends
new-requires-2-clause-ends c = ends_kept c.args.net.now c.requires.places

pub new-requires-2-clause-room : goal.new-requires-2-clause-room
new-requires-2-clause-room c = has_room Out c.args.net.now c.requires.places c.requires.numbered
