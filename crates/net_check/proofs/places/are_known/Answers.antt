use Rattle.net_check.proofs.JoinLemmas.{known_found, known_hole}
use Rattle.net_check.proofs.places.are_known.Goals.{else-is_place-via-then-is_place+else-not-is_known, else-is_place-via-else-is_place}
use Rattle.net_check.proofs.places.are_known.Goals as goal

pub loop-p-preserved : goal.loop-p-preserved
loop-p-preserved c = elim c.else-is_place.branch [
  | else-is_place-via-then-is_place+else-not-is_known w ↦ known_found c.args.side c.args.net.now c.args.known.now c.args.unit c.loop-p.p w.is_known.result c.loop-p.invariant w.is_known.ensures w.if-not-is_known.false
  | else-is_place-via-else-is_place w ↦ known_hole c.args.side c.args.net.now c.args.known.now c.args.unit c.loop-p.p c.is_place.result c.loop-p.invariant c.is_place.ensures w.if-is_place.false
]
