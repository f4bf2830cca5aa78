use Rattle.net_check.proofs.AloneLemmas.{met_told, met_hole}
use Rattle.net_check.proofs.joins.is_met.Goals.{else-at-wires-via-then-at-wires+else-is_place, else-at-wires-via-else-at-wires}
use Rattle.net_check.proofs.joins.is_met.Goals as goal

pub loop-p-preserved : goal.loop-p-preserved
loop-p-preserved c = elim c.else-at-wires.branch [
  | else-at-wires-via-then-at-wires+else-is_place w ↦ met_hole c.args.side c.args.net.now c.args.unit c.loop-p.p w.is_place.result c.loop-p.invariant w.is_place.ensures w.if-is_place.false
  | else-at-wires-via-else-at-wires w ↦ met_told c.args.side c.args.net.now c.args.wires.now c.args.unit c.loop-p.p c.at.result c.requires c.loop-p.invariant c.at.ensures w.if-at-wires.false
]
