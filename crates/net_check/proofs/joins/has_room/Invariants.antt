use Rattle.std.proofs.Common.{◌≡◌, ◌+◌, ◌*◌, length, take}
use Rattle.std.specs.List.{sum_by}
use Rattle.net_check.specs.private.Wires.{bound}
use Rattle.net_check.proofs.joins.has_room.Given as goal

abbrev pub invariant-loop-unit : goal.invariant-loop-unit
invariant-loop-unit l = l.left + sum_by (bound l.side) (take l.unit-index l.net.units) ≡ 2 * length l.net.chans
