use Rattle.std.proofs.Common.{take}
use Rattle.net_check.specs.private.Peels.{IsReleased}
use Rattle.net_check.proofs.cycles.release.Given as goal

abbrev pub invariant-loop-target : goal.invariant-loop-target
invariant-loop-target l = IsReleased (take l.target-index l.targets) l.initial.waits.items l.initial.ready.items l.waits.items l.ready.items
