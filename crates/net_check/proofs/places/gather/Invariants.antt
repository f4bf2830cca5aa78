use Rattle.std.proofs.Common.{take}
use Rattle.net_check.specs.private.Joins.{IsGathered}
use Rattle.net_check.proofs.places.gather.Given as goal

abbrev pub invariant-loop-chan : goal.invariant-loop-chan
invariant-loop-chan l = IsGathered l.side (take l.chan-index l.chans) l.known l.twice
