use Rattle.std.proofs.Common.{◌≡◌, take}
use Rattle.net_worker.specs.Portions.{first_lanes}
use Rattle.net_worker.proofs.portion.channels_of.Given as goal

abbrev pub invariant-loop-chan : goal.invariant-loop-chan
invariant-loop-chan l = l.channels.items ≡ first_lanes l.net (take l.chan-index l.chans)
