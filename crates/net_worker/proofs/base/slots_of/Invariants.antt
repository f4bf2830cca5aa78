use Rattle.std.proofs.Common.{◌≡◌, map, take}
use Rattle.net_types.specs.declared.net.Chan.{Chan}
use Rattle.net_worker.proofs.base.slots_of.Given as goal

abbrev pub invariant-loop-chan : goal.invariant-loop-chan
invariant-loop-chan l = l.slots ≡ map (λ (c : Chan). c.slots) (take l.chan-index l.chans)
