use Rattle.std.proofs.Common.{◌≡◌, take}
use Rattle.net_core.specs.private.Restores.{numbers_set}
use Rattle.net_core.proofs.sent.Sent.outs.Given as goal

abbrev pub invariant-loop-at : goal.invariant-loop-at
invariant-loop-at l = l.outs ≡ numbers_set 0 (take l.at l.self)
