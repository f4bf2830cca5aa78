use Rattle.std.proofs.Common.{◌≡◌, None, replicate}
use Rattle.net_worker.proofs.channel_ends.nothing.Given as goal

abbrev pub invariant-loop : goal.invariant-loop
invariant-loop g l = l.places.items ≡ replicate l.counter None
