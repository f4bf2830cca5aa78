use Rattle.std.proofs.Common.{◌≡◌, take}
use Rattle.net_core.specs.Held.{held_of}
use Rattle.net_core.proofs.tokens.lists_of.Given as goal

abbrev pub invariant-loop-channel : goal.invariant-loop-channel
invariant-loop-channel l = l.lists ≡ (held_of (take l.channel-index l.channels)).tokens
