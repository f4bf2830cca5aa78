use Rattle.std.proofs.Common.{◌≡◌, take}
use Rattle.net_core.specs.Held.{lane}
use Rattle.net_core.specs.private.Channels.{zeros_for}
use Rattle.net_core.proofs.tokens.fill_channel.Given as goal

abbrev pub invariant-loop-token : goal.invariant-loop-token
invariant-loop-token l = l.channel ≡ lane (take l.token-index l.tokens) (zeros_for (take l.token-index l.tokens)) l.initial.channel.slots
