use Rattle.std.proofs.Common.{◌≡◌, ◌++◌, map, take, drop}
use Rattle.net_core.specs.Held.{held_of}
use Rattle.net_core.specs.private.Channels.{zeros_for}
use Rattle.net_core.proofs.tokens.fill_channels.Given as goal

abbrev pub invariant-loop-at : goal.invariant-loop-at
invariant-loop-at l = record {
  tokens : (held_of l.channels.items).tokens ≡ take l.at l.lists ++ drop l.at (held_of l.initial.channels.items).tokens;
  slots : (held_of l.channels.items).slots ≡ (held_of l.initial.channels.items).slots;
  dates : (held_of l.channels.items).dates ≡ take l.at (map zeros_for l.lists) ++ drop l.at (held_of l.initial.channels.items).dates;
}
