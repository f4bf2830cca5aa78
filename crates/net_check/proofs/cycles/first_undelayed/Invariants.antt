use Rattle.std.proofs.Common.{ℕ, ◌<◌}
use Rattle.net_types.specs.Nets.{chan_at}
use Rattle.net_check.specs.Cycles.{IsDelayed}
use Rattle.net_check.proofs.cycles.first_undelayed.Given as goal

abbrev pub invariant-loop-c : goal.invariant-loop-c
invariant-loop-c l = (d : ℕ) → d < l.c → IsDelayed l.net (chan_at l.net d)
