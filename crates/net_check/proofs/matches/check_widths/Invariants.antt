use Rattle.std.proofs.Common.{ℕ, ◌<◌, IsTrue, length}
use Rattle.net_types.specs.Nets.{kind_of, chan_at}
use Rattle.net_types.specs.Rules.{width_fits, IsOfWidth}
use Rattle.net_check.proofs.matches.check_widths.Given as goal

abbrev pub invariant-loop-u : goal.invariant-loop-u
invariant-loop-u l = (v : ℕ) → v < l.u → IsTrue (width_fits (kind_of l.net v))

abbrev pub invariant-loop-c : goal.invariant-loop-c
invariant-loop-c l = ((v : ℕ) → v < length l.net.units → IsTrue (width_fits (kind_of l.net v))) × ((d : ℕ) → d < l.c → IsOfWidth l.net (chan_at l.net d))
