use Rattle.std.proofs.Common.{ℕ, ◌<◌}
use Rattle.net_check.specs.Ends.{IsQueue, EndsWell}
use Rattle.net_check.proofs.ends.first_astray.Given as goal

abbrev pub invariant-loop-u : goal.invariant-loop-u
invariant-loop-u l = (v : ℕ) → v < l.u → IsQueue l.net v → EndsWell l.net v
