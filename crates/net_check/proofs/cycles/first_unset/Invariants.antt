use Rattle.std.proofs.Common.{◌≡◌, ℕ, ◌<◌, get_or, true, false}
use Rattle.net_check.proofs.cycles.first_unset.Given as goal

abbrev pub invariant-loop-u : goal.invariant-loop-u
invariant-loop-u l = (v : ℕ) → v < l.u → get_or l.marks v false ≡ true
