use Rattle.std.proofs.Common.{◌≡◌, ℕ, ◌<◌, get_or, true, false}
use Rattle.net_types.specs.declared.net.Unit.TheVariants.{Sink}
use Rattle.net_check.specs.Ends.{is_lsq}
use Rattle.net_check.proofs.ends.first_unmet.Given as goal

abbrev pub invariant-loop-u : goal.invariant-loop-u
invariant-loop-u l = (v : ℕ) → v < l.u → is_lsq (get_or l.units v (Sink 0)) ≡ true → get_or l.met v false ≡ true
