use Rattle.std.proofs.Common.{◌≡◌, ℕ, ◌<◌, true, get_or}
use Rattle.net_types.specs.declared.net.Unit.TheVariants.{Sink}
use Rattle.net_check.specs.Headers.{is_exit}
use Rattle.net_core.proofs.opening.exit_of.Given as goal

abbrev pub invariant-loop-at : goal.invariant-loop-at
invariant-loop-at l = (u : ℕ) → u < l.at → is_exit (get_or l.units u (Sink 0)) ≡ true → ⊥
