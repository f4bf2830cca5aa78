use Rattle.std.proofs.Common.{ℕ, ◌<◌}
use Rattle.net_check.specs.Controls.{PlacesMarked}
use Rattle.net_check.proofs.controls.check_controls.Given as goal

abbrev pub invariant-loop-u : goal.invariant-loop-u
invariant-loop-u l = (v : ℕ) → v < l.u → PlacesMarked l.net v
