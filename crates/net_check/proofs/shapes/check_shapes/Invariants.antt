use Rattle.std.proofs.Common.{ℕ, ◌<◌}
use Rattle.net_types.specs.Nets.{kind_of}
use Rattle.net_check.specs.Shapes.{HasShape}
use Rattle.net_check.proofs.shapes.check_shapes.Given as goal

abbrev pub invariant-loop-u : goal.invariant-loop-u
invariant-loop-u l = (v : ℕ) → v < l.u → HasShape (kind_of l.net v)
