use Rattle.std.proofs.Common.{ℕ, ◌<◌}
use Rattle.net_check.specs.private.Joins.{IsKnownUnit}
use Rattle.net_check.proofs.places.first_missing.Given as goal

abbrev pub invariant-loop-u : goal.invariant-loop-u
invariant-loop-u l = (v : ℕ) → v < l.u → IsKnownUnit l.net l.ins.known l.outs.known v
