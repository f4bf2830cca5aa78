use Rattle.std.proofs.Common.{ℕ, ◌<◌, get_or}
use Rattle.std.specs.Bool.{IsTrue}
use Rattle.el_base.specs.Words.{is_identifier}
use Rattle.snapshot.specs.Texts.{no_scalar}
use Rattle.snapshot.proofs.reader.scalars_are_named.Given as goal

abbrev pub invariant-loop-scalar : goal.invariant-loop-scalar
invariant-loop-scalar l = (j : ℕ) → j < l.scalar-index → IsTrue (is_identifier (get_or l.scalars j no_scalar).name)
