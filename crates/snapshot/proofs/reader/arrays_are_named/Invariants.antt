use Rattle.std.proofs.Common.{ℕ, ◌<◌, get_or}
use Rattle.std.specs.Bool.{IsTrue}
use Rattle.el_base.specs.Words.{is_identifier}
use Rattle.snapshot.specs.Texts.{no_array}
use Rattle.snapshot.proofs.reader.arrays_are_named.Given as goal

abbrev pub invariant-loop-array : goal.invariant-loop-array
invariant-loop-array l = (j : ℕ) → j < l.array-index → IsTrue (is_identifier (get_or l.arrays j no_array).name)
