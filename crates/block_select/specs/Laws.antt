-- The law of if-conversion.
use Rattle.std.specs.Prelude.{ℕ}
use Rattle.ir.specs.Graphs.{Graph, IsGraph}
use Rattle.block_pass.specs.Laws.{PassesBack}
use Rattle.block_select.specs.Selected.{selected}

abbrev pub SelectedGraphsPass : Type 0
SelectedGraphsPass = (most : ℕ) (g : Graph) → IsGraph g → PassesBack g (selected most g)
