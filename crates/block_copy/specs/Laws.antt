-- The law of copied joins.
use Rattle.std.specs.Prelude.{ℕ}
use Rattle.ir.specs.Graphs.{Graph, IsGraph}
use Rattle.block_pass.specs.Laws.{PassesBack}
use Rattle.block_copy.specs.Copied.{copied}

abbrev pub CopiedGraphsPass : Type 0
CopiedGraphsPass = (most : ℕ) (g : Graph) → IsGraph g → PassesBack g (copied most g)
