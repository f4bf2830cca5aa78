-- What holds of the trimmed graph of every well formed graph.
use Rattle.std.specs.Prelude.{All}
use Rattle.ir.specs.Variables.{VarGraph, IsVarGraph}
use Rattle.block_trim.specs.Trimming.{trimmed}
use Rattle.block_trim.specs.Shares.{TrimShare, TrimSizes, IsTrim}

abbrev pub TrimmedGraphsFit : Type 0
TrimmedGraphsFit = (g : VarGraph) → IsVarGraph g → IsVarGraph (trimmed g)

abbrev pub TrimmedGraphsRunTheSame : Type 0
TrimmedGraphsRunTheSame = (g : VarGraph) → IsVarGraph g → TrimShare g (trimmed g)

abbrev pub TrimmedSizesAreKept : Type 0
TrimmedSizesAreKept = (g : VarGraph) → TrimSizes g (trimmed g)

abbrev pub TrimmedBlocksAreTrim : Type 0
TrimmedBlocksAreTrim = (g : VarGraph) → All IsTrim (trimmed g).blocks
