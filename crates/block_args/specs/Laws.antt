-- What holds of the graph over arguments that a table makes.
use Rattle.std.specs.Prelude.{ℕ, List}
use Rattle.ir.specs.Graphs.{IsGraph}
use Rattle.ir.specs.Variables.{VarGraph, IsVarGraph}
use Rattle.block_args.specs.Tables.{Serves, ListsLive}
use Rattle.block_args.specs.Arguments.{argued}
use Rattle.block_args.specs.Shares.{ArgsShare, ArgsSizes}

-- whatever variables a table lists, as long as it serves the graph
abbrev pub ServedGraphsRunTheSame : Type 0
ServedGraphsRunTheSame = (g : VarGraph) (table : List (List ℕ)) → IsVarGraph g → Serves g table → ArgsShare g (argued g table)

abbrev pub LiveVariablesServe : Type 0
LiveVariablesServe = (g : VarGraph) (table : List (List ℕ)) → IsVarGraph g → ListsLive g table → Serves g table

abbrev pub SizesAreKept : Type 0
SizesAreKept = (g : VarGraph) (table : List (List ℕ)) → IsVarGraph g → Serves g table → ArgsSizes g (argued g table)

abbrev pub ServedGraphsAreWellFormed : Type 0
ServedGraphsAreWellFormed = (g : VarGraph) (table : List (List ℕ)) → IsVarGraph g → Serves g table → IsGraph (argued g table)
