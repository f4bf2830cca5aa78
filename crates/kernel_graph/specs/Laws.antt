-- Which arrays the graph of a kernel stores to, what its passes keep, and that a kernel has one graph.
use Rattle.std.specs.Prelude.{◌≡◌, ◌↔◌, ℕ}
use Rattle.c_ast.specs.declared.typed.Typed.{Typed}
use Rattle.block_args.specs.Made.{IsArgued}
use Rattle.ir.specs.Accesses.{IsStoredTo}
use Rattle.ir.specs.Graphs.{Graph, IsGraph}
use Rattle.block_pass.specs.Laws.{PassesBack}
use Rattle.kernel_graph.specs.Composed.{kernel_var_graph, IsGraphOf}
use Rattle.kernel_graph.specs.Optimized.{optimized}
use Rattle.kernel_graph.specs.Targets.{IsAssignedTo}

-- the steps of the graph that is made of a kernel store to exactly the arrays that the kernel assigns to
abbrev pub StoresAreAssignments : Type 0
StoresAreAssignments = (k : Typed) (g : Graph) → IsArgued (kernel_var_graph k) g → (a : ℕ) → IsStoredTo g a ↔ IsAssignedTo k a

-- what the passes make of a graph is what one pass may give, and its ends go back
abbrev pub OptimizedGraphsPass : Type 0
OptimizedGraphsPass = (n : ℕ) (g : Graph) → IsGraph g → PassesBack g (optimized n g)

-- what is the graph of a kernel is one graph
abbrev pub GraphsAreOne : Type 0
GraphsAreOne = (k : Typed) (g h : Graph) → IsGraphOf k g → IsGraphOf k h → g ≡ h
