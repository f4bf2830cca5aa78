-- Which graph a kernel has: what the passes are defined to make, one after another.
use Rattle.std.specs.Prelude.{◌≡◌}
use Rattle.c_ast.specs.declared.typed.Typed.{Typed}
use Rattle.c_ast.specs.Nodes.{typed_nodes}
use Rattle.c_norm.specs.Kernels.{normal_form}
use Rattle.struct_cfg.specs.Kernels.{form_graph}
use Rattle.block_trim.specs.Trimming.{trimmed}
use Rattle.block_args.specs.Made.{IsArgued}
use Rattle.block_merge.specs.Merged.{merged}
use Rattle.ir.specs.Graphs.{Graph}
use Rattle.ir.specs.Variables.{VarGraph}
use Rattle.kernel_graph.specs.Optimized.{optimized}

-- its graph over variables: the graph of its normal form, without steps whose values nothing uses
abbrev pub kernel_var_graph : Typed → VarGraph
kernel_var_graph k = trimmed (form_graph (normal_form k))

-- the graph over arguments whose blocks get exactly the variables that are live at them, merged and optimized
pub record IsGraphOf (k : Typed) (g : Graph) : Type 0 where
  pub unmerged : Graph
  pub argued : IsArgued (kernel_var_graph k) unmerged
  pub is : g ≡ optimized (typed_nodes k) (merged unmerged)
