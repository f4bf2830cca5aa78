-- Private: only contracts of private functions cite it. The edges of blocks, held apart from the blocks.
use Rattle.std.specs.Prelude.{List, [], ◌∷◌}
use Rattle.ir.specs.declared.graph.Block.{Block}
use Rattle.ir.specs.declared.graph.Jump.{Jump}
use Rattle.ir.specs.declared.graph.Jump.TheVariants.{Go, Two, Return}
use Rattle.ir.specs.declared.graph.To.{To}
use Rattle.block_merge.specs.declared.edges.Edge.{Edge}
use Rattle.block_merge.specs.declared.edges.OutEdges.{OutEdges}

abbrev pub to_of : Edge → To
to_of e = record { block = e.block; with = e.with.items }

-- the jump of that kind along those edges
abbrev pub jump_along : OutEdges → Jump → Jump
jump_along es (Go t) = Go (to_of es.yes)
jump_along es (Two c yes_part no_part) = Two c (to_of es.yes) (to_of es.no)
jump_along es (Return v) = Return v

abbrev pub block_along : OutEdges → Block → Block
block_along es b = record { args = b.args; steps = b.steps; jump = jump_along es b.jump }

-- each block with the edges at its place
abbrev pub with_edges : List Block → List OutEdges → List Block
with_edges [] ess = []
with_edges (b ∷ bs) [] = []
with_edges (b ∷ bs) (es ∷ ess) = block_along es b ∷ with_edges bs ess
