use Rattle.std.proofs.Common.{sym, subst}
use Rattle.graph_parts.specs.Graph.{InRow}
use Rattle.graph_parts.specs.Topological.{AreNodes, IsAcyclic}
use Rattle.buffer_place.proofs.EdgeLemmas.{rows_acyclic, rows_named}
use Rattle.buffer_place.proofs.levels.unit_levels.Goals as goal

pub topological_order-requires-clause-named : goal.topological_order-requires-clause-named
topological_order-requires-clause-named c =
    subst AreNodes (sym c.as_slice.ensures.value) (rows_named c.args.timing c.args.net.now c.args.marks.now c.requires.parts c.requires.within _ c.in_ok-rows.ensures)

pub topological_order-requires-clause-acyclic : goal.topological_order-requires-clause-acyclic
topological_order-requires-clause-acyclic c =
    subst (λ rows. IsAcyclic (InRow rows)) (sym c.as_slice.ensures.value) (rows_acyclic c.args.timing c.args.net.now c.args.marks.now c.requires.parts c.requires.within _ c.in_ok-rows.ensures)
