use Rattle.std.proofs.Common.{◌∙◌}
use Rattle.graph_check.proofs.Deciding.{graph_yes, graph_no, same_fits}
use Rattle.graph_check.proofs.graph.checked_graph.Goals as goal

pub returns-then-not-branch-clause-none : goal.returns-then-not-branch-clause-none
returns-then-not-branch-clause-none c =
    let a = c.args in
    graph_no (record { name = a.name; scalars = a.scalars; arrays = a.arrays; result = a.of; blocks = a.blocks })
    (same_fits c.in_ok-graph_fits.field-0 a.name a.of c.as_slice.result.now a.scalars c.as_slice-2.result.now a.arrays c.as_slice-3.result.now a.blocks
    c.as_slice.ensures c.as_slice-2.ensures c.as_slice-3.ensures (c.in_ok-graph_fits.ensures a.name)
    ∙ c.if-not-branch.true)

pub invariant_of-result : goal.invariant_of-result
invariant_of-result c =
    let a = c.args in
    graph_yes (record { name = a.name; scalars = a.scalars; arrays = a.arrays; result = a.of; blocks = a.blocks })
    (same_fits c.in_ok-graph_fits.field-0 a.name a.of c.as_slice.result.now a.scalars c.as_slice-2.result.now a.arrays c.as_slice-3.result.now a.blocks
    c.as_slice.ensures c.as_slice-2.ensures c.as_slice-3.ensures (c.in_ok-graph_fits.ensures a.name)
    ∙ c.if-not-branch.false)
