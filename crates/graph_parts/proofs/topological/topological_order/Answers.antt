use Rattle.std.proofs.Common.{arith}
use Rattle.graph_parts.proofs.TopologicalLemmas.{topological}
use Rattle.graph_parts.proofs.topological.topological_order.Goals as goal

pub returns : goal.returns
returns c =
    let s = c.loop-root.search in
    let t = c.loop-root-test.false in
    topological c.args.rows.now s.seen.items s.left.items s.path.items s.order.items c.loop-root.invariant.0.1 (λ u l. c.loop-root.invariant.1 u (omega arith)) c.loop-root.invariant.0.0
