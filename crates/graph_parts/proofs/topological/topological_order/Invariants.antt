use Rattle.std.proofs.Common.{ℕ, ◌<◌}
use Rattle.graph_parts.specs.Deepening.{Seen, IsEnded}
use Rattle.graph_parts.proofs.topological.topological_order.Given as goal

abbrev pub invariant-loop-root : goal.invariant-loop-root
invariant-loop-root l = IsEnded l.rows l.search × ((u : ℕ) → u < l.root → Seen l.search.seen.items u)
