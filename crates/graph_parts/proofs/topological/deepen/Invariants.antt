use Rattle.graph_parts.specs.Deepening.{Seen, IsDeepening, AreKept, work}
use Rattle.graph_parts.proofs.topological.deepen.Given as goal

abbrev pub invariant-path : goal.invariant-path
invariant-path l = IsDeepening l.rows l.search l.search.path.items × AreKept l.fn.search l.search × Seen l.search.seen.items l.root

abbrev pub decreases-path : goal.decreases-path
decreases-path l = work l.search l.search.path.items
