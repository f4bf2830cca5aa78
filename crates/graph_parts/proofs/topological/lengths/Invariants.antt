use Rattle.std.proofs.Common.{◌≡◌, ◌++◌, length}
use Rattle.std.specs.Prelude.{map, drop}
use Rattle.graph_parts.proofs.topological.lengths.Given as goal

abbrev pub invariant-loop-row : goal.invariant-loop-row
invariant-loop-row l = l.lengths.items ++ map length (drop l.row-index l.rows) ≡ map length l.rows
