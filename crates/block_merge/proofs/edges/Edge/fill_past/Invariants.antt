use Rattle.std.proofs.Common.{◌≡◌, ◌++◌, drop, map}
use Rattle.block_merge.specs.Renamed.{moved_to}
use Rattle.block_merge.proofs.edges.Edge.fill_past.Given as goal

abbrev pub invariant-loop-value : goal.invariant-loop-value
invariant-loop-value l = record {
  block : l.self.block ≡ l.next.block;
  with : l.self.with.items ++ map (moved_to l.args 0) (drop l.value-index l.values) ≡ map (moved_to l.args 0) l.values;
}
