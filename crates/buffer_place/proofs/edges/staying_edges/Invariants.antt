use Rattle.std.proofs.Common.{◌≡◌, ◌++◌}
use Rattle.std.specs.Prelude.{drop}
use Rattle.buffer_place.specs.Edges.{staying, sources, targets}
use Rattle.buffer_place.proofs.edges.staying_edges.Given as goal

abbrev pub invariant-loop-chan : goal.invariant-loop-chan
invariant-loop-chan l = record {
  from : l.edges.from.items ++ sources (staying l.timing l.net l.marks (drop l.chan-index l.chan-items)) ≡ sources (staying l.timing l.net l.marks l.net.chans);
  to : l.edges.to.items ++ targets (staying l.timing l.net l.marks (drop l.chan-index l.chan-items)) ≡ targets (staying l.timing l.net l.marks l.net.chans);
}
