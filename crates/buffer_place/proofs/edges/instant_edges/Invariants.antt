use Rattle.std.proofs.Common.{◌≡◌, ◌++◌}
use Rattle.std.specs.Prelude.{drop}
use Rattle.buffer_place.specs.Edges.{instant, sources, targets}
use Rattle.buffer_place.proofs.edges.instant_edges.Given as goal

abbrev pub invariant-loop-chan : goal.invariant-loop-chan
invariant-loop-chan l = record {
  from : l.edges.from.items ++ sources (instant l.timing l.net (drop l.chan-index l.chan-items)) ≡ sources (instant l.timing l.net l.net.chans);
  to : l.edges.to.items ++ targets (instant l.timing l.net (drop l.chan-index l.chan-items)) ≡ targets (instant l.timing l.net l.net.chans);
}
