use Rattle.std.proofs.Common.{◌≤◌, take}
use Rattle.elastic_top.specs.Lines.{line_of, AreGathered}
use Rattle.elastic_top.proofs.line.write_pieces.Given as goal

abbrev pub invariant-loop-i : goal.invariant-loop-i
invariant-loop-i g l = record {
  gathered : AreGathered (g.E.Sink.written l.initial.err) (g.E.Sink.written l.err) l.gathered.items (line_of (take l.i l.pieces));
  later : g.E.Sink.faults l.initial.err ≤ g.E.Sink.faults l.err;
}
