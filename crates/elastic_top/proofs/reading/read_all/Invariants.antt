use Rattle.std.proofs.Common.{◌≡◌, ◌≤◌, ◌↔◌, ℕ, List, take, map}
use Rattle.elastic_top.specs.Reading.{contents_of, file_of, AreHeld}
use Rattle.elastic_top.proofs.reading.read_all.Given as goal

abbrev pub invariant-loop-i : goal.invariant-loop-i
invariant-loop-i g l = record {
  held : AreHeld (g.F.Files.holds l.initial.files) (map file_of (take l.i l.plan)) (contents_of l.contents.items);
  holds : (n : List ℕ) → g.F.Files.holds l.files n ≡ g.F.Files.holds l.initial.files n;
  steady : g.F.Files.steady l.files ↔ g.F.Files.steady l.initial.files;
  longs : g.F.Files.longs l.files ≡ g.F.Files.longs l.initial.files;
  later : g.F.Files.faults l.initial.files ≤ g.F.Files.faults l.files;
}
