use Rattle.std.proofs.Common.{◌≡◌, length}
use Rattle.std.specs.Prelude.{drop, replicate}
use Rattle.buffer_place.specs.Cuts.{levels_by}
use Rattle.buffer_place.proofs.levels.levels_by.Given as goal

abbrev pub invariant-loop-unit : goal.invariant-loop-unit
invariant-loop-unit l = record {
  size : length l.levels.items ≡ length l.rows;
  rest : levels_by l.depth l.net l.rows (drop l.unit-index l.order) l.levels.items ≡ levels_by l.depth l.net l.rows l.order (replicate (length l.rows) 0);
}
