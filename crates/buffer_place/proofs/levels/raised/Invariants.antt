use Rattle.std.proofs.Common.{◌≡◌}
use Rattle.std.specs.Prelude.{drop}
use Rattle.buffer_place.specs.Cuts.{raised}
use Rattle.buffer_place.proofs.levels.raised.Given as goal

abbrev pub invariant-loop-source : goal.invariant-loop-source
invariant-loop-source l = raised l.depth l.weight l.levels (drop l.source-index l.sources) l.level ≡ raised l.depth l.weight l.levels l.sources l.weight
