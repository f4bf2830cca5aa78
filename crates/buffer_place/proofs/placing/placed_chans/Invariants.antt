use Rattle.std.proofs.Common.{◌≡◌, ◌++◌}
use Rattle.std.specs.Prelude.{drop}
use Rattle.buffer_place.specs.Cuts.{cut_chans}
use Rattle.buffer_place.proofs.placing.placed_chans.Given as goal

abbrev pub invariant-loop-chan : goal.invariant-loop-chan
invariant-loop-chan l = l.chans ++ cut_chans l.timing l.net l.cuts l.slots (drop l.chan-index l.chan-items) ≡ cut_chans l.timing l.net l.cuts l.slots l.net.chans
