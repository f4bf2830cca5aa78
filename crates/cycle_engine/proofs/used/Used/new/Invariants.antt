use Rattle.std.proofs.Common.{◌≡◌, length}
use Rattle.cycle_engine.specs.private.Used.{AreLaid}
use Rattle.cycle_engine.proofs.used.Used.new.Given as goal

-- the units so far have where the numbers of their places begin
abbrev pub invariant-loop-unit : goal.invariant-loop-unit
invariant-loop-unit l = record {
  long : length l.base.items ≡ l.unit-index;
  laid : AreLaid l.net l.base.items l.count;
}
