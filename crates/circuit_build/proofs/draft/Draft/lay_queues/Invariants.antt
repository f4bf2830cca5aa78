use Rattle.std.proofs.Common.{◌≡◌, ◌≤◌, drop}
use Rattle.circuit_build.specs.Fronts.{queues_laid}
use Rattle.circuit_build.proofs.draft.Draft.lay_queues.Given as goal

abbrev pub invariant-loop-array : goal.invariant-loop-array
invariant-loop-array l = record {
  counted : l.number ≤ l.array-index;
  laid : queues_laid l.blocks l.accesses l.number (drop l.array-index l.arrays) l.self ≡ queues_laid l.blocks l.accesses 0 l.arrays l.initial.self;
}
