use Rattle.std.proofs.Common.{◌≡◌, ◌≤◌, ◌+◌, ◌++◌, drop}
use Rattle.block_prune.specs.Code.{numbers_from, number_after}
use Rattle.block_prune.proofs.keeping.Numbers.new.Given as goal

abbrev pub invariant-loop-is_kept : goal.invariant-loop-is_kept
invariant-loop-is_kept l = record {
  few : l.end ≤ l.fn.args + l.is_kept-index;
  numbers : l.of_steps.items ++ numbers_from l.end (drop l.is_kept-index l.marks) ≡ numbers_from l.fn.args l.marks;
  after : number_after l.end (drop l.is_kept-index l.marks) ≡ number_after l.fn.args l.marks;
}
