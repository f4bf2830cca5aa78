use Rattle.std.proofs.Common.{◌≡◌, [], replicate}
use Rattle.snapshot.proofs.draft.empty_lists.Given as goal

abbrev pub invariant-loop : goal.invariant-loop
invariant-loop o l = l.list ≡ replicate l.counter []
