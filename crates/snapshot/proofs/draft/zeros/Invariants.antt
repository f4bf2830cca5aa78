use Rattle.std.proofs.Common.{◌≡◌, replicate}
use Rattle.snapshot.proofs.draft.zeros.Given as goal

abbrev pub invariant-loop : goal.invariant-loop
invariant-loop l = l.list ≡ replicate l.counter 0
