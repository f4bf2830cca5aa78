use Rattle.std.proofs.Common.{◌≡◌, false, replicate}
use Rattle.snapshot.proofs.draft.flags.Given as goal

abbrev pub invariant-loop : goal.invariant-loop
invariant-loop l = l.list ≡ replicate l.counter false
