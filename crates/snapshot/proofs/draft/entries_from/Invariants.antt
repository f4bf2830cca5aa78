use Rattle.std.proofs.Common.{◌≡◌, ◌∷◌, ◌+◌, ◌-◌}
use Rattle.snapshot.specs.private.Words.{fresh_run}
use Rattle.snapshot.proofs.draft.entries_from.Given as goal

abbrev pub invariant-loop-serial : goal.invariant-loop-serial
invariant-loop-serial l = l.entries ≡ l.fn.first ∷ fresh_run (l.fn.first.serial + 1) (l.serial - (l.fn.first.serial + 1)) l.store
