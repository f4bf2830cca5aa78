use Rattle.std.proofs.Common.{◌≡◌, ℕ, ◌<◌, true}
use Rattle.lsq_core.specs.Acts.{known}
use Rattle.lsq_core.specs.Views.{entry_at}
use Rattle.lsq_core.proofs.entries.Entries.are_known.Given as goal

abbrev pub invariant-loop-at : goal.invariant-loop-at
invariant-loop-at l = (k : ℕ) → k < l.at → known l.load (entry_at l.self.queue.items k) ≡ true
