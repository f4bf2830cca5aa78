-- Entries behind an older one of their side that may not execute.
use Rattle.std.specs.Prelude.{◌≡◌, ℕ, ◌<◌, Bool, true, false, length}
use Rattle.lsq_core.specs.declared.entry.Entry.{Entry}
use Rattle.lsq_core.specs.Acts.{QueueState, executes}
use Rattle.lsq_core.specs.Views.{count_of, entry_at}

-- y is an entry that is older than x, of its side, not executed, and may not execute
pub record FailsBefore (q : QueueState) (y x : Entry) : Type 0 where
  pub at : ℕ
  pub within : at < length q.items
  pub is : y ≡ entry_at q.items at
  pub older : y.serial < x.serial
  pub side : count_of y.store ≡ count_of x.store
  pub undone : y.done ≡ false
  pub fails : executes q.forward q.items y ≡ false
