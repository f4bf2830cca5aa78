-- Queues as plain data.
use Rattle.std.specs.Prelude.{◌≡◌, ℕ, ◌≤◌, ◌^◌, Bool, [], length}
use Rattle.lsq_core.specs.Acts.{QueueState}
use Rattle.lsq_core.specs.Views.{QueueView, EntriesView, InOrder, InPorts}
use Rattle.lsq_core.specs.declared.part.QueuePart.{QueuePart}

-- no entries, room for so many, and a next serial number
abbrev pub none_from : ℕ → ℕ → ℕ → Bool → EntriesView
none_from next depth ports forward = record { queue = record { forward = forward; next = next; items = [] }; depth = depth; ports = ports }

-- the queue of these data
abbrev pub queue_of : Bool → QueuePart → QueueState
queue_of forward p = record { forward = forward; next = p.next; items = p.entries }

-- the data of a queue
pub record IsPartOf (q : QueueState) (p : QueuePart) : Type 0 where
  pub next : p.next ≡ q.next
  pub entries : p.entries ≡ q.items

-- such entries may stand in a queue of this depth with so many ports: there is room for them, their serial numbers rise by
-- one up to the next one, each is of a port, and the numbers have room to rise
pub record MayStand (depth ports : ℕ) (q : QueueState) : Type 0 where
  pub room : length q.items ≤ depth
  pub order : InOrder q
  pub named : InPorts ports q.items
  pub numbered : length q.items ≤ q.next
  pub next : q.next ≤ 2 ^ 62

-- the queue with these entries in place of its own
abbrev pub holding : QueueState → QueueView → QueueView
holding queue q = record q { queue = queue }
