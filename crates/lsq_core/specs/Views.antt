-- What contracts see of a queue.
use Rattle.std.specs.Prelude.{◌≡◌, ℕ, ◌+◌, ◌<◌, get_or, Bool, true, false, cond, Option, Some, None, option_map, List, [], ◌∷◌, length, refl}
use Rattle.std.specs.Coded.{Coded, code_by, coded×, coded_ℕ, coded_bool, coded_option, coded_list}
use Rattle.std.specs.List.{find}
use Rattle.net_types.specs.declared.net.Port.{Port}
use Rattle.net_types.specs.declared.net.Port.TheVariants.{Load, Store}
use Rattle.net_types.specs.declared.firing.Act.{Act}
use Rattle.lsq_core.specs.declared.entry.Entry.{Entry}
use Rattle.lsq_core.specs.Acts.{QueueState, Stepped, can, step, is_store, executes, wants_reply, fresh_entry}

-- a queue with its array and its shape
pub record QueueView : Type 0 where
  pub queue : QueueState
  pub array : List ℕ
  pub depth : ℕ
  pub ports : List Port
  pub groups : List (List ℕ)

-- the entries of a queue by themselves, how many there may be, and how many ports
pub record EntriesView : Type 0 where
  pub queue : QueueState
  pub depth : ℕ
  pub ports : ℕ

-- no entries, and room for so many
abbrev pub no_entries : ℕ → ℕ → Bool → EntriesView
no_entries depth ports forward = record { queue = record { forward = forward; next = 0; items = [] }; depth = depth; ports = ports }

-- what stands past the entries
abbrev pub blank : Entry
blank = fresh_entry 0 0 false

abbrev pub entry_at : List Entry → ℕ → Entry
entry_at items i = get_or items i blank

-- serial numbers rise by one, up to the next one
abbrev pub InOrder : QueueState → Type 0
InOrder q = (i : ℕ) → i < length q.items → (entry_at q.items i).serial + length q.items ≡ q.next + i

-- each entry is of a port
abbrev pub InPorts : ℕ → List Entry → Type 0
InPorts n items = (i : ℕ) → i < length items → (entry_at items i).port < n

-- each number in a group is that of a port
abbrev pub IsNumberBelow : ℕ → List ℕ → Type 0
IsNumberBelow n group = (i : ℕ) → i < length group → get_or group i 0 < n

abbrev pub GroupsWithin : ℕ → List (List ℕ) → Type 0
GroupsWithin n groups = (g : ℕ) → IsNumberBelow n (get_or groups g [])

-- whether the queue allows an act, what the act gives, and the queue after it
abbrev pub allows : QueueView → Act → Bool
allows q act = can q.depth q.groups q.queue act

abbrev pub given : QueueView → Act → ℕ → Stepped
given q act token = step q.ports q.groups q.queue q.array act token

abbrev pub acted : QueueView → Act → ℕ → QueueView
acted q act token = record q { queue = (given q act token).queue; array = (given q act token).array }

-- one for a stray
abbrev pub count_of : Bool → ℕ
count_of b = cond b 1 0

-- a queue of this shape without entries
abbrev pub shaped : List ℕ → ℕ → List Port → List (List ℕ) → Bool → QueueView
shaped array depth ports groups forward = record {
  queue = record { forward = forward; next = 0; items = [] };
  array = array;
  depth = depth;
  ports = ports;
  groups = groups;
}

abbrev pub serial_of : Entry → ℕ
serial_of x = x.serial

-- the serial number of the oldest entry that may execute
abbrev pub oldest_of : QueueState → Option ℕ
oldest_of q = option_map serial_of (find (executes q.forward q.items) q.items)

-- the oldest entry
abbrev pub front_of : List Entry → Option Entry
front_of [] = None
front_of (x ∷ xs) = Some x

abbrev pub value_done : Option Entry → Option ℕ
value_done None = None
value_done (Some x) = cond x.done (Some x.value) None

-- the value that a reply at a port puts
abbrev pub reply_of : List Entry → ℕ → Option ℕ
reply_of items p = value_done (find (wants_reply p) items)

-- codes of these values

abbrev pub entry_code : Coded Entry
entry_code = code_by ((ℕ × ℕ) × ((Bool × Option ℕ) × ((Option ℕ × Bool) × (ℕ × Bool))))
    (coded× (coded× coded_ℕ coded_ℕ) (coded× (coded× coded_bool (coded_option coded_ℕ)) (coded× (coded× (coded_option coded_ℕ) coded_bool) (coded× coded_ℕ coded_bool))))
    (λ x. ((x.serial, x.port), ((x.store, x.addr), ((x.datum, x.done), (x.value, x.replied)))))
    (λ p. record { serial = p.0.0; port = p.0.1; store = p.1.0.0; addr = p.1.0.1; datum = p.1.1.0.0; done = p.1.1.0.1; value = p.1.1.1.0; replied = p.1.1.1.1 })
    (λ _. refl)

abbrev pub port_of : Bool → Port
port_of true = Store
port_of false = Load

pub port_back : (p : Port) → port_of (is_store p) ≡ p
port_back Load = refl
port_back Store = refl

abbrev pub port_code : Coded Port
port_code = code_by Bool coded_bool is_store port_of port_back

abbrev pub queue_code : Coded QueueState
queue_code = code_by (Bool × (ℕ × List Entry)) (coded× coded_bool (coded× coded_ℕ (coded_list entry_code)))
    (λ q. (q.forward, (q.next, q.items)))
    (λ p. record { forward = p.0; next = p.1.0; items = p.1.1 })
    (λ _. refl)

abbrev pub entries_code : Coded EntriesView
entries_code = code_by (QueueState × (ℕ × ℕ)) (coded× queue_code (coded× coded_ℕ coded_ℕ))
    (λ k. (k.queue, (k.depth, k.ports)))
    (λ p. record { queue = p.0; depth = p.1.0; ports = p.1.1 })
    (λ _. refl)

abbrev pub view_code : Coded QueueView
view_code = code_by ((QueueState × List ℕ) × (ℕ × (List Port × List (List ℕ))))
    (coded× (coded× queue_code (coded_list coded_ℕ)) (coded× coded_ℕ (coded× (coded_list port_code) (coded_list (coded_list coded_ℕ)))))
    (λ q. ((q.queue, q.array), (q.depth, (q.ports, q.groups))))
    (λ p. record { queue = p.0.0; array = p.0.1; depth = p.1.0; ports = p.1.1.0; groups = p.1.1.1 })
    (λ _. refl)
