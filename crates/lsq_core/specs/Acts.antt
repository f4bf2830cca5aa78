-- The acts of a load-store queue, channels left aside: which of them it allows, and what each does.
use Rattle.std.specs.Prelude.{ℕ, suc, ◌+◌, ◌*◌, ◌==◌, ◌&&◌, ◌||◌, not, nat_lt, nat_le, Bool, true, false, cond, Option, Some, None, is_some, is_none, List, [], ◌∷◌, ◌++◌, length, get_or, set}
use Rattle.std.specs.List.{find, list_all}
use Rattle.lsq_core.specs.declared.entry.Entry.{Entry}
use Rattle.net_types.specs.declared.net.Port.{Port}
use Rattle.net_types.specs.declared.net.Port.TheVariants.{Load, Store}
use Rattle.net_types.specs.declared.firing.Act.{Act}
use Rattle.net_types.specs.declared.firing.Act.TheVariants.{Go, From, Send, Alloc, Addr, Data, Exec, Reply, Retire, End}

-- the mark of a queue that forwards, the next serial number, and the entries, oldest first
pub record QueueState : Type 0 where
  pub forward : Bool
  pub next : ℕ
  pub items : List Entry

-- the first entry that passes the test is changed, and no other
abbrev pub first_changed : (Entry → Bool) → (Entry → Entry) → List Entry → List Entry
first_changed test change [] = []
first_changed test change (x ∷ xs) = cond (test x) (change x ∷ xs) (x ∷ first_changed test change xs)

-- what an act asks of the entry that it changes

abbrev pub wants_addr : ℕ → Entry → Bool
wants_addr p x = (x.port == p) && is_none x.addr

abbrev pub wants_data : ℕ → Entry → Bool
wants_data p x = (x.port == p) && (x.store && is_none x.datum)

abbrev pub wants_reply : ℕ → Entry → Bool
wants_reply p x = (x.port == p) && (not x.store && not x.replied)

abbrev pub is_serial : ℕ → Entry → Bool
is_serial e x = x.serial == e

-- what an act makes of it

abbrev pub with_addr : ℕ → Entry → Entry
with_addr v x = record x { addr = Some v }

abbrev pub with_data : ℕ → Entry → Entry
with_data v x = record x { datum = Some v }

abbrev pub executed : ℕ → Entry → Entry
executed v x = record x { done = true; value = v }

abbrev pub answered : Entry → Entry
answered x = record x { replied = true }

-- two known addresses that are equal
abbrev pub same : Option ℕ → Option ℕ → Bool
same None b = false
same (Some a) None = false
same (Some a) (Some b) = a == b

-- the entry has what it needs to execute, and has not
abbrev pub ready : Entry → Bool
ready x = not x.done && (is_some x.addr && (not x.store || is_some x.datum))

-- o lets the store x execute: it is not older; or its address is known, and it is executed or has another address
-- (of two loads nothing is asked)
abbrev pub passes : Entry → Entry → Bool
passes x o = (not o.store && not x.store) || (is_some o.addr && (o.done || not (same o.addr x.addr)))

abbrev pub lets : Entry → Entry → Bool
lets x o = not (nat_lt o.serial x.serial) || passes x o

-- o is no store that is older than x and whose address is not known
abbrev pub known : Entry → Entry → Bool
known x o = not (nat_lt o.serial x.serial) || (not o.store || is_some o.addr)

-- o is an older store of the address of x that is not executed
abbrev pub waiting : Entry → Entry → Bool
waiting x o = nat_lt o.serial x.serial && (o.store && (same o.addr x.addr && not o.done))

abbrev pub later : Option Entry → Bool → Entry → Option Entry
later None b x = cond b (Some x) None
later (Some y) b x = Some y

-- the last entry that passes a test, the youngest one
abbrev pub last_such : (Entry → Bool) → List Entry → Option Entry
last_such t [] = None
last_such t (x ∷ xs) = later (last_such t xs) (t x) x

-- a load may have its value from the youngest store of its address that waits: there is none, or the queue
-- forwards and the store has its data
abbrev pub source_ok : Bool → Option Entry → Bool
source_ok forward None = true
source_ok forward (Some y) = forward && is_some y.datum

-- the older entries let x execute
abbrev pub order_ok : Bool → List Entry → Entry → Bool
order_ok forward items x =
    cond x.store (list_all (lets x) items)
    (list_all (known x) items && source_ok forward (last_such (waiting x) items))

abbrev pub executes : Bool → List Entry → Entry → Bool
executes forward items x = ready x && order_ok forward items x

abbrev pub may_exec : Bool → List Entry → Option Entry → Bool
may_exec forward items None = false
may_exec forward items (Some x) = executes forward items x

abbrev pub is_done : Option Entry → Bool
is_done None = false
is_done (Some x) = x.done

-- nothing is left to do for the entry: an executed store, or a load that has replied
abbrev pub spent : Entry → Bool
spent x = x.done && (x.store || x.replied)

abbrev pub spent_first : List Entry → Bool
spent_first [] = false
spent_first (x ∷ xs) = spent x

abbrev pub is_nil : List Entry → Bool
is_nil [] = true
is_nil (x ∷ xs) = false

abbrev pub rest : List Entry → List Entry
rest [] = []
rest (x ∷ xs) = xs

abbrev pub or_zero : Option ℕ → ℕ
or_zero None = 0
or_zero (Some v) = v

abbrev pub is_store : Port → Bool
is_store Load = false
is_store Store = true

-- a new entry of a port
abbrev pub fresh_entry : ℕ → ℕ → Bool → Entry
fresh_entry n p store =
    record { serial = n; port = p; store = store; addr = None; datum = None; done = false; value = 0; replied = false }

-- the new entries of a group, numbered from n on
abbrev pub fresh : ℕ → List Port → List ℕ → List Entry
fresh n ports [] = []
fresh n ports (p ∷ ps) = fresh_entry n p (is_store (get_or ports p Load)) ∷ fresh (suc n) ports ps

-- what the queue allows
abbrev pub can : (depth : ℕ) → List (List ℕ) → QueueState → Act → Bool
can depth groups q Go = false
can depth groups q (From j) = false
can depth groups q (Send j) = false
can depth groups q (Alloc g) = nat_lt g (length groups) && nat_le (length q.items + length (get_or groups g [])) depth
can depth groups q (Addr p) = is_some (find (wants_addr p) q.items)
can depth groups q (Data p) = is_some (find (wants_data p) q.items)
can depth groups q (Exec e) = may_exec q.forward q.items (find (is_serial e) q.items)
can depth groups q (Reply p) = is_done (find (wants_reply p) q.items)
can depth groups q Retire = spent_first q.items
can depth groups q End = is_nil q.items

-- what an act gives: the queue and the array after it, the value that it puts, and how many addresses lay past the array
pub record Stepped : Type 0 where
  pub queue : QueueState
  pub array : List ℕ
  pub put : Option ℕ
  pub strays : ℕ

-- what a load reads: its element, or the data of a store that waits; 0 past the array
abbrev pub load_value : List ℕ → Entry → Option Entry → ℕ
load_value xs x None = get_or xs (or_zero x.addr) 0
load_value xs x (Some y) = cond (nat_lt (or_zero x.addr) (length xs)) (or_zero y.datum) 0

abbrev pub exec_value : List ℕ → List Entry → Entry → ℕ
exec_value xs items x = cond x.store 0 (load_value xs x (last_such (waiting x) items))

-- past the array nothing is written
abbrev pub exec_array : List ℕ → Entry → List ℕ
exec_array xs x = cond x.store (set xs (or_zero x.addr) (or_zero x.datum)) xs

-- one for an address past the array
abbrev pub stray_of : List ℕ → Entry → ℕ
stray_of xs x = cond (nat_lt (or_zero x.addr) (length xs)) 0 1

abbrev pub exec : QueueState → List ℕ → ℕ → Option Entry → Stepped
exec q xs e None = record { queue = q; array = xs; put = None; strays = 0 }
exec q xs e (Some x) = record {
  queue = record q { items = first_changed (is_serial e) (executed (exec_value xs q.items x)) q.items };
  array = exec_array xs x;
  put = None;
  strays = stray_of xs x;
}

abbrev pub value_of : Option Entry → ℕ
value_of None = 0
value_of (Some x) = x.value

-- an act that puts nothing and leaves the array
abbrev pub plain : QueueState → List ℕ → Stepped
plain q xs = record { queue = q; array = xs; put = None; strays = 0 }

-- what an act does to the queue and the array, with the token that it takes
abbrev pub step : List Port → List (List ℕ) → QueueState → List ℕ → Act → ℕ → Stepped
step ports groups q xs Go v = plain q xs
step ports groups q xs (From j) v = plain q xs
step ports groups q xs (Send j) v = plain q xs
step ports groups q xs (Alloc g) v = record {
  queue = record q {
    next = q.next + length (get_or groups g []);
    items = q.items ++ fresh q.next ports (get_or groups g []);
  };
  array = xs;
  put = Some v;
  strays = 0;
}
step ports groups q xs (Addr p) v = plain (record q { items = first_changed (wants_addr p) (with_addr v) q.items }) xs
step ports groups q xs (Data p) v = plain (record q { items = first_changed (wants_data p) (with_data v) q.items }) xs
step ports groups q xs (Exec e) v = exec q xs e (find (is_serial e) q.items)
step ports groups q xs (Reply p) v = record {
  queue = record q { items = first_changed (wants_reply p) answered q.items };
  array = xs;
  put = Some (value_of (find (wants_reply p) q.items));
  strays = 0;
}
step ports groups q xs Retire v = plain (record q { items = rest q.items }) xs
step ports groups q xs End v = record { queue = q; array = xs; put = Some v; strays = 0 }

-- the input place and the output place of an act, where it has one
abbrev pub in_place : List (List ℕ) → Act → Option ℕ
in_place groups Go = None
in_place groups (From j) = None
in_place groups (Send j) = None
in_place groups (Alloc g) = Some g
in_place groups (Addr p) = Some (length groups + 1 + 2 * p)
in_place groups (Data p) = Some (length groups + 2 + 2 * p)
in_place groups (Exec e) = None
in_place groups (Reply p) = None
in_place groups Retire = None
in_place groups End = Some (length groups)

abbrev pub out_place : List (List ℕ) → Act → Option ℕ
out_place groups Go = None
out_place groups (From j) = None
out_place groups (Send j) = None
out_place groups (Alloc g) = Some g
out_place groups (Addr p) = None
out_place groups (Data p) = None
out_place groups (Exec e) = None
out_place groups (Reply p) = Some (length groups + 1 + p)
out_place groups Retire = None
out_place groups End = Some (length groups)

-- the acts that pass the control token
abbrev pub is_control : Act → Bool
is_control Go = false
is_control (From j) = false
is_control (Send j) = false
is_control (Alloc g) = true
is_control (Addr p) = false
is_control (Data p) = false
is_control (Exec e) = false
is_control (Reply p) = false
is_control Retire = false
is_control End = true
