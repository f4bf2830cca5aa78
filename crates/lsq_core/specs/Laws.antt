-- What acts keep, two acts in either order, acts that stay refused, and the mark.
use Rattle.std.specs.Prelude.{◌≡◌, ◌≢◌, ℕ, ◌≤◌, ◌&&◌, ◌||◌, ◌⊎◌, not, nat_lt, Bool, true, false, is_some, List, [], ◌∷◌}
use Rattle.std.specs.List.{list_all}
use Rattle.net_types.specs.declared.net.Port.{Port}
use Rattle.net_types.specs.declared.firing.Act.{Act}
use Rattle.net_types.specs.declared.firing.Act.TheVariants.{Go, From, Send, Alloc, Addr, Data, Exec, Reply, Retire, End}
use Rattle.lsq_core.specs.declared.entry.Entry.{Entry}
use Rattle.lsq_core.specs.Acts.{QueueState, can, step, is_control}
use Rattle.lsq_core.specs.Views.{QueueView, InOrder, InPorts, GroupsWithin}
use Rattle.lsq_core.specs.Runs.{all_allowed, after_acts, puts_of, strays_of, marked}

-- an executed entry has its address, and a store its data
abbrev pub sound : Entry → Bool
sound x = not x.done || (is_some x.addr && (not x.store || is_some x.datum))

abbrev pub below : ℕ → Entry → Bool
below n x = nat_lt x.serial n

abbrev pub above : Entry → Entry → Bool
above x o = nat_lt x.serial o.serial

-- serial numbers rise along the entries
abbrev pub rising : List Entry → Bool
rising [] = true
rising (x ∷ xs) = list_all (above x) xs && rising xs

-- what holds of every queue to which acts lead from an empty one
pub record IsConsistent (q : QueueState) : Type 0 where
  pub all_sound : list_all sound q.items ≡ true
  pub all_below : list_all (below q.next) q.items ≡ true
  pub all_rising : rising q.items ≡ true

module _ (depth : ℕ) (ports : List Port) (groups : List (List ℕ)) where
  -- two acts stay allowed after each other, put and count what they would have, and meet
  pub record Joined (q : QueueState) (xs : List ℕ) (a b : Act) (v w : ℕ) : Type 0 where
    pub a_can : can depth groups (step ports groups q xs b w).queue a ≡ true
    pub b_can : can depth groups (step ports groups q xs a v).queue b ≡ true
    pub a_put : (step ports groups (step ports groups q xs b w).queue (step ports groups q xs b w).array a v).put ≡ (step ports groups q xs a v).put
    pub b_put : (step ports groups (step ports groups q xs a v).queue (step ports groups q xs a v).array b w).put ≡ (step ports groups q xs b w).put
    pub a_strays : (step ports groups (step ports groups q xs b w).queue (step ports groups q xs b w).array a v).strays ≡ (step ports groups q xs a v).strays
    pub b_strays : (step ports groups (step ports groups q xs a v).queue (step ports groups q xs a v).array b w).strays ≡ (step ports groups q xs b w).strays
    pub meet_queue : (step ports groups (step ports groups q xs b w).queue (step ports groups q xs b w).array a v).queue
        ≡ (step ports groups (step ports groups q xs a v).queue (step ports groups q xs a v).array b w).queue
    pub meet_array : (step ports groups (step ports groups q xs b w).queue (step ports groups q xs b w).array a v).array
        ≡ (step ports groups (step ports groups q xs a v).queue (step ports groups q xs a v).array b w).array

-- two acts that a queue allows, of which not both pass control, are one act or go in either order
abbrev pub ActsJoin : Type 0
ActsJoin = (depth : ℕ) (ports : List Port) (groups : List (List ℕ)) (q : QueueState) (xs : List ℕ) (a b : Act) (v w : ℕ)
    → IsConsistent q → can depth groups q a ≡ true → can depth groups q b ≡ true
    → (is_control a ≡ true → is_control b ≡ true → ⊥) → (a ≡ b) ⊎ Joined depth ports groups q xs a b v w

-- an act that is allowed leaves the queue consistent
abbrev pub StaysConsistent : Type 0
StaysConsistent = (depth : ℕ) (ports : List Port) (groups : List (List ℕ)) (q : QueueState) (xs : List ℕ) (a : Act) (v : ℕ)
    → IsConsistent q → can depth groups q a ≡ true → IsConsistent (step ports groups q xs a v).queue

-- an act leaves the serial numbers rising by one, up to the next one
abbrev pub StaysInOrder : Type 0
StaysInOrder = (ports : List Port) (groups : List (List ℕ)) (q : QueueState) (xs : List ℕ) (a : Act) (v : ℕ)
    → InOrder q → InOrder (step ports groups q xs a v).queue

-- an act leaves each entry's port a port
abbrev pub StaysInPorts : Type 0
StaysInPorts = (n : ℕ) (ports : List Port) (groups : List (List ℕ)) (q : QueueState) (xs : List ℕ) (a : Act) (v : ℕ)
    → GroupsWithin n groups → InPorts n q.items → InPorts n (step ports groups q xs a v).queue.items

-- the order of the acts of one queue in a cycle
abbrev pub phase : Act → ℕ
phase Go = 0
phase (From j) = 0
phase (Send j) = 0
phase (Alloc g) = 0
phase (Addr p) = 1
phase (Data p) = 1
phase (Exec e) = 2
phase (Reply p) = 3
phase Retire = 4
phase End = 5

-- the place of an act in a cycle: all Execs of a queue are one
abbrev pub act_place : Act → Act
act_place Go = Go
act_place (From j) = From j
act_place (Send j) = Send j
act_place (Alloc g) = Alloc g
act_place (Addr p) = Addr p
act_place (Data p) = Data p
act_place (Exec e) = Exec 0
act_place (Reply p) = Reply p
act_place Retire = Retire
act_place End = End

-- what a queue refuses it refuses after an act of another place and of the same or a later phase;
-- of an allocation after a retirement nothing is said, since that makes room
abbrev pub StaysRefused : Type 0
StaysRefused = (depth : ℕ) (ports : List Port) (groups : List (List ℕ)) (q : QueueState) (xs : List ℕ) (a b : Act) (v : ℕ)
    → IsConsistent q → phase a ≤ phase b → act_place a ≢ act_place b → ((g : ℕ) → a ≡ Alloc g → b ≢ Retire)
    → can depth groups q b ≡ true → can depth groups q a ≡ false
    → can depth groups (step ports groups q xs b v).queue a ≡ false

-- acts that a queue allows, without the mark too, are allowed with it, and lead to the same but for the mark
pub record IsAsMarked (q : QueueView) (acts : List (Act × ℕ)) : Type 0 where
  pub allowed : all_allowed (marked q) acts ≡ true
  pub after : after_acts (marked q) acts ≡ marked (after_acts q acts)
  pub puts : puts_of (marked q) acts ≡ puts_of q acts
  pub strays : strays_of (marked q) acts ≡ strays_of q acts

abbrev pub MarkAllowsMore : Type 0
MarkAllowsMore = (q : QueueView) (acts : List (Act × ℕ)) → all_allowed q acts ≡ true → IsAsMarked q acts
