-- Worked lists of acts.
use Rattle.std.specs.Prelude.{◌≡◌, ℕ, Bool, true, false, List, [], ◌∷◌}
use Rattle.net_types.specs.declared.net.Port.TheVariants.{Load, Store}
use Rattle.net_types.specs.declared.firing.Act.{Act}
use Rattle.net_types.specs.declared.firing.Act.TheVariants.{Alloc, Addr, Data, Exec, Reply, Retire, End}
use Rattle.lsq_core.specs.Views.{QueueView, shaped, allows}
use Rattle.lsq_core.specs.Runs.{all_allowed, after_acts, puts_of, strays_of}

-- a queue of depth 2 over eight elements, with a store port and a load port in one group
abbrev pub small : Bool → QueueView
small forward = shaped (10 ∷ 11 ∷ 12 ∷ 13 ∷ 14 ∷ 15 ∷ 16 ∷ 17 ∷ []) 2 (Store ∷ Load ∷ []) ((0 ∷ 1 ∷ []) ∷ []) forward

-- the load goes first, since the addresses differ
abbrev pub load_first : List (Act × ℕ)
load_first =
    (Alloc 0, 0) ∷ (Addr 0, 5) ∷ (Addr 1, 3) ∷ (Exec 1, 0) ∷ (Data 0, 9) ∷ (Exec 0, 0) ∷ (Retire, 0) ∷ (Reply 1, 0) ∷ (Retire, 0) ∷ (End, 0) ∷ []

-- the address of the store is not known
abbrev pub unknown : List (Act × ℕ)
unknown = (Alloc 0, 0) ∷ (Addr 1, 3) ∷ []

-- store and load have one address, and the data of the store are there
abbrev pub one_address : ℕ → List (Act × ℕ)
one_address a = (Alloc 0, 7) ∷ (Addr 0, a) ∷ (Addr 1, a) ∷ (Data 0, 9) ∷ []

abbrev pub answer : List (Act × ℕ)
answer = (Exec 1, 0) ∷ (Exec 0, 0) ∷ (Reply 1, 0) ∷ []

pub record IsRow (q : QueueView) (acts : List (Act × ℕ)) (elements values : List ℕ) (count : ℕ) : Type 0 where
  pub allowed : all_allowed q acts ≡ true
  pub array : (after_acts q acts).array ≡ elements
  pub puts : puts_of q acts ≡ values
  pub strays : strays_of q acts ≡ count

pub record RowsHold : Type 0 where
  pub in_order : (forward : Bool) → IsRow (small forward) load_first (10 ∷ 11 ∷ 12 ∷ 13 ∷ 14 ∷ 9 ∷ 16 ∷ 17 ∷ []) (0 ∷ 13 ∷ 0 ∷ []) 0
  pub waits : (forward : Bool) → allows (after_acts (small forward) unknown) (Exec 1) ≡ false
  pub without_mark : allows (after_acts (small false) (one_address 5)) (Exec 1) ≡ false
  pub with_mark : IsRow (after_acts (small true) (one_address 5)) answer (10 ∷ 11 ∷ 12 ∷ 13 ∷ 14 ∷ 9 ∷ 16 ∷ 17 ∷ []) (9 ∷ []) 0
  pub past : IsRow (after_acts (small true) (one_address 8)) answer (10 ∷ 11 ∷ 12 ∷ 13 ∷ 14 ∷ 15 ∷ 16 ∷ 17 ∷ []) (0 ∷ []) 2
