-- Acts by numbers.
use Rattle.std.proofs.Common.{◌≡◌, ℕ, suc, ◌+◌, ◌<◌, ◌≤◌, ◌⊎◌, inl, inr, nat_lt, ◌++◌, Option, Some, None, List, [], ◌∷◌, refl, sym, ap, subst, ◌∙◌, arith}
use Rattle.std.specs.List.{slice_get}
use Rattle.std.specs.Bool.{then_some}
use Rattle.std.proofs.lemmas.Bool.{cases_lt, lt-ltb, le-ltb}
use Rattle.std.proofs.lemmas.List.FromFn.{get_or-map-range_with_len, length-map-range_with_len}
use Rattle.std.proofs.lemmas.Option.{slice_get-get_or, slice_get_past}
use Rattle.circular_buffer.proofs.Places.{slice_get-append_left, slice_get-append_right}
use Rattle.net_types.specs.declared.firing.Act.{Act}
use Rattle.net_types.specs.declared.firing.Act.TheVariants.{Go, Alloc, Addr, Data, Reply, Retire, End}
use Rattle.net_core.specs.Finds.{acts_below, exec_of, queue_acts}

pub below_all : (n : ℕ) (kind : ℕ → Act) (k : ℕ) → k < n → slice_get (acts_below n kind) k ≡ Some (kind k)
below_all n kind k l =
    slice_get-get_or (acts_below n kind) k Go (subst (λ m. k < m) (sym (length-map-range_with_len kind 0 n)) l)
    ∙ ap Some (get_or-map-range_with_len kind 0 n k k Go l (omega arith))

pub past_all : (n : ℕ) (kind : ℕ → Act) (k : ℕ) → n ≤ k → slice_get (acts_below n kind) k ≡ None
past_all n kind k l = slice_get_past (acts_below n kind) k (subst (λ m. m ≤ k) (sym (length-map-range_with_len kind 0 n)) l)

pub some_below : (n : ℕ) (kind : ℕ → Act) (k : ℕ) → then_some (nat_lt k n) (kind k) ≡ slice_get (acts_below n kind) k
some_below n kind k = by (cases_lt k n)
  where
    by : (k < n) ⊎ (n ≤ k) → then_some (nat_lt k n) (kind k) ≡ slice_get (acts_below n kind) k
    by (inl l) = rw (lt-ltb k n l) (sym (below_all n kind k l))
    by (inr l) = rw (le-ltb k n l) (sym (past_all n kind k l))

pub below : (n : ℕ) (kind : ℕ → Act) (rest : List Act) (k : ℕ) → k < n → slice_get (acts_below n kind ++ rest) k ≡ Some (kind k)
below n kind rest k l =
    slice_get-append_left (acts_below n kind) rest k (subst (λ m. k < m) (sym (length-map-range_with_len kind 0 n)) l) ∙ below_all n kind k l

pub beyond : (n : ℕ) (kind : ℕ → Act) (rest : List Act) (k j : ℕ) → k ≡ n + j → slice_get (acts_below n kind ++ rest) k ≡ slice_get rest j
beyond n kind rest k j e =
    slice_get-append_right (acts_below n kind) rest k j (e ∙ ap (λ m. m + j) (sym (length-map-range_with_len kind 0 n)))

-- ---- the acts of a queue, one kind after another

module _ (p g : ℕ) (o : Option ℕ) where
  abbrev last : List Act
  last = Retire ∷ End ∷ []

  abbrev from_exec : List Act
  from_exec = exec_of o ∷ (acts_below p Reply ++ last)

  abbrev from_data : List Act
  from_data = acts_below p Data ++ from_exec

  past_allocs : (k j : ℕ) → k ≡ g + j → slice_get (queue_acts p g o) k ≡ slice_get (acts_below p Addr ++ from_data) j
  past_allocs k j e = beyond g Alloc (acts_below p Addr ++ from_data) k j e

  past_addrs : (k j : ℕ) → k ≡ g + (p + j) → slice_get (queue_acts p g o) k ≡ slice_get from_data j
  past_addrs k j e = past_allocs k (p + j) e ∙ beyond p Addr from_data (p + j) j refl

  past_data : (k j : ℕ) → k ≡ g + (p + (p + j)) → slice_get (queue_acts p g o) k ≡ slice_get from_exec j
  past_data k j e = past_addrs k (p + j) e ∙ beyond p Data from_exec (p + j) j refl

  past_replies : (k j : ℕ) → k ≡ g + (p + (p + suc (p + j))) → slice_get (queue_acts p g o) k ≡ slice_get last j
  past_replies k j e = past_data k (suc (p + j)) e ∙ beyond p Reply last (p + j) j refl

  pub at_alloc : (k : ℕ) → k < g → slice_get (queue_acts p g o) k ≡ Some (Alloc k)
  at_alloc k l = below g Alloc (acts_below p Addr ++ from_data) k l

  pub at_addr : (k j : ℕ) → k ≡ g + j → j < p → slice_get (queue_acts p g o) k ≡ Some (Addr j)
  at_addr k j e l = past_allocs k j e ∙ below p Addr from_data j l

  pub at_data : (k j : ℕ) → k ≡ g + (p + j) → j < p → slice_get (queue_acts p g o) k ≡ Some (Data j)
  at_data k j e l = past_addrs k j e ∙ below p Data from_exec j l

  pub at_exec : (k : ℕ) → k ≡ g + (p + p) → slice_get (queue_acts p g o) k ≡ Some (exec_of o)
  at_exec k e = past_data k 0 (omega arith)

  pub at_reply : (k j : ℕ) → k ≡ g + (p + (p + suc j)) → j < p → slice_get (queue_acts p g o) k ≡ Some (Reply j)
  at_reply k j e l = past_data k (suc j) e ∙ below p Reply last j l

  pub at_retire : (k : ℕ) → k ≡ g + (p + (p + suc p)) → slice_get (queue_acts p g o) k ≡ Some Retire
  at_retire k e = past_replies k 0 (omega arith)

  pub at_end : (k : ℕ) → k ≡ g + (p + (p + suc (suc p))) → slice_get (queue_acts p g o) k ≡ Some End
  at_end k e = past_replies k 1 (omega arith)

  pub at_none : (k j : ℕ) → k ≡ g + (p + (p + suc (p + suc (suc j)))) → slice_get (queue_acts p g o) k ≡ None
  at_none k j e = past_replies k (suc (suc j)) e ∙ slice_get_past last (suc (suc j)) (omega arith)
