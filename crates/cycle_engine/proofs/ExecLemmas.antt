-- The oldest entry that may execute.
use Rattle.std.proofs.Common.{◌≡◌, ℕ, suc, zero, ◌<◌, ◌≤◌, ◌⊎◌, inl, inr, option_map, Bool, true, false, cond, Option, Some, None, List, [], ◌∷◌, length, get_or, refl, sym, ap, subst, ◌∙◌, arith, IsSomeAnd, eqb-true, eq-eqb}
use Rattle.std.specs.List.{find}
use Rattle.std.proofs.lemmas.Bool.{cases_lt}
use Rattle.net_types.specs.declared.net.Net.{Net}
use Rattle.net_types.specs.declared.net.Unit.{Unit as Kind}
use Rattle.net_types.specs.declared.net.Unit.TheVariants.{Lsq}
use Rattle.net_types.specs.declared.firing.Act.TheVariants.{Exec}
use Rattle.net_types.specs.Nets.{kind_of, uses, firing}
use Rattle.net_check.specs.Ends.{is_lsq}
use Rattle.lsq_core.specs.declared.entry.Entry.{Entry as Item}
use Rattle.lsq_core.specs.Acts.{can, executes, is_serial, may_exec}
use Rattle.lsq_core.specs.Views.{QueueView, InOrder, InPorts, entry_at, oldest_of, serial_of}
use Rattle.net_core.specs.Fire.{State, Own, Effect, Setting, effect_of, idle, effect, enabled, has_room, row, setting, head_at, at_array}
use Rattle.net_core.proofs.GoesLemmas.{goes}
use Rattle.net_core.proofs.QueueActLemmas.{queue_goes, queue_inv, queue_effect, lsq_is}
use Rattle.cycle_engine.specs.private.Places.{HasNoExec, IsNextAct}

-- ---- lists of entries

found_at : (t : Item → Bool) (xs : List Item) (y : Item) → find t xs ≡ Some y → (k : ℕ) × (k < length xs) × (entry_at xs k ≡ y)
found_at t [] y e = cc
found_at t (x ∷ xs) y e = by (t x) e (λ k. found_at t xs y k)
  where
    by : (b : Bool) → cond b (Some x) (find t xs) ≡ Some y → (find t xs ≡ Some y → (k : ℕ) × (k < length xs) × (entry_at xs k ≡ y)) → (k : ℕ) × (k < length (x ∷ xs)) × (entry_at (x ∷ xs) k ≡ y)
    by true q rest = (let z : x ≡ y = cc in (0, omega arith, z))
    by false q rest = (let w = rest q in let l = w.1 in (suc w.0, omega arith, w.2))

none_found : (t : Item → Bool) (xs : List Item) → find t xs ≡ None → (i : ℕ) → i < length xs → t (entry_at xs i) ≡ false
none_found t [] e i l = absurd (omega arith)
none_found t (x ∷ xs) e i l = by (t x) refl e i l (λ q j m. none_found t xs q j m)
  where
    by : (b : Bool) → t x ≡ b → cond b (Some x) (find t xs) ≡ None → (i : ℕ) → i < length (x ∷ xs) → (find t xs ≡ None → (j : ℕ) → j < length xs → t (entry_at xs j) ≡ false) → t (entry_at (x ∷ xs) i) ≡ false
    by true j q i l rest = cc
    by false j q zero l rest = j
    by false j q (suc i) l rest = rest q i (omega arith)

-- the first of a test, with its place
first_at : (t : Item → Bool) (xs : List Item) (y : Item) → find t xs ≡ Some y → (k : ℕ) × (k < length xs) × (entry_at xs k ≡ y) × ((i : ℕ) → i < k → t (entry_at xs i) ≡ false)
first_at t [] y e = cc
first_at t (x ∷ xs) y e = by (t x) refl e (λ k. first_at t xs y k)
  where
    by : (b : Bool) → t x ≡ b → cond b (Some x) (find t xs) ≡ Some y → (find t xs ≡ Some y → (k : ℕ) × (k < length xs) × (entry_at xs k ≡ y) × ((i : ℕ) → i < k → t (entry_at xs i) ≡ false))
        → (k : ℕ) × (k < length (x ∷ xs)) × (entry_at (x ∷ xs) k ≡ y) × ((i : ℕ) → i < k → t (entry_at (x ∷ xs) i) ≡ false)
    by true j q rest = (let z : x ≡ y = cc in (0, omega arith, z, λ i l. absurd (omega arith)))
    by false j q rest = (let w = rest q in let l = w.1 in (suc w.0, omega arith, w.2, before w.0 w.3))
      where
        before : (k : ℕ) → ((i : ℕ) → i < k → t (entry_at xs i) ≡ false) → (i : ℕ) → i < suc k → t (entry_at (x ∷ xs) i) ≡ false
        before k h zero l = j
        before k h (suc i) l = h i (omega arith)

-- what one test finds another finds that holds of nothing else
found_too : (t s : Item → Bool) (xs : List Item) (y : Item) → s y ≡ true → ((i : ℕ) → i < length xs → s (entry_at xs i) ≡ true → entry_at xs i ≡ y) → find t xs ≡ Some y → find s xs ≡ Some y
found_too t s [] y h only e = cc
found_too t s (x ∷ xs) y h only e = by (s x) refl (t x) refl e (λ k. found_too t s xs y h (λ i l m. only (suc i) (omega arith) m) k)
  where
    by : (b : Bool) → s x ≡ b → (d : Bool) → t x ≡ d → cond d (Some x) (find t xs) ≡ Some y → (find t xs ≡ Some y → find s xs ≡ Some y) → cond b (Some x) (find s xs) ≡ Some y
    by true i d j q rest = ap Some (only 0 (omega arith) i)
    by false i true j q rest = (let z : x ≡ y = cc in let w : false ≡ true = sym i ∙ (ap s z ∙ h) in cc)
    by false i false j q rest = rest q

oldest_entry : (q : QueueView) (x : ℕ) → oldest_of q.queue ≡ Some x → (y : Item) × (find (executes q.queue.forward q.queue.items) q.queue.items ≡ Some y) × (y.serial ≡ x)
oldest_entry q x o = by (find (executes q.queue.forward q.queue.items) q.queue.items) refl o
  where
    by : (o : Option Item) → find (executes q.queue.forward q.queue.items) q.queue.items ≡ o → option_map serial_of o ≡ Some x → (y : Item) × (find (executes q.queue.forward q.queue.items) q.queue.items ≡ Some y) × (y.serial ≡ x)
    by None i e = cc
    by (Some y) i e = (let z : y.serial ≡ x = cc in (y, i, z))

found_holds : (t : Item → Bool) (xs : List Item) (y : Item) → find t xs ≡ Some y → t y ≡ true
found_holds t [] y e = cc
found_holds t (x ∷ xs) y e = by (t x) refl e (λ k. found_holds t xs y k)
  where
    by : (b : Bool) → t x ≡ b → cond b (Some x) (find t xs) ≡ Some y → (find t xs ≡ Some y → t y ≡ true) → t y ≡ true
    by true i q rest = (let z : x ≡ y = cc in ap t (sym z) ∙ i)
    by false i q rest = rest q

-- the oldest entry that may execute may execute
can_first : (q : QueueView) (x : ℕ) → InOrder q.queue → oldest_of q.queue ≡ Some x → can q.depth q.groups q.queue (Exec x) ≡ true
can_first q x order o =
    let w = oldest_entry q x o in
    let y : Item = w.0 in
    let k = found_at (executes q.queue.forward q.queue.items) q.queue.items w.0 w.1 in
    let only : (i : ℕ) → i < length q.queue.items → is_serial x (entry_at q.queue.items i) ≡ true → entry_at q.queue.items i ≡ w.0 = λ i l m. one w.0 k.0 k.1 k.2 w.2 i l m in
    let f = found_too (executes q.queue.forward q.queue.items) (is_serial x) q.queue.items w.0 (eq-eqb _ _ w.2) only w.1 in
    ap (may_exec q.queue.forward q.queue.items) f ∙ found_holds (executes q.queue.forward q.queue.items) q.queue.items w.0 w.1
  where
    one : (y : Item) (k : ℕ) → k < length q.queue.items → entry_at q.queue.items k ≡ y → y.serial ≡ x → (i : ℕ) → i < length q.queue.items → is_serial x (entry_at q.queue.items i) ≡ true → entry_at q.queue.items i ≡ y
    one y k l e z i m s =
        let a = order k l in
        let b = order i m in
        let c : (entry_at q.queue.items k).serial ≡ x = ap (λ (w : Item). w.serial) e ∙ z in
        let d : (entry_at q.queue.items i).serial ≡ x = eqb-true _ _ s in
        let j : i ≡ k = omega arith in
        ap (entry_at q.queue.items) j ∙ e

-- ---- executions of a unit

exec_lsq : (k : Kind) (j : ℕ) (o : Own) (xs : List ℕ) (ss : Setting) (h : ℕ → Option ℕ) (e : Effect) → effect_of (row k (Exec j) o xs ss) h ≡ Some e → is_lsq k ≡ true
unfolding row
exec_lsq (Lsq a d ps gs fw) j o xs ss h e q = refl
exec_lsq _ j o xs ss h e q = cc

pub other_none : (net : Net) (s : State) (u : ℕ) → is_lsq (kind_of net u) ≡ false → HasNoExec net s u
other_none net s u l j n =
    let g = goes net s (firing u (Exec j)) n in
    let z : false ≡ true = sym l ∙ exec_lsq (kind_of net u) j (get_or s.own u idle) (at_array s.arrays (uses (kind_of net u))) (setting net s) (head_at net s u) g.0 g.1.is in cc

module _ (net : Net) (s : State) (u a : ℕ) (q : QueueView) (kind : kind_of net u ≡ Lsq a q.depth q.ports q.groups q.queue.forward) (own : q.queue ≡ (get_or s.own u idle).queue) (order : InOrder q.queue) (within : InPorts (length q.ports) q.queue.items) where
  can_of : (j : ℕ) → enabled net s (firing u (Exec j)) → can q.depth q.groups q.queue (Exec j) ≡ true
  can_of j n =
      let g = goes net s (firing u (Exec j)) n in
      let i = queue_inv q.depth q.ports q.groups (Exec j) (get_or s.own u idle) (get_or s.arrays a []) (head_at net s u) g.0 (sym (lsq_is net u a q.depth q.ports q.groups q.queue.forward kind s (Exec j)) ∙ g.1.is) in
      ap (λ z. can q.depth q.groups z (Exec j)) own ∙ i.1

  -- the entry that executes
  entry_of : (j : ℕ) → can q.depth q.groups q.queue (Exec j) ≡ true → (i : ℕ) × (i < length q.queue.items) × ((entry_at q.queue.items i).serial ≡ j) × (executes q.queue.forward q.queue.items (entry_at q.queue.items i) ≡ true)
  entry_of j c = by (find (is_serial j) q.queue.items) refl c
    where
      by : (o : Option Item) → find (is_serial j) q.queue.items ≡ o → may_exec q.queue.forward q.queue.items o ≡ true → (i : ℕ) × (i < length q.queue.items) × ((entry_at q.queue.items i).serial ≡ j) × (executes q.queue.forward q.queue.items (entry_at q.queue.items i) ≡ true)
      by None i c = cc
      by (Some y) i c =
          let k = found_at (is_serial j) q.queue.items y i in
          let h = found_holds (is_serial j) q.queue.items y i in
          (k.0, k.1, ap (λ (w : Item). w.serial) k.2 ∙ eqb-true _ _ h, ap (executes q.queue.forward q.queue.items) k.2 ∙ c)

  pub oldest_none : oldest_of q.queue ≡ None → HasNoExec net s u
  oldest_none e j n =
      let w = entry_of j (can_of j n) in
      let f : find (executes q.queue.forward q.queue.items) q.queue.items ≡ None = quiet (find (executes q.queue.forward q.queue.items) q.queue.items) e in
      let z : false ≡ true = sym (none_found (executes q.queue.forward q.queue.items) q.queue.items f w.0 w.1) ∙ w.3 in cc
    where
      quiet : (o : Option Item) → option_map serial_of o ≡ None → o ≡ None
      quiet None e = refl
      quiet (Some x) e = cc

  pub oldest_some : (x : ℕ) → oldest_of q.queue ≡ Some x → IsNextAct net s (firing u (Exec x)) 6 0
  oldest_some x e = record { rank = refl; number = refl; exec = λ z. fires; oldest = λ y l n. least y l n }
    where
      w : (y : Item) × (find (executes q.queue.forward q.queue.items) q.queue.items ≡ Some y) × (y.serial ≡ x)
      w = oldest_entry q x e

      least : (y : ℕ) → y < x → enabled net s (firing u (Exec y)) → ⊥
      least y l n =
          let v = entry_of y (can_of y n) in
          let k = first_at (executes q.queue.forward q.queue.items) q.queue.items w.0 w.1 in
          by v.0 v.1 v.2 v.3 k.0 k.1 k.2 k.3 (cases_lt v.0 k.0)
        where
          by : (i : ℕ) → i < length q.queue.items → (entry_at q.queue.items i).serial ≡ y → executes q.queue.forward q.queue.items (entry_at q.queue.items i) ≡ true → (k : ℕ) → k < length q.queue.items → entry_at q.queue.items k ≡ w.0
              → ((m : ℕ) → m < k → executes q.queue.forward q.queue.items (entry_at q.queue.items m) ≡ false) → (i < k) ⊎ (k ≤ i) → ⊥
          by i il is ie k kl ks before (inl m) = (let z : false ≡ true = sym (before i m) ∙ ie in cc)
          by i il is ie k kl ks before (inr m) =
              let p = order i il in
              let r = order k kl in
              let c : (entry_at q.queue.items k).serial ≡ x = ap (λ (z : Item). z.serial) ks ∙ w.2 in
              omega arith

      can_own : can q.depth q.groups (get_or s.own u idle).queue (Exec x) ≡ true
      can_own = ap (λ z. can q.depth q.groups z (Exec x)) (sym own) ∙ can_first q x order e

      is : effect net s (firing u (Exec x)) ≡ Some (queue_effect q.ports q.groups (Exec x) (get_or s.own u idle) (get_or s.arrays a []) 0)
      is = lsq_is net u a q.depth q.ports q.groups q.queue.forward kind s (Exec x) ∙ queue_goes q.depth q.ports q.groups (Exec x) (get_or s.own u idle) (get_or s.arrays a []) (head_at net s u) 0 can_own refl

      fires : enabled net s (firing u (Exec x))
      fires = (let P : Option Effect → Type 0 = λ o. IsSomeAnd o (λ y. has_room net s u y.put) in subst P (sym is) tt)
