-- Acts keep the order of serial numbers and the ports of entries.
use Rattle.std.proofs.Common.{◌≡◌, ℕ, suc, zero, ◌+◌, ◌<◌, ◌⊎◌, Bool, true, false, cond, Option, Some, None, List, [], ◌∷◌, ◌++◌, length, length-append, get_or, refl, ap, inl, inr, arith}
use Rattle.std.specs.List.{find}
use Rattle.net_types.specs.declared.net.Port.{Port}
use Rattle.net_types.specs.declared.firing.Act.TheVariants.{Alloc, Addr, Data, Exec, Reply, Retire}
use Rattle.lsq_core.specs.declared.entry.Entry.{Entry}
use Rattle.lsq_core.specs.Acts.{QueueState, first_changed, wants_addr, wants_data, wants_reply, is_serial, with_addr, with_data, executed, answered, exec, exec_value, fresh, rest}
use Rattle.lsq_core.specs.Views.{InOrder, InPorts, entry_at}
use Rattle.lsq_core.specs.Laws.{StaysInOrder, StaysInPorts}
use Rattle.lsq_core.proofs.EntryLemmas.{length-first_changed}

-- a change that leaves a field
changed_field : (F : Entry → ℕ) (t : Entry → Bool) (u : Entry → Entry) (xs : List Entry) (i : ℕ) → ((y : Entry) → F (u y) ≡ F y)
    → F (entry_at (first_changed t u xs) i) ≡ F (entry_at xs i)
changed_field F t u [] i h = refl
changed_field F t u (x ∷ xs) i h = by (t x) i (λ k. changed_field F t u xs k h)
  where
    by : (b : Bool) (i : ℕ) → ((k : ℕ) → F (entry_at (first_changed t u xs) k) ≡ F (entry_at xs k))
        → F (entry_at (cond b (u x ∷ xs) (x ∷ first_changed t u xs)) i) ≡ F (entry_at (x ∷ xs) i)
    by true zero r = h x
    by true (suc i) r = refl
    by false zero r = refl
    by false (suc i) r = r i

-- an entry of two lists one after the other
entry_appended : (xs ys : List Entry) (i : ℕ)
    → ((i < length xs) × (entry_at (xs ++ ys) i ≡ entry_at xs i)) ⊎ ((k : ℕ) × (i ≡ length xs + k) × (entry_at (xs ++ ys) i ≡ entry_at ys k))
entry_appended [] ys i = inr (i, omega arith, refl)
entry_appended (x ∷ xs) ys zero = inl (omega arith, refl)
entry_appended (x ∷ xs) ys (suc i) = elim (entry_appended xs ys i) [ inl a ↦ (let l = a.0 in inl (omega arith, a.1)) | inr a ↦ (let e = a.1 in inr (a.0, omega arith, a.2)) ]

pub length-fresh : (n : ℕ) (ports : List Port) (g : List ℕ) → length (fresh n ports g) ≡ length g
length-fresh n ports [] = refl
length-fresh n ports (p ∷ g) = ap suc (length-fresh (suc n) ports g)

fresh_at : (n : ℕ) (ports : List Port) (g : List ℕ) (k : ℕ) → k < length g
    → ((entry_at (fresh n ports g) k).serial ≡ n + k) × ((entry_at (fresh n ports g) k).port ≡ get_or g k 0)
fresh_at n ports [] k l = absurd (omega arith)
fresh_at n ports (p ∷ g) zero l = (omega arith, refl)
fresh_at n ports (p ∷ g) (suc k) l = let r = fresh_at (suc n) ports g k (omega arith) in (let e = r.0 in omega arith, r.1)

order_changed : (q : QueueState) (t : Entry → Bool) (u : Entry → Entry) → ((y : Entry) → (u y).serial ≡ y.serial) → InOrder q
    → InOrder (record q { items = first_changed t u q.items })
order_changed q t u h o i l =
    let n = length-first_changed t u q.items in
    let s = changed_field (λ y. y.serial) t u q.items i h in
    let k = o i (omega arith) in
    omega arith

order_rest : (q : QueueState) → InOrder q → InOrder (record q { items = rest q.items })
order_rest q o = at q.items o
  where
    at : (is : List Entry) → InOrder (record q { items = is }) → InOrder (record q { items = rest is })
    at [] o i l = absurd (omega arith)
    at (x ∷ xs) o i l = let k = o (suc i) (omega arith) in omega arith

order_fresh : (q : QueueState) (ports : List Port) (g : List ℕ) → InOrder q
    → InOrder (record q { next = q.next + length g; items = q.items ++ fresh q.next ports g })
order_fresh q ports g o i l =
    let n = length-append q.items (fresh q.next ports g) in
    let m = length-fresh q.next ports g in
    elim (entry_appended q.items (fresh q.next ports g) i) [
      | inl a ↦ (let k = o i a.0 in let s = ap (λ (y : Entry). y.serial) a.1 in omega arith)
      | inr a ↦ (let e = a.1 in let f = fresh_at q.next ports g a.0 (omega arith) in let s = ap (λ (y : Entry). y.serial) a.2 in let r = f.0 in omega arith)
    ]

pub stays_in_order : StaysInOrder
stays_in_order ports groups q xs (Alloc g) v o = order_fresh q ports (get_or groups g []) o
stays_in_order ports groups q xs (Addr p) v o = order_changed q (wants_addr p) (with_addr v) (λ y. refl) o
stays_in_order ports groups q xs (Data p) v o = order_changed q (wants_data p) (with_data v) (λ y. refl) o
stays_in_order ports groups q xs (Exec e) v o = at (find (is_serial e) q.items)
  where
    at : (m : Option Entry) → InOrder (exec q xs e m).queue
    at None = o
    at (Some x) = order_changed q (is_serial e) (executed (exec_value xs q.items x)) (λ y. refl) o
stays_in_order ports groups q xs (Reply p) v o = order_changed q (wants_reply p) answered (λ y. refl) o
stays_in_order ports groups q xs Retire v o = order_rest q o
stays_in_order ports groups q xs _ v o = o

ports_changed : (n : ℕ) (is : List Entry) (t : Entry → Bool) (u : Entry → Entry) → ((y : Entry) → (u y).port ≡ y.port) → InPorts n is → InPorts n (first_changed t u is)
ports_changed n is t u h o i l =
    let m = length-first_changed t u is in
    let s = changed_field (λ y. y.port) t u is i h in
    let k = o i (omega arith) in
    omega arith

ports_rest : (n : ℕ) (is : List Entry) → InPorts n is → InPorts n (rest is)
ports_rest n [] o i l = absurd (omega arith)
ports_rest n (x ∷ xs) o i l = o (suc i) (omega arith)

ports_fresh : (n m : ℕ) (is : List Entry) (ports : List Port) (g : List ℕ) → ((i : ℕ) → i < length g → get_or g i 0 < n) → InPorts n is → InPorts n (is ++ fresh m ports g)
ports_fresh n m is ports g w o i l =
    let long = length-append is (fresh m ports g) in
    let new = length-fresh m ports g in
    elim (entry_appended is (fresh m ports g) i) [
      | inl a ↦ (let k = o i a.0 in let s = ap (λ (y : Entry). y.port) a.1 in omega arith)
      | inr a ↦
          (let e = a.1 in let f = fresh_at m ports g a.0 (omega arith) in let s = ap (λ (y : Entry). y.port) a.2 in let r = f.1 in let k = w a.0 (omega arith) in omega arith)
    ]

pub stays_in_ports : StaysInPorts
stays_in_ports n ports groups q xs (Alloc g) v w o = ports_fresh n q.next q.items ports (get_or groups g []) (w g) o
stays_in_ports n ports groups q xs (Addr p) v w o = ports_changed n q.items (wants_addr p) (with_addr v) (λ y. refl) o
stays_in_ports n ports groups q xs (Data p) v w o = ports_changed n q.items (wants_data p) (with_data v) (λ y. refl) o
stays_in_ports n ports groups q xs (Exec e) v w o = at (find (is_serial e) q.items)
  where
    at : (m : Option Entry) → InPorts n (exec q xs e m).queue.items
    at None = o
    at (Some x) = ports_changed n q.items (is_serial e) (executed (exec_value xs q.items x)) (λ y. refl) o
stays_in_ports n ports groups q xs (Reply p) v w o = ports_changed n q.items (wants_reply p) answered (λ y. refl) o
stays_in_ports n ports groups q xs Retire v w o = ports_rest n q.items o
stays_in_ports n ports groups q xs _ v w o = o
