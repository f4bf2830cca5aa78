-- The least enabled act of a queue.
use Rattle.std.proofs.Common.{◌≡◌, ℕ, zero, suc, ◌+◌, ◌<◌, ◌≤◌, ◌⊎◌, Bool, true, false, cond, Option, Some, None, List, [], ◌∷◌, length, get_or, refl, sym, ap, ◌∙◌, inl, inr, arith, is_some, option_map, eqb-true, ltb-true, nat_lt}
use Rattle.std.proofs.lemmas.Bool.{cases_lt, and_parts}
use Rattle.std.specs.List.{find}
use Rattle.net_types.specs.declared.net.Net.{Net}
use Rattle.net_types.specs.declared.net.Unit.TheVariants.{Lsq}
use Rattle.net_types.specs.declared.firing.Act.{Act}
use Rattle.net_types.specs.declared.firing.Act.TheVariants.{Go, From, Send, Alloc, Addr, Data, Exec, Reply, Retire, End}
use Rattle.net_types.specs.Nets.{kind_of, firing}
use Rattle.net_types.specs.Order.{act_rank, act_number}
use Rattle.lsq_core.specs.declared.entry.Entry.{Entry}
use Rattle.lsq_core.specs.Acts.{can, wants_addr, wants_data, wants_reply, is_done, is_serial, executes, may_exec}
use Rattle.lsq_core.specs.Wants.{IsFirst}
use Rattle.lsq_core.specs.Views.{QueueView, InOrder, InPorts, entry_at, oldest_of, serial_of}
use Rattle.net_core.specs.declared.find.Family.{Family}
use Rattle.net_core.specs.declared.find.Family.TheVariants as family
use Rattle.net_core.specs.Fire.{State, idle, enabled, head_at}
use Rattle.net_core.specs.private.Searches.{act_of, family_rank, start_from, serials_from, queue_numbers, queue_families, greater}
use Rattle.net_core.proofs.GoesLemmas.{goes}
use Rattle.net_core.proofs.QueueActLemmas.{queue_inv, lsq_is}
use Rattle.net_core.proofs.SearchLemmas.{act_is, Below, IsRange, range_from, start_most, start_after}

-- finding in lists of entries

find_inv : (t : Entry → Bool) (xs : List Entry) (x : Entry) → find t xs ≡ Some x → (i : ℕ) × (IsFirst t xs i × (x ≡ entry_at xs i))
find_inv t [] x e = cc
find_inv t (y ∷ xs) x e = by (t y) refl e (λ k. find_inv t xs x k)
  where
    by : (b : Bool) → t y ≡ b → cond b (Some y) (find t xs) ≡ Some x → (find t xs ≡ Some x → (i : ℕ) × (IsFirst t xs i × (x ≡ entry_at xs i))) → (i : ℕ) × (IsFirst t (y ∷ xs) i × (x ≡ entry_at (y ∷ xs) i))
    by true q e ih = let j : y ≡ x = cc in (0, (record { within = omega arith; here = q; before = λ k l. absurd (omega arith) }, sym j))
    by false q e ih =
        let w = ih e in
        (suc w.0, (record { within = (let l = w.1.0.within in omega arith); here = w.1.0.here; before = before w.0 (w.1.0.before) }, w.1.1))
      where
        before : (i : ℕ) → ((m : ℕ) → m < i → t (entry_at xs m) ≡ false) → (k : ℕ) → k < suc i → t (entry_at (y ∷ xs) k) ≡ false
        before i h zero l = q
        before i h (suc k) l = h k (omega arith)

none_inv : (t : Entry → Bool) (xs : List Entry) → find t xs ≡ None → (k : ℕ) → k < length xs → t (entry_at xs k) ≡ false
none_inv t [] e k l = absurd (omega arith)
none_inv t (y ∷ xs) e k l = by (t y) refl e k l (λ z i m. none_inv t xs z i m)
  where
    by : (b : Bool) → t y ≡ b → cond b (Some y) (find t xs) ≡ None → (k : ℕ) → k < length (y ∷ xs) → (find t xs ≡ None → (i : ℕ) → i < length xs → t (entry_at xs i) ≡ false) → t (entry_at (y ∷ xs) k) ≡ false
    by true q e k l ih = cc
    by false q e zero l ih = q
    by false q e (suc k) l ih = ih e k (omega arith)

port_found : (t : Entry → Bool) (items : List Entry) (p n : ℕ) → InPorts n items → ((x : Entry) → t x ≡ true → x.port ≡ p) → is_some (find t items) ≡ true → p < n
port_found t items p n within port e = by (find t items) refl e
  where
    by : (o : Option Entry) → find t items ≡ o → is_some o ≡ true → p < n
    by None q e = cc
    by (Some x) q e =
        let w = find_inv t items x q in
        let l = within w.0 w.1.0.within in
        let k = port (entry_at items w.0) w.1.0.here in omega arith

greater_left : (m n k : ℕ) → m ≤ k → n ≤ k → greater m n ≤ k
greater_left m n k l r = by (nat_lt m n)
  where
    by : (b : Bool) → cond b n m ≤ k
    by true = r
    by false = l

greater_most : (m n k : ℕ) → greater m n ≤ k → m ≤ k
greater_most m n k h = by (nat_lt m n) refl h
  where
    by : (b : Bool) → nat_lt m n ≡ b → cond b n m ≤ k → m ≤ k
    by true e h = let l = ltb-true m n e in omega arith
    by false e h = h

-- before its order: each entry is known by its serial number
pub serial_below : (q : QueueView) (x : ℕ) → InOrder q.queue → oldest_of q.queue ≡ Some x → x < q.queue.next
serial_below q x order o = by (find (executes q.queue.forward q.queue.items) q.queue.items) refl o
  where
    by : (o : Option Entry) → find (executes q.queue.forward q.queue.items) q.queue.items ≡ o → option_map serial_of o ≡ Some x → x < q.queue.next
    by None f o = cc
    by (Some y) f o =
        let w = find_inv (executes q.queue.forward q.queue.items) q.queue.items y f in
        let j : y.serial ≡ x = cc in
        let is : (entry_at q.queue.items w.0).serial ≡ x = ap (λ (y : Entry). y.serial) (sym w.1.1) ∙ j in
        let l = w.1.0.within in
        let r = order w.0 w.1.0.within in
        omega arith

module _ (net : Net) (s : State) (u a : ℕ) (q : QueueView) (kind : kind_of net u ≡ Lsq a q.depth q.ports q.groups q.queue.forward) (own : q.queue ≡ (get_or s.own u idle).queue)
    (order : InOrder q.queue) (within : InPorts (length q.ports) q.queue.items) (from : Act) where
  can_of : (b : Act) → enabled net s (firing u b) → can q.depth q.groups q.queue b ≡ true
  can_of b e =
      let g = goes net s (firing u b) e in
      let i = queue_inv q.depth q.ports q.groups b (get_or s.own u idle) (get_or s.arrays a []) (head_at net s u) g.0 (sym (lsq_is net u a q.depth q.ports q.groups q.queue.forward kind s b) ∙ g.1.is) in
      ap (λ z. can q.depth q.groups z b) own ∙ i.1

  pub below_first : Below net s u from 3
  below_first b l e h = by b l (can_of b e)
    where
      by : (b : Act) → act_rank b < 3 → can q.depth q.groups q.queue b ≡ true → ⊥
      by Go l c = cc
      by (From j) l c = cc
      by (Send j) l c = cc
      by _ l c = absurd (omega arith)

  can_in : (f : Family) (b : Act) → act_rank b ≡ family_rank f → enabled net s (firing u b) → can q.depth q.groups q.queue (act_of f (act_number b)) ≡ true
  can_in f b r e = ap (can q.depth q.groups q.queue) (sym (act_is f b r)) ∙ can_of b e

  -- an entry that may execute, by its serial number
  exec_entry : (e : ℕ) → can q.depth q.groups q.queue (Exec e) ≡ true
      → (j : ℕ) × ((j < length q.queue.items) × ((entry_at q.queue.items j).serial ≡ e) × (executes q.queue.forward q.queue.items (entry_at q.queue.items j) ≡ true))
  exec_entry e c = by (find (is_serial e) q.queue.items) refl c
    where
      by : (o : Option Entry) → find (is_serial e) q.queue.items ≡ o → may_exec q.queue.forward q.queue.items o ≡ true
          → (j : ℕ) × ((j < length q.queue.items) × ((entry_at q.queue.items j).serial ≡ e) × (executes q.queue.forward q.queue.items (entry_at q.queue.items j) ≡ true))
      by None f c = cc
      by (Some x) f c =
          let w = find_inv (is_serial e) q.queue.items x f in
          (w.0, (w.1.0.within, eqb-true _ _ w.1.0.here, ap (executes q.queue.forward q.queue.items) (sym w.1.1) ∙ c))

  -- its number lies from that of the oldest on
  exec_within : (x e : ℕ) → oldest_of q.queue ≡ Some x → can q.depth q.groups q.queue (Exec e) ≡ true → (x ≤ e) × (e < x + length q.queue.items)
  exec_within x e o c = by (find (executes q.queue.forward q.queue.items) q.queue.items) refl o
    where
      by : (o : Option Entry) → find (executes q.queue.forward q.queue.items) q.queue.items ≡ o → option_map serial_of o ≡ Some x → (x ≤ e) × (e < x + length q.queue.items)
      by None f o = cc
      by (Some y) f o =
          let w = find_inv (executes q.queue.forward q.queue.items) q.queue.items y f in
          let j : y.serial ≡ x = cc in
          let is : (entry_at q.queue.items w.0).serial ≡ x = ap (λ (y : Entry). y.serial) (sym w.1.1) ∙ j in
          let v = exec_entry e c in
          at w.0 w.1.0 is v.0 v.1.0 v.1.1 v.1.2 (cases_lt v.0 w.0)
        where
          at : (i : ℕ) → IsFirst (executes q.queue.forward q.queue.items) q.queue.items i → (entry_at q.queue.items i).serial ≡ x → (j : ℕ) → j < length q.queue.items → (entry_at q.queue.items j).serial ≡ e
              → executes q.queue.forward q.queue.items (entry_at q.queue.items j) ≡ true → (j < i) ⊎ (i ≤ j) → (x ≤ e) × (e < x + length q.queue.items)
          at i first is j l n c (inl k) = let z : true ≡ false = sym c ∙ first.before j k in cc
          at i first is j l n c (inr k) = let p = order j l in let t = order i first.within in let m = first.within in (omega arith, omega arith)

  exec_none : oldest_of q.queue ≡ None → (e : ℕ) → can q.depth q.groups q.queue (Exec e) ≡ true → ⊥
  exec_none o e c =
      let w = exec_entry e c in
      let z : true ≡ false = sym w.1.2 ∙ none_inv (executes q.queue.forward q.queue.items) q.queue.items (quiet (find (executes q.queue.forward q.queue.items) q.queue.items) o) w.0 w.1.0 in cc
    where
      quiet : (o : Option Entry) → option_map serial_of o ≡ None → o ≡ None
      quiet None e = refl
      quiet (Some x) e = cc

  exec_range : (o : Option ℕ) → oldest_of q.queue ≡ o → IsRange net s u from family.Exec (serials_from from (length q.queue.items) o).start (serials_from from (length q.queue.items) o).end
  exec_range None o = record { covers = λ b r e h. absurd (exec_none o (act_number b) (can_in family.Exec b r e)); after = λ j l m. absurd (omega arith) }
  exec_range (Some x) o = record {
    covers = λ b r e h. (let w = exec_within x (act_number b) o (can_in family.Exec b r e) in
        (greater_left (start_from family.Exec from (x + length q.queue.items)) x (act_number b) (start_most family.Exec from b (x + length q.queue.items) r h w.1) w.0, w.1));
    after = λ j l m. start_after family.Exec from (x + length q.queue.items) j (greater_most (start_from family.Exec from (x + length q.queue.items)) x j l) m;
  }

  one : (f : Family) → ((b : Act) → act_rank b ≡ family_rank f → act_number b ≡ 0) → IsRange net s u from f (start_from f from 1) 1
  one f zero_is = range_from net s u from f 1 (λ b r e. (let z = zero_is b r in omega arith))

  no_number : (f : Family) (b : Act) → act_number (act_of f (act_number b)) ≡ 0 → act_rank b ≡ family_rank f → act_number b ≡ 0
  no_number f b z r = ap act_number (act_is f b r) ∙ z

  pub queue_range : (f : Family) → 3 ≤ family_rank f → IsRange net s u from f (queue_numbers f from q).start (queue_numbers f from q).end
  queue_range family.Alloc l = range_from net s u from family.Alloc (length q.groups) (λ b r e. ltb-true _ _ (and_parts _ _ (can_in family.Alloc b r e)).0)
  queue_range family.Addr l = range_from net s u from family.Addr (length q.ports)
      (λ b r e. port_found (wants_addr (act_number b)) q.queue.items (act_number b) (length q.ports) within (λ x h. eqb-true _ _ (and_parts _ _ h).0) (can_in family.Addr b r e))
  queue_range family.Data l = range_from net s u from family.Data (length q.ports)
      (λ b r e. port_found (wants_data (act_number b)) q.queue.items (act_number b) (length q.ports) within (λ x h. eqb-true _ _ (and_parts _ _ h).0) (can_in family.Data b r e))
  queue_range family.Exec l = exec_range (oldest_of q.queue) refl
  queue_range family.Reply l = range_from net s u from family.Reply (length q.ports)
      (λ b r e. port_found (wants_reply (act_number b)) q.queue.items (act_number b) (length q.ports) within (λ x h. eqb-true _ _ (and_parts _ _ h).0) (done (find (wants_reply (act_number b)) q.queue.items) (can_in family.Reply b r e)))
    where
      done : (o : Option Entry) → is_done o ≡ true → is_some o ≡ true
      done None h = cc
      done (Some x) h = refl
  queue_range family.Retire l = one family.Retire (λ b r. no_number family.Retire b refl r)
  queue_range family.End l = one family.End (λ b r. no_number family.End b refl r)
  queue_range _ l = absurd (omega arith)

-- the kinds of acts of a queue stand one after another
pub rank_at : (i : ℕ) (d : Family) → i < length queue_families → family_rank (get_or queue_families i d) ≡ 3 + i
rank_at zero d l = refl
rank_at (suc zero) d l = refl
rank_at (suc (suc zero)) d l = refl
rank_at (suc (suc (suc zero))) d l = refl
rank_at (suc (suc (suc (suc zero)))) d l = refl
rank_at (suc (suc (suc (suc (suc zero))))) d l = refl
rank_at (suc (suc (suc (suc (suc (suc zero)))))) d l = refl
rank_at (suc (suc (suc (suc (suc (suc (suc i))))))) d l = absurd (omega arith)
