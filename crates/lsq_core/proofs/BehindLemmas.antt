-- In a queue that does not forward, an entry behind one of its side and its address that may not execute may not either.
use Rattle.std.proofs.Common.{◌≡◌, ℕ, ◌+◌, ◌<◌, ◌≤◌, ◌⊎◌, ◌&&◌, ◌||◌, ◌==◌, not, nat_lt, Bool, true, false, cond, Option, Some, None, is_some, is_none, List, [], ◌∷◌, length, refl, sym, ap, ◌∙◌, inl, inr, arith}
use Rattle.std.specs.List.{list_all}
use Rattle.std.proofs.lemmas.Bool.{cases_lt, lt-ltb, le-ltb, false≢true, eq-eqb, eqb-true}
use Rattle.lsq_core.specs.declared.entry.Entry.{Entry}
use Rattle.lsq_core.specs.declared.marks.Kind.TheVariants as kind
use Rattle.lsq_core.specs.declared.marks.Marks.{Marks}
use Rattle.lsq_core.specs.Acts.{QueueState, lets, known, waiting, same, last_such, later, ready, source_ok, order_ok, executes, fresh_entry}
use Rattle.lsq_core.specs.Views.{InOrder, entry_at, count_of}
use Rattle.lsq_core.specs.Behind.{FailsBefore}
use Rattle.lsq_core.specs.Index.{clear, filled, in_row, IsNextIn}
use Rattle.lsq_core.proofs.PlaceLemmas.{one_fails}
use Rattle.lsq_core.proofs.EntryLemmas.{and_true, and_inv}
use Rattle.lsq_core.proofs.PairLemmas.{same_eq}
use Rattle.lsq_core.proofs.PortLemmas.{either}
use Rattle.lsq_core.proofs.ExecLemmas.{known_all, unfilled}

-- no older store of a load's address waits
clear_waiting : (x o : Entry) → clear true x o ≡ not (waiting x o)
clear_waiting x o = by (nat_lt o.serial x.serial) o.store o.addr o.done
  where
    by : (b s : Bool) (a : Option ℕ) (d : Bool) → (not b || not ((count_of s == count_of true) && ((is_some a && not d) && same a x.addr))) ≡ not (b && (s && (same a x.addr && not d)))
    by false s a d = refl
    by true false a d = refl
    by true true None d = refl
    by true true (Some v) true = at (same (Some v) x.addr)
      where
        at : (c : Bool) → true ≡ not (c && false)
        at true = refl
        at false = refl
    by true true (Some v) false = at (same (Some v) x.addr)
      where
        at : (c : Bool) → not c ≡ not (c && true)
        at true = refl
        at false = refl

pub source_clear : (x : Entry) (items : List Entry) → source_ok false (last_such (waiting x) items) ≡ list_all (clear true x) items
source_clear x [] = refl
source_clear x (o ∷ os) = by (last_such (waiting x) os) (waiting x o) ∙ (λ i. sym (clear_waiting x o) i && source_clear x os i)
  where
    by : (r : Option Entry) (b : Bool) → source_ok false (later r b o) ≡ (not b && source_ok false r)
    by None true = refl
    by None false = refl
    by (Some y) true = refl
    by (Some y) false = refl

all_more : (p q : Entry → Bool) (items : List Entry) → ((z : Entry) → p z ≡ true → q z ≡ true) → list_all p items ≡ true → list_all q items ≡ true
all_more p q [] h e = refl
all_more p q (z ∷ zs) h e = let a = and_inv (p z) (list_all p zs) e in and_true (q z) (list_all q zs) (h z a.0) (all_more p q zs h a.1)

clear_older : (x y z : Entry) → y.serial < x.serial → y.addr ≡ x.addr → clear true x z ≡ true → clear true y z ≡ true
clear_older x y z l e h = by (cases_lt z.serial y.serial)
  where
    by : (z.serial < y.serial) ⊎ (y.serial ≤ z.serial) → clear true y z ≡ true
    by (inl b) =
        let p : nat_lt z.serial y.serial ≡ true = lt-ltb z.serial y.serial b in
        let q : nat_lt z.serial x.serial ≡ true = lt-ltb z.serial x.serial (omega arith) in
        let s : nat_lt z.serial y.serial ≡ nat_lt z.serial x.serial = p ∙ sym q in
        (λ i. not (s i) || not ((count_of z.store == count_of true) && ((is_some z.addr && not z.done) && same z.addr (e i)))) ∙ h
    by (inr b) = let p : nat_lt z.serial y.serial ≡ false = le-ltb z.serial y.serial b in rw p refl

same_some : (a : Option ℕ) → is_some a ≡ true → same a a ≡ true
same_some None e = absurd (false≢true e)
same_some (Some n) e = eq-eqb n n refl

side_false : (b c : Bool) → count_of b ≡ count_of c → c ≡ false → b ≡ false
side_false false c e f = refl
side_false true true e f = f
side_false true false e f = absurd (omega arith)

out : (b c : Bool) → c ≡ false → (b && c) ≡ false
out true c e = e
out false c e = refl

-- an older load of the same address may execute where a load may
older_load : (x y : Entry) (items : List Entry) → y.serial < x.serial → y.addr ≡ x.addr → is_some y.addr ≡ true → y.done ≡ false → y.store ≡ false → x.store ≡ false
    → executes false items x ≡ true → executes false items y ≡ true
older_load x y items l e some undone ys xs h =
    let a = and_inv (ready x) (order_ok false items x) h in
    let p : (list_all (known x) items && source_ok false (last_such (waiting x) items)) ≡ true =
    sym (ap (λ b. cond b (list_all (lets x) items) (list_all (known x) items && source_ok false (last_such (waiting x) items))) xs) ∙ a.1 in
    let q = and_inv (list_all (known x) items) (source_ok false (last_such (waiting x) items)) p in
    let k : list_all (known y) items ≡ true = known_all y items ∙ reached (sym (known_all x items) ∙ q.0) (either (list_all (filled true y) items)) in
    let s : source_ok false (last_such (waiting y) items) ≡ true =
    source_clear y items ∙ all_more (clear true x) (clear true y) items (λ z. clear_older x y z l e) (sym (source_clear x items) ∙ q.1) in
    let r : ready y ≡ true =
    and_true (not y.done) (is_some y.addr && (not y.store || is_some y.datum)) (ap not undone) (and_true (is_some y.addr) (not y.store || is_some y.datum) some (ap (λ b. not b || is_some y.datum) ys)) in
    and_true (ready y) (order_ok false items y) r
    (ap (λ b. cond b (list_all (lets y) items) (list_all (known y) items && source_ok false (last_such (waiting y) items))) ys ∙ and_true (list_all (known y) items) (source_ok false (last_such (waiting y) items)) k s)
  where
    reached : list_all (filled true x) items ≡ true → (list_all (filled true y) items ≡ true) ⊎ (list_all (filled true y) items ≡ false) → list_all (filled true y) items ≡ true
    reached all (inl so) = so
    reached all (inr not_so) = absurd (false≢true (sym (unfilled true y x items (omega arith) not_so) ∙ all))

-- a store may not execute before an older entry of its address that is not executed
behind_store : (fw : Bool) (x y : Entry) (items : List Entry) (at : ℕ) → at < length items → y ≡ entry_at items at → y.serial < x.serial → y.addr ≡ x.addr → is_some y.addr ≡ true → y.done ≡ false
    → x.store ≡ true → executes fw items x ≡ false
behind_store fw x y items at w is l e some undone xs =
    let a : nat_lt y.serial x.serial ≡ true = lt-ltb y.serial x.serial l in
    let c : same y.addr x.addr ≡ true = sym (ap (same y.addr) e) ∙ same_some y.addr some in
    let f : lets x y ≡ false = (λ i. not (a i) || ((not y.store && not (xs i)) || (some i && (undone i || not (c i))))) ∙ last y.store in
    let g : list_all (lets x) items ≡ false = one_fails (lets x) items at w (sym (ap (lets x) is) ∙ f) in
    out (ready x) (order_ok fw items x) (ap (λ b. cond b (list_all (lets x) items) (list_all (known x) items && source_ok fw (last_such (waiting x) items))) xs ∙ g)
  where
    last : (b : Bool) → (not true || ((not b && not true) || (true && (false || not true)))) ≡ false
    last true = refl
    last false = refl

pub behind_fails : (q : QueueState) (x y : Entry) (b : Bool) → b ≡ (not q.forward && same y.addr x.addr) → b ≡ true → (is_some y.addr ≡ true → FailsBefore q y x) → false ≡ executes q.forward q.items x
behind_fails q x y b told so before =
    let a = and_inv (not q.forward) (same y.addr x.addr) (sym told ∙ so) in
    let some = some_same y.addr x.addr a.1 in
    sym (by (not_true q.forward a.0) (same_eq y.addr x.addr a.1) some (before some) (either x.store))
  where
    some_same : (c d : Option ℕ) → same c d ≡ true → is_some c ≡ true
    some_same None d e = e
    some_same (Some v) d e = refl

    not_true : (c : Bool) → not c ≡ true → c ≡ false
    not_true true e = sym e
    not_true false e = refl

    by : q.forward ≡ false → y.addr ≡ x.addr → is_some y.addr ≡ true → FailsBefore q y x → (x.store ≡ true) ⊎ (x.store ≡ false) → executes q.forward q.items x ≡ false
    by fw e some f (inl xs) = behind_store q.forward x y q.items f.at f.within f.is f.older e some f.undone xs
    by fw e some f (inr xs) = load (either (executes q.forward q.items x))
      where
        load : (executes q.forward q.items x ≡ true) ⊎ (executes q.forward q.items x ≡ false) → executes q.forward q.items x ≡ false
        load (inr not_so) = not_so
        load (inl h) =
            let o : executes false q.items y ≡ true = older_load x y q.items f.older e some f.undone (side_false y.store x.store f.side xs) xs (sym (ap (λ w. executes w q.items x) fw) ∙ h) in
            absurd (false≢true (sym f.fails ∙ ap (λ w. executes w q.items y) fw ∙ o))

-- ---- the last entry of a row that may not execute, of a walk along the row

pub record HasFailed (b : Bool) (q : QueueState) (from : ℕ) (y : Entry) : Type 0 where
  pub at : ℕ
  pub within : at < length q.items
  pub older : at < from
  pub is : y ≡ entry_at q.items at
  pub side : count_of y.store ≡ count_of b
  pub undone : y.done ≡ false
  pub fails : executes q.forward q.items y ≡ false

pub failed_none : (side : Bool) (q : QueueState) (from : ℕ) (y : Entry) → y ≡ fresh_entry 0 0 side → is_some y.addr ≡ true → HasFailed side q from y
failed_none side q from y is some = absurd (false≢true (sym (ap (λ (e : Entry). is_some e.addr) is) ∙ some))

-- an entry in the row is of the side, and not executed
pub record IsOpen (b : Bool) (x : Entry) : Type 0 where
  pub side : count_of x.store ≡ count_of b
  pub undone : x.done ≡ false

pub open_row : (m : Marks) (side : Bool) (r from at : ℕ) (x : Entry) (ys items : List Entry) → m.kind ≡ kind.Ready → r ≡ count_of side → ys ≡ items → IsNextIn m r from at ys → x ≡ entry_at items at → IsOpen side x
open_row m side r from at x ys items k re is n xe =
    let g : ((count_of (entry_at items at).store == count_of side) && ready (entry_at items at)) ≡ true = (λ i. in_row (sym k i) m.rows (sym re i) (entry_at (sym is i) at)) ∙ n.here in
    let h : ((count_of x.store == count_of side) && ready x) ≡ true = ap (λ (e : Entry). (count_of e.store == count_of side) && ready e) xe ∙ g in
    let a = and_inv (count_of x.store == count_of side) (ready x) h in
    let b = and_inv (not x.done) (is_some x.addr && (not x.store || is_some x.datum)) a.1 in
    record { side = eqb-true (count_of x.store) (count_of side) a.0; undone = not_true x.done b.0 }
  where
    not_true : (c : Bool) → not c ≡ true → c ≡ false
    not_true true e = sym e
    not_true false e = refl

pub failed_before : (side : Bool) (q : QueueState) (from at : ℕ) (y x : Entry) → InOrder q → HasFailed side q from y → from ≤ at → at < length q.items → x ≡ entry_at q.items at → IsOpen side x → FailsBefore q y x
failed_before side q from at y x order f l w xe o = record {
  at = f.at;
  within = f.within;
  is = f.is;
  older =
      (let a = order f.at f.within in
      let b = order at w in
      let c = f.older in
      let d = ap (λ (e : Entry). e.serial) f.is in
      let e = ap (λ (e : Entry). e.serial) xe in
      omega arith);
  side = f.side ∙ sym o.side;
  undone = f.undone;
  fails = f.fails;
}

pub failed_more : (side : Bool) (q : QueueState) (at : ℕ) (x : Entry) (b : Bool) → at < length q.items → x ≡ entry_at q.items at → IsOpen side x → b ≡ executes q.forward q.items x → b ≡ false → HasFailed side q (at + 1) x
failed_more side q at x b w xe o told not_so = record { at = at; within = w; older = omega arith; is = xe; side = o.side; undone = o.undone; fails = sym told ∙ not_so }
