-- Pairs of acts of one queue: two that fill or answer entries, and an execution with each of them.
use Rattle.std.proofs.Common.{◌≡◌, ◌≢◌, ℕ, suc, zero, ◌<◌, ◌≤◌, ◌⊎◌, ◌||◌, ◌&&◌, ◌==◌, not, Bool, true, false, cond, Option, Some, None, List, [], ◌∷◌, length, get_or, set, refl, sym, ap, ◌∙◌, inl, inr, arith, is_some, is_none, nat_lt, eqb-true, eq-eqb, ne_eqb, lt-ltb, le-ltb, length-set, get_or-set_other, get_or-set_same}
use Rattle.std.proofs.Math.Seq.{set_comm}
use Rattle.std.proofs.lemmas.Bool.{cases_lt}
use Rattle.std.specs.List.{find, list_all}
use Rattle.net_types.specs.declared.net.Port.{Port}
use Rattle.net_types.specs.declared.firing.Act.{Act}
use Rattle.net_types.specs.declared.firing.Act.TheVariants.{Addr, Data, Exec, Reply}
use Rattle.lsq_core.specs.declared.entry.Entry.{Entry}
use Rattle.lsq_core.specs.Acts.{QueueState, first_changed, wants_addr, wants_data, wants_reply, is_serial, with_addr, with_data, executed, answered, same, lets, ready, may_exec, is_done, or_zero, can, known, waiting, later, last_such, source_ok, order_ok, load_value, exec_value, exec_array, value_of}
use Rattle.lsq_core.specs.Laws.{above, rising, Joined}
use Rattle.lsq_core.proofs.EntryLemmas.{Neutral, find_kept, changes_comm, all_kept, and_inv, find_holds, all_found, last_dropped, last_same, last_kept, last_none}

pub some_inv : (o : Option Entry) → is_some o ≡ true → (x : Entry) × (o ≡ Some x)
some_inv None e = cc
some_inv (Some x) e = (x, refl)

pub done_inv : (o : Option Entry) → is_done o ≡ true → (x : Entry) × (o ≡ Some x) × (x.done ≡ true)
done_inv None e = cc
done_inv (Some x) e = (x, refl, e)

pub exec_inv : (fw : Bool) (items : List Entry) (o : Option Entry) → may_exec fw items o ≡ true → (x : Entry) × (o ≡ Some x) × (ready x ≡ true) × (order_ok fw items x ≡ true)
exec_inv fw items None e = cc
exec_inv fw items (Some x) e = let w = and_inv (ready x) (order_ok fw items x) e in (x, refl, w.0, w.1)

abbrev pub queue : Bool → ℕ → List Entry → QueueState
queue fw n is = record { forward = fw; next = n; items = is }

module _ (depth : ℕ) (ports : List Port) (groups : List (List ℕ)) where
  pub flip : (q : QueueState) (xs : List ℕ) (a b : Act) (v w : ℕ) → Joined depth ports groups q xs a b v w → Joined depth ports groups q xs b a w v
  flip q xs a b v w j = record {
    a_can = j.b_can;
    b_can = j.a_can;
    a_put = j.b_put;
    b_put = j.a_put;
    a_strays = j.b_strays;
    b_strays = j.a_strays;
    meet_queue = sym j.meet_queue;
    meet_array = sym j.meet_array;
  }

-- tests of two ports leave each other alone
pub port_apart : (z : Entry) (p p' : ℕ) (c d d' : Bool) → p ≢ p' → ((z.port == p') && c) ≡ true → ((z.port == p) && d) ≡ ((z.port == p) && d')
port_apart z p p' c d d' ne h =
    let w = and_inv (z.port == p') c h in
    let at : z.port ≡ p' = eqb-true _ _ w.0 in
    let e : (z.port == p) ≡ false = ne_eqb z.port p (λ k. ne (omega arith)) in
    rw e refl

pub port_both : (z : Entry) (p p' : ℕ) (c d : Bool) → p ≢ p' → ((z.port == p) && c) ≡ true → ((z.port == p') && d) ≡ true → ⊥
port_both z p p' c d ne h g =
    let w = and_inv (z.port == p) c h in
    let x = and_inv (z.port == p') d g in
    let a : z.port ≡ p = eqb-true _ _ w.0 in
    let b : z.port ≡ p' = eqb-true _ _ x.0 in
    ne (omega arith)

pub kept_some : (t t' : Entry → Bool) (u' : Entry → Entry) (is : List Entry) → Neutral t t' u' → is_some (find t is) ≡ true → is_some (find t (first_changed t' u' is)) ≡ true
kept_some t t' u' is n h =
    let w = some_inv (find t is) h in
    elim (find_kept t t' u' is w.0 n w.1) [ inl e ↦ rw e refl | inr e ↦ rw e.1 refl ]

pub reply_kept : (t t' : Entry → Bool) (u' : Entry → Entry) (is : List Entry) → Neutral t t' u' → is_done (find t is) ≡ true
    → ((x : Entry) → find t is ≡ Some x → find t' is ≡ Some x → ((u' x).done ≡ x.done) × ((u' x).value ≡ x.value))
    → (is_done (find t (first_changed t' u' is)) ≡ true) × (value_of (find t (first_changed t' u' is)) ≡ value_of (find t is))
reply_kept t t' u' is n h keeps =
    let w = done_inv (find t is) h in at w.0 w.1 w.2
  where
    at : (x : Entry) → find t is ≡ Some x → x.done ≡ true
        → (is_done (find t (first_changed t' u' is)) ≡ true) × (value_of (find t (first_changed t' u' is)) ≡ value_of (find t is))
    at x found d =
        elim (find_kept t t' u' is x n found) [
          | inl e ↦ (rw e d, ap value_of (e ∙ sym found))
          | inr e ↦ (let k = keeps x found e.0 in (rw e.1 (k.0 ∙ d), (ap value_of e.1 ∙ k.1) ∙ ap value_of (sym found)))
        ]

module _ (depth : ℕ) (ports : List Port) (groups : List (List ℕ)) where
  pub addr_addr : (q : QueueState) (xs : List ℕ) (p p' v w : ℕ) → p ≢ p' → can depth groups q (Addr p) ≡ true → can depth groups q (Addr p') ≡ true
      → Joined depth ports groups q xs (Addr p) (Addr p') v w
  addr_addr q xs p p' v w ne h g =
      let n1 : Neutral (wants_addr p) (wants_addr p') (with_addr w) = λ z k. port_apart z p p' _ _ _ ne k in
      let n2 : Neutral (wants_addr p') (wants_addr p) (with_addr v) = λ z k. port_apart z p' p _ _ _ (λ e. ne (sym e)) k in
      record {
        a_can = kept_some (wants_addr p) (wants_addr p') (with_addr w) q.items n1 h;
        b_can = kept_some (wants_addr p') (wants_addr p) (with_addr v) q.items n2 g;
        a_put = refl;
        b_put = refl;
        a_strays = refl;
        b_strays = refl;
        meet_queue = ap (λ r. record q { items = r }) (changes_comm (wants_addr p) (wants_addr p') (with_addr v) (with_addr w) q.items n1 n2
            (λ z a b. absurd (port_both z p p' _ _ ne a b)));
        meet_array = refl;
      }

  pub data_data : (q : QueueState) (xs : List ℕ) (p p' v w : ℕ) → p ≢ p' → can depth groups q (Data p) ≡ true → can depth groups q (Data p') ≡ true
      → Joined depth ports groups q xs (Data p) (Data p') v w
  data_data q xs p p' v w ne h g =
      let n1 : Neutral (wants_data p) (wants_data p') (with_data w) = λ z k. port_apart z p p' _ _ _ ne k in
      let n2 : Neutral (wants_data p') (wants_data p) (with_data v) = λ z k. port_apart z p' p _ _ _ (λ e. ne (sym e)) k in
      record {
        a_can = kept_some (wants_data p) (wants_data p') (with_data w) q.items n1 h;
        b_can = kept_some (wants_data p') (wants_data p) (with_data v) q.items n2 g;
        a_put = refl;
        b_put = refl;
        a_strays = refl;
        b_strays = refl;
        meet_queue = ap (λ r. record q { items = r }) (changes_comm (wants_data p) (wants_data p') (with_data v) (with_data w) q.items n1 n2
            (λ z a b. absurd (port_both z p p' _ _ ne a b)));
        meet_array = refl;
      }

  pub addr_data : (q : QueueState) (xs : List ℕ) (p p' v w : ℕ) → can depth groups q (Addr p) ≡ true → can depth groups q (Data p') ≡ true
      → Joined depth ports groups q xs (Addr p) (Data p') v w
  addr_data q xs p p' v w h g =
      record {
        a_can = kept_some (wants_addr p) (wants_data p') (with_data w) q.items (λ z k. refl) h;
        b_can = kept_some (wants_data p') (wants_addr p) (with_addr v) q.items (λ z k. refl) g;
        a_put = refl;
        b_put = refl;
        a_strays = refl;
        b_strays = refl;
        meet_queue = ap (λ r. record q { items = r }) (changes_comm (wants_addr p) (wants_data p') (with_addr v) (with_data w) q.items (λ z k. refl) (λ z k. refl) (λ z a b. refl));
        meet_array = refl;
      }

  pub addr_reply : (q : QueueState) (xs : List ℕ) (p p' v w : ℕ) → can depth groups q (Addr p) ≡ true → can depth groups q (Reply p') ≡ true
      → Joined depth ports groups q xs (Addr p) (Reply p') v w
  addr_reply q xs p p' v w h g =
      let r = reply_kept (wants_reply p') (wants_addr p) (with_addr v) q.items (λ z k. refl) g (λ x a b. (refl, refl)) in
      record {
        a_can = kept_some (wants_addr p) (wants_reply p') answered q.items (λ z k. refl) h;
        b_can = r.0;
        a_put = refl;
        b_put = ap Some r.1;
        a_strays = refl;
        b_strays = refl;
        meet_queue = ap (λ r. record q { items = r }) (changes_comm (wants_addr p) (wants_reply p') (with_addr v) answered q.items (λ z k. refl) (λ z k. refl) (λ z a b. refl));
        meet_array = refl;
      }

  pub data_reply : (q : QueueState) (xs : List ℕ) (p p' v w : ℕ) → can depth groups q (Data p) ≡ true → can depth groups q (Reply p') ≡ true
      → Joined depth ports groups q xs (Data p) (Reply p') v w
  data_reply q xs p p' v w h g =
      let r = reply_kept (wants_reply p') (wants_data p) (with_data v) q.items (λ z k. refl) g (λ x a b. (refl, refl)) in
      record {
        a_can = kept_some (wants_data p) (wants_reply p') answered q.items (λ z k. refl) h;
        b_can = r.0;
        a_put = refl;
        b_put = ap Some r.1;
        a_strays = refl;
        b_strays = refl;
        meet_queue = ap (λ r. record q { items = r }) (changes_comm (wants_data p) (wants_reply p') (with_data v) answered q.items (λ z k. refl) (λ z k. refl) (λ z a b. refl));
        meet_array = refl;
      }

  pub reply_reply : (q : QueueState) (xs : List ℕ) (p p' v w : ℕ) → p ≢ p' → can depth groups q (Reply p) ≡ true → can depth groups q (Reply p') ≡ true
      → Joined depth ports groups q xs (Reply p) (Reply p') v w
  reply_reply q xs p p' v w ne h g =
      let n1 : Neutral (wants_reply p) (wants_reply p') answered = λ z k. port_apart z p p' _ _ _ ne k in
      let n2 : Neutral (wants_reply p') (wants_reply p) answered = λ z k. port_apart z p' p _ _ _ (λ e. ne (sym e)) k in
      let r = reply_kept (wants_reply p) (wants_reply p') answered q.items n1 h (λ x a b. (refl, refl)) in
      let r' = reply_kept (wants_reply p') (wants_reply p) answered q.items n2 g (λ x a b. (refl, refl)) in
      record {
        a_can = r.0;
        b_can = r'.0;
        a_put = ap Some r.1;
        b_put = ap Some r'.1;
        a_strays = refl;
        b_strays = refl;
        meet_queue = ap (λ r. record q { items = r }) (changes_comm (wants_reply p) (wants_reply p') answered answered q.items n1 n2 (λ z a b. refl));
        meet_array = refl;
      }

pub ready_inv : (x : Entry) → ready x ≡ true → (x.done ≡ false) × (is_some x.addr ≡ true) × ((not x.store || is_some x.datum) ≡ true)
ready_inv x h =
    let a = and_inv (not x.done) (is_some x.addr && (not x.store || is_some x.datum)) h in
    let b = and_inv (is_some x.addr) (not x.store || is_some x.datum) a.1 in
    (by x.done a.0, b.0, b.1)
  where
    by : (d : Bool) → not d ≡ true → d ≡ false
    by true e = cc
    by false e = refl

pub exec_after : (fw : Bool) (is : List Entry) (e : ℕ) (x : Entry) (t' : Entry → Bool) (u' : Entry → Entry) → find (is_serial e) is ≡ Some x → ready x ≡ true → order_ok fw is x ≡ true
    → (find t' is ≡ Some x → ⊥) → Neutral (is_serial e) t' u' → ((y : Entry) → find t' is ≡ Some y → lets x y ≡ true → lets x (u' y) ≡ true)
    → ((y : Entry) → find t' is ≡ Some y → known x y ≡ true → known x (u' y) ≡ true)
    → (list_all (known x) is ≡ true → source_ok fw (last_such (waiting x) is) ≡ true → last_such (waiting x) (first_changed t' u' is) ≡ last_such (waiting x) is)
    → (find (is_serial e) (first_changed t' u' is) ≡ Some x) × (may_exec fw (first_changed t' u' is) (find (is_serial e) (first_changed t' u' is)) ≡ true)
    × ((xs : List ℕ) → exec_value xs (first_changed t' u' is) x ≡ exec_value xs is x)
exec_after fw is e x t' u' found r all other n keeps knows last =
    elim (find_kept (is_serial e) t' u' is x n found) [
      | inl k ↦ (let w = order x.store all in (k, rw (k, r) w.0, w.1))
      | inr k ↦ absurd (other k.0)
    ]
  where
    order : (b : Bool) → cond b (list_all (lets x) is) (list_all (known x) is && source_ok fw (last_such (waiting x) is)) ≡ true
        → (cond b (list_all (lets x) (first_changed t' u' is)) (list_all (known x) (first_changed t' u' is) && source_ok fw (last_such (waiting x) (first_changed t' u' is))) ≡ true)
        × ((xs : List ℕ) → ◌≡◌ {A = ℕ} (cond b 0 (load_value xs x (last_such (waiting x) (first_changed t' u' is)))) (cond b 0 (load_value xs x (last_such (waiting x) is))))
    order true h = (all_kept (lets x) t' u' is h keeps, λ xs. refl)
    order false h =
        let w = and_inv (list_all (known x) is) (source_ok fw (last_such (waiting x) is)) h in
        let l = last w.0 w.1 in
        let k = all_kept (known x) t' u' is w.0 knows in
        (rw (l, k) w.1, λ xs. ap (load_value xs x) l)

-- an item without address that lets a load pass is no waiting store, before and after it gets one
pub addr_waits : (x y : Entry) (p v : ℕ) → wants_addr p y ≡ true → known x y ≡ true → (waiting x y ≡ false) × (waiting x (with_addr v y) ≡ false)
addr_waits x y p v h k =
    let b = and_inv (y.port == p) (is_none y.addr) h in
    by (nat_lt y.serial x.serial) y.store y.addr b.1 k (λ o. same o x.addr && not y.done) refl
  where
    by : (o s : Bool) (a : Option ℕ) → is_none a ≡ true → (not o || (not s || is_some a)) ≡ true → (f : Option ℕ → Bool) → f None ≡ false
        → ((o && (s && f a)) ≡ false) × ((o && (s && f (Some v))) ≡ false)
    by false s a n k f z = (refl, refl)
    by true false a n k f z = (refl, refl)
    by true true None n k f z = cc
    by true true (Some w) n k f z = cc

pub known_addr : (x y : Entry) (v : ℕ) → known x y ≡ true → known x (with_addr v y) ≡ true
known_addr x y v k = by (nat_lt y.serial x.serial) y.store
  where
    by : (o s : Bool) → (not o || (not s || true)) ≡ true
    by false s = refl
    by true false = refl
    by true true = refl

pub waits_store : (x y : Entry) → waiting x y ≡ true → (nat_lt y.serial x.serial ≡ true) × (y.store ≡ true) × (same y.addr x.addr ≡ true)
waits_store x y h =
    let a = and_inv (nat_lt y.serial x.serial) (y.store && (same y.addr x.addr && not y.done)) h in
    let b = and_inv y.store (same y.addr x.addr && not y.done) a.1 in
    let c = and_inv (same y.addr x.addr) (not y.done) b.1 in (a.0, b.0, c.0)

-- the last of a test passes it
pub last_holds : (t : Entry → Bool) (xs : List Entry) (y : Entry) → last_such t xs ≡ Some y → t y ≡ true
last_holds t [] y e = cc
last_holds t (x ∷ xs) y e = at (last_such t xs) refl e (last_holds t xs y)
  where
    here : (b : Bool) → t x ≡ b → cond b (Some x) None ≡ Some y → t y ≡ true
    here true is e = let k : x ≡ y = cc in rw (← k) is
    here false is e = cc

    at : (o : Option Entry) → last_such t xs ≡ o → later o (t x) x ≡ Some y → (last_such t xs ≡ Some y → t y ≡ true) → t y ≡ true
    at (Some z) is e r = r (is ∙ e)
    at None is e r = here (t x) refl e

pub data_last : (fw : Bool) (x : Entry) (p v : ℕ) (is : List Entry) → source_ok fw (last_such (waiting x) is) ≡ true
    → last_such (waiting x) (first_changed (wants_data p) (with_data v) is) ≡ last_such (waiting x) is
data_last fw x p v is s = elim (last_kept (waiting x) (wants_data p) (with_data v) is (λ z. refl)) [ inl e ↦ e | inr w ↦ at w.0 w.1 w.2 ]
  where
    none : (a b c : Bool) (o : Option ℕ) → a && (b && is_none o) ≡ true → (c && is_some o) ≡ true → ⊥
    none a b c (Some d) h g = let w = and_inv a (b && false) h in let z = and_inv b false w.1 in let k : false ≡ true = z.1 in cc
    none a b c None h g = let w = and_inv c false g in let k : false ≡ true = w.1 in cc

    at : (z : Entry) → find (wants_data p) is ≡ Some z → last_such (waiting x) is ≡ Some z → last_such (waiting x) (first_changed (wants_data p) (with_data v) is) ≡ last_such (waiting x) is
    at z f l =
        let g : source_ok fw (Some z) ≡ true = rw l at s in
        absurd (none (z.port == p) z.store fw z.datum (find_holds (wants_data p) is z f) g)

pub reply_last : (x : Entry) (p : ℕ) (is : List Entry) → last_such (waiting x) (first_changed (wants_reply p) answered is) ≡ last_such (waiting x) is
reply_last x p is = elim (last_kept (waiting x) (wants_reply p) answered is (λ z. refl)) [ inl e ↦ e | inr w ↦ at w.0 w.1 w.2 ]
  where
    no_store : (a b c : Bool) → a && (not b && c) ≡ true → b ≡ true → ⊥
    no_store a true c h g = let w = and_inv a false h in let k : false ≡ true = w.1 in cc
    no_store a false c h g = cc

    at : (z : Entry) → find (wants_reply p) is ≡ Some z → last_such (waiting x) is ≡ Some z → last_such (waiting x) (first_changed (wants_reply p) answered is) ≡ last_such (waiting x) is
    at z f l =
        let w = waits_store x z (last_holds (waiting x) is z l) in
        absurd (no_store (z.port == p) z.store (not z.replied) (find_holds (wants_reply p) is z f) w.1)

-- an item that is ready wants neither address nor data, and is no answered load
pub not_addr : (x : Entry) (p : ℕ) → ready x ≡ true → wants_addr p x ≡ true → ⊥
not_addr x p r h =
    let a = ready_inv x r in
    let b = and_inv (x.port == p) (is_none x.addr) h in
    by x.addr a.1 b.1
  where
    by : (o : Option ℕ) → is_some o ≡ true → is_none o ≡ true → ⊥
    by None e f = cc
    by (Some v) e f = cc

pub not_data : (x : Entry) (p : ℕ) → ready x ≡ true → wants_data p x ≡ true → ⊥
not_data x p r h =
    let a = ready_inv x r in
    let b = and_inv (x.port == p) (x.store && is_none x.datum) h in
    by x.store x.datum a.2 b.1
  where
    by : (s : Bool) (o : Option ℕ) → (not s || is_some o) ≡ true → (s && is_none o) ≡ true → ⊥
    by true None e f = cc
    by true (Some v) e f = cc
    by false o e f = cc

pub lets_addr : (x y : Entry) (p v : ℕ) → wants_addr p y ≡ true → lets x y ≡ true → lets x (with_addr v y) ≡ true
lets_addr x y p v h l =
    let b = and_inv (y.port == p) (is_none y.addr) h in
    by (nat_lt y.serial x.serial) (not y.store && not x.store) y.addr (λ o. y.done || not (same o x.addr)) b.1 l
  where
    by : (o s : Bool) (a : Option ℕ) (d : Option ℕ → Bool) → is_none a ≡ true → (not o || (s || (is_some a && d a))) ≡ true → (not o || (s || (true && d (Some v)))) ≡ true
    by false s a d n k = refl
    by true true a d n k = refl
    by true false None d n k = cc
    by true false (Some w) d n k = cc

pub lets_exec : (x y : Entry) (v : ℕ) → lets x y ≡ true → lets x (executed v y) ≡ true
lets_exec x y v l = by (nat_lt y.serial x.serial) (not y.store && not x.store) (is_some y.addr) y.done (not (same y.addr x.addr)) l
  where
    by : (o s a d m : Bool) → (not o || (s || (a && (d || m)))) ≡ true → (not o || (s || (a && (true || m)))) ≡ true
    by false s a d m k = refl
    by true true a d m k = refl
    by true false true d m k = refl
    by true false false d m k = cc

-- two items that may both execute are two loads, or have different addresses
abbrev pub Free : Entry → Entry → Type 0
Free x x' = ((x.store ≡ false) × (x'.store ≡ false)) ⊎ (or_zero x.addr ≢ or_zero x'.addr)

pub free_at : (s s' : Bool) (o o' : Option ℕ) → is_some o ≡ true → is_some o' ≡ true → ((not s && not s') || (is_some o && (false || not (same o o')))) ≡ true
    → ((s ≡ false) × (s' ≡ false)) ⊎ (or_zero o ≢ or_zero o')
free_at false false o o' i i' h = inl (refl, refl)
free_at s s' None o' i i' h = cc
free_at s s' (Some a) None i i' h = cc
free_at false true (Some a) (Some b) i i' h = inr (λ e. apart a b e h)
  where
    apart : (a b : ℕ) → a ≡ b → not (a == b) ≡ true → ⊥
    apart a b e n = let k : (a == b) ≡ true = eq-eqb a b e in let m : not (a == b) ≡ false = ap not k in cc
free_at true s' (Some a) (Some b) i i' h = inr (λ e. apart a b e h)
  where
    apart : (a b : ℕ) → a ≡ b → not (a == b) ≡ true → ⊥
    apart a b e n = let k : (a == b) ≡ true = eq-eqb a b e in let m : not (a == b) ≡ false = ap not k in cc

-- x is older than y
pub free_older : (x y : Entry) → ready x ≡ true → ready y ≡ true → x.serial < y.serial → lets y x ≡ true → Free x y
free_older x y r r' l h =
    let a = ready_inv x r in
    let b = ready_inv y r' in
    let o : nat_lt x.serial y.serial ≡ true = lt-ltb x.serial y.serial l in
    let g : ((not x.store && not y.store) || (is_some x.addr && (false || not (same x.addr y.addr)))) ≡ true = rw (o, a.0) at h in
    free_at x.store y.store x.addr y.addr a.1 b.1 g

pub free_flip : (x y : Entry) → Free x y → Free y x
free_flip x y (inl a) = inl (a.1, a.0)
free_flip x y (inr n) = inr (λ e. n (sym e))

pub value_past : (s s' : Bool) (xs : List ℕ) (a a' d : ℕ) → ((s ≡ false) × (s' ≡ false)) ⊎ (a ≢ a')
    → cond s 0 (get_or (cond s' (set xs a' d) xs) a 0) ≡ cond s 0 (get_or xs a 0)
value_past true s' xs a a' d f = refl
value_past false false xs a a' d f = refl
value_past false true xs a a' d (inl f) = let x : true ≡ false = f.1 in cc
value_past false true xs a a' d (inr n) = get_or-set_other xs a' a d 0 n

pub arrays_comm : (s s' : Bool) (xs : List ℕ) (a a' d d' : ℕ) → ((s ≡ false) × (s' ≡ false)) ⊎ (a ≢ a')
    → cond s (set (cond s' (set xs a' d') xs) a d) (cond s' (set xs a' d') xs) ≡ cond s' (set (cond s (set xs a d) xs) a' d') (cond s (set xs a d) xs)
arrays_comm false s' xs a a' d d' f = refl
arrays_comm true false xs a a' d d' f = refl
arrays_comm true true xs a a' d d' (inl f) = let x : true ≡ false = f.1 in cc
arrays_comm true true xs a a' d d' (inr n) = set_comm xs a' a d' d (λ e. n (sym e))

pub length-exec : (xs : List ℕ) (x : Entry) → length (exec_array xs x) ≡ length xs
length-exec xs x = by x.store
  where
    by : (s : Bool) → length (cond s (set xs (or_zero x.addr) (or_zero x.datum)) xs) ≡ length xs
    by true = length-set xs (or_zero x.addr) (or_zero x.datum)
    by false = refl

-- an execution after another

pub same_eq : (a b : Option ℕ) → same a b ≡ true → a ≡ b
same_eq None b e = cc
same_eq (Some a) None e = cc
same_eq (Some a) (Some b) e = ap Some (eqb-true a b e)

pub differ_zero : (a b : Option ℕ) → is_some a ≡ true → is_some b ≡ true → same a b ≡ false → or_zero a ≢ or_zero b
differ_zero None b p q s e = cc
differ_zero (Some a) None p q s e = cc
differ_zero (Some a) (Some b) p q s e = let k : (a == b) ≡ true = eq-eqb a b e in cc

pub get_past : (xs : List ℕ) (a : ℕ) → length xs ≤ a → get_or xs a 0 ≡ 0
get_past [] a l = refl
get_past (x ∷ xs) zero l = absurd (omega arith)
get_past (x ∷ xs) (suc a) l = get_past xs a (omega arith)

-- a load after the store that it would have been given
pub store_load : (xs : List ℕ) (a a' d : ℕ) → a ≡ a' → get_or (set xs a' d) a 0 ≡ cond (nat_lt a (length xs)) d 0
store_load xs a a' d e = elim (cases_lt a (length xs)) [
  | inl l ↦ (let k : nat_lt a (length xs) ≡ true = lt-ltb _ _ l in let g : get_or (set xs a d) a 0 ≡ d = get_or-set_same xs a d 0 l in rw (← e, k, g) refl)
  | inr l ↦ (let k : nat_lt a (length xs) ≡ false = le-ltb _ _ l in let n = length-set xs a' d in let g : get_or (set xs a' d) a 0 ≡ 0 = get_past (set xs a' d) a (omega arith) in rw (k, g) refl)
]

pub exec_waits : (x y : Entry) (v : ℕ) → waiting x (executed v y) ≡ false
exec_waits x y v = by (nat_lt y.serial x.serial) y.store (same y.addr x.addr)
  where
    by : (a b c : Bool) → (a && (b && (c && false))) ≡ false
    by false b c = refl
    by true false c = refl
    by true true false = refl
    by true true true = refl

pub older_waits : (x y h : Entry) → y.store ≡ true → waiting x y ≡ true → nat_lt h.serial y.serial ≡ true → lets y h ≡ true → waiting x h ≡ false
older_waits x y h st wt o l =
    let k = waits_store x y wt in
    let ad : y.addr ≡ x.addr = same_eq y.addr x.addr k.2 in
    let l' : ((not h.store && not true) || (is_some h.addr && (h.done || not (same h.addr x.addr)))) ≡ true = rw (o, st, ad) at l in
    by (nat_lt h.serial x.serial) h.store (is_some h.addr) h.done (same h.addr x.addr) l'
  where
    by : (a s i d m : Bool) → ((not s && not true) || (i && (d || not m))) ≡ true → (a && (s && (m && not d))) ≡ false
    by false s i d m e = refl
    by true false i d m e = refl
    by true true i d false e = refl
    by true true i true true e = refl
    by true true true false true e = cc
    by true true false false true e = cc

pub last_exec : (x y : Entry) (e v : ℕ) (is : List Entry) → rising is ≡ true → find (is_serial e) is ≡ Some y → waiting x y ≡ true → list_all (lets y) is ≡ true → y.store ≡ true
    → (last_such (waiting x) (first_changed (is_serial e) (executed v) is) ≡ last_such (waiting x) is)
    ⊎ ((last_such (waiting x) is ≡ Some y) × (last_such (waiting x) (first_changed (is_serial e) (executed v) is) ≡ None))
last_exec x y e v [] rise f wt l st = cc
last_exec x y e v (h ∷ tl) rise f wt l st = by (is_serial e h) f (last_exec x y e v tl)
  where
    here : h ≡ y → (o : Option Entry) → last_such (waiting x) tl ≡ o
        → (later o (waiting x (executed v h)) (executed v h) ≡ later o (waiting x h) h) ⊎ ((later o (waiting x h) h ≡ Some y) × (later o (waiting x (executed v h)) (executed v h) ≡ None))
    here hy (Some z) is = inl refl
    here hy None is =
        let a : waiting x h ≡ true = rw hy wt in
        let b = exec_waits x h v in
        inr (rw a (ap Some hy), rw b refl)

    by : (b : Bool) → cond b (Some h) (find (is_serial e) tl) ≡ Some y
        → (rising tl ≡ true → find (is_serial e) tl ≡ Some y → waiting x y ≡ true → list_all (lets y) tl ≡ true → y.store ≡ true
        → (last_such (waiting x) (first_changed (is_serial e) (executed v) tl) ≡ last_such (waiting x) tl)
        ⊎ ((last_such (waiting x) tl ≡ Some y) × (last_such (waiting x) (first_changed (is_serial e) (executed v) tl) ≡ None)))
        → (last_such (waiting x) (cond b (executed v h ∷ tl) (h ∷ first_changed (is_serial e) (executed v) tl)) ≡ last_such (waiting x) (h ∷ tl))
        ⊎ ((last_such (waiting x) (h ∷ tl) ≡ Some y) × (last_such (waiting x) (cond b (executed v h ∷ tl) (h ∷ first_changed (is_serial e) (executed v) tl)) ≡ None))
    by true q ih = here (let k : h ≡ y = cc in k) (last_such (waiting x) tl) refl
    by false q ih =
        let w = and_inv (list_all (above h) tl) (rising tl) rise in
        let u = and_inv (lets y h) (list_all (lets y) tl) l in
        let o : nat_lt h.serial y.serial ≡ true = all_found (above h) (is_serial e) tl y w.0 q in
        let z = older_waits x y h st wt o u.0 in
        elim (ih w.1 q wt u.1 st) [
          | inl k ↦ inl (ap (λ o. later o (waiting x h) h) k)
          | inr k ↦ inr (ap (λ o. later o (waiting x h) h) k.0, (last_dropped (waiting x) h (first_changed (is_serial e) (executed v) tl) z ∙ k.1))
        ]

pub first_of_two : (b c d : Bool) → b ≡ true → cond b c d ≡ true → c ≡ true
first_of_two true c d e h = h
first_of_two false c d e h = cc

pub store_order : (fw : Bool) (is : List Entry) (x : Entry) → x.store ≡ true → order_ok fw is x ≡ true → list_all (lets x) is ≡ true
store_order fw is x st h = first_of_two x.store (list_all (lets x) is) (list_all (known x) is && source_ok fw (last_such (waiting x) is)) st h

-- x may still execute, with the same value, after y
pub exec_past : (fw : Bool) (is : List Entry) (e e' : ℕ) (x y : Entry) (v : ℕ) (xs : List ℕ) → e ≢ e' → rising is ≡ true
    → find (is_serial e) is ≡ Some x → ready x ≡ true → order_ok fw is x ≡ true → find (is_serial e') is ≡ Some y → ready y ≡ true → order_ok fw is y ≡ true
    → (find (is_serial e) (first_changed (is_serial e') (executed v) is) ≡ Some x)
    × (may_exec fw (first_changed (is_serial e') (executed v) is) (find (is_serial e) (first_changed (is_serial e') (executed v) is)) ≡ true)
    × (exec_value (exec_array xs y) (first_changed (is_serial e') (executed v) is) x ≡ exec_value xs is x)
exec_past fw is e e' x y v xs ne rise found r all found' r' all' =
    elim (find_kept (is_serial e) (is_serial e') (executed v) is x (λ z c. refl) found) [
      | inl k ↦ (let w = order x.store refl all in (k, rw (k, r) w.0, w.1))
      | inr k ↦ absurd (ne (let a : x.serial ≡ e' = eqb-true _ _ (find_holds (is_serial e') is x k.0) in let b : x.serial ≡ e = eqb-true _ _ (find_holds (is_serial e) is x found) in omega arith))
    ]
  where
    sx : x.serial ≡ e
    sx = eqb-true _ _ (find_holds (is_serial e) is x found)

    sy : y.serial ≡ e'
    sy = eqb-true _ _ (find_holds (is_serial e') is y found')

    order : (b : Bool) → x.store ≡ b → cond b (list_all (lets x) is) (list_all (known x) is && source_ok fw (last_such (waiting x) is)) ≡ true
        → (cond b (list_all (lets x) (first_changed (is_serial e') (executed v) is)) (list_all (known x) (first_changed (is_serial e') (executed v) is) && source_ok fw (last_such (waiting x) (first_changed (is_serial e') (executed v) is))) ≡ true)
        × (◌≡◌ {A = ℕ} (cond b 0 (load_value (exec_array xs y) x (last_such (waiting x) (first_changed (is_serial e') (executed v) is)))) (cond b 0 (load_value xs x (last_such (waiting x) is))))
    order true xst h = (all_kept (lets x) (is_serial e') (executed v) is h (λ z f l. lets_exec x z v l), refl)
    order false xst h =
        let w = and_inv (list_all (known x) is) (source_ok fw (last_such (waiting x) is)) h in
        ways y.store refl (waiting x y) refl w.0 w.1
      where
        is_y : (z : Entry) → find (is_serial e') is ≡ Some z → z ≡ y
        is_y z f = let k : Some z ≡ Some y = sym f ∙ found' in cc

        same_last : waiting x y ≡ false → last_such (waiting x) (first_changed (is_serial e') (executed v) is) ≡ last_such (waiting x) is
        same_last n = last_same (waiting x) (is_serial e') (executed v) is (λ z f. (let k = is_y z f in rw k n, exec_waits x z v))

        apart : y.store ≡ true → waiting x y ≡ false → or_zero x.addr ≢ or_zero y.addr
        apart st n = elim (cases_lt x.serial y.serial) [
          | inl l ↦ younger l
          | inr l ↦ (let a = sx in let b = sy in let d : y.serial < x.serial = (let m : x.serial ≢ y.serial = λ z. ne (omega arith) in omega arith) in older d)
        ]
          where
            younger : x.serial < y.serial → or_zero x.addr ≢ or_zero y.addr
            younger l =
                let ly : list_all (lets y) is ≡ true = store_order fw is y st all' in
                let fr = free_older x y r r' l (all_found (lets y) (is_serial e) is x ly found) in pick fr
              where
                pick : Free x y → or_zero x.addr ≢ or_zero y.addr
                pick (inl f) = let z : y.store ≡ false = f.1 in cc
                pick (inr m) = m

            older : y.serial < x.serial → or_zero x.addr ≢ or_zero y.addr
            older l =
                let o : nat_lt y.serial x.serial ≡ true = lt-ltb _ _ l in
                let d : y.done ≡ false = (ready_inv y r').0 in
                let n' : (same y.addr x.addr && true) ≡ false = rw (o, st, d) at n in
                let m : same y.addr x.addr ≡ false = and_true_false (same y.addr x.addr) n' in
                let k = differ_zero y.addr x.addr (ready_inv y r').1 (ready_inv x r).1 m in λ z. k (sym z)
              where
                and_true_false : (b : Bool) → (b && true) ≡ false → b ≡ false
                and_true_false true e = cc
                and_true_false false e = refl

        value : (a : ℕ) → or_zero x.addr ≢ a → (d : ℕ) (o : Option Entry) → load_value (set xs a d) x o ≡ load_value xs x o
        value a m d None = get_or-set_other xs a (or_zero x.addr) d 0 m
        value a m d (Some z) = let k = length-set xs a d in rw k refl

        no_wait : (p s c : Bool) → s ≡ false → (p && (s && c)) ≡ false
        no_wait p true c e = cc
        no_wait false false c e = refl
        no_wait true false c e = refl

        ways : (b : Bool) → y.store ≡ b → (c : Bool) → waiting x y ≡ c → list_all (known x) is ≡ true → source_ok fw (last_such (waiting x) is) ≡ true
            → ((list_all (known x) (first_changed (is_serial e') (executed v) is) && source_ok fw (last_such (waiting x) (first_changed (is_serial e') (executed v) is))) ≡ true)
            × (load_value (exec_array xs y) x (last_such (waiting x) (first_changed (is_serial e') (executed v) is)) ≡ load_value xs x (last_such (waiting x) is))
        ways false st c wt kn so =
            let n : waiting x y ≡ false = no_wait (nat_lt y.serial x.serial) y.store (same y.addr x.addr && not y.done) st in
            let l = same_last n in
            let kn' = all_kept (known x) (is_serial e') (executed v) is kn (λ z f h. h) in
            let ar : exec_array xs y ≡ xs = rw st refl in
            (rw (kn', l) so, rw (ar, l) refl)
        ways true st false wt kn so =
            let l = same_last wt in
            let kn' = all_kept (known x) (is_serial e') (executed v) is kn (λ z f h. h) in
            let ar : exec_array xs y ≡ set xs (or_zero y.addr) (or_zero y.datum) = rw st refl in
            (rw (kn', l) so, rw (ar, l) (value (or_zero y.addr) (apart st wt) (or_zero y.datum) (last_such (waiting x) is)))
        ways true st true wt kn so =
            let ly : list_all (lets y) is ≡ true = store_order fw is y st all' in
            let kn' = all_kept (known x) (is_serial e') (executed v) is kn (λ z f h. h) in
            let ar : exec_array xs y ≡ set xs (or_zero y.addr) (or_zero y.datum) = rw st refl in
            elim (last_exec x y e' v is rise found' wt ly st) [
              | inl l ↦ (rw (kn', l) so, rw (ar, l) (given (last_such (waiting x) is) refl))
              | inr l ↦ (
                rw (kn', l.1) refl,
                rw (ar, l.1, l.0) (store_load xs (or_zero x.addr) (or_zero y.addr) (or_zero y.datum)
                    (let k = same_eq y.addr x.addr (waits_store x y wt).2 in ap or_zero (sym k))),
              )
            ]
          where
            given : (o : Option Entry) → last_such (waiting x) is ≡ o → load_value (set xs (or_zero y.addr) (or_zero y.datum)) x o ≡ load_value xs x o
            given None l = let n = last_none (waiting x) (is_serial e') is y l found' in cc
            given (Some z) l = let k = length-set xs (or_zero y.addr) (or_zero y.datum) in rw k refl

-- the array after two executions
pub arrays_meet : (fw : Bool) (is : List Entry) (e e' : ℕ) (x y : Entry) (xs : List ℕ) → e ≢ e'
    → find (is_serial e) is ≡ Some x → ready x ≡ true → order_ok fw is x ≡ true → find (is_serial e') is ≡ Some y → ready y ≡ true → order_ok fw is y ≡ true
    → exec_array (exec_array xs y) x ≡ exec_array (exec_array xs x) y
arrays_meet fw is e e' x y xs ne found r all found' r' all' = by x.store y.store apart
  where
    pick : Free x y → x.store ≡ true → or_zero x.addr ≢ or_zero y.addr
    pick (inl f) st = let z : x.store ≡ false = f.0 in cc
    pick (inr m) st = m

    apart : x.store ≡ true → y.store ≡ true → or_zero x.addr ≢ or_zero y.addr
    apart sx sy =
        let a : x.serial ≡ e = eqb-true _ _ (find_holds (is_serial e) is x found) in
        let b : y.serial ≡ e' = eqb-true _ _ (find_holds (is_serial e') is y found') in
        let lx : list_all (lets x) is ≡ true = store_order fw is x sx all in
        let ly : list_all (lets y) is ≡ true = store_order fw is y sy all' in
        elim (cases_lt x.serial y.serial) [
          | inl l ↦ pick (free_older x y r r' l (all_found (lets y) (is_serial e) is x ly found)) sx
          | inr l ↦ pick (free_flip y x (free_older y x r' r (let n : x.serial ≢ y.serial = λ s. ne (omega arith) in omega arith) (all_found (lets x) (is_serial e') is y lx found'))) sx
        ]

    by : (s s' : Bool) → (s ≡ true → s' ≡ true → or_zero x.addr ≢ or_zero y.addr)
        → cond s (set (cond s' (set xs (or_zero y.addr) (or_zero y.datum)) xs) (or_zero x.addr) (or_zero x.datum)) (cond s' (set xs (or_zero y.addr) (or_zero y.datum)) xs)
        ≡ cond s' (set (cond s (set xs (or_zero x.addr) (or_zero x.datum)) xs) (or_zero y.addr) (or_zero y.datum)) (cond s (set xs (or_zero x.addr) (or_zero x.datum)) xs)
    by false s' f = refl
    by true false f = refl
    by true true f = set_comm xs (or_zero y.addr) (or_zero x.addr) (or_zero y.datum) (or_zero x.datum) (λ z. f refl refl (sym z))

module _ (depth : ℕ) (ports : List Port) (groups : List (List ℕ)) where
  pub exec_addr : (q : QueueState) (xs : List ℕ) (e p v w : ℕ) → can depth groups q (Exec e) ≡ true → can depth groups q (Addr p) ≡ true
      → Joined depth ports groups q xs (Exec e) (Addr p) v w
  exec_addr q xs e p v w h g =
      let i = exec_inv q.forward q.items (find (is_serial e) q.items) h in at i.0 i.1 i.2 i.3
    where
      at : (x : Entry) → find (is_serial e) q.items ≡ Some x → ready x ≡ true → order_ok q.forward q.items x ≡ true → Joined depth ports groups q xs (Exec e) (Addr p) v w
      at x found r all =
          let k = exec_after q.forward q.items e x (wants_addr p) (with_addr w) found r all
          (λ f. not_addr x p r (find_holds (wants_addr p) q.items x f)) (λ z c. refl)
          (λ y f l. lets_addr x y p w (find_holds (wants_addr p) q.items y f) l)
          (λ y f l. known_addr x y w l)
          (λ a o. last_same (waiting x) (wants_addr p) (with_addr w) q.items
          (λ y f. addr_waits x y p w (find_holds (wants_addr p) q.items y f) (all_found (known x) (wants_addr p) q.items y a f))) in
          let after = k.0 in
          let val = k.2 xs in
          record {
            a_can = k.1;
            b_can = rw found (kept_some (wants_addr p) (is_serial e) (executed (exec_value xs q.items x)) q.items (λ z c. refl) g);
            a_put = rw (after, found) refl;
            b_put = refl;
            a_strays = rw (after, found) refl;
            b_strays = refl;
            meet_queue = rw (after, found, val) (ap (λ r. record q { items = r })
                (changes_comm (is_serial e) (wants_addr p) (executed (exec_value xs q.items x)) (with_addr w) q.items (λ z c. refl) (λ z c. refl) (λ z c d. refl)));
            meet_array = rw (after, found) refl;
          }

  pub exec_data : (q : QueueState) (xs : List ℕ) (e p v w : ℕ) → can depth groups q (Exec e) ≡ true → can depth groups q (Data p) ≡ true
      → Joined depth ports groups q xs (Exec e) (Data p) v w
  exec_data q xs e p v w h g =
      let i = exec_inv q.forward q.items (find (is_serial e) q.items) h in at i.0 i.1 i.2 i.3
    where
      at : (x : Entry) → find (is_serial e) q.items ≡ Some x → ready x ≡ true → order_ok q.forward q.items x ≡ true → Joined depth ports groups q xs (Exec e) (Data p) v w
      at x found r all =
          let k = exec_after q.forward q.items e x (wants_data p) (with_data w) found r all
          (λ f. not_data x p r (find_holds (wants_data p) q.items x f)) (λ z c. refl) (λ y f l. l) (λ y f l. l) (λ a o. data_last q.forward x p w q.items o) in
          let after = k.0 in
          let val = k.2 xs in
          record {
            a_can = k.1;
            b_can = rw found (kept_some (wants_data p) (is_serial e) (executed (exec_value xs q.items x)) q.items (λ z c. refl) g);
            a_put = rw (after, found) refl;
            b_put = refl;
            a_strays = rw (after, found) refl;
            b_strays = refl;
            meet_queue = rw (after, found, val) (ap (λ r. record q { items = r })
                (changes_comm (is_serial e) (wants_data p) (executed (exec_value xs q.items x)) (with_data w) q.items (λ z c. refl) (λ z c. refl) (λ z c d. refl)));
            meet_array = rw (after, found) refl;
          }

  pub exec_reply : (q : QueueState) (xs : List ℕ) (e p v w : ℕ) → can depth groups q (Exec e) ≡ true → can depth groups q (Reply p) ≡ true
      → Joined depth ports groups q xs (Exec e) (Reply p) v w
  exec_reply q xs e p v w h g =
      let i = exec_inv q.forward q.items (find (is_serial e) q.items) h in
      let j = done_inv (find (wants_reply p) q.items) g in
      at i.0 j.0 i.1 i.2 i.3 j.1 j.2
    where
      at : (x y : Entry) → find (is_serial e) q.items ≡ Some x → ready x ≡ true → order_ok q.forward q.items x ≡ true
          → find (wants_reply p) q.items ≡ Some y → y.done ≡ true → Joined depth ports groups q xs (Exec e) (Reply p) v w
      at x y found r all answer d =
          let not_done : x.done ≡ false = (ready_inv x r).0 in
          let differ : x ≡ y → ⊥ = λ s. (let c : x.done ≡ true = rw s d in cc) in
          let k = exec_after q.forward q.items e x (wants_reply p) answered found r all
          (λ f. differ (let z : Some x ≡ Some y = sym f ∙ answer in cc)) (λ z c. refl) (λ z f l. l) (λ z f l. l) (λ a o. reply_last x p q.items) in
          let after = k.0 in
          let val = k.2 xs in
          let m = reply_kept (wants_reply p) (is_serial e) (executed (exec_value xs q.items x)) q.items (λ z c. refl) g
          (λ z a b. absurd (differ (let s1 : Some x ≡ Some z = sym found ∙ b in let s2 : Some y ≡ Some z = sym answer ∙ a in cc))) in
          record {
            a_can = k.1;
            b_can = rw found m.0;
            a_put = rw (after, found) refl;
            b_put = rw found (ap Some m.1);
            a_strays = rw (after, found) refl;
            b_strays = refl;
            meet_queue = rw (after, found, val) (ap (λ r. record q { items = r })
                (changes_comm (is_serial e) (wants_reply p) (executed (exec_value xs q.items x)) answered q.items (λ z c. refl) (λ z c. refl) (λ z c d. refl)));
            meet_array = rw (after, found) refl;
          }

  pub exec_exec : (q : QueueState) (xs : List ℕ) (e e' v w : ℕ) → e ≢ e' → rising q.items ≡ true → can depth groups q (Exec e) ≡ true → can depth groups q (Exec e') ≡ true
      → Joined depth ports groups q xs (Exec e) (Exec e') v w
  exec_exec q xs e e' v w ne rise h g =
      let i = exec_inv q.forward q.items (find (is_serial e) q.items) h in
      let j = exec_inv q.forward q.items (find (is_serial e') q.items) g in
      at i.0 j.0 i.1 i.2 i.3 j.1 j.2 j.3
    where
      at : (x y : Entry) → find (is_serial e) q.items ≡ Some x → ready x ≡ true → order_ok q.forward q.items x ≡ true
          → find (is_serial e') q.items ≡ Some y → ready y ≡ true → order_ok q.forward q.items y ≡ true → Joined depth ports groups q xs (Exec e) (Exec e') v w
      at x y found r all found' r' all' =
          let k = exec_past q.forward q.items e e' x y (exec_value xs q.items y) xs ne rise found r all found' r' all' in
          let k' = exec_past q.forward q.items e' e y x (exec_value xs q.items x) xs (λ z. ne (sym z)) rise found' r' all' found r all in
          let after = k.0 in
          let after' = k'.0 in
          let vx = k.2 in
          let vy = k'.2 in
          let lx : length (exec_array xs x) ≡ length xs = length-exec xs x in
          let ly : length (exec_array xs y) ≡ length xs = length-exec xs y in
          record {
            a_can = rw found' k.1;
            b_can = rw found k'.1;
            a_put = rw (found', after, found) refl;
            b_put = rw (found, after', found') refl;
            a_strays = rw (found', after, found, ly) refl;
            b_strays = rw (found, after', found', lx) refl;
            meet_queue = rw (found, found', after, after', vx, vy) (ap (λ r. record q { items = r })
                (changes_comm (is_serial e) (is_serial e') (executed (exec_value xs q.items x)) (executed (exec_value xs q.items y)) q.items (λ z c. refl) (λ z c. refl)
                (λ z c d. absurd (ne (let a : z.serial ≡ e = eqb-true _ _ c in let b : z.serial ≡ e' = eqb-true _ _ d in omega arith)))));
            meet_array = rw (found, found', after, after') (arrays_meet q.forward q.items e e' x y xs ne found r all found' r' all');
          }
