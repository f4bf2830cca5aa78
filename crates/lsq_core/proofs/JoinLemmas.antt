-- Two acts of one queue in either order, and what acts keep.
use Rattle.std.proofs.Common.{◌≡◌, ◌≢◌, ℕ, suc, ◌+◌, ◌<◌, ◌≤◌, ◌⊎◌, ◌||◌, ◌&&◌, ◌==◌, not, Bool, true, false, cond, Option, Some, None, List, [], ◌∷◌, ◌++◌, length, get_or, refl, sym, ap, ◌∙◌, inl, inr, arith, is_some, is_none, nat_lt, nat_le, lt-ltb, le-ltb, ltb-true, leb-true, le-leb}
use Rattle.std.proofs.lemmas.Bool.{cases_eq}
use Rattle.std.specs.List.{find, list_all}
use Rattle.net_types.specs.declared.net.Port.{Port}
use Rattle.net_types.specs.declared.firing.Act.{Act}
use Rattle.net_types.specs.declared.firing.Act.TheVariants.{Go, From, Send, Alloc, Addr, Data, Exec, Reply, Retire, End}
use Rattle.lsq_core.specs.declared.entry.Entry.{Entry}
use Rattle.lsq_core.specs.Acts.{QueueState, first_changed, wants_addr, wants_data, wants_reply, is_serial, with_addr, with_data, executed, answered, same, lets, ready, spent, spent_first, is_nil, rest, fresh, can, step, known, waiting, last_such, source_ok, order_ok, load_value, exec, exec_value, exec_array, is_control}
use Rattle.lsq_core.specs.Laws.{sound, below, above, rising, IsConsistent, Joined, ActsJoin, StaysConsistent}
use Rattle.lsq_core.proofs.EntryLemmas.{all_kept, and_inv, all_found, find_appended, change_appended, all_appended, length-first_changed, last_dropped, last_appended, rising_kept, rising_appended}
use Rattle.lsq_core.proofs.PairLemmas.{some_inv, done_inv, exec_inv, queue, flip, addr_addr, data_data, addr_data, addr_reply, data_reply, reply_reply, ready_inv, exec_addr, exec_data, exec_reply, exec_exec}

-- what is spent wants nothing
spent_addr : (x : Entry) (p : ℕ) → spent x ≡ true → sound x ≡ true → wants_addr p x ≡ false
spent_addr x p h s = by (x.port == p) x.done (x.store || x.replied) x.addr (not x.store || is_some x.datum) h s
  where
    by : (b d r : Bool) (o : Option ℕ) (c : Bool) → d && r ≡ true → (not d || (is_some o && c)) ≡ true → b && is_none o ≡ false
    by false d r o c h s = refl
    by true d r (Some v) c h s = refl
    by true true r None c h s = cc
    by true false r None c h s = cc

spent_data : (x : Entry) (p : ℕ) → spent x ≡ true → sound x ≡ true → wants_data p x ≡ false
spent_data x p h s = by (x.port == p) x.done (x.store || x.replied) (is_some x.addr) x.store x.datum h s
  where
    by : (b d r a t : Bool) (o : Option ℕ) → d && r ≡ true → (not d || (a && (not t || is_some o))) ≡ true → b && (t && is_none o) ≡ false
    by false d r a t o h s = refl
    by true d r a false o h s = refl
    by true d r a true (Some v) h s = refl
    by true true r true true None h s = cc
    by true true r false true None h s = cc
    by true false r a true None h s = cc

spent_reply : (x : Entry) (p : ℕ) → spent x ≡ true → wants_reply p x ≡ false
spent_reply x p h = by (x.port == p) x.done x.store x.replied h
  where
    by : (b d t r : Bool) → d && (t || r) ≡ true → b && (not t && not r) ≡ false
    by false d t r h = refl
    by true d true r h = refl
    by true d false true h = refl
    by true true false false h = cc
    by true false false false h = cc

spent_done : (x : Entry) → spent x ≡ true → x.done ≡ true
spent_done x h = (and_inv x.done (x.store || x.replied) h).0

fresh_known : (ports : List Port) (x : Entry) (n : ℕ) (ps : List ℕ) → x.serial ≤ n → (list_all (known x) (fresh n ports ps) ≡ true) × (last_such (waiting x) (fresh n ports ps) ≡ None)
fresh_known ports x n [] h = (refl, refl)
fresh_known ports x n (p ∷ ps) h =
    let e : nat_lt n x.serial ≡ false = le-ltb n x.serial h in
    let w = fresh_known ports x (suc n) ps (omega arith) in
    (rw e w.0, rw (e, w.1) refl)

fresh_lets : (ports : List Port) (x : Entry) (n : ℕ) (ps : List ℕ) → x.serial ≤ n → list_all (lets x) (fresh n ports ps) ≡ true
fresh_lets ports x n [] h = refl
fresh_lets ports x n (p ∷ ps) h =
    let e : nat_lt n x.serial ≡ false = le-ltb n x.serial h in
    rw e (fresh_lets ports x (suc n) ps (omega arith))

fresh_order : (ports : List Port) (fw : Bool) (x : Entry) (n : ℕ) (is : List Entry) (ps : List ℕ) → x.serial ≤ n → order_ok fw is x ≡ true
    → (order_ok fw (is ++ fresh n ports ps) x ≡ true) × ((xs : List ℕ) → exec_value xs (is ++ fresh n ports ps) x ≡ exec_value xs is x)
fresh_order ports fw x n is ps l o = by x.store o
  where
    last : last_such (waiting x) (is ++ fresh n ports ps) ≡ last_such (waiting x) is
    last = last_appended (waiting x) is (fresh n ports ps) (fresh_known ports x n ps l).1

    by : (b : Bool) → cond b (list_all (lets x) is) (list_all (known x) is && source_ok fw (last_such (waiting x) is)) ≡ true
        → (cond b (list_all (lets x) (is ++ fresh n ports ps)) (list_all (known x) (is ++ fresh n ports ps) && source_ok fw (last_such (waiting x) (is ++ fresh n ports ps))) ≡ true)
        × ((xs : List ℕ) → ◌≡◌ {A = ℕ} (cond b 0 (load_value xs x (last_such (waiting x) (is ++ fresh n ports ps)))) (cond b 0 (load_value xs x (last_such (waiting x) is))))
    by true k = (all_appended (lets x) is (fresh n ports ps) k (fresh_lets ports x n ps l), λ xs. refl)
    by false k =
        let w = and_inv (list_all (known x) is) (source_ok fw (last_such (waiting x) is)) k in
        let a = all_appended (known x) is (fresh n ports ps) w.0 (fresh_known ports x n ps l).0 in
        (rw (a, last) w.1, λ xs. ap (load_value xs x) last)

module _ (depth : ℕ) (ports : List Port) (groups : List (List ℕ)) where
  retire_addr : (fw : Bool) (n : ℕ) (hd : Entry) (tl : List Entry) (xs : List ℕ) (p v w : ℕ) → spent hd ≡ true → sound hd ≡ true → can depth groups (queue fw n (hd ∷ tl)) (Addr p) ≡ true
      → Joined depth ports groups (queue fw n (hd ∷ tl)) xs Retire (Addr p) v w
  retire_addr fw n hd tl xs p v w h s g =
      let f : wants_addr p hd ≡ false = spent_addr hd p h s in
      record { a_can = rw f h; b_can = rw f at g; a_put = refl; b_put = refl; a_strays = refl; b_strays = refl; meet_queue = rw f refl; meet_array = refl }

  retire_data : (fw : Bool) (n : ℕ) (hd : Entry) (tl : List Entry) (xs : List ℕ) (p v w : ℕ) → spent hd ≡ true → sound hd ≡ true → can depth groups (queue fw n (hd ∷ tl)) (Data p) ≡ true
      → Joined depth ports groups (queue fw n (hd ∷ tl)) xs Retire (Data p) v w
  retire_data fw n hd tl xs p v w h s g =
      let f : wants_data p hd ≡ false = spent_data hd p h s in
      record { a_can = rw f h; b_can = rw f at g; a_put = refl; b_put = refl; a_strays = refl; b_strays = refl; meet_queue = rw f refl; meet_array = refl }

  retire_reply : (fw : Bool) (n : ℕ) (hd : Entry) (tl : List Entry) (xs : List ℕ) (p v w : ℕ) → spent hd ≡ true → can depth groups (queue fw n (hd ∷ tl)) (Reply p) ≡ true
      → Joined depth ports groups (queue fw n (hd ∷ tl)) xs Retire (Reply p) v w
  retire_reply fw n hd tl xs p v w h g =
      let f : wants_reply p hd ≡ false = spent_reply hd p h in
      record { a_can = rw f h; b_can = rw f at g; a_put = refl; b_put = rw f refl; a_strays = refl; b_strays = refl; meet_queue = rw f refl; meet_array = refl }

  retire_exec : (fw : Bool) (n : ℕ) (hd : Entry) (tl : List Entry) (xs : List ℕ) (e v w : ℕ) → spent hd ≡ true → can depth groups (queue fw n (hd ∷ tl)) (Exec e) ≡ true
      → Joined depth ports groups (queue fw n (hd ∷ tl)) xs Retire (Exec e) v w
  retire_exec fw n hd tl xs e v w h g =
      let i = exec_inv fw (hd ∷ tl) (find (is_serial e) (hd ∷ tl)) g in
      other (is_serial e hd) refl i.0 i.1 i.2 i.3
    where
      order : (x : Entry) → order_ok fw (hd ∷ tl) x ≡ true → (order_ok fw tl x ≡ true) × (exec_value xs (hd ∷ tl) x ≡ exec_value xs tl x)
      order x o = by x.store o
        where
          done_waits : (a b c d : Bool) → d ≡ true → (a && (b && (c && not d))) ≡ false
          done_waits a b c false e = cc
          done_waits false b c true e = refl
          done_waits true false c true e = refl
          done_waits true true false true e = refl
          done_waits true true true true e = refl

          drop : last_such (waiting x) (hd ∷ tl) ≡ last_such (waiting x) tl
          drop = last_dropped (waiting x) hd tl (done_waits (nat_lt hd.serial x.serial) hd.store (same hd.addr x.addr) hd.done (spent_done hd h))

          by : (b : Bool) → cond b (list_all (lets x) (hd ∷ tl)) (list_all (known x) (hd ∷ tl) && source_ok fw (last_such (waiting x) (hd ∷ tl))) ≡ true
              → (cond b (list_all (lets x) tl) (list_all (known x) tl && source_ok fw (last_such (waiting x) tl)) ≡ true)
              × (◌≡◌ {A = ℕ} (cond b 0 (load_value xs x (last_such (waiting x) (hd ∷ tl)))) (cond b 0 (load_value xs x (last_such (waiting x) tl))))
          by true k = ((and_inv (lets x hd) (list_all (lets x) tl) k).1, refl)
          by false k =
              let w = and_inv (known x hd && list_all (known x) tl) (source_ok fw (last_such (waiting x) (hd ∷ tl))) k in
              let z = and_inv (known x hd) (list_all (known x) tl) w.0 in
              let so : source_ok fw (last_such (waiting x) tl) ≡ true = sym (ap (source_ok fw) drop) ∙ w.1 in
              (rw (z.1, so) refl, ap (load_value xs x) drop)

      other : (b : Bool) → is_serial e hd ≡ b → (x : Entry) → cond (is_serial e hd) (Some hd) (find (is_serial e) tl) ≡ Some x → ready x ≡ true → order_ok fw (hd ∷ tl) x ≡ true
          → Joined depth ports groups (queue fw n (hd ∷ tl)) xs Retire (Exec e) v w
      other true f x found r all =
          let y : Some hd ≡ Some x = rw f at found in
          let z : hd ≡ x = cc in
          let d : x.done ≡ true = rw (← z) (spent_done hd h) in
          let d' : x.done ≡ false = (ready_inv x r).0 in cc
      other false f x found r all =
          let found' : find (is_serial e) tl ≡ Some x = rw f at found in
          let all' = order x all in
          let val = all'.1 in
          let head : find (is_serial e) (hd ∷ tl) ≡ Some x = found in
          record {
            a_can = rw (f, found', f) h;
            b_can = rw (found', r) all'.0;
            a_put = refl;
            b_put = rw (f, found') refl;
            a_strays = refl;
            b_strays = rw (f, found') refl;
            meet_queue =
                (let left : (step ports groups (exec (queue fw n (hd ∷ tl)) xs e (Some x)).queue (exec_array xs x) Retire v).queue ≡ queue fw n (first_changed (is_serial e) (executed (exec_value xs (hd ∷ tl) x)) tl) =
                ap (λ b. queue fw n (rest (cond b (executed (exec_value xs (hd ∷ tl) x) hd ∷ tl) (hd ∷ first_changed (is_serial e) (executed (exec_value xs (hd ∷ tl) x)) tl)))) f in
                let right : (exec (queue fw n tl) xs e (find (is_serial e) tl)).queue ≡ queue fw n (first_changed (is_serial e) (executed (exec_value xs tl x)) tl) = ap (λ o. (exec (queue fw n tl) xs e o).queue) found' in
                let first : (step ports groups (exec (queue fw n (hd ∷ tl)) xs e (find (is_serial e) (hd ∷ tl))).queue (exec (queue fw n (hd ∷ tl)) xs e (find (is_serial e) (hd ∷ tl))).array Retire v).queue
                ≡ (step ports groups (exec (queue fw n (hd ∷ tl)) xs e (Some x)).queue (exec_array xs x) Retire v).queue =
                ap (λ o. (step ports groups (exec (queue fw n (hd ∷ tl)) xs e o).queue (exec (queue fw n (hd ∷ tl)) xs e o).array Retire v).queue) head in
                first ∙ (left ∙ (ap (λ z. queue fw n (first_changed (is_serial e) (executed z) tl)) val ∙ sym right)));
            meet_array = rw (f, found') refl;
          }

  alloc_addr : (q : QueueState) (xs : List ℕ) (k p v w : ℕ) → can depth groups q (Alloc k) ≡ true → can depth groups q (Addr p) ≡ true
      → Joined depth ports groups q xs (Alloc k) (Addr p) v w
  alloc_addr q xs k p v w h g = let i = some_inv (find (wants_addr p) q.items) g in at i.0 i.1
    where
      at : (x : Entry) → find (wants_addr p) q.items ≡ Some x → Joined depth ports groups q xs (Alloc k) (Addr p) v w
      at x found =
          let f = find_appended (wants_addr p) q.items (fresh q.next ports (get_or groups k [])) x found in
          record {
            a_can = rw (length-first_changed (wants_addr p) (with_addr w) q.items) h;
            b_can = rw f refl;
            a_put = refl;
            b_put = refl;
            a_strays = refl;
            b_strays = refl;
            meet_queue = ap (λ r. record q { next = q.next + length (get_or groups k []); items = r })
                (sym (change_appended (wants_addr p) (with_addr w) q.items (fresh q.next ports (get_or groups k [])) x found));
            meet_array = refl;
          }

  alloc_data : (q : QueueState) (xs : List ℕ) (k p v w : ℕ) → can depth groups q (Alloc k) ≡ true → can depth groups q (Data p) ≡ true
      → Joined depth ports groups q xs (Alloc k) (Data p) v w
  alloc_data q xs k p v w h g = let i = some_inv (find (wants_data p) q.items) g in at i.0 i.1
    where
      at : (x : Entry) → find (wants_data p) q.items ≡ Some x → Joined depth ports groups q xs (Alloc k) (Data p) v w
      at x found =
          let f = find_appended (wants_data p) q.items (fresh q.next ports (get_or groups k [])) x found in
          record {
            a_can = rw (length-first_changed (wants_data p) (with_data w) q.items) h;
            b_can = rw f refl;
            a_put = refl;
            b_put = refl;
            a_strays = refl;
            b_strays = refl;
            meet_queue = ap (λ r. record q { next = q.next + length (get_or groups k []); items = r })
                (sym (change_appended (wants_data p) (with_data w) q.items (fresh q.next ports (get_or groups k [])) x found));
            meet_array = refl;
          }

  alloc_reply : (q : QueueState) (xs : List ℕ) (k p v w : ℕ) → can depth groups q (Alloc k) ≡ true → can depth groups q (Reply p) ≡ true
      → Joined depth ports groups q xs (Alloc k) (Reply p) v w
  alloc_reply q xs k p v w h g = let i = done_inv (find (wants_reply p) q.items) g in at i.0 i.1 i.2
    where
      at : (x : Entry) → find (wants_reply p) q.items ≡ Some x → x.done ≡ true → Joined depth ports groups q xs (Alloc k) (Reply p) v w
      at x found d =
          let f = find_appended (wants_reply p) q.items (fresh q.next ports (get_or groups k [])) x found in
          record {
            a_can = rw (length-first_changed (wants_reply p) answered q.items) h;
            b_can = rw f d;
            a_put = refl;
            b_put = rw (f, found) refl;
            a_strays = refl;
            b_strays = refl;
            meet_queue = ap (λ r. record q { next = q.next + length (get_or groups k []); items = r })
                (sym (change_appended (wants_reply p) answered q.items (fresh q.next ports (get_or groups k [])) x found));
            meet_array = refl;
          }

  alloc_exec : (q : QueueState) (xs : List ℕ) (k e v w : ℕ) → list_all (below q.next) q.items ≡ true → can depth groups q (Alloc k) ≡ true → can depth groups q (Exec e) ≡ true
      → Joined depth ports groups q xs (Alloc k) (Exec e) v w
  alloc_exec q xs k e v w b h g = let i = exec_inv q.forward q.items (find (is_serial e) q.items) g in at i.0 i.1 i.2 i.3
    where
      at : (x : Entry) → find (is_serial e) q.items ≡ Some x → ready x ≡ true → order_ok q.forward q.items x ≡ true → Joined depth ports groups q xs (Alloc k) (Exec e) v w
      at x found r all =
          let new = fresh q.next ports (get_or groups k []) in
          let f = find_appended (is_serial e) q.items new x found in
          let l : x.serial < q.next = ltb-true _ _ (all_found (below q.next) (is_serial e) q.items x b found) in
          let ord = fresh_order ports q.forward x q.next q.items (get_or groups k []) (omega arith) all in
          let val = ord.1 xs in
          record {
            a_can = rw (found, length-first_changed (is_serial e) (executed (exec_value xs q.items x)) q.items) h;
            b_can = rw (f, r) ord.0;
            a_put = refl;
            b_put = rw (f, found) refl;
            a_strays = refl;
            b_strays = rw (f, found) refl;
            meet_queue = rw (f, found, val) (ap (λ r. record q { next = q.next + length (get_or groups k []); items = r })
                (sym (change_appended (is_serial e) (executed (exec_value xs q.items x)) q.items new x found)));
            meet_array = rw (f, found) refl;
          }

  alloc_retire : (fw : Bool) (n : ℕ) (hd : Entry) (tl : List Entry) (xs : List ℕ) (k v w : ℕ) → can depth groups (queue fw n (hd ∷ tl)) (Alloc k) ≡ true → spent hd ≡ true
      → Joined depth ports groups (queue fw n (hd ∷ tl)) xs (Alloc k) Retire v w
  alloc_retire fw n hd tl xs k v w h s =
      let i = and_inv (nat_lt k (length groups)) (nat_le (suc (length tl) + length (get_or groups k [])) depth) h in
      let l : suc (length tl) + length (get_or groups k []) ≤ depth = leb-true _ _ i.1 in
      record {
        a_can = rw i.0 (le-leb _ _ (omega arith));
        b_can = s;
        a_put = refl;
        b_put = refl;
        a_strays = refl;
        b_strays = refl;
        meet_queue = refl;
        meet_array = refl;
      }

module _ (depth : ℕ) (ports : List Port) (groups : List (List ℕ)) where
  abbrev J : QueueState → List ℕ → Act → Act → ℕ → ℕ → Type 0
  J q xs a b v w = (a ≡ b) ⊎ Joined depth ports groups q xs a b v w

  retire_other : (q : QueueState) (xs : List ℕ) (b : Act) (v w : ℕ) → can depth groups q Retire ≡ true → IsConsistent q
      → ((fw : Bool) (n : ℕ) (hd : Entry) (tl : List Entry) → spent hd ≡ true → sound hd ≡ true → can depth groups (queue fw n (hd ∷ tl)) b ≡ true → Joined depth ports groups (queue fw n (hd ∷ tl)) xs Retire b v w)
      → can depth groups q b ≡ true → Joined depth ports groups q xs Retire b v w
  retire_other q xs b v w h fine do_it g = at q.forward q.next q.items h fine.all_sound g
    where
      at : (fw : Bool) (n : ℕ) (is : List Entry) → spent_first is ≡ true → list_all sound is ≡ true → can depth groups (queue fw n is) b ≡ true → Joined depth ports groups (queue fw n is) xs Retire b v w
      at fw n [] h s g = cc
      at fw n (hd ∷ tl) h s g = do_it fw n hd tl h (and_inv (sound hd) (list_all sound tl) s).0 g

  -- at the end nothing else can act but an allocation
  end_other : (q : QueueState) (xs : List ℕ) (b : Act) (v w : ℕ) → can depth groups q End ≡ true → (can depth groups (queue q.forward q.next []) b ≡ true → ⊥)
      → can depth groups q b ≡ true → Joined depth ports groups q xs End b v w
  end_other q xs b v w h never g = at q.forward q.next q.items h g never
    where
      at : (fw : Bool) (n : ℕ) (is : List Entry) → is_nil is ≡ true → can depth groups (queue fw n is) b ≡ true → (can depth groups (queue fw n []) b ≡ true → ⊥) → Joined depth ports groups (queue fw n is) xs End b v w
      at fw n [] h g never = absurd (never g)
      at fw n (hd ∷ tl) h g never = cc

  same_or : (q : QueueState) (xs : List ℕ) (f : ℕ → Act) (p p' v w : ℕ) → (p ≢ p' → Joined depth ports groups q xs (f p) (f p') v w) → J q xs (f p) (f p') v w
  same_or q xs f p p' v w h = elim (cases_eq p p') [ inl e ↦ inl (ap f e) | inr n ↦ inr (h n) ]

  alloc_retire_q : (q : QueueState) (xs : List ℕ) (k v w : ℕ) → can depth groups q (Alloc k) ≡ true → can depth groups q Retire ≡ true → Joined depth ports groups q xs (Alloc k) Retire v w
  alloc_retire_q q xs k v w h g = at q.forward q.next q.items h g
    where
      at : (fw : Bool) (n : ℕ) (is : List Entry) → can depth groups (queue fw n is) (Alloc k) ≡ true → spent_first is ≡ true → Joined depth ports groups (queue fw n is) xs (Alloc k) Retire v w
      at fw n [] h g = cc
      at fw n (hd ∷ tl) h g = alloc_retire depth ports groups fw n hd tl xs k v w h g

  -- two acts of a queue are one, or go in either order, unless both pass the control token
  pub joined : (q : QueueState) (xs : List ℕ) (a b : Act) (v w : ℕ) → IsConsistent q → can depth groups q a ≡ true → can depth groups q b ≡ true
      → (is_control a ≡ true → is_control b ≡ true → ⊥) → J q xs a b v w
  joined q xs (Alloc k) (Alloc k') v w fine h g c = absurd (c refl refl)
  joined q xs (Alloc k) End v w fine h g c = absurd (c refl refl)
  joined q xs End (Alloc k') v w fine h g c = absurd (c refl refl)
  joined q xs End End v w fine h g c = inl refl
  joined q xs Retire Retire v w fine h g c = inl refl
  joined q xs (Addr p) (Addr p') v w fine h g c = same_or q xs Addr p p' v w (λ n. addr_addr depth ports groups q xs p p' v w n h g)
  joined q xs (Data p) (Data p') v w fine h g c = same_or q xs Data p p' v w (λ n. data_data depth ports groups q xs p p' v w n h g)
  joined q xs (Exec p) (Exec p') v w fine h g c = same_or q xs Exec p p' v w (λ n. exec_exec depth ports groups q xs p p' v w n fine.all_rising h g)
  joined q xs (Reply p) (Reply p') v w fine h g c = same_or q xs Reply p p' v w (λ n. reply_reply depth ports groups q xs p p' v w n h g)
  joined q xs (Addr p) (Data p') v w fine h g c = inr (addr_data depth ports groups q xs p p' v w h g)
  joined q xs (Data p') (Addr p) v w fine h g c = inr (flip depth ports groups q xs (Addr p) (Data p') w v (addr_data depth ports groups q xs p p' w v g h))
  joined q xs (Addr p) (Reply p') v w fine h g c = inr (addr_reply depth ports groups q xs p p' v w h g)
  joined q xs (Reply p') (Addr p) v w fine h g c = inr (flip depth ports groups q xs (Addr p) (Reply p') w v (addr_reply depth ports groups q xs p p' w v g h))
  joined q xs (Data p) (Reply p') v w fine h g c = inr (data_reply depth ports groups q xs p p' v w h g)
  joined q xs (Reply p') (Data p) v w fine h g c = inr (flip depth ports groups q xs (Data p) (Reply p') w v (data_reply depth ports groups q xs p p' w v g h))
  joined q xs (Exec e) (Addr p) v w fine h g c = inr (exec_addr depth ports groups q xs e p v w h g)
  joined q xs (Addr p) (Exec e) v w fine h g c = inr (flip depth ports groups q xs (Exec e) (Addr p) w v (exec_addr depth ports groups q xs e p w v g h))
  joined q xs (Exec e) (Data p) v w fine h g c = inr (exec_data depth ports groups q xs e p v w h g)
  joined q xs (Data p) (Exec e) v w fine h g c = inr (flip depth ports groups q xs (Exec e) (Data p) w v (exec_data depth ports groups q xs e p w v g h))
  joined q xs (Exec e) (Reply p) v w fine h g c = inr (exec_reply depth ports groups q xs e p v w h g)
  joined q xs (Reply p) (Exec e) v w fine h g c = inr (flip depth ports groups q xs (Exec e) (Reply p) w v (exec_reply depth ports groups q xs e p w v g h))
  joined q xs Retire (Addr p) v w fine h g c = inr (retire_other q xs (Addr p) v w h fine (λ fw n hd tl s d k. retire_addr depth ports groups fw n hd tl xs p v w s d k) g)
  joined q xs (Addr p) Retire v w fine h g c = inr (flip depth ports groups q xs Retire (Addr p) w v (retire_other q xs (Addr p) w v g fine (λ fw n hd tl s d k. retire_addr depth ports groups fw n hd tl xs p w v s d k) h))
  joined q xs Retire (Data p) v w fine h g c = inr (retire_other q xs (Data p) v w h fine (λ fw n hd tl s d k. retire_data depth ports groups fw n hd tl xs p v w s d k) g)
  joined q xs (Data p) Retire v w fine h g c = inr (flip depth ports groups q xs Retire (Data p) w v (retire_other q xs (Data p) w v g fine (λ fw n hd tl s d k. retire_data depth ports groups fw n hd tl xs p w v s d k) h))
  joined q xs Retire (Reply p) v w fine h g c = inr (retire_other q xs (Reply p) v w h fine (λ fw n hd tl s d k. retire_reply depth ports groups fw n hd tl xs p v w s k) g)
  joined q xs (Reply p) Retire v w fine h g c = inr (flip depth ports groups q xs Retire (Reply p) w v (retire_other q xs (Reply p) w v g fine (λ fw n hd tl s d k. retire_reply depth ports groups fw n hd tl xs p w v s k) h))
  joined q xs Retire (Exec e) v w fine h g c = inr (retire_other q xs (Exec e) v w h fine (λ fw n hd tl s d k. retire_exec depth ports groups fw n hd tl xs e v w s k) g)
  joined q xs (Exec e) Retire v w fine h g c = inr (flip depth ports groups q xs Retire (Exec e) w v (retire_other q xs (Exec e) w v g fine (λ fw n hd tl s d k. retire_exec depth ports groups fw n hd tl xs e w v s k) h))
  joined q xs (Alloc k) (Addr p) v w fine h g c = inr (alloc_addr depth ports groups q xs k p v w h g)
  joined q xs (Addr p) (Alloc k) v w fine h g c = inr (flip depth ports groups q xs (Alloc k) (Addr p) w v (alloc_addr depth ports groups q xs k p w v g h))
  joined q xs (Alloc k) (Data p) v w fine h g c = inr (alloc_data depth ports groups q xs k p v w h g)
  joined q xs (Data p) (Alloc k) v w fine h g c = inr (flip depth ports groups q xs (Alloc k) (Data p) w v (alloc_data depth ports groups q xs k p w v g h))
  joined q xs (Alloc k) (Reply p) v w fine h g c = inr (alloc_reply depth ports groups q xs k p v w h g)
  joined q xs (Reply p) (Alloc k) v w fine h g c = inr (flip depth ports groups q xs (Alloc k) (Reply p) w v (alloc_reply depth ports groups q xs k p w v g h))
  joined q xs (Alloc k) (Exec e) v w fine h g c = inr (alloc_exec depth ports groups q xs k e v w fine.all_below h g)
  joined q xs (Exec e) (Alloc k) v w fine h g c = inr (flip depth ports groups q xs (Alloc k) (Exec e) w v (alloc_exec depth ports groups q xs k e w v fine.all_below g h))
  joined q xs (Alloc k) Retire v w fine h g c = inr (alloc_retire_q q xs k v w h g)
  joined q xs Retire (Alloc k) v w fine h g c = inr (flip depth ports groups q xs (Alloc k) Retire w v (alloc_retire_q q xs k w v g h))
  joined q xs End (Addr p) v w fine h g c = inr (end_other q xs (Addr p) v w h (λ k. cc) g)
  joined q xs End (Data p) v w fine h g c = inr (end_other q xs (Data p) v w h (λ k. cc) g)
  joined q xs End (Exec e) v w fine h g c = inr (end_other q xs (Exec e) v w h (λ k. cc) g)
  joined q xs End (Reply p) v w fine h g c = inr (end_other q xs (Reply p) v w h (λ k. cc) g)
  joined q xs End Retire v w fine h g c = inr (end_other q xs Retire v w h (λ k. cc) g)
  joined q xs (Addr p) End v w fine h g c = inr (flip depth ports groups q xs End (Addr p) w v (end_other q xs (Addr p) w v g (λ k. cc) h))
  joined q xs (Data p) End v w fine h g c = inr (flip depth ports groups q xs End (Data p) w v (end_other q xs (Data p) w v g (λ k. cc) h))
  joined q xs (Exec e) End v w fine h g c = inr (flip depth ports groups q xs End (Exec e) w v (end_other q xs (Exec e) w v g (λ k. cc) h))
  joined q xs (Reply p) End v w fine h g c = inr (flip depth ports groups q xs End (Reply p) w v (end_other q xs (Reply p) w v g (λ k. cc) h))
  joined q xs Retire End v w fine h g c = inr (flip depth ports groups q xs End Retire w v (end_other q xs Retire w v g (λ k. cc) h))
  joined q xs Go b v w fine h g c = cc
  joined q xs (From j) b v w fine h g c = cc
  joined q xs (Send j) b v w fine h g c = cc
  joined q xs a Go v w fine h g c = cc
  joined q xs a (From j) v w fine h g c = cc
  joined q xs a (Send j) v w fine h g c = cc

sound_addr : (y : Entry) (v : ℕ) → sound y ≡ true → sound (with_addr v y) ≡ true
sound_addr y v h = by y.done (is_some y.addr) (not y.store || is_some y.datum) h
  where
    by : (d a c : Bool) → (not d || (a && c)) ≡ true → (not d || (true && c)) ≡ true
    by false a c h = refl
    by true true c h = h
    by true false c h = cc

sound_data : (y : Entry) (v : ℕ) → sound y ≡ true → sound (with_data v y) ≡ true
sound_data y v h = by y.done (is_some y.addr) y.store (is_some y.datum) h
  where
    by : (d a s c : Bool) → (not d || (a && (not s || c))) ≡ true → (not d || (a && (not s || true))) ≡ true
    by false a s c h = refl
    by true false s c h = cc
    by true true false c h = refl
    by true true true c h = refl

sound_exec : (y : Entry) (v : ℕ) → ready y ≡ true → sound (executed v y) ≡ true
sound_exec y v h = let i = ready_inv y h in rw (i.1, i.2) refl

fresh_sound : (ports : List Port) (n : ℕ) (ps : List ℕ) → list_all sound (fresh n ports ps) ≡ true
fresh_sound ports n [] = refl
fresh_sound ports n (p ∷ ps) = fresh_sound ports (suc n) ps

below_more : (n m : ℕ) (is : List Entry) → n ≤ m → list_all (below n) is ≡ true → list_all (below m) is ≡ true
below_more n m [] l h = refl
below_more n m (x ∷ is) l h =
    let i = and_inv (below n x) (list_all (below n) is) h in
    let a : x.serial < n = ltb-true _ _ i.0 in
    let b : nat_lt x.serial m ≡ true = lt-ltb _ _ (omega arith) in
    rw b (below_more n m is l i.1)

fresh_below : (ports : List Port) (n m : ℕ) (ps : List ℕ) → n + length ps ≤ m → list_all (below m) (fresh n ports ps) ≡ true
fresh_below ports n m [] l = refl
fresh_below ports n m (p ∷ ps) l =
    let b : nat_lt n m ≡ true = lt-ltb _ _ (omega arith) in
    rw b (fresh_below ports (suc n) m ps (omega arith))

fresh_from : (ports : List Port) (n m : ℕ) (ps : List ℕ) → m ≤ n → list_all (λ o. nat_le m o.serial) (fresh n ports ps) ≡ true
fresh_from ports n m [] l = refl
fresh_from ports n m (p ∷ ps) l = let k : nat_le m n ≡ true = le-leb _ _ l in rw k (fresh_from ports (suc n) m ps (omega arith))

fresh_above : (ports : List Port) (n m : ℕ) (ps : List ℕ) → m < n → list_all (λ o. nat_lt m o.serial) (fresh n ports ps) ≡ true
fresh_above ports n m [] l = refl
fresh_above ports n m (p ∷ ps) l = let k : nat_lt m n ≡ true = lt-ltb _ _ l in rw k (fresh_above ports (suc n) m ps (omega arith))

fresh_rising : (ports : List Port) (n : ℕ) (ps : List ℕ) → rising (fresh n ports ps) ≡ true
fresh_rising ports n [] = refl
fresh_rising ports n (p ∷ ps) = let a = fresh_above ports (suc n) n ps (omega arith) in rw a (fresh_rising ports (suc n) ps)

fine_changed : (q : QueueState) (t : Entry → Bool) (u : Entry → Entry) → IsConsistent q → ((y : Entry) → find t q.items ≡ Some y → sound y ≡ true → sound (u y) ≡ true)
    → ((y : Entry) → (u y).serial ≡ y.serial) → IsConsistent (record q { items = first_changed t u q.items })
fine_changed q t u fine s b = record {
  all_rising = rising_kept t u q.items b fine.all_rising;
  all_sound = all_kept sound t u q.items fine.all_sound s;
  all_below = all_kept (below q.next) t u q.items fine.all_below (λ y f h. ap (λ z. nat_lt z q.next) (b y) ∙ h);
}

module _ (depth : ℕ) (ports : List Port) (groups : List (List ℕ)) where
  pub fine_kept : (q : QueueState) (xs : List ℕ) (a : Act) (v : ℕ) → IsConsistent q → can depth groups q a ≡ true → IsConsistent (step ports groups q xs a v).queue
  fine_kept q xs (Alloc k) v fine h = record {
    all_rising = rising_appended q.items (fresh q.next ports (get_or groups k [])) fine.all_rising (fresh_rising ports q.next (get_or groups k [])) q.next fine.all_below (fresh_from ports q.next q.next (get_or groups k []) (omega arith));
    all_sound = all_appended sound q.items (fresh q.next ports (get_or groups k [])) fine.all_sound (fresh_sound ports q.next (get_or groups k []));
    all_below = all_appended (below (q.next + length (get_or groups k []))) q.items (fresh q.next ports (get_or groups k []))
        (below_more q.next (q.next + length (get_or groups k [])) q.items (omega arith) fine.all_below)
        (fresh_below ports q.next (q.next + length (get_or groups k [])) (get_or groups k []) (omega arith));
  }
  fine_kept q xs (Addr p) v fine h = fine_changed q (wants_addr p) (with_addr v) fine (λ y f s. sound_addr y v s) (λ y. refl)
  fine_kept q xs (Data p) v fine h = fine_changed q (wants_data p) (with_data v) fine (λ y f s. sound_data y v s) (λ y. refl)
  fine_kept q xs (Reply p) v fine h = fine_changed q (wants_reply p) answered fine (λ y f s. s) (λ y. refl)
  fine_kept q xs (Exec e) v fine h = let i = exec_inv q.forward q.items (find (is_serial e) q.items) h in at i.0 i.1 i.2
    where
      at : (x : Entry) → find (is_serial e) q.items ≡ Some x → ready x ≡ true → IsConsistent (step ports groups q xs (Exec e) v).queue
      at x found r = rw found (fine_changed q (is_serial e) (executed (exec_value xs q.items x)) fine
          (λ y f s. let k : Some x ≡ Some y = sym found ∙ f in let m : x ≡ y = cc in sound_exec y (exec_value xs q.items x) (rw (← m) r)) (λ y. refl))
  fine_kept q xs Retire v fine h = at q.forward q.next q.items fine.all_sound fine.all_below fine.all_rising
    where
      at : (fw : Bool) (n : ℕ) (is : List Entry) → list_all sound is ≡ true → list_all (below n) is ≡ true → rising is ≡ true → IsConsistent (queue fw n (rest is))
      at fw n [] s b r = record { all_sound = refl; all_below = refl; all_rising = refl }
      at fw n (hd ∷ tl) s b r = record { all_sound = (and_inv (sound hd) (list_all sound tl) s).1; all_below = (and_inv (below n hd) (list_all (below n) tl) b).1; all_rising = (and_inv (list_all (above hd) tl) (rising tl) r).1 }
  fine_kept q xs _ v fine h = fine

pub acts_join : ActsJoin
acts_join = joined

pub stays_consistent : StaysConsistent
stays_consistent = fine_kept
