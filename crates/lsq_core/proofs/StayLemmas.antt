-- Acts of a queue that stay refused.
use Rattle.std.proofs.Common.{◌≡◌, ◌≢◌, ℕ, ◌+◌, ◌≤◌, ◌==◌, ◌&&◌, ◌||◌, not, nat_lt, nat_le, Bool, true, false, cond, Option, Some, None, is_some, List, [], ◌∷◌, length, map, get_or, refl, sym, ap, ap₂, ◌∙◌, arith, length-append, eqb-true, ne_eqb, ltb-true, ◌<◌}
use Rattle.std.specs.List.{find, list_all}
use Rattle.std.proofs.lemmas.Bool.{leb-true, le-leb}
use Rattle.lsq_core.specs.declared.entry.Entry.{Entry}
use Rattle.lsq_core.specs.Acts.{QueueState, can, step, exec, exec_value, first_changed, wants_addr, wants_data, wants_reply, is_serial, with_addr, with_data, executed, answered, lets, known, waiting, later, last_such, source_ok, order_ok, ready, may_exec, is_done, spent_first, rest, fresh, same}
use Rattle.lsq_core.specs.Laws.{IsConsistent, StaysRefused, sound, above, rising, phase, act_place}
use Rattle.lsq_core.proofs.EntryLemmas.{all_found, and_inv, and_true, find_holds, last_dropped, length-first_changed}
use Rattle.net_types.specs.declared.net.Port.{Port}
use Rattle.net_types.specs.declared.firing.Act.{Act}
use Rattle.net_types.specs.declared.firing.Act.TheVariants.{Go, From, Send, Alloc, Addr, Data, Exec, Reply, Retire, End}

-- finding
weaken : (t t' : Entry → Bool) (u : Entry → Entry) (xs : List Entry) → ((x : Entry) → t (u x) ≡ true → t x ≡ true) → is_some (find t (first_changed t' u xs)) ≡ true → is_some (find t xs) ≡ true
weaken t t' u [] h e = e
weaken t t' u (x ∷ xs) h e = by (t' x) (t x) refl e (weaken t t' u xs h)
  where
    found : (b : Bool) → t x ≡ b → is_some (cond b (Some x) (find t xs)) ≡ true → is_some (find t (x ∷ xs)) ≡ true
    found b i k = ap (λ y. is_some (cond y (Some x) (find t xs))) i ∙ k

    by : (a b : Bool) → t x ≡ b → is_some (find t (cond a (u x ∷ xs) (x ∷ first_changed t' u xs))) ≡ true → (is_some (find t (first_changed t' u xs)) ≡ true → is_some (find t xs) ≡ true) → is_some (cond (t x) (Some x) (find t xs)) ≡ true
    by a true i e ih = found true i refl
    by true false i e ih = found false i (at (t (u x)) refl e)
      where
        at : (c : Bool) → t (u x) ≡ c → is_some (cond c (Some (u x)) (find t xs)) ≡ true → is_some (find t xs) ≡ true
        at true j k = let z : true ≡ false = sym (h x j) ∙ i in cc
        at false j k = k
    by false false i e ih = found false i (ih (ap (λ y. is_some (cond y (Some x) (find t (first_changed t' u xs)))) (sym i) ∙ e))

weaken_rest : (t : Entry → Bool) (xs : List Entry) → is_some (find t (rest xs)) ≡ true → is_some (find t xs) ≡ true
weaken_rest t [] e = e
weaken_rest t (x ∷ xs) e = by (t x)
  where
    by : (b : Bool) → is_some (cond b (Some x) (find t xs)) ≡ true
    by true = refl
    by false = e

exec_items : (t : Entry → Bool) (q : QueueState) (xs : List ℕ) (e : ℕ) (o : Option Entry) → ((v : ℕ) (x : Entry) → t (executed v x) ≡ true → t x ≡ true) → is_some (find t (exec q xs e o).queue.items) ≡ true → is_some (find t q.items) ≡ true
exec_items t q xs e None h k = k
exec_items t q xs e (Some x) h k = weaken t (is_serial e) (executed (exec_value xs q.items x)) q.items (h (exec_value xs q.items x)) k

-- lengths
exec_length : (q : QueueState) (xs : List ℕ) (e : ℕ) (o : Option Entry) → length (exec q xs e o).queue.items ≡ length q.items
exec_length q xs e None = refl
exec_length q xs e (Some x) = length-first_changed (is_serial e) (executed (exec_value xs q.items x)) q.items

grows : (ports : List Port) (groups : List (List ℕ)) (q : QueueState) (xs : List ℕ) (b : Act) (v : ℕ) → b ≢ Retire → length q.items ≤ length (step ports groups q xs b v).queue.items
grows ports groups q xs (Alloc g) v n = let a = length-append q.items (fresh q.next ports (get_or groups g [])) in omega arith
grows ports groups q xs (Addr p) v n = let a = length-first_changed (wants_addr p) (with_addr v) q.items in omega arith
grows ports groups q xs (Data p) v n = let a = length-first_changed (wants_data p) (with_data v) q.items in omega arith
grows ports groups q xs (Exec e) v n = let a = exec_length q xs e (find (is_serial e) q.items) in omega arith
grows ports groups q xs (Reply p) v n = let a = length-first_changed (wants_reply p) answered q.items in omega arith
grows ports groups q xs Retire v n = absurd (n refl)
grows ports groups q xs _ v n = omega arith

fits : (n m k d : ℕ) (b : Bool) → n ≤ m → (b && nat_le (m + k) d) ≡ true → (b && nat_le (n + k) d) ≡ true
fits n m k d b l e =
    let w = and_inv b (nat_le (m + k) d) e in
    let z = leb-true (m + k) d w.1 in
    and_true b (nat_le (n + k) d) w.0 (le-leb (n + k) d (omega arith))

-- Exec after Reply: an answered entry differs in a field that executing does not read
abbrev unanswered : Entry → Entry
unanswered y = record y { replied = false }

plain_all : (P : Entry → Bool) (xs : List Entry) → ((y : Entry) → P (unanswered y) ≡ P y) → list_all P (map unanswered xs) ≡ list_all P xs
plain_all P [] h = refl
plain_all P (y ∷ ys) h = ap₂ (λ a b. a && b) (h y) (plain_all P ys h)

abbrev opt_plain : Option Entry → Option Entry
opt_plain None = None
opt_plain (Some x) = Some (unanswered x)

plain_find : (e : ℕ) (xs : List Entry) → find (is_serial e) (map unanswered xs) ≡ opt_plain (find (is_serial e) xs)
plain_find e [] = refl
plain_find e (x ∷ xs) = by (is_serial e x) (plain_find e xs)
  where
    by : (b : Bool) → find (is_serial e) (map unanswered xs) ≡ opt_plain (find (is_serial e) xs)
        → cond b (Some (unanswered x)) (find (is_serial e) (map unanswered xs)) ≡ opt_plain (cond b (Some x) (find (is_serial e) xs))
    by true h = refl
    by false h = h

plain_last : (t : Entry → Bool) (xs : List Entry) → ((y : Entry) → t (unanswered y) ≡ t y) → last_such t (map unanswered xs) ≡ opt_plain (last_such t xs)
plain_last t [] h = refl
plain_last t (x ∷ xs) h = ap₂ (λ o b. later o b (unanswered x)) (plain_last t xs h) (h x) ∙ by (last_such t xs) (t x)
  where
    by : (o : Option Entry) (b : Bool) → later (opt_plain o) b (unanswered x) ≡ opt_plain (later o b x)
    by None true = refl
    by None false = refl
    by (Some y) b = refl

plain_source : (fw : Bool) (o : Option Entry) → source_ok fw (opt_plain o) ≡ source_ok fw o
plain_source fw None = refl
plain_source fw (Some y) = refl

plain_order : (fw : Bool) (xs : List Entry) (x : Entry) → order_ok fw (map unanswered xs) (unanswered x) ≡ order_ok fw xs x
plain_order fw xs x =
    ap₂ (cond x.store) (plain_all (lets x) xs (λ y. refl))
    (ap₂ (λ a b. a && b) (plain_all (known x) xs (λ y. refl)) (ap (source_ok fw) (plain_last (waiting x) xs (λ y. refl)) ∙ plain_source fw (last_such (waiting x) xs)))

plain_exec : (fw : Bool) (xs : List Entry) (o : Option Entry) → may_exec fw (map unanswered xs) (opt_plain o) ≡ may_exec fw xs o
plain_exec fw xs None = refl
plain_exec fw xs (Some x) = ap (λ b. ready x && b) (plain_order fw xs x)

plain_answered : (t : Entry → Bool) (xs : List Entry) → map unanswered (first_changed t answered xs) ≡ map unanswered xs
plain_answered t [] = refl
plain_answered t (x ∷ xs) = by (t x) (plain_answered t xs)
  where
    by : (b : Bool) → map unanswered (first_changed t answered xs) ≡ map unanswered xs
        → map unanswered (cond b (answered x ∷ xs) (x ∷ first_changed t answered xs)) ≡ map unanswered (x ∷ xs)
    by true h = refl
    by false h = ap (λ ys. unanswered x ∷ ys) h

exec_reply : (fw : Bool) (p e : ℕ) (items : List Entry) → may_exec fw (first_changed (wants_reply p) answered items) (find (is_serial e) (first_changed (wants_reply p) answered items)) ≡ may_exec fw items (find (is_serial e) items)
exec_reply fw p e items =
    sym (plain_exec fw (first_changed (wants_reply p) answered items) (find (is_serial e) (first_changed (wants_reply p) answered items)))
    ∙ ap (may_exec fw (map unanswered (first_changed (wants_reply p) answered items))) (sym (plain_find e (first_changed (wants_reply p) answered items)))
    ∙ ap (λ ys. may_exec fw ys (find (is_serial e) ys)) (plain_answered (wants_reply p) items)
    ∙ ap (may_exec fw (map unanswered items)) (plain_find e items)
    ∙ plain_exec fw items (find (is_serial e) items)

-- Exec after Retire: the entry that is dropped is executed, and so no store that waits
lets_done : (x y : Entry) → y.done ≡ true → is_some y.addr ≡ true → lets x y ≡ true
lets_done x y d a = by (nat_lt y.serial x.serial) (not y.store && not x.store) (is_some y.addr) y.done (not (same y.addr x.addr)) d a
  where
    by : (o s i d m : Bool) → d ≡ true → i ≡ true → (not o || (s || (i && (d || m)))) ≡ true
    by false s i d m e f = refl
    by true true i d m e f = refl
    by true false true true m e f = refl
    by true false false d m e f = f
    by true false true false m e f = cc

known_done : (x y : Entry) → is_some y.addr ≡ true → known x y ≡ true
known_done x y a = by (nat_lt y.serial x.serial) y.store (is_some y.addr) a
  where
    by : (o s i : Bool) → i ≡ true → (not o || (not s || i)) ≡ true
    by false s i e = refl
    by true false i e = refl
    by true true i e = e

waits_done : (x y : Entry) → y.done ≡ true → waiting x y ≡ false
waits_done x y d = by (nat_lt y.serial x.serial) y.store (same y.addr x.addr) y.done d
  where
    by : (o s m d : Bool) → d ≡ true → (o && (s && (m && not d))) ≡ false
    by false s m d e = refl
    by true false m d e = refl
    by true true false d e = refl
    by true true true true e = refl
    by true true true false e = cc

order_done : (fw : Bool) (x y : Entry) (ys : List Entry) → y.done ≡ true → is_some y.addr ≡ true → order_ok fw ys x ≡ true → order_ok fw (y ∷ ys) x ≡ true
order_done fw x y ys d a o = by x.store o
  where
    by : (b : Bool) → cond b (list_all (lets x) ys) (list_all (known x) ys && source_ok fw (last_such (waiting x) ys)) ≡ true
        → cond b (lets x y && list_all (lets x) ys) ((known x y && list_all (known x) ys) && source_ok fw (last_such (waiting x) (y ∷ ys))) ≡ true
    by true k = and_true (lets x y) (list_all (lets x) ys) (lets_done x y d a) k
    by false k =
        let w = and_inv (list_all (known x) ys) (source_ok fw (last_such (waiting x) ys)) k in
        and_true (known x y && list_all (known x) ys) (source_ok fw (last_such (waiting x) (y ∷ ys)))
        (and_true (known x y) (list_all (known x) ys) (known_done x y a) w.0)
        (ap (source_ok fw) (last_dropped (waiting x) y ys (waits_done x y d)) ∙ w.1)

sound_done : (y : Entry) → sound y ≡ true → y.done ≡ true → is_some y.addr ≡ true
sound_done y s d = by y.done (is_some y.addr) (not y.store || is_some y.datum) s d
  where
    by : (d a c : Bool) → (not d || (a && c)) ≡ true → d ≡ true → a ≡ true
    by true a c h e = (and_inv a c h).0
    by false a c h e = cc

exec_retire : (fw : Bool) (e : ℕ) (items : List Entry) → list_all sound items ≡ true → rising items ≡ true → spent_first items ≡ true
    → may_exec fw (rest items) (find (is_serial e) (rest items)) ≡ true → may_exec fw items (find (is_serial e) items) ≡ true
exec_retire fw e [] s r p m = m
exec_retire fw e (y ∷ ys) s r p m = by (find (is_serial e) ys) refl m
  where
    done : y.done ≡ true
    done = (and_inv y.done (y.store || y.replied) p).0

    by : (o : Option Entry) → find (is_serial e) ys ≡ o → may_exec fw ys o ≡ true → may_exec fw (y ∷ ys) (find (is_serial e) (y ∷ ys)) ≡ true
    by None i k = cc
    by (Some x) i k =
        let u : nat_lt y.serial x.serial ≡ true = all_found (above y) (is_serial e) ys x (and_inv (list_all (above y) ys) (rising ys) r).0 i in
        let l : y.serial < x.serial = ltb-true _ _ u in
        let h : x.serial ≡ e = eqb-true _ _ (find_holds (is_serial e) ys x i) in
        let n : y.serial ≢ e = (λ z. absurd (omega arith)) in
        let f : is_serial e y ≡ false = ne_eqb y.serial e n in
        let g : find (is_serial e) (y ∷ ys) ≡ Some x = ap (λ b. cond b (Some y) (find (is_serial e) ys)) f ∙ i in
        let w = and_inv (ready x) (order_ok fw ys x) k in
        ap (may_exec fw (y ∷ ys)) g
        ∙ and_true (ready x) (order_ok fw (y ∷ ys) x) w.0 (order_done fw x y ys done (sound_done y (and_inv (sound y) (list_all sound ys) s).0 done) w.1)

-- Reply after Reply and after Retire
reply_reply : (p r : ℕ) (items : List Entry) → p ≢ r → find (wants_reply p) (first_changed (wants_reply r) answered items) ≡ find (wants_reply p) items
reply_reply p r [] n = refl
reply_reply p r (x ∷ xs) n = by (wants_reply r x) refl (reply_reply p r xs n)
  where
    miss : (a b : Bool) → a ≡ false → cond (a && b) (Some x) (find (wants_reply p) xs) ≡ find (wants_reply p) xs
    miss a b e = ap (λ c. cond (c && b) (Some x) (find (wants_reply p) xs)) e

    skip : (a b : Bool) → cond (a && (b && false)) (Some (answered x)) (find (wants_reply p) xs) ≡ find (wants_reply p) xs
    skip true true = refl
    skip true false = refl
    skip false b = refl

    by : (b : Bool) → wants_reply r x ≡ b → find (wants_reply p) (first_changed (wants_reply r) answered xs) ≡ find (wants_reply p) xs
        → find (wants_reply p) (cond b (answered x ∷ xs) (x ∷ first_changed (wants_reply r) answered xs)) ≡ find (wants_reply p) (x ∷ xs)
    by true i ih =
        let port : (x.port == r) ≡ true = (and_inv (x.port == r) (not x.store && not x.replied) i).0 in
        let q : x.port ≡ r = eqb-true _ _ port in
        let f : (x.port == p) ≡ false = ne_eqb x.port p (λ z. n (sym z ∙ q)) in
        skip (x.port == p) (not x.store) ∙ sym (miss (x.port == p) (not x.store && not x.replied) f)
    by false i ih = ap (cond (wants_reply p x) (Some x)) ih

reply_retire : (p : ℕ) (items : List Entry) → spent_first items ≡ true → find (wants_reply p) items ≡ find (wants_reply p) (rest items)
reply_retire p [] s = refl
reply_retire p (y ∷ ys) s = by (y.port == p) y.store y.replied (and_inv y.done (y.store || y.replied) s).1
  where
    by : (a b c : Bool) → (b || c) ≡ true → cond (a && (not b && not c)) (Some y) (find (wants_reply p) ys) ≡ find (wants_reply p) ys
    by true true c e = refl
    by true false true e = refl
    by true false false e = cc
    by false b c e = refl

no_act : {A : Type 0} → false ≡ true → A
no_act e = absurd (let z : ⊥ = cc in z)

-- what is allowed after such an act was allowed before it
abbrev Stays : Type 0
Stays = (depth : ℕ) (ports : List Port) (groups : List (List ℕ)) (q : QueueState) (xs : List ℕ) (a b : Act) (v : ℕ)
    → IsConsistent q → phase a ≤ phase b → act_place a ≢ act_place b → ((g : ℕ) → a ≡ Alloc g → b ≢ Retire)
    → can depth groups q b ≡ true → can depth groups (step ports groups q xs b v).queue a ≡ true → can depth groups q a ≡ true

stays : Stays
stays depth ports groups q xs (Alloc g) b v s l ne nr cb ca = fits (length q.items) (length (step ports groups q xs b v).queue.items) (length (get_or groups g [])) depth (nat_lt g (length groups)) (grows ports groups q xs b v (nr g refl)) ca
stays depth ports groups q xs Go b v s l ne nr cb ca = no_act ca
stays depth ports groups q xs (From j) b v s l ne nr cb ca = no_act ca
stays depth ports groups q xs (Send j) b v s l ne nr cb ca = no_act ca
stays depth ports groups q xs a Go v s l ne nr cb ca = no_act cb
stays depth ports groups q xs a (From j) v s l ne nr cb ca = no_act cb
stays depth ports groups q xs a (Send j) v s l ne nr cb ca = no_act cb
stays depth ports groups q xs (Addr p) (Addr r) v s l ne nr cb ca = weaken (wants_addr p) (wants_addr r) (with_addr v) q.items (λ x e. let w = and_inv (x.port == p) false e in no_act w.1) ca
stays depth ports groups q xs (Addr p) (Data r) v s l ne nr cb ca = weaken (wants_addr p) (wants_data r) (with_data v) q.items (λ x e. e) ca
stays depth ports groups q xs (Addr p) (Exec e) v s l ne nr cb ca = exec_items (wants_addr p) q xs e (find (is_serial e) q.items) (λ w x k. k) ca
stays depth ports groups q xs (Addr p) (Reply r) v s l ne nr cb ca = weaken (wants_addr p) (wants_reply r) answered q.items (λ x e. e) ca
stays depth ports groups q xs (Addr p) Retire v s l ne nr cb ca = weaken_rest (wants_addr p) q.items ca
stays depth ports groups q xs (Addr p) End v s l ne nr cb ca = ca
stays depth ports groups q xs (Data p) (Addr r) v s l ne nr cb ca = weaken (wants_data p) (wants_addr r) (with_addr v) q.items (λ x e. e) ca
stays depth ports groups q xs (Data p) (Data r) v s l ne nr cb ca = weaken (wants_data p) (wants_data r) (with_data v) q.items (λ x e. let w = and_inv (x.port == p) (x.store && false) e in let y = and_inv x.store false w.1 in no_act y.1) ca
stays depth ports groups q xs (Data p) (Exec e) v s l ne nr cb ca = exec_items (wants_data p) q xs e (find (is_serial e) q.items) (λ w x k. k) ca
stays depth ports groups q xs (Data p) (Reply r) v s l ne nr cb ca = weaken (wants_data p) (wants_reply r) answered q.items (λ x e. e) ca
stays depth ports groups q xs (Data p) Retire v s l ne nr cb ca = weaken_rest (wants_data p) q.items ca
stays depth ports groups q xs (Data p) End v s l ne nr cb ca = ca
stays depth ports groups q xs (Exec e) (Reply r) v s l ne nr cb ca = sym (exec_reply q.forward r e q.items) ∙ ca
stays depth ports groups q xs (Exec e) Retire v s l ne nr cb ca = exec_retire q.forward e q.items s.all_sound s.all_rising cb ca
stays depth ports groups q xs (Exec e) End v s l ne nr cb ca = ca
stays depth ports groups q xs (Exec e) (Exec d) v s l ne nr cb ca = absurd (ne refl)
stays depth ports groups q xs (Reply p) (Reply r) v s l ne nr cb ca = sym (ap is_done (reply_reply p r q.items (λ z. ne (ap Reply z)))) ∙ ca
stays depth ports groups q xs (Reply p) Retire v s l ne nr cb ca = ap is_done (reply_retire p q.items cb) ∙ ca
stays depth ports groups q xs (Reply p) End v s l ne nr cb ca = ca
stays depth ports groups q xs Retire Retire v s l ne nr cb ca = absurd (ne refl)
stays depth ports groups q xs Retire End v s l ne nr cb ca = ca
stays depth ports groups q xs End End v s l ne nr cb ca = absurd (ne refl)
stays depth ports groups q xs _ _ v s l ne nr cb ca = absurd (omega arith)

refused : (before after : Bool) → (after ≡ true → before ≡ true) → before ≡ false → after ≡ false
refused before false h e = refl
refused before true h e = let k = h refl in cc

pub stays_refused : StaysRefused
stays_refused depth ports groups q xs a b v s l ne nr cb e =
    refused (can depth groups q a) (can depth groups (step ports groups q xs b v).queue a) (stays depth ports groups q xs a b v s l ne nr cb) e
