-- Entries that fit stay fitting under the acts of a queue.
use Rattle.std.proofs.Common.{◌≡◌, ℕ, zero, suc, ◌<◌, ◌≤◌, ◌^◌, ◌==◌, ◌&&◌, ◌||◌, not, Bool, true, false, cond, Option, Some, None, IfSome, is_some, List, [], ◌∷◌, length, get_or, set, refl, sym, ap, subst, ◌∙◌, arith, nat_lt, length-set, length-append}
use Rattle.std.proofs.lemmas.List.Elements.{All-nil, All-cons, All-head, All-tail, All-append, All-set}
use Rattle.std.proofs.lemmas.Nat.{pow_pos}
use Rattle.std.proofs.lemmas.Bool.{and_parts, leb-true}
use Rattle.std.specs.List.{All, find}
use Rattle.net_types.specs.declared.net.Port.{Port}
use Rattle.net_types.specs.declared.net.Port.TheVariants.{Load}
use Rattle.net_types.specs.declared.firing.Act.{Act}
use Rattle.net_types.specs.declared.firing.Act.TheVariants.{Go, Alloc, Addr, Data, Exec, Reply, Retire}
use Rattle.lsq_core.specs.declared.entry.Entry.{Entry}
use Rattle.lsq_core.specs.Acts.{QueueState, first_changed, wants_addr, wants_data, wants_reply, is_serial, with_addr, with_data, executed, answered, ready, may_exec, is_done, waiting, last_such, later, load_value, exec_value, exec_array, exec, or_zero, fresh, fresh_entry, is_store, can, step, rest, value_of}
use Rattle.lsq_core.specs.Laws.{StaysInOrder, StaysInPorts}
use Rattle.lsq_core.specs.Parts.{MayStand}
use Rattle.lsq_core.specs.Views.{GroupsWithin}
use Rattle.lsq_core.proofs.EntryLemmas.{length-first_changed, find_holds}
use Rattle.lsq_core.proofs.KeepLemmas.{length-fresh}
use Rattle.snapshot.specs.Fits.{EntryFits}

-- a number below a power of 2 where it is 0
zero_below : (w : ℕ) → 0 < 2 ^ w
zero_below w = pow_pos w

all_changed : (P : Entry → Type 0) (t : Entry → Bool) (u : Entry → Entry) (xs : List Entry) → ((y : Entry) → find t xs ≡ Some y → P y → P (u y)) → All P xs → All P (first_changed t u xs)
all_changed P t u [] h all = All-nil P
all_changed P t u (x ∷ xs) h all = by (t x) refl (λ e. all_changed P t u xs (λ y f. h y (rw e f)) (All-tail P x xs all))
  where
    by : (b : Bool) → t x ≡ b → (t x ≡ false → All P (first_changed t u xs)) → All P (cond b (u x ∷ xs) (x ∷ first_changed t u xs))
    by true e later = All-cons P (u x) xs (h x (rw e refl) (All-head P x xs all)) (All-tail P x xs all)
    by false e later = All-cons P x (first_changed t u xs) (All-head P x xs all) (later e)

find_all : (P : Entry → Type 0) (t : Entry → Bool) (xs : List Entry) (y : Entry) → All P xs → find t xs ≡ Some y → P y
find_all P t [] y all f = cc
find_all P t (x ∷ xs) y all f = by (t x) f (find_all P t xs y (All-tail P x xs all))
  where
    by : (b : Bool) → cond b (Some x) (find t xs) ≡ Some y → (find t xs ≡ Some y → P y) → P y
    by true f later = let z : x ≡ y = cc in subst P z (All-head P x xs all)
    by false f later = later f

last_all : (P : Entry → Type 0) (t : Entry → Bool) (xs : List Entry) (y : Entry) → All P xs → last_such t xs ≡ Some y → P y
last_all P t [] y all f = cc
last_all P t (x ∷ xs) y all f = by (last_such t xs) refl (t x) f (last_all P t xs y (All-tail P x xs all))
  where
    by : (o : Option Entry) → last_such t xs ≡ o → (b : Bool) → later o b x ≡ Some y → (last_such t xs ≡ Some y → P y) → P y
    by None e true f rec = let z : x ≡ y = cc in subst P z (All-head P x xs all)
    by None e false f rec = cc
    by (Some z) e b f rec = rec (e ∙ f)

module _ (w : ℕ) (ps : List Port) where
  fresh_fits : (n : ℕ) (group : List ℕ) → All (EntryFits w ps) (fresh n ps group)
  fresh_fits n [] = All-nil (EntryFits w ps)
  fresh_fits n (p ∷ group) =
      All-cons (EntryFits w ps) (fresh_entry n p (is_store (get_or ps p Load))) (fresh (suc n) ps group)
      (record { side = refl; addr = tt; datum = tt; at_store = λ e. refl; executed = refl; value = zero_below w; of_store = λ e. refl; of_waiting = λ e. refl; replied = λ e. cc })
      (fresh_fits (suc n) group)

  addr_fits : (v : ℕ) → v < 2 ^ 64 → (x : Entry) → EntryFits w ps x → EntryFits w ps (with_addr v x)
  addr_fits v l x h = record { side = h.side; addr = l; datum = h.datum; at_store = h.at_store; executed = by x.done (is_some x.addr) (not x.store || is_some x.datum) h.executed; value = h.value; of_store = h.of_store; of_waiting = h.of_waiting; replied = h.replied }
    where
      by : (d a b : Bool) → not d || (a && b) ≡ true → not d || (true && b) ≡ true
      by true true b e = e
      by true false b e = cc
      by false a b e = refl

  data_fits : (p v : ℕ) → v < 2 ^ w → (x : Entry) → wants_data p x ≡ true → EntryFits w ps x → EntryFits w ps (with_data v x)
  data_fits p v l x wants h =
      let q = and_parts (x.port == p) _ wants in
      let s : x.store ≡ true = (and_parts x.store _ q.1).0 in
      record { side = h.side; addr = h.addr; datum = l; at_store = λ e. (let z : true ≡ false = sym s ∙ e in cc); executed = by x.done (is_some x.addr) (not x.store) (is_some x.datum) h.executed; value = h.value; of_store = h.of_store; of_waiting = h.of_waiting; replied = h.replied }
    where
      by : (d a s b : Bool) → not d || (a && (s || b)) ≡ true → not d || (a && (s || true)) ≡ true
      by true true true b e = refl
      by true true false b e = refl
      by true false s b e = cc
      by false a s b e = refl

  executed_fits : (v : ℕ) → v < 2 ^ w → (x : Entry) → ready x ≡ true → (x.store ≡ true → v ≡ 0) → EntryFits w ps x → EntryFits w ps (executed v x)
  executed_fits v l x r z h = record { side = h.side; addr = h.addr; datum = h.datum; at_store = h.at_store; executed = (and_parts (not x.done) _ r).1; value = l; of_store = z; of_waiting = λ e. cc; replied = λ e. ((h.replied e).0, refl) }

  answered_fits : (p : ℕ) (x : Entry) → wants_reply p x ≡ true → x.done ≡ true → EntryFits w ps x → EntryFits w ps (answered x)
  answered_fits p x wants d h =
      let q = and_parts (x.port == p) _ wants in
      let s : x.store ≡ false = flip x.store (and_parts (not x.store) _ q.1).0 in
      record { side = h.side; addr = h.addr; datum = h.datum; at_store = h.at_store; executed = h.executed; value = h.value; of_store = h.of_store; of_waiting = h.of_waiting; replied = λ e. (s, d) }
    where
      flip : (b : Bool) → not b ≡ true → b ≡ false
      flip true e = cc
      flip false e = refl

  datum_below : (x : Entry) → EntryFits w ps x → or_zero x.datum < 2 ^ w
  datum_below x h = by x.datum h.datum
    where
      by : (o : Option ℕ) → IfSome o (λ v. v < 2 ^ w) → or_zero o < 2 ^ w
      by None l = zero_below w
      by (Some v) l = l

  pub get_below : (xs : List ℕ) (a : ℕ) → All (λ v. v < 2 ^ w) xs → get_or xs a 0 < 2 ^ w
  get_below [] a all = zero_below w
  get_below (x ∷ xs) zero all = All-head (λ v. v < 2 ^ w) x xs all
  get_below (x ∷ xs) (suc a) all = get_below xs a (All-tail (λ v. v < 2 ^ w) x xs all)

  -- what an execution gives
  value_below : (xs : List ℕ) (items : List Entry) (x : Entry) → All (λ v. v < 2 ^ w) xs → All (EntryFits w ps) items → exec_value xs items x < 2 ^ w
  value_below xs items x elements all = by x.store (last_such (waiting x) items) refl
    where
      load : (o : Option Entry) → last_such (waiting x) items ≡ o → load_value xs x o < 2 ^ w
      load None e = get_below xs (or_zero x.addr) elements
      load (Some y) e = in_bounds (nat_lt (or_zero x.addr) (length xs))
        where
          in_bounds : (b : Bool) → cond b (or_zero y.datum) 0 < 2 ^ w
          in_bounds true = datum_below y (last_all (EntryFits w ps) (waiting x) items y all e)
          in_bounds false = zero_below w

      by : (b : Bool) (o : Option Entry) → last_such (waiting x) items ≡ o → cond b 0 (load_value xs x o) < 2 ^ w
      by true o e = zero_below w
      by false o e = load o e

  exec_items : (q : QueueState) (xs : List ℕ) (e : ℕ) (o : Option Entry) → find (is_serial e) q.items ≡ o → may_exec q.forward q.items o ≡ true → All (λ v. v < 2 ^ w) xs → All (EntryFits w ps) q.items
      → All (EntryFits w ps) (exec q xs e o).queue.items
  exec_items q xs e None f can elements all = all
  exec_items q xs e (Some x) f can elements all =
      all_changed (EntryFits w ps) (is_serial e) (executed (exec_value xs q.items x)) q.items
      (λ y g h. (let z : Some x ≡ Some y = sym f ∙ g in let j : x ≡ y = cc in
      executed_fits (exec_value xs q.items x) (value_below xs q.items x elements all) y (subst (λ (k : Entry). ready k ≡ true) j (and_parts (ready x) _ can).0) (λ s. of_store x (ap (λ (k : Entry). k.store) j ∙ s)) h)) all
    where
      of_store : (x : Entry) → x.store ≡ true → exec_value xs q.items x ≡ 0
      of_store x s = rw s refl

  done_found : (o : Option Entry) (y : Entry) → is_done o ≡ true → o ≡ Some y → y.done ≡ true
  done_found None y d e = cc
  done_found (Some x) y d e = let j : x ≡ y = cc in subst (λ (k : Entry). k.done ≡ true) j d

  -- the tokens that an act takes are patterns of its place's width
  abbrev pub TokenFits : Act → ℕ → Type 0
  TokenFits (Addr p) v = v < 2 ^ 64
  TokenFits (Data p) v = v < 2 ^ w
  TokenFits a v = Unit {0}

  pub entries_stay : (d : ℕ) (gs : List (List ℕ)) (q : QueueState) (xs : List ℕ) (a : Act) (v : ℕ) → can d gs q a ≡ true → TokenFits a v → All (λ v. v < 2 ^ w) xs → All (EntryFits w ps) q.items
      → All (EntryFits w ps) (step ps gs q xs a v).queue.items
  entries_stay d gs q xs (Alloc g) v c t elements all = All-append (EntryFits w ps) q.items (fresh q.next ps (get_or gs g [])) all (fresh_fits q.next (get_or gs g []))
  entries_stay d gs q xs (Addr p) v c t elements all = all_changed (EntryFits w ps) (wants_addr p) (with_addr v) q.items (λ y f h. addr_fits v t y h) all
  entries_stay d gs q xs (Data p) v c t elements all = all_changed (EntryFits w ps) (wants_data p) (with_data v) q.items (λ y f h. data_fits p v t y (find_holds (wants_data p) q.items y f) h) all
  entries_stay d gs q xs (Exec e) v c t elements all = exec_items q xs e (find (is_serial e) q.items) refl c elements all
  entries_stay d gs q xs (Reply p) v c t elements all =
      all_changed (EntryFits w ps) (wants_reply p) answered q.items (λ y f h. answered_fits p y (find_holds (wants_reply p) q.items y f) (done_found (find (wants_reply p) q.items) y c f) h) all
  entries_stay d gs q xs Retire v c t elements all = rest_all q.items all
    where
      rest_all : (items : List Entry) → All (EntryFits w ps) items → All (EntryFits w ps) (rest items)
      rest_all [] h = h
      rest_all (x ∷ items) h = All-tail (EntryFits w ps) x items h
  entries_stay d gs q xs _ v c t elements all = all

  -- the value that a reply puts
  pub reply_below : (items : List Entry) (p : ℕ) → All (EntryFits w ps) items → value_of (find (wants_reply p) items) < 2 ^ w
  reply_below items p all = by (find (wants_reply p) items) refl
    where
      by : (o : Option Entry) → find (wants_reply p) items ≡ o → value_of o < 2 ^ w
      by None e = zero_below w
      by (Some x) e = (find_all (EntryFits w ps) (wants_reply p) items x all e).value

  -- the array after an act
  written_below : (xs : List ℕ) (x : Entry) → EntryFits w ps x → All (λ v. v < 2 ^ w) xs → All (λ v. v < 2 ^ w) (exec_array xs x) × (length (exec_array xs x) ≡ length xs)
  written_below xs x h all = by x.store
    where
      by : (b : Bool) → All (λ v. v < 2 ^ w) (cond b (set xs (or_zero x.addr) (or_zero x.datum)) xs) × (length (cond b (set xs (or_zero x.addr) (or_zero x.datum)) xs) ≡ length xs)
      by true = (All-set (λ v. v < 2 ^ w) xs (or_zero x.addr) (or_zero x.datum) (datum_below x h) all, length-set xs (or_zero x.addr) (or_zero x.datum))
      by false = (all, refl)

  pub elements_stay : (gs : List (List ℕ)) (q : QueueState) (xs : List ℕ) (a : Act) (v : ℕ) → All (λ v. v < 2 ^ w) xs → All (EntryFits w ps) q.items
      → All (λ v. v < 2 ^ w) (step ps gs q xs a v).array × (length (step ps gs q xs a v).array ≡ length xs)
  elements_stay gs q xs (Exec e) v elements all = by (find (is_serial e) q.items) refl
    where
      by : (o : Option Entry) → find (is_serial e) q.items ≡ o → All (λ v. v < 2 ^ w) (exec q xs e o).array × (length (exec q xs e o).array ≡ length xs)
      by None f = (elements, refl)
      by (Some x) f = written_below xs x (find_all (EntryFits w ps) (is_serial e) q.items x all f) elements
  elements_stay gs q xs Go v elements all = (elements, refl)
  elements_stay gs q xs a v elements all = (elements, refl)

-- ---- a queue that may stand

exec_long : (q : QueueState) (xs : List ℕ) (e : ℕ) (o : Option Entry) → (length (exec q xs e o).queue.items ≡ length q.items) × ((exec q xs e o).queue.next ≡ q.next)
exec_long q xs e None = (refl, refl)
exec_long q xs e (Some x) = (length-first_changed (is_serial e) (executed (exec_value xs q.items x)) q.items, refl)

-- there is room for the entries, and they are numbered
abbrev IsRoomy : ℕ → QueueState → Type 0
IsRoomy d q = (length q.items ≤ d) × (length q.items ≤ q.next)

roomy_stays : (d : ℕ) (ps : List Port) (gs : List (List ℕ)) (q : QueueState) (xs : List ℕ) (a : Act) (v : ℕ) → can d gs q a ≡ true → IsRoomy d q → IsRoomy d (step ps gs q xs a v).queue
roomy_stays d ps gs q xs (Alloc g) v c h =
    let l = leb-true _ _ (and_parts (nat_lt g (length gs)) _ c).1 in
    let m = length-append q.items (fresh q.next ps (get_or gs g [])) in
    let n = length-fresh q.next ps (get_or gs g []) in
    let r = h.0 in let s = h.1 in
    (omega arith, omega arith)
roomy_stays d ps gs q xs (Addr p) v c h = let e = length-first_changed (wants_addr p) (with_addr v) q.items in let r = h.0 in let s = h.1 in (omega arith, omega arith)
roomy_stays d ps gs q xs (Data p) v c h = let e = length-first_changed (wants_data p) (with_data v) q.items in let r = h.0 in let s = h.1 in (omega arith, omega arith)
roomy_stays d ps gs q xs (Exec e) v c h = let w = exec_long q xs e (find (is_serial e) q.items) in let a = w.0 in let b = w.1 in let r = h.0 in let s = h.1 in (omega arith, omega arith)
roomy_stays d ps gs q xs (Reply p) v c h = let e = length-first_changed (wants_reply p) answered q.items in let r = h.0 in let s = h.1 in (omega arith, omega arith)
roomy_stays d ps gs q xs Retire v c h = let l = rest_long q.items in let r = h.0 in let s = h.1 in (omega arith, omega arith)
  where
    rest_long : (items : List Entry) → length (rest items) ≤ length items
    rest_long [] = omega arith
    rest_long (x ∷ items) = omega arith
roomy_stays d ps gs q xs Go v c h = h
roomy_stays d ps gs q xs a v c h = h

pub standing_stays : StaysInOrder → StaysInPorts → (d : ℕ) (ps : List Port) (gs : List (List ℕ)) (q : QueueState) (xs : List ℕ) (a : Act) (v : ℕ) → GroupsWithin (length ps) gs → can d gs q a ≡ true
    → (step ps gs q xs a v).queue.next ≤ 2 ^ 62 → MayStand d (length ps) q → MayStand d (length ps) (step ps gs q xs a v).queue
standing_stays order ports d ps gs q xs a v groups c n h =
    let r = roomy_stays d ps gs q xs a v c (h.room, h.numbered) in
    record { room = r.0; order = order ps gs q xs a v h.order; named = ports (length ps) ps gs q xs a v groups h.named; numbered = r.1; next = n }
