-- Entries of a queue: finding, changing the first, dropping the head, appending.
use Rattle.std.proofs.Common.{◌≡◌, ℕ, suc, ◌<◌, ◌≤◌, ◌⊎◌, ◌&&◌, Bool, true, false, cond, Option, Some, None, List, [], ◌∷◌, ◌++◌, length, refl, sym, ap, ◌∙◌, inl, inr, arith, nat_lt, nat_le, ltb-true, lt-ltb, leb-true}
use Rattle.std.specs.List.{find, list_all}
use Rattle.lsq_core.specs.declared.entry.Entry.{Entry}
use Rattle.lsq_core.specs.Acts.{first_changed, later, last_such}
use Rattle.lsq_core.specs.Laws.{above, rising}

-- the change of the one leaves the test of the other
abbrev pub Neutral : (Entry → Bool) → (Entry → Bool) → (Entry → Entry) → Type 0
Neutral test test' change' = (z : Entry) → test' z ≡ true → test (change' z) ≡ test z

find_kept_at : (t t' : Entry → Bool) (u' : Entry → Entry) (x y : Entry) (xs : List Entry) (b b' : Bool) → t x ≡ b → t' x ≡ b' → Neutral t t' u'
    → cond b (Some x) (find t xs) ≡ Some y
    → (find t xs ≡ Some y → (find t (first_changed t' u' xs) ≡ Some y) ⊎ ((find t' xs ≡ Some y) × (find t (first_changed t' u' xs) ≡ Some (u' y))))
    → (find t (cond b' (u' x ∷ xs) (x ∷ first_changed t' u' xs)) ≡ Some y) ⊎ ((cond b' (Some x) (find t' xs) ≡ Some y) × (find t (cond b' (u' x ∷ xs) (x ∷ first_changed t' u' xs)) ≡ Some (u' y)))
find_kept_at t t' u' x y xs true true is is' neutral e ih =
    let n : t (u' x) ≡ true = neutral x is' ∙ is in
    inr (e, rw n (ap (λ o. option_change o) e))
  where
    option_change : Option Entry → Option Entry
    option_change None = None
    option_change (Some z) = Some (u' z)
find_kept_at t t' u' x y xs true false is is' neutral e ih = inl (rw is e)
find_kept_at t t' u' x y xs false true is is' neutral e ih =
    let n : t (u' x) ≡ false = neutral x is' ∙ is in inl (rw n e)
find_kept_at t t' u' x y xs false false is is' neutral e ih = elim (ih e) [ inl a ↦ inl (rw is a) | inr a ↦ inr (a.0, rw is a.1) ]

-- what a test finds is found after another change, as it was or changed
pub find_kept : (t t' : Entry → Bool) (u' : Entry → Entry) (xs : List Entry) (y : Entry) → Neutral t t' u' → find t xs ≡ Some y
    → (find t (first_changed t' u' xs) ≡ Some y) ⊎ ((find t' xs ≡ Some y) × (find t (first_changed t' u' xs) ≡ Some (u' y)))
find_kept t t' u' [] y neutral e = cc
find_kept t t' u' (x ∷ xs) y neutral e = find_kept_at t t' u' x y xs (t x) (t' x) refl refl neutral e (find_kept t t' u' xs y neutral)

comm_at : (t1 t2 : Entry → Bool) (u1 u2 : Entry → Entry) (x : Entry) (xs : List Entry) (b1 b2 : Bool) → t1 x ≡ b1 → t2 x ≡ b2
    → Neutral t1 t2 u2 → Neutral t2 t1 u1 → ((z : Entry) → t1 z ≡ true → t2 z ≡ true → u1 (u2 z) ≡ u2 (u1 z))
    → first_changed t1 u1 (first_changed t2 u2 xs) ≡ first_changed t2 u2 (first_changed t1 u1 xs)
    → first_changed t1 u1 (cond b2 (u2 x ∷ xs) (x ∷ first_changed t2 u2 xs)) ≡ first_changed t2 u2 (cond b1 (u1 x ∷ xs) (x ∷ first_changed t1 u1 xs))
comm_at t1 t2 u1 u2 x xs true true is1 is2 n12 n21 both ih =
    let a : t1 (u2 x) ≡ true = n12 x is2 ∙ is1 in
    let b : t2 (u1 x) ≡ true = n21 x is1 ∙ is2 in
    rw (a, b) (ap (λ z. z ∷ xs) (both x is1 is2))
comm_at t1 t2 u1 u2 x xs true false is1 is2 n12 n21 both ih =
    let b : t2 (u1 x) ≡ false = n21 x is1 ∙ is2 in rw (is1, b) refl
comm_at t1 t2 u1 u2 x xs false true is1 is2 n12 n21 both ih =
    let a : t1 (u2 x) ≡ false = n12 x is2 ∙ is1 in rw (a, is2) refl
comm_at t1 t2 u1 u2 x xs false false is1 is2 n12 n21 both ih = rw (is1, is2) (ap (λ r. x ∷ r) ih)

-- two changes in either order
pub changes_comm : (t1 t2 : Entry → Bool) (u1 u2 : Entry → Entry) (xs : List Entry)
    → Neutral t1 t2 u2 → Neutral t2 t1 u1 → ((z : Entry) → t1 z ≡ true → t2 z ≡ true → u1 (u2 z) ≡ u2 (u1 z))
    → first_changed t1 u1 (first_changed t2 u2 xs) ≡ first_changed t2 u2 (first_changed t1 u1 xs)
changes_comm t1 t2 u1 u2 [] n12 n21 both = refl
changes_comm t1 t2 u1 u2 (x ∷ xs) n12 n21 both =
    comm_at t1 t2 u1 u2 x xs (t1 x) (t2 x) refl refl n12 n21 both (changes_comm t1 t2 u1 u2 xs n12 n21 both)

all_at : (P t' : Entry → Bool) (u' : Entry → Entry) (x : Entry) (xs : List Entry) (b : Bool) → t' x ≡ b
    → ((y : Entry) → cond b (Some x) (find t' xs) ≡ Some y → P y ≡ true → P (u' y) ≡ true)
    → (P x ≡ true) × (list_all P xs ≡ true)
    → (((y : Entry) → find t' xs ≡ Some y → P y ≡ true → P (u' y) ≡ true) → list_all P xs ≡ true → list_all P (first_changed t' u' xs) ≡ true)
    → list_all P (cond b (u' x ∷ xs) (x ∷ first_changed t' u' xs)) ≡ true
all_at P t' u' x xs true is keeps h ih = rw (keeps x refl h.0) h.1
all_at P t' u' x xs false is keeps h ih = rw h.0 (ih keeps h.1)

pub and_true : (a b : Bool) → a ≡ true → b ≡ true → a && b ≡ true
and_true true true a b = refl
and_true true false a b = b
and_true false b a c = a

pub and_inv : (a b : Bool) → a && b ≡ true → (a ≡ true) × (b ≡ true)
and_inv true true e = (refl, refl)
and_inv true false e = cc
and_inv false b e = cc

-- what holds of each item holds after a change that keeps it at the item found
pub all_kept : (P t' : Entry → Bool) (u' : Entry → Entry) (xs : List Entry) → list_all P xs ≡ true
    → ((y : Entry) → find t' xs ≡ Some y → P y ≡ true → P (u' y) ≡ true) → list_all P (first_changed t' u' xs) ≡ true
all_kept P t' u' [] h keeps = refl
all_kept P t' u' (x ∷ xs) h keeps =
    all_at P t' u' x xs (t' x) refl keeps (and_inv (P x) (list_all P xs) h) (λ k g. all_kept P t' u' xs g k)

pub find_holds : (t : Entry → Bool) (xs : List Entry) (x : Entry) → find t xs ≡ Some x → t x ≡ true
find_holds t [] x e = cc
find_holds t (y ∷ ys) x e = by (t y) refl e (find_holds t ys x)
  where
    by : (b : Bool) → t y ≡ b → cond b (Some y) (find t ys) ≡ Some x → (find t ys ≡ Some x → t x ≡ true) → t x ≡ true
    by true is q rest = let e : y ≡ x = cc in rw (← e) is
    by false is q rest = rest q

pub all_found : (P t : Entry → Bool) (xs : List Entry) (x : Entry) → list_all P xs ≡ true → find t xs ≡ Some x → P x ≡ true
all_found P t [] x h e = cc
all_found P t (y ∷ ys) x h e = by (t y) e (and_inv (P y) (list_all P ys) h) (λ g. all_found P t ys x g)
  where
    by : (b : Bool) → cond b (Some y) (find t ys) ≡ Some x → (P y ≡ true) × (list_all P ys ≡ true) → (list_all P ys ≡ true → find t ys ≡ Some x → P x ≡ true) → P x ≡ true
    by true q k rest = let e : y ≡ x = cc in rw (← e) k.0
    by false q k rest = rest k.1 q

pub find_appended : (t : Entry → Bool) (xs ys : List Entry) (x : Entry) → find t xs ≡ Some x → find t (xs ++ ys) ≡ Some x
find_appended t [] ys x e = cc
find_appended t (y ∷ xs) ys x e = by (t y) e (find_appended t xs ys x)
  where
    by : (b : Bool) → cond b (Some y) (find t xs) ≡ Some x → (find t xs ≡ Some x → find t (xs ++ ys) ≡ Some x) → cond b (Some y) (find t (xs ++ ys)) ≡ Some x
    by true q rest = q
    by false q rest = rest q

pub change_appended : (t : Entry → Bool) (u : Entry → Entry) (xs ys : List Entry) (x : Entry) → find t xs ≡ Some x
    → first_changed t u (xs ++ ys) ≡ first_changed t u xs ++ ys
change_appended t u [] ys x e = cc
change_appended t u (y ∷ xs) ys x e = by (t y) e (change_appended t u xs ys x)
  where
    by : (b : Bool) → cond b (Some y) (find t xs) ≡ Some x → (find t xs ≡ Some x → first_changed t u (xs ++ ys) ≡ first_changed t u xs ++ ys)
        → cond b (u y ∷ (xs ++ ys)) (y ∷ first_changed t u (xs ++ ys)) ≡ cond b (u y ∷ xs) (y ∷ first_changed t u xs) ++ ys
    by true q rest = refl
    by false q rest = ap (λ r. y ∷ r) (rest q)

pub all_appended : (P : Entry → Bool) (xs ys : List Entry) → list_all P xs ≡ true → list_all P ys ≡ true → list_all P (xs ++ ys) ≡ true
all_appended P [] ys h g = g
all_appended P (x ∷ xs) ys h g = let w = and_inv (P x) (list_all P xs) h in rw w.0 (all_appended P xs ys w.1 g)

pub length-first_changed : (t : Entry → Bool) (u : Entry → Entry) (xs : List Entry) → length (first_changed t u xs) ≡ length xs
length-first_changed t u [] = refl
length-first_changed t u (x ∷ xs) = by (t x) (length-first_changed t u xs)
  where
    by : (b : Bool) → length (first_changed t u xs) ≡ length xs → length (cond b (u x ∷ xs) (x ∷ first_changed t u xs)) ≡ suc (length xs)
    by true e = refl
    by false e = ap suc e

-- the last item that passes a test
later_false : (o : Option Entry) (x : Entry) → later o false x ≡ o
later_false None x = refl
later_false (Some y) x = refl

pub last_dropped : (t : Entry → Bool) (x : Entry) (xs : List Entry) → t x ≡ false → last_such t (x ∷ xs) ≡ last_such t xs
last_dropped t x xs e = ap (λ b. later (last_such t xs) b x) e ∙ later_false (last_such t xs) x

pub last_appended : (t : Entry → Bool) (xs ys : List Entry) → last_such t ys ≡ None → last_such t (xs ++ ys) ≡ last_such t xs
last_appended t [] ys e = e
last_appended t (x ∷ xs) ys e = ap (λ o. later o (t x) x) (last_appended t xs ys e)

-- a change at an item that fails the test before and after
pub last_same : (t t' : Entry → Bool) (u' : Entry → Entry) (xs : List Entry) → ((y : Entry) → find t' xs ≡ Some y → (t y ≡ false) × (t (u' y) ≡ false))
    → last_such t (first_changed t' u' xs) ≡ last_such t xs
last_same t t' u' [] h = refl
last_same t t' u' (x ∷ xs) h = by (t' x) h (λ k. last_same t t' u' xs k)
  where
    by : (b : Bool) → ((y : Entry) → cond b (Some x) (find t' xs) ≡ Some y → (t y ≡ false) × (t (u' y) ≡ false))
        → (((y : Entry) → find t' xs ≡ Some y → (t y ≡ false) × (t (u' y) ≡ false)) → last_such t (first_changed t' u' xs) ≡ last_such t xs)
        → last_such t (cond b (u' x ∷ xs) (x ∷ first_changed t' u' xs)) ≡ last_such t (x ∷ xs)
    by true h r = let k = h x refl in last_dropped t (u' x) xs k.1 ∙ sym (last_dropped t x xs k.0)
    by false h r = ap (λ o. later o (t x) x) (r h)

-- a change that leaves the test: the last stays, or it is the item that is changed
pub last_kept : (t t' : Entry → Bool) (u' : Entry → Entry) (xs : List Entry) → ((z : Entry) → t (u' z) ≡ t z)
    → (last_such t (first_changed t' u' xs) ≡ last_such t xs) ⊎ ((z : Entry) × (find t' xs ≡ Some z) × (last_such t xs ≡ Some z))
last_kept t t' u' [] n = inl refl
last_kept t t' u' (x ∷ xs) n = by (t' x) (last_kept t t' u' xs n)
  where
    at : (o : Option Entry) (b : Bool) → last_such t xs ≡ o → t x ≡ b → (later o (t (u' x)) (u' x) ≡ later o b x) ⊎ ((z : Entry) × (Some x ≡ Some z) × (later o b x ≡ Some z))
    at (Some y) b is e = inl refl
    at None true is e = inr (x, refl, refl)
    at None false is e = let k : t (u' x) ≡ false = n x ∙ e in inl (rw k refl)

    by : (b : Bool) → (last_such t (first_changed t' u' xs) ≡ last_such t xs) ⊎ ((z : Entry) × (find t' xs ≡ Some z) × (last_such t xs ≡ Some z))
        → (last_such t (cond b (u' x ∷ xs) (x ∷ first_changed t' u' xs)) ≡ last_such t (x ∷ xs)) ⊎ ((z : Entry) × (cond b (Some x) (find t' xs) ≡ Some z) × (last_such t (x ∷ xs) ≡ Some z))
    by true r = at (last_such t xs) (t x) refl refl
    by false (inl e) = inl (ap (λ o. later o (t x) x) e)
    by false (inr w) = inr (w.0, w.1, ap (λ o. later o (t x) x) w.2)

-- where no item passes
pub last_none : (t t' : Entry → Bool) (xs : List Entry) (y : Entry) → last_such t xs ≡ None → find t' xs ≡ Some y → t y ≡ false
last_none t t' [] y e f = cc
last_none t t' (x ∷ xs) y e f = at (last_such t xs) refl e (last_none t t' xs y)
  where
    here : (b : Bool) → t x ≡ b → cond b (Some x) None ≡ None → t x ≡ false
    here true is e = cc
    here false is e = is

    by : (b : Bool) → t x ≡ false → cond b (Some x) (find t' xs) ≡ Some y → (find t' xs ≡ Some y → t y ≡ false) → t y ≡ false
    by true z q r = let k : x ≡ y = cc in rw (← k) z
    by false z q r = r q

    at : (o : Option Entry) → last_such t xs ≡ o → later o (t x) x ≡ None → (last_such t xs ≡ None → find t' xs ≡ Some y → t y ≡ false) → t y ≡ false
    at (Some z) is e r = cc
    at None is e r = by (t' x) (here (t x) refl e) f (r is)

pub rising_kept : (t : Entry → Bool) (u : Entry → Entry) (xs : List Entry) → ((y : Entry) → (u y).serial ≡ y.serial) → rising xs ≡ true → rising (first_changed t u xs) ≡ true
rising_kept t u [] n h = refl
rising_kept t u (x ∷ xs) n h = let w = and_inv (list_all (above x) xs) (rising xs) h in by (t x) w.0 w.1 (rising_kept t u xs n)
  where
    same_above : (ys : List Entry) → list_all (above (u x)) ys ≡ list_all (above x) ys
    same_above ys = ap (λ s. list_all (λ o. nat_lt s o.serial) ys) (n x)

    by : (b : Bool) → list_all (above x) xs ≡ true → rising xs ≡ true → (rising xs ≡ true → rising (first_changed t u xs) ≡ true) → rising (cond b (u x ∷ xs) (x ∷ first_changed t u xs)) ≡ true
    by true a r ih = let k = same_above xs ∙ a in rw (k, r) refl
    by false a r ih =
        let k : list_all (above x) (first_changed t u xs) ≡ true = all_kept (above x) t u xs a (λ y f p. ap (λ s. nat_lt x.serial s) (n y) ∙ p) in
        let m = ih r in rw (k, m) refl

pub rising_appended : (xs ys : List Entry) → rising xs ≡ true → rising ys ≡ true → (n : ℕ) → list_all (λ z. nat_lt z.serial n) xs ≡ true → list_all (λ o. nat_le n o.serial) ys ≡ true → rising (xs ++ ys) ≡ true
rising_appended [] ys r q n b a = q
rising_appended (x ∷ xs) ys r q n b a =
    let w = and_inv (list_all (above x) xs) (rising xs) r in
    let c = and_inv (nat_lt x.serial n) (list_all (λ z. nat_lt z.serial n) xs) b in
    let l : x.serial < n = ltb-true _ _ c.0 in
    let m : list_all (above x) ys ≡ true = far ys l a in
    let k : list_all (above x) (xs ++ ys) ≡ true = all_appended (above x) xs ys w.0 m in
    let i = rising_appended xs ys w.1 q n c.1 a in
    rw (k, i) refl
  where
    far : (ys : List Entry) → x.serial < n → list_all (λ o. nat_le n o.serial) ys ≡ true → list_all (above x) ys ≡ true
    far [] l a = refl
    far (y ∷ ys) l a =
        let w = and_inv (nat_le n y.serial) (list_all (λ o. nat_le n o.serial) ys) a in
        let p : n ≤ y.serial = leb-true _ _ w.0 in
        let t : nat_lt x.serial y.serial ≡ true = lt-ltb _ _ (omega arith) in
        let r = far ys l w.1 in rw (t, r) refl
