-- Filling a table from the last channel to the first.
use Rattle.std.proofs.Common.{◌≡◌, ℕ, zero, suc, ◌+◌, ◌-◌, ◌<◌, ◌≤◌, ◌⊎◌, ◌&&◌, ◌==◌, Bool, true, false, cond, List, [], ◌∷◌, length, get_or, set, drop, refl, sym, ap, subst, ◌∙◌, inl, inr, arith, eqb-true, eq-eqb, length-set, get_or-set_same, get_or-set_other, lt-ltb, le-ltb, nat_lt}
use Rattle.std.proofs.lemmas.Bool.{cases_lt, cases_eq}
use Rattle.std.proofs.Math.Seq.{drop-cons}
use Rattle.net_types.specs.declared.net.Place.{Place}
use Rattle.net_types.specs.declared.net.Chan.{Chan}
use Rattle.net_types.specs.declared.net.Unit.{Unit as Kind}
use Rattle.net_types.specs.declared.net.Unit.TheVariants.{Sink}
use Rattle.net_types.specs.Nets.{is_at, nowhere}
use Rattle.net_check.specs.declared.wires.Side.{Side}
use Rattle.net_check.specs.declared.wires.Side.TheVariants.{In, Out}
use Rattle.net_check.specs.private.Wires.{bound, end_of, first_at, starts_from, Rises, Fits, Inside, wire, IsTable, AreInside}

pub starts-some : (side : Side) (n : ℕ) (ks : List Kind) → 0 < length (starts_from side n ks)
starts-some side n [] = omega arith
starts-some side n (k ∷ ks) = omega arith

pub starts-least : (side : Side) (n : ℕ) (ks : List Kind) (v : ℕ) → v < length (starts_from side n ks) → n ≤ get_or (starts_from side n ks) v 0
starts-least side n [] zero l = omega arith
starts-least side n [] (suc v) l = absurd (omega arith)
starts-least side n (k ∷ ks) zero l = omega arith
starts-least side n (k ∷ ks) (suc v) l = let r = starts-least side (n + bound side k) ks v (omega arith) in omega arith

pub rises-starts : (side : Side) (n : ℕ) (ks : List Kind) → Rises (starts_from side n ks)
rises-starts side n [] zero zero h l = omega arith
rises-starts side n [] u (suc v) h l = absurd (omega arith)
rises-starts side n [] (suc u) zero h l = absurd (omega arith)
rises-starts side n (k ∷ ks) zero v h l = starts-least side n (k ∷ ks) v l
rises-starts side n (k ∷ ks) (suc u) zero h l = absurd (omega arith)
rises-starts side n (k ∷ ks) (suc u) (suc v) h l = rises-starts side (n + bound side k) ks u v (omega arith) (omega arith)

-- what the table tells once the channels from number i on are filled in
pub record Filled (side : Side) (starts table : List ℕ) (i : ℕ) (chans : List Chan) : Type 0 where
  pub size : length table ≡ get_or starts (length starts - 1) 0
  pub within : i ≤ length chans
  pub inside : (u p : ℕ) → Inside starts u p → get_or table (get_or starts u 0 + p) 0 ≡ i + first_at side u p (drop i chans)
  pub outside : (u p : ℕ) → (Inside starts u p → ⊥) → i + first_at side u p (drop i chans) ≡ length chans

pub first-cons : (side : Side) (u p : ℕ) (c : Chan) (cs : List Chan) → first_at side u p (c ∷ cs) ≡ cond (is_at (end_of side c) u p) 0 (suc (first_at side u p cs))
first-cons In u p c cs = refl
first-cons Out u p c cs = refl

pub first-nil : (side : Side) (u p : ℕ) → first_at side u p [] ≡ 0
first-nil In u p = refl
first-nil Out u p = refl

-- places have entries of their own
one_entry : (starts : List ℕ) (u v p q : ℕ) → Rises starts → u + 1 < length starts → v + 1 < length starts → Inside starts u p → Inside starts v q
    → get_or starts u 0 + p ≡ get_or starts v 0 + q → (u ≡ v) × (p ≡ q)
one_entry starts u v p q rises lu lv a b e = by (cases_lt u v) (cases_lt v u)
  where
    by : (u < v) ⊎ (v ≤ u) → (v < u) ⊎ (u ≤ v) → (u ≡ v) × (p ≡ q)
    by (inl l) y = let r = rises (u + 1) v (omega arith) (omega arith) in absurd (omega arith)
    by (inr l) (inl m) = let r = rises (v + 1) u (omega arith) (omega arith) in absurd (omega arith)
    by (inr l) (inr m) =
        let k : u ≡ v = omega arith in
        let s : get_or starts u 0 ≡ get_or starts v 0 = ap (λ x. get_or starts x 0) k in
        (k, omega arith)

pub not_at : (x : Place) (u p : ℕ) → (x.unit ≡ u → x.place ≡ p → ⊥) → is_at x u p ≡ false
not_at x u p h = by (x.unit == u) refl (x.place == p) refl
  where
    by : (a : Bool) → (x.unit == u) ≡ a → (b : Bool) → (x.place == p) ≡ b → a && b ≡ false
    by true a true b = absurd (h (eqb-true _ _ a) (eqb-true _ _ b))
    by true a false b = refl
    by false a b c = refl

is_there : (x : Place) (u p : ℕ) → x.unit ≡ u → x.place ≡ p → is_at x u p ≡ true
is_there x u p a b = rw (eq-eqb x.unit u a, eq-eqb x.place p b) refl

past : (starts : List ℕ) (u : ℕ) → length starts ≤ u → get_or starts u 0 ≡ 0
past [] u l = refl
past (x ∷ xs) zero l = absurd (omega arith)
past (x ∷ xs) (suc u) l = past xs u (omega arith)

inside_within : (starts : List ℕ) (u p : ℕ) → Inside starts u p → u + 1 < length starts
inside_within starts u p h = elim (cases_lt (u + 1) (length starts)) [ inl l ↦ l | inr l ↦ (let e = past starts (u + 1) l in absurd (omega arith)) ]

pub filled_step : (side : Side) (starts table : List ℕ) (i : ℕ) (chans : List Chan) (c : Chan) → Rises starts → Filled side starts table (suc i) chans
    → get_or chans i c ≡ c → Inside starts (end_of side c).unit (end_of side c).place
    → Filled side starts (set table (get_or starts (end_of side c).unit 0 + (end_of side c).place) i) i chans
filled_step side starts table i chans c rises f at here = record {
  size = rw length-set f.size;
  within = (let w = f.within in omega arith);
  inside = λ u p h. rw (rest u p) (one u p h (cases_eq (get_or starts u 0 + p) (get_or starts (end_of side c).unit 0 + (end_of side c).place)));
  outside = λ u p h. rw (rest u p) (none u p h);
}
  where
    k : ℕ
    k = get_or starts (end_of side c).unit 0 + (end_of side c).place

    rest : (u p : ℕ) → first_at side u p (drop i chans) ≡ cond (is_at (end_of side c) u p) 0 (suc (first_at side u p (drop (suc i) chans)))
    rest u p =
        let w : i < length chans = (let w = f.within in omega arith) in
        let d : drop i chans ≡ c ∷ drop (suc i) chans = drop-cons chans i c w ∙ ap (λ x. x ∷ drop (suc i) chans) at in
        ap (first_at side u p) d ∙ first-cons side u p c (drop (suc i) chans)

    lk : get_or starts (end_of side c).unit 0 + (end_of side c).place < length table
    lk = let w = inside_within starts (end_of side c).unit (end_of side c).place here in
        let r = rises ((end_of side c).unit + 1) (length starts - 1) (omega arith) (omega arith) in
        let s = f.size in omega arith

    one : (u p : ℕ) → Inside starts u p → (get_or starts u 0 + p ≡ get_or starts (end_of side c).unit 0 + (end_of side c).place) ⊎ (get_or starts u 0 + p ≡ get_or starts (end_of side c).unit 0 + (end_of side c).place → ⊥)
        → get_or (set table (get_or starts (end_of side c).unit 0 + (end_of side c).place) i) (get_or starts u 0 + p) 0 ≡ i + cond (is_at (end_of side c) u p) 0 (suc (first_at side u p (drop (suc i) chans)))
    one u p h (inl e) =
        let w = one_entry starts u (end_of side c).unit p (end_of side c).place rises (inside_within starts u p h) (inside_within starts _ _ here) h here e in
        let b : is_at (end_of side c) u p ≡ true = is_there (end_of side c) u p (sym w.0) (sym w.1) in
        let g : get_or (set table k i) k 0 ≡ i = get_or-set_same table k i 0 lk in
        rw (e, b, g) (omega arith)
    one u p h (inr n) =
        let b : is_at (end_of side c) u p ≡ false = not_at (end_of side c) u p (λ a d. n (rw (a, d) refl)) in
        let g : get_or (set table k i) (get_or starts u 0 + p) 0 ≡ get_or table (get_or starts u 0 + p) 0 = get_or-set_other table k (get_or starts u 0 + p) i 0 n in
        let o = f.inside u p h in
        rw (b, g) (omega arith)

    none : (u p : ℕ) → (Inside starts u p → ⊥) → i + cond (is_at (end_of side c) u p) 0 (suc (first_at side u p (drop (suc i) chans))) ≡ length chans
    none u p h =
        let b : is_at (end_of side c) u p ≡ false = not_at (end_of side c) u p (λ a d. h (let P : ℕ → Type 0 = λ x. Inside starts x p in subst P a (let Q : ℕ → Type 0 = λ x. Inside starts (end_of side c).unit x in subst Q d here))) in
        let o = f.outside u p h in
        rw b (omega arith)

pub filled_none : (side : Side) (starts : List ℕ) (chans : List Chan) (table : List ℕ) → length table ≡ get_or starts (length starts - 1) 0
    → ((k : ℕ) → k < length table → get_or table k 0 ≡ length chans) → Rises starts → Filled side starts table (length chans) chans
filled_none side starts chans table size all rises = record {
  size = size;
  within = omega arith;
  inside = λ u p h. (let w = inside_within starts u p h in let r = rises (u + 1) (length starts - 1) (omega arith) (omega arith) in rw (gone u p) (all _ (omega arith) ∙ omega arith));
  outside = λ u p h. rw (gone u p) (omega arith);
}
  where
    empty : {A : Type 0} (xs : List A) → drop (length xs) xs ≡ []
    empty [] = refl
    empty (x ∷ xs) = empty xs

    gone : (u p : ℕ) → first_at side u p (drop (length chans) chans) ≡ 0
    gone u p = ap (first_at side u p) (empty chans) ∙ first-nil side u p

pub filled_all : (side : Side) (starts table : List ℕ) (chans : List Chan) → Filled side starts table 0 chans → IsTable side starts table (length chans) chans
filled_all side starts table chans f = record { past = refl; tells = λ u p. by u p (cases_lt (get_or starts u 0 + p) (get_or starts (u + 1) 0)) }
  where
    by : (u p : ℕ) → (get_or starts u 0 + p < get_or starts (u + 1) 0) ⊎ (get_or starts (u + 1) 0 ≤ get_or starts u 0 + p) → wire starts table (length chans) u p ≡ first_at side u p chans
    by u p (inl l) = let b : nat_lt (get_or starts u 0 + p) (get_or starts (u + 1) 0) ≡ true = lt-ltb _ _ l in let i = f.inside u p l in rw b (i ∙ omega arith)
    by u p (inr l) = let b : nat_lt (get_or starts u 0 + p) (get_or starts (u + 1) 0) ≡ false = le-ltb _ _ l in let i = f.outside u p (λ h. (omega arith)) in rw b (sym (i) ∙ omega arith)

pub fits_of : (starts table : List ℕ) → Rises starts → length table ≡ get_or starts (length starts - 1) 0 → Fits starts table
fits_of starts table rises size u l = let r = rises u (length starts - 1) (omega arith) (omega arith) in omega arith

any_default : (cs : List Chan) (i : ℕ) (d e : Chan) → i < length cs → get_or cs i d ≡ get_or cs i e
any_default [] i d e l = absurd (omega arith)
any_default (c ∷ cs) zero d e l = refl
any_default (c ∷ cs) (suc i) d e l = any_default cs i d e (omega arith)

pub filled_at : (side : Side) (starts table : List ℕ) (at : ℕ) (chans : List Chan) (d : Chan) (x : Place) → Rises starts → Filled side starts table at chans → 0 < at
    → x ≡ end_of side (get_or chans (at - 1) d) → Inside starts x.unit x.place
    → Filled side starts (set table (get_or starts x.unit 0 + x.place) (at - 1)) (at - 1) chans
filled_at side starts table zero chans d x rises f some is here = absurd (omega arith)
filled_at side starts table (suc i) chans d x rises f some is here =
    let e : suc i - 1 ≡ i = omega arith in
    let c : Chan = get_or chans i d in
    let w = f.within in
    let a : x ≡ end_of side c = is ∙ ap (λ j. end_of side (get_or chans j d)) e in
    let P : Place → Type 0 = λ y. Inside starts y.unit y.place in
    let k : Filled side starts (set table (get_or starts (end_of side c).unit 0 + (end_of side c).place) i) i chans =
    filled_step side starts table i chans c rises f (any_default chans i c d (omega arith)) (subst P a here) in
    rw (e, a) k

-- a place with an entry has it within the table
pub entry_within : (starts table : List ℕ) (x : Place) → Rises starts → length table ≡ get_or starts (length starts - 1) 0 → Inside starts x.unit x.place
    → (x.unit + 1 < length starts) × (get_or starts x.unit 0 + x.place < length table)
entry_within starts table x rises size h =
    let w = inside_within starts x.unit x.place h in
    let r = rises (x.unit + 1) (length starts - 1) (omega arith) (omega arith) in
    (w, omega arith)

pub inside_at : (side : Side) (starts : List ℕ) (chans : List Chan) (i : ℕ) (d : Chan) (x : Place) → AreInside side starts chans → 0 < i → i ≤ length chans → x ≡ end_of side (get_or chans (i - 1) d) → Inside starts x.unit x.place
inside_at side starts chans i d x a some most is =
    let e : x ≡ end_of side (get_or chans (i - 1) nowhere) = is ∙ ap (end_of side) (any_default chans (i - 1) d nowhere (omega arith)) in
    let P : Place → Type 0 = λ y. Inside starts y.unit y.place in
    subst P (sym e) (a.each (i - 1) (omega arith))

pub starts_next : (side : Side) (n : ℕ) (ks : List Kind) (u : ℕ) → u < length ks → get_or (starts_from side n ks) (u + 1) 0 ≡ get_or (starts_from side n ks) u 0 + bound side (get_or ks u (Sink 0))
starts_next side n [] u l = absurd (omega arith)
starts_next side n (k ∷ []) zero l = refl
starts_next side n (k ∷ (j ∷ ks)) zero l = refl
starts_next side n (k ∷ ks) (suc u) l = let z : suc u + 1 ≡ suc (u + 1) = omega arith in rw z (starts_next side (n + bound side k) ks u (omega arith))
