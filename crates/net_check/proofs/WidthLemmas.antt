-- Widths of places.
use Rattle.std.proofs.Common.{◌≡◌, ◌⊎◌, inl, inr, ℕ, zero, suc, ◌+◌, ◌-◌, ◌*◌, ◌/◌, ◌%◌, ◌<◌, ◌≤◌, nat_lt, Bool, true, false, cond, Option, Some, None, List, [], ◌∷◌, ◌++◌, length, get_or, sym, ap, refl, ◌∙◌, arith}
use Rattle.std.proofs.lemmas.Bool.{cases_eq, eq-eqb, ne_eqb, ltb-true, ltb-false}
use Rattle.el_base.specs.declared.ty.Scalar.{Scalar}
use Rattle.el_base.specs.declared.ty.Array.{Array}
use Rattle.el_base.specs.Widths.{ty_width}
use Rattle.net_types.specs.declared.net.Port.{Port}
use Rattle.net_types.specs.declared.net.Port.TheVariants.{Load, Store}
use Rattle.net_types.specs.declared.net.Net.{Net}
use Rattle.net_types.specs.declared.net.Unit.TheVariants.{Fork}
use Rattle.net_types.specs.Tables.{Spot, spot, spots, outs, port_ins, port_outs, array_width, scalar_width}
use Rattle.net_check.specs.private.Widths.{width_in}

other : (s : Spot) (ss : List Spot) (p : ℕ) → (s.place ≡ p → ⊥) → width_in (s ∷ ss) p ≡ width_in ss p
other s ss p h = ap (λ b. cond b (Some s.width) (width_in ss p)) (ne_eqb s.place p h)

here : (s : Spot) (ss : List Spot) (p : ℕ) → s.place ≡ p → width_in (s ∷ ss) p ≡ Some s.width
here s ss p h = ap (λ b. cond b (Some s.width) (width_in ss p)) (eq-eqb s.place p h)

skip : (q w : ℕ) (c : Bool) (ss : List Spot) (p : ℕ) → (q ≡ p → ⊥) → width_in (spot q w c ∷ ss) p ≡ width_in ss p
skip q w c ss p h = other (spot q w c) ss p h

found : (q w : ℕ) (c : Bool) (ss : List Spot) (p : ℕ) → q ≡ p → width_in (spot q w c ∷ ss) p ≡ Some w
found q w c ss p h = here (spot q w c) ss p h

pub before-spots : (q w : ℕ) (c : Bool) (n p : ℕ) → p < q → width_in (spots q w c n) p ≡ None
before-spots q w c zero p l = refl
before-spots q w c (suc n) p l = skip q w c (spots (suc q) w c n) p (λ e. (let z : q ≡ p = e in omega arith)) ∙ before-spots (suc q) w c n p (omega arith)

pub past-spots : (q w : ℕ) (c : Bool) (n p : ℕ) → q + n ≤ p → width_in (spots q w c n) p ≡ None
past-spots q w c zero p l = refl
past-spots q w c (suc n) p l = skip q w c (spots (suc q) w c n) p (λ e. (let z : q ≡ p = e in omega arith)) ∙ past-spots (suc q) w c n p (omega arith)

pub among-spots : (q w : ℕ) (c : Bool) (n p : ℕ) → q ≤ p → p < q + n → width_in (spots q w c n) p ≡ Some w
among-spots q w c zero p l m = absurd (omega arith)
among-spots q w c (suc n) p l m = by (cases_eq q p) (λ (k : suc q ≤ p). among-spots (suc q) w c n p k (omega arith))
  where
    by : (q ≡ p) ⊎ (q ≡ p → ⊥) → (suc q ≤ p → width_in (spots (suc q) w c n) p ≡ Some w) → width_in (spots q w c (suc n)) p ≡ Some w
    by (inl e) r = here (spot q w c) (spots (suc q) w c n) p e
    by (inr e) r = other (spot q w c) (spots (suc q) w c n) p e ∙ r (omega arith)

append-none : (xs ys : List Spot) (p : ℕ) → width_in xs p ≡ None → width_in (xs ++ ys) p ≡ width_in ys p
append-none [] ys p e = refl
append-none (x ∷ xs) ys p e = by (cases_eq x.place p) (λ (h : x.place ≡ p → ⊥). append-none xs ys p (sym (other x xs p h) ∙ e))
  where
    by : (x.place ≡ p) ⊎ (x.place ≡ p → ⊥) → ((x.place ≡ p → ⊥) → width_in (xs ++ ys) p ≡ width_in ys p) → width_in (x ∷ (xs ++ ys)) p ≡ width_in ys p
    by (inl h) r = let z : Some x.width ≡ None = sym (here x xs p h) ∙ e in cc
    by (inr h) r = other x (xs ++ ys) p h ∙ r h

append-some : (xs ys : List Spot) (p w : ℕ) → width_in xs p ≡ Some w → width_in (xs ++ ys) p ≡ Some w
append-some [] ys p w e = cc
append-some (x ∷ xs) ys p w e = by (cases_eq x.place p) (λ (h : x.place ≡ p → ⊥). append-some xs ys p w (sym (other x xs p h) ∙ e))
  where
    by : (x.place ≡ p) ⊎ (x.place ≡ p → ⊥) → ((x.place ≡ p → ⊥) → width_in (xs ++ ys) p ≡ Some w) → width_in (x ∷ (xs ++ ys)) p ≡ Some w
    by (inl h) r = here x (xs ++ ys) p h ∙ sym (here x xs p h) ∙ e
    by (inr h) r = other x (xs ++ ys) p h ∙ r h

-- a port's address, and its data or its value
abbrev pub data_of : ℕ → Port → Option ℕ
data_of w Load = None
data_of w Store = Some w

abbrev pub value_of : ℕ → Port → Option ℕ
value_of w Load = Some w
value_of w Store = None

before-ins : (q w : ℕ) (ps : List Port) (p : ℕ) → p < q → width_in (port_ins q w ps) p ≡ None
before-ins q w [] p l = refl
before-ins q w (Load ∷ ps) p l = skip q 64 false (port_ins (q + 2) w ps) p (λ e. (let z : q ≡ p = e in omega arith)) ∙ before-ins (q + 2) w ps p (omega arith)
before-ins q w (Store ∷ ps) p l = skip q 64 false (spot (q + 1) w false ∷ port_ins (q + 2) w ps) p (λ e. (let z : q ≡ p = e in omega arith)) ∙ skip (q + 1) w false (port_ins (q + 2) w ps) p (λ e. (let z : q + 1 ≡ p = e in omega arith)) ∙ before-ins (q + 2) w ps p (omega arith)

pub past-ins : (q w : ℕ) (ps : List Port) (p : ℕ) → q + 2 * length ps ≤ p → width_in (port_ins q w ps) p ≡ None
past-ins q w [] p l = refl
past-ins q w (Load ∷ ps) p l = skip q 64 false (port_ins (q + 2) w ps) p (λ e. (let z : q ≡ p = e in omega arith)) ∙ past-ins (q + 2) w ps p (omega arith)
past-ins q w (Store ∷ ps) p l = skip q 64 false (spot (q + 1) w false ∷ port_ins (q + 2) w ps) p (λ e. (let z : q ≡ p = e in omega arith)) ∙ skip (q + 1) w false (port_ins (q + 2) w ps) p (λ e. (let z : q + 1 ≡ p = e in omega arith)) ∙ past-ins (q + 2) w ps p (omega arith)

pub address-ins : (q w : ℕ) (ps : List Port) (i p : ℕ) → i < length ps → p ≡ q + 2 * i → width_in (port_ins q w ps) p ≡ Some 64
address-ins q w [] i p l e = absurd (omega arith)
address-ins q w (Load ∷ ps) zero p l e = found q 64 false (port_ins (q + 2) w ps) p (let z : q ≡ p = omega arith in z)
address-ins q w (Store ∷ ps) zero p l e = found q 64 false (spot (q + 1) w false ∷ port_ins (q + 2) w ps) p (let z : q ≡ p = omega arith in z)
address-ins q w (Load ∷ ps) (suc i) p l e = skip q 64 false (port_ins (q + 2) w ps) p (λ h. (let z : q ≡ p = h in omega arith)) ∙ address-ins (q + 2) w ps i p (omega arith) (omega arith)
address-ins q w (Store ∷ ps) (suc i) p l e = skip q 64 false (spot (q + 1) w false ∷ port_ins (q + 2) w ps) p (λ h. (let z : q ≡ p = h in omega arith)) ∙ skip (q + 1) w false (port_ins (q + 2) w ps) p (λ h. (let z : q + 1 ≡ p = h in omega arith)) ∙ address-ins (q + 2) w ps i p (omega arith) (omega arith)

pub data-ins : (q w : ℕ) (ps : List Port) (i p : ℕ) (d : Port) → i < length ps → p ≡ q + 2 * i + 1 → width_in (port_ins q w ps) p ≡ data_of w (get_or ps i d)
data-ins q w [] i p d l e = absurd (omega arith)
data-ins q w (Load ∷ ps) zero p d l e = skip q 64 false (port_ins (q + 2) w ps) p (λ h. (let z : q ≡ p = h in omega arith)) ∙ before-ins (q + 2) w ps p (omega arith)
data-ins q w (Store ∷ ps) zero p d l e = skip q 64 false (spot (q + 1) w false ∷ port_ins (q + 2) w ps) p (λ h. (let z : q ≡ p = h in omega arith)) ∙ found (q + 1) w false (port_ins (q + 2) w ps) p (let z : q + 1 ≡ p = omega arith in z)
data-ins q w (Load ∷ ps) (suc i) p d l e = skip q 64 false (port_ins (q + 2) w ps) p (λ h. (let z : q ≡ p = h in omega arith)) ∙ data-ins (q + 2) w ps i p d (omega arith) (omega arith)
data-ins q w (Store ∷ ps) (suc i) p d l e = skip q 64 false (spot (q + 1) w false ∷ port_ins (q + 2) w ps) p (λ h. (let z : q ≡ p = h in omega arith)) ∙ skip (q + 1) w false (port_ins (q + 2) w ps) p (λ h. (let z : q + 1 ≡ p = h in omega arith)) ∙ data-ins (q + 2) w ps i p d (omega arith) (omega arith)

before-outs : (q w : ℕ) (ps : List Port) (p : ℕ) → p < q → width_in (port_outs q w ps) p ≡ None
before-outs q w [] p l = refl
before-outs q w (Load ∷ ps) p l = skip q w false (port_outs (q + 1) w ps) p (λ e. (let z : q ≡ p = e in omega arith)) ∙ before-outs (q + 1) w ps p (omega arith)
before-outs q w (Store ∷ ps) p l = before-outs (q + 1) w ps p (omega arith)

pub past-outs : (q w : ℕ) (ps : List Port) (p : ℕ) → q + length ps ≤ p → width_in (port_outs q w ps) p ≡ None
past-outs q w [] p l = refl
past-outs q w (Load ∷ ps) p l = skip q w false (port_outs (q + 1) w ps) p (λ e. (let z : q ≡ p = e in omega arith)) ∙ past-outs (q + 1) w ps p (omega arith)
past-outs q w (Store ∷ ps) p l = past-outs (q + 1) w ps p (omega arith)

pub value-outs : (q w : ℕ) (ps : List Port) (i p : ℕ) (d : Port) → i < length ps → p ≡ q + i → width_in (port_outs q w ps) p ≡ value_of w (get_or ps i d)
value-outs q w [] i p d l e = absurd (omega arith)
value-outs q w (Load ∷ ps) zero p d l e = found q w false (port_outs (q + 1) w ps) p (let z : q ≡ p = omega arith in z)
value-outs q w (Store ∷ ps) zero p d l e = before-outs (q + 1) w ps p (omega arith)
value-outs q w (Load ∷ ps) (suc i) p d l e = skip q w false (port_outs (q + 1) w ps) p (λ h. (let z : q ≡ p = h in omega arith)) ∙ value-outs (q + 1) w ps i p d (omega arith) (omega arith)
value-outs q w (Store ∷ ps) (suc i) p d l e = value-outs (q + 1) w ps i p d (omega arith) (omega arith)

pub array_width-at : (xs : List Array) (i : ℕ) (x : Array) → i < length xs → x ≡ get_or xs i x → ty_width x.ty ≡ array_width xs i
array_width-at [] i x l e = absurd (omega arith)
array_width-at (y ∷ ys) zero x l e = ap (λ (z : Array). ty_width z.ty) e
array_width-at (y ∷ ys) (suc i) x l e = array_width-at ys i x (omega arith) e

pub array_width-past : (xs : List Array) (i : ℕ) → length xs ≤ i → array_width xs i ≡ 0
array_width-past [] i l = refl
array_width-past (y ∷ ys) zero l = absurd (omega arith)
array_width-past (y ∷ ys) (suc i) l = array_width-past ys i (omega arith)

pub scalar_width-at : (xs : List Scalar) (i : ℕ) (x : Scalar) → i < length xs → x ≡ get_or xs i x → ty_width x.ty ≡ scalar_width xs i
scalar_width-at [] i x l e = absurd (omega arith)
scalar_width-at (y ∷ ys) zero x l e = ap (λ (z : Scalar). ty_width z.ty) e
scalar_width-at (y ∷ ys) (suc i) x l e = scalar_width-at ys i x (omega arith) e

pub scalar_width-past : (xs : List Scalar) (i : ℕ) → length xs ≤ i → scalar_width xs i ≡ 0
scalar_width-past [] i l = refl
scalar_width-past (y ∷ ys) zero l = absurd (omega arith)
scalar_width-past (y ∷ ys) (suc i) l = scalar_width-past ys i (omega arith)

pub queue_low : (g : ℕ) (ys : List Spot) (p : ℕ) → p ≤ g → width_in (spots 0 32 true (suc g) ++ ys) p ≡ Some 32
queue_low g ys p l = append-some (spots 0 32 true (suc g)) ys p 32 (among-spots 0 32 true (suc g) p (omega arith) (omega arith))

pub queue_high : (g : ℕ) (ys : List Spot) (p : ℕ) → g < p → width_in (spots 0 32 true (suc g) ++ ys) p ≡ width_in ys p
queue_high g ys p l = append-none (spots 0 32 true (suc g)) ys p (past-spots 0 32 true (suc g) p (omega arith))

pub in_past : (g w : ℕ) (ps : List Port) (p : ℕ) → g < p → false ≡ nat_lt ((p - g - 1) / 2) (length ps) → width_in (spots 0 32 true (suc g) ++ port_ins (g + 1) w ps) p ≡ None
in_past g w ps p l f = let z : length ps ≤ (p - g - 1) / 2 = ltb-false _ _ (sym f) in queue_high g _ p l ∙ past-ins (g + 1) w ps p (omega arith)

pub in_address : (g w : ℕ) (ps : List Port) (p : ℕ) → g < p → true ≡ nat_lt ((p - g - 1) / 2) (length ps) → (p - g - 1) % 2 ≡ 0 → width_in (spots 0 32 true (suc g) ++ port_ins (g + 1) w ps) p ≡ Some 64
in_address g w ps p l f e = let z : (p - g - 1) / 2 < length ps = ltb-true _ _ (sym f) in queue_high g _ p l ∙ address-ins (g + 1) w ps ((p - g - 1) / 2) p z (omega arith)

pub in_data : (g w : ℕ) (ps : List Port) (p : ℕ) (x : Port) → g < p → true ≡ nat_lt ((p - g - 1) / 2) (length ps) → ((p - g - 1) % 2 ≡ 0 → ⊥) → x ≡ get_or ps ((p - g - 1) / 2) x
    → width_in (spots 0 32 true (suc g) ++ port_ins (g + 1) w ps) p ≡ data_of w x
in_data g w ps p x l f e r =
    let z : (p - g - 1) / 2 < length ps = ltb-true _ _ (sym f) in
    queue_high g _ p l ∙ data-ins (g + 1) w ps ((p - g - 1) / 2) p x z (omega arith) ∙ ap (data_of w) (sym r)

pub out_past : (g w : ℕ) (ps : List Port) (p : ℕ) → g < p → false ≡ nat_lt (p - g - 1) (length ps) → width_in (spots 0 32 true (suc g) ++ port_outs (g + 1) w ps) p ≡ None
out_past g w ps p l f = let z : length ps ≤ p - g - 1 = ltb-false _ _ (sym f) in queue_high g _ p l ∙ past-outs (g + 1) w ps p (omega arith)

pub out_value : (g w : ℕ) (ps : List Port) (p : ℕ) (x : Port) → g < p → true ≡ nat_lt (p - g - 1) (length ps) → x ≡ get_or ps (p - g - 1) x
    → width_in (spots 0 32 true (suc g) ++ port_outs (g + 1) w ps) p ≡ value_of w x
out_value g w ps p x l f r =
    let z : p - g - 1 < length ps = ltb-true _ _ (sym f) in
    queue_high g _ p l ∙ value-outs (g + 1) w ps (p - g - 1) p x z (omega arith) ∙ ap (value_of w) (sym r)

pub fork-among : (net : Net) (w n p : ℕ) → p < n → width_in (outs net false (Fork w n)) p ≡ Some w
fork-among net w zero p l = absurd (omega arith)
fork-among net w (suc n) zero l = found 0 w false (spots 1 w false n) 0 refl
fork-among net w (suc n) (suc p) l = skip 0 w false (spots 1 w false n) (suc p) (λ e. (omega arith)) ∙ among-spots 1 w false n (suc p) (omega arith) (omega arith)

pub fork-past : (net : Net) (w n p : ℕ) → n ≤ p → width_in (outs net false (Fork w n)) p ≡ None
fork-past net w zero p l = refl
fork-past net w (suc n) p l = skip 0 w false (spots 1 w false n) p (λ e. (omega arith)) ∙ past-spots 1 w false n p (omega arith)
