-- How often a place stands among the places of a net.
use Rattle.std.proofs.Common.{◌≡◌, ◌⊎◌, inl, inr, ℕ, zero, suc, ◌+◌, ◌*◌, ◌<◌, ◌≤◌, ◌==◌, ◌&&◌, nat_lt, Bool, true, false, cond, Option, Some, None, is_some, List, [], ◌∷◌, ◌++◌, length, get_or, map, refl, sym, ap, ◌∙◌, arith}
use Rattle.std.specs.List.{count_by}
use Rattle.std.proofs.lemmas.Bool.{cases_eq, cases_lt, eq-eqb, ne_eqb}
use Rattle.std.proofs.lemmas.List.Sums.{sum_by-cons, sum_by-append}
use Rattle.el_base.specs.declared.ty.Ty.{Ty}
use Rattle.net_types.specs.declared.net.Place.{Place}
use Rattle.net_types.specs.declared.net.Port.{Port}
use Rattle.net_types.specs.declared.net.Port.TheVariants.{Load, Store}
use Rattle.net_types.specs.declared.net.Net.{Net}
use Rattle.net_types.specs.declared.net.Unit.{Unit as Kind}
use Rattle.net_types.specs.declared.net.Unit.TheVariants.{Entry, Param, Op2, Select, Fork, Mux, Cmerge, Branch, Sink, Lsq, Exit}
use Rattle.net_types.specs.Nets.{is_at, at, kind_of}
use Rattle.net_types.specs.Tables.{Spot, spots, ins, outs, port_ins, port_outs, array_width, result_in}
use Rattle.net_types.specs.Rules.{places_at, in_places_from, out_places_from, times_in}
use Rattle.net_check.specs.declared.wires.Side.{Side}
use Rattle.net_check.specs.declared.wires.Side.TheVariants.{In, Out}
use Rattle.net_check.specs.private.Widths.{width_in}
use Rattle.net_check.specs.private.Wires.{bound}
use Rattle.net_check.specs.private.Joins.{row, placed}
use Rattle.net_check.proofs.RowLemmas.{Rises, rises-in, rises-out}

pub count_map : {A B : Type 0} (f : A → B) (q : B → Bool) (xs : List A) → count_by q (map f xs) ≡ count_by (λ x. q (f x)) xs
count_map f q [] = refl
count_map f q (x ∷ xs) =
    let a = sum_by-cons (λ y. cond (q y) 1 0) (f x) (map f xs) in
    let b = sum_by-cons (λ y. cond (q (f y)) 1 0) x xs in
    let c = count_map f q xs in
    a ∙ ap (λ n. cond (q (f x)) 1 0 + n) c ∙ sym b

count_false : {A : Type 0} (xs : List A) → count_by (λ x. false) xs ≡ 0
count_false [] = refl
count_false (x ∷ xs) = sum_by-cons (λ y. 0) x xs ∙ (let a = count_false xs in omega arith)

-- the places of a row at its unit, and at another
pub row_here : (n p : ℕ) (ss : List Spot) → times_in (places_at n ss) n p ≡ count_by (λ (s : Spot). s.place == p) ss
row_here n p ss = count_map (λ (s : Spot). at n s.place) (λ q. is_at q n p) ss ∙ ap (λ b. count_by (λ (s : Spot). b && (s.place == p)) ss) (eq-eqb n n refl)

pub row_other : (n u p : ℕ) (ss : List Spot) → (n ≡ u → ⊥) → times_in (places_at n ss) u p ≡ 0
row_other n u p ss h = count_map (λ (s : Spot). at n s.place) (λ q. is_at q u p) ss ∙ ap (λ b. count_by (λ (s : Spot). b && (s.place == p)) ss) (ne_eqb n u h) ∙ count_false ss

abbrev pub one : Option ℕ → ℕ
one o = cond (is_some o) 1 0

count_above : (n p : ℕ) (ss : List Spot) → Rises n ss → p < n → count_by (λ (s : Spot). s.place == p) ss ≡ 0
count_above n p [] r l = refl
count_above n p (s ∷ ss) r l =
    let y : n ≤ s.place = r.0 in
    let e : (s.place == p) ≡ false = ne_eqb s.place p (λ h. (omega arith)) in
    let a = count_above (suc s.place) p ss r.1 (omega arith) in
    sum_by-cons (λ (x : Spot). cond (x.place == p) 1 0) s ss ∙ ap (λ b. cond b 1 0 + count_by (λ (x : Spot). x.place == p) ss) e ∙ (omega arith)

-- a rising row has each of its places once
pub count_row : (n p : ℕ) (ss : List Spot) → Rises n ss → count_by (λ (s : Spot). s.place == p) ss ≡ one (width_in ss p)
count_row n p [] r = refl
count_row n p (s ∷ ss) r = sum_by-cons (λ (x : Spot). cond (x.place == p) 1 0) s ss ∙ by (cases_eq s.place p) (count_row (suc s.place) p ss r.1)
  where
    by : (s.place ≡ p) ⊎ (s.place ≡ p → ⊥) → count_by (λ (x : Spot). x.place == p) ss ≡ one (width_in ss p)
        → cond (s.place == p) 1 0 + count_by (λ (x : Spot). x.place == p) ss ≡ one (cond (s.place == p) (Some s.width) (width_in ss p))
    by (inl h) e = rw (eq-eqb s.place p h, count_above (suc s.place) p ss r.1 (omega arith)) refl
    by (inr h) e = let z : 0 + count_by (λ (x : Spot). x.place == p) ss ≡ count_by (λ (x : Spot). x.place == p) ss = omega arith in rw (ne_eqb s.place p h) (z ∙ e)

-- the places of units, whatever the row of a unit
abbrev pub places_from : (Kind → List Spot) → ℕ → List Kind → List Place
places_from f n [] = []
places_from f n (k ∷ ks) = places_at n (f k) ++ places_from f (suc n) ks

in_from : (net : Net) (n : ℕ) (ks : List Kind) → in_places_from net n ks ≡ places_from (ins net false) n ks
in_from net n [] = refl
in_from net n (k ∷ ks) = ap (λ ps. places_at n (ins net false k) ++ ps) (in_from net (suc n) ks)

out_from : (net : Net) (n : ℕ) (ks : List Kind) → out_places_from net n ks ≡ places_from (outs net false) n ks
out_from net n [] = refl
out_from net n (k ∷ ks) = ap (λ ps. places_at n (outs net false k) ++ ps) (out_from net (suc n) ks)

parted : (f : Kind → List Spot) (n : ℕ) (k : Kind) (ks : List Kind) (u p : ℕ) → times_in (places_from f n (k ∷ ks)) u p ≡ times_in (places_at n (f k)) u p + times_in (places_from f (suc n) ks) u p
parted f n k ks u p = sum_by-append (λ q. cond (is_at q u p) 1 0) (places_at n (f k)) (places_from f (suc n) ks)

times_before : (f : Kind → List Spot) (n : ℕ) (ks : List Kind) (u p : ℕ) → u < n → times_in (places_from f n ks) u p ≡ 0
times_before f n [] u p l = refl
times_before f n (k ∷ ks) u p l =
    let a = row_other n u p (f k) (λ h. (omega arith)) in
    let b = times_before f (suc n) ks u p (omega arith) in
    parted f n k ks u p ∙ (omega arith)

times_after : (f : Kind → List Spot) (n : ℕ) (ks : List Kind) (u p : ℕ) → n + length ks ≤ u → times_in (places_from f n ks) u p ≡ 0
times_after f n [] u p l = refl
times_after f n (k ∷ ks) u p l =
    let a = row_other n u p (f k) (λ h. (omega arith)) in
    let b = times_after f (suc n) ks u p (omega arith) in
    parted f n k ks u p ∙ (omega arith)

times_at : (f : Kind → List Spot) (n i u p : ℕ) (ks : List Kind) → ((k : Kind) → Rises 0 (f k)) → i < length ks → u ≡ n + i → times_in (places_from f n ks) u p ≡ one (width_in (f (get_or ks i (Sink 0))) p)
times_at f n i u p [] r l e = absurd (omega arith)
times_at f n zero u p (k ∷ ks) r l e =
    let z : u ≡ n = omega arith in
    let a : times_in (places_at n (f k)) n p ≡ one (width_in (f k) p) = row_here n p (f k) ∙ count_row 0 p (f k) (r k) in
    let b = times_before f (suc n) ks n p (omega arith) in
    ap (λ v. times_in (places_from f n (k ∷ ks)) v p) z ∙ parted f n k ks n p ∙ (omega arith)
times_at f n (suc i) u p (k ∷ ks) r l e =
    let a = row_other n u p (f k) (λ h. (omega arith)) in
    let b = times_at f (suc n) i u p ks r (omega arith) (omega arith) in
    parted f n k ks u p ∙ (omega arith)

-- a unit has a place where its row has it; past the units there is none
pub placed_at : (side : Side) (net : Net) (u p : ℕ) → u < length net.units → placed side net u p ≡ one (width_in (row side net (kind_of net u)) p)
placed_at In net u p l = ap (λ ps. times_in ps u p) (in_from net 0 net.units) ∙ times_at (ins net false) 0 u u p net.units (rises-in net) l (omega arith)
placed_at Out net u p l = ap (λ ps. times_in ps u p) (out_from net 0 net.units) ∙ times_at (outs net false) 0 u u p net.units (rises-out net) l (omega arith)

pub placed_past : (side : Side) (net : Net) (u p : ℕ) → length net.units ≤ u → placed side net u p ≡ 0
placed_past In net u p l = ap (λ ps. times_in ps u p) (in_from net 0 net.units) ∙ times_after (ins net false) 0 net.units u p (omega arith)
placed_past Out net u p l = ap (λ ps. times_in ps u p) (out_from net 0 net.units) ∙ times_after (outs net false) 0 net.units u p (omega arith)

one_most : (o : Option ℕ) → one o ≤ 1
one_most None = omega arith
one_most (Some w) = omega arith

pub one_some : (o : Option ℕ) → nat_lt 0 (one o) ≡ is_some o
one_some None = refl
one_some (Some w) = refl

pub placed_most : (side : Side) (net : Net) (u p : ℕ) → placed side net u p ≤ 1
placed_most side net u p = elim (cases_lt u (length net.units)) [
  | inl l ↦ (let a = placed_at side net u p l in let b = one_most (width_in (row side net (kind_of net u)) p) in omega arith)
  | inr l ↦ (let a = placed_past side net u p l in omega arith)
]

pub placed_within : (side : Side) (net : Net) (u p : ℕ) → 0 < placed side net u p → u < length net.units
placed_within side net u p h = elim (cases_lt u (length net.units)) [
  | inl l ↦ l
  | inr l ↦ (let a = placed_past side net u p l in absurd (omega arith))
]

-- the places of a row are below a number
abbrev Below : ℕ → List Spot → Type 0
Below n [] = Unit {0}
Below n (s ∷ ss) = (s.place < n) × Below n ss

none_past : (n p : ℕ) (ss : List Spot) → Below n ss → n ≤ p → width_in ss p ≡ None
none_past n p [] b l = refl
none_past n p (s ∷ ss) b l =
    let y : s.place < n = b.0 in
    ap (λ t. cond t (Some s.width) (width_in ss p)) (ne_eqb s.place p (λ h. (omega arith))) ∙ none_past n p ss b.1 l

below-append : (n : ℕ) (xs ys : List Spot) → Below n xs → Below n ys → Below n (xs ++ ys)
below-append n [] ys a b = b
below-append n (x ∷ xs) ys a b = (a.0, below-append n xs ys a.1 b)

below-spots : (m q w : ℕ) (c : Bool) (n : ℕ) → q + n ≤ m → Below m (spots q w c n)
below-spots m q w c zero l = tt
below-spots m q w c (suc n) l = (omega arith, below-spots m (suc q) w c n (omega arith))

below-port_ins : (m q w : ℕ) (ps : List Port) → q + 2 * length ps ≤ m → Below m (port_ins q w ps)
below-port_ins m q w [] l = tt
below-port_ins m q w (Load ∷ ps) l = (omega arith, below-port_ins m (q + 2) w ps (omega arith))
below-port_ins m q w (Store ∷ ps) l = (omega arith, (omega arith, below-port_ins m (q + 2) w ps (omega arith)))

below-port_outs : (m q w : ℕ) (ps : List Port) → q + length ps ≤ m → Below m (port_outs q w ps)
below-port_outs m q w [] l = tt
below-port_outs m q w (Load ∷ ps) l = (omega arith, below-port_outs m (q + 1) w ps (omega arith))
below-port_outs m q w (Store ∷ ps) l = below-port_outs m (q + 1) w ps (omega arith)

below-result : (r : Option Ty) → Below 2 (result_in r)
below-result None = tt
below-result (Some t) = (omega arith, tt)

below-row : (side : Side) (net : Net) (k : Kind) → Below (bound side k) (row side net k)
below-row In net Entry = tt
below-row In net (Param j) = tt
below-row In net (Op2 op) = (omega arith, (omega arith, tt))
below-row In net (Select w) = (omega arith, (omega arith, (omega arith, tt)))
below-row In net (Mux w n) = (omega arith, below-spots (n + 1) 1 w false n (omega arith))
below-row In net (Cmerge n) = below-spots n 0 32 true n (omega arith)
below-row In net (Branch w) = (omega arith, (omega arith, tt))
below-row In net (Lsq a d ps gs f) = below-append (length gs + 1 + 2 * length ps) (spots 0 32 true (suc (length gs))) (port_ins (length gs + 1) (array_width net.arrays a) ps)
    (below-spots _ 0 32 true (suc (length gs)) (omega arith)) (below-port_ins _ (length gs + 1) (array_width net.arrays a) ps (omega arith))
below-row In net Exit = (omega arith, below-result net.result)
below-row In net _ = (omega arith, tt)
below-row Out net (Fork w zero) = tt
below-row Out net (Fork w (suc n)) = (omega arith, below-spots (suc n) 1 w false n (omega arith))
below-row Out net (Branch w) = (omega arith, (omega arith, tt))
below-row Out net (Sink w) = tt
below-row Out net (Lsq a d ps gs f) = below-append (length gs + 1 + length ps) (spots 0 32 true (suc (length gs))) (port_outs (length gs + 1) (array_width net.arrays a) ps)
    (below-spots _ 0 32 true (suc (length gs)) (omega arith)) (below-port_outs _ (length gs + 1) (array_width net.arrays a) ps (omega arith))
below-row Out net Exit = tt
below-row Out net _ = (omega arith, tt)

-- a place has a number below the bound of its unit
pub placed_below : (side : Side) (net : Net) (u p : ℕ) → 0 < placed side net u p → p < bound side (kind_of net u)
placed_below side net u p h = elim (cases_lt p (bound side (kind_of net u))) [
  | inl l ↦ l
  | inr l ↦ (let w = placed_within side net u p h in
      let a : placed side net u p ≡ 0 = placed_at side net u p w ∙ ap one (none_past (bound side (kind_of net u)) p (row side net (kind_of net u)) (below-row side net (kind_of net u)) l) in
      absurd (omega arith))
]
