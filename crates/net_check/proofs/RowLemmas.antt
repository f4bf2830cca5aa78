-- The places of a row rise, so each has one width.
use Rattle.std.proofs.Common.{◌≡◌, ◌⊎◌, inl, inr, ℕ, zero, suc, ◌+◌, ◌≤◌, Bool, true, false, cond, Option, Some, None, List, [], ◌∷◌, ◌++◌, length, sym, ap, ◌∙◌, arith}
use Rattle.std.proofs.lemmas.Bool.{cases_eq, eq-eqb, ne_eqb}
use Rattle.el_base.specs.declared.ty.Ty.{Ty}
use Rattle.net_types.specs.declared.net.Port.{Port}
use Rattle.net_types.specs.declared.net.Port.TheVariants.{Load, Store}
use Rattle.net_types.specs.declared.net.Net.{Net}
use Rattle.net_types.specs.declared.net.Unit.{Unit as Kind}
use Rattle.net_types.specs.declared.net.Unit.TheVariants.{Entry, Param, Const, Op1, Op2, Select, Fork, Mux, Cmerge, Branch, Sink, Read, Lsq, Exit}
use Rattle.net_types.specs.Tables.{Spot, spots, ins, outs, port_ins, port_outs, array_width, result_in}
use Rattle.net_types.specs.Rules.{HasWidth}
use Rattle.net_check.specs.private.Widths.{width_in}

abbrev pub Rises : ℕ → List Spot → Type 0
Rises n [] = Unit {0}
Rises n (s ∷ ss) = (n ≤ s.place) × Rises (suc s.place) ss

has-least : (n : ℕ) (ss : List Spot) (p w : ℕ) → Rises n ss → HasWidth ss p w → n ≤ p
has-least n [] p w r h = absurd h
has-least n (s ∷ ss) p w r (inl h) = let z : s.place ≡ p = h.0 in let y : n ≤ s.place = r.0 in omega arith
has-least n (s ∷ ss) p w r (inr h) = let z = has-least (suc s.place) ss p w r.1 h in let y : n ≤ s.place = r.0 in omega arith

-- the width that is found is one that the place has, and there is no other
pub width-has : (ss : List Spot) (p w : ℕ) → width_in ss p ≡ Some w → HasWidth ss p w
width-has [] p w e = cc
width-has (s ∷ ss) p w e = by (cases_eq s.place p) (width-has ss p w)
  where
    by : (s.place ≡ p) ⊎ (s.place ≡ p → ⊥) → (width_in ss p ≡ Some w → HasWidth ss p w) → ((s.place ≡ p) × (s.width ≡ w)) ⊎ HasWidth ss p w
    by (inl h) r =
        let a : width_in (s ∷ ss) p ≡ Some s.width = ap (λ b. cond b (Some s.width) (width_in ss p)) (eq-eqb s.place p h) in
        let k : Some s.width ≡ Some w = sym a ∙ e in
        let m : s.width ≡ w = cc in
        inl (h, m)
    by (inr h) r =
        let a : width_in (s ∷ ss) p ≡ width_in ss p = ap (λ b. cond b (Some s.width) (width_in ss p)) (ne_eqb s.place p h) in
        inr (r (sym a ∙ e))

pub has-width : (n : ℕ) (ss : List Spot) (p w : ℕ) → Rises n ss → HasWidth ss p w → width_in ss p ≡ Some w
has-width n [] p w r h = absurd h
has-width n (s ∷ ss) p w r (inl h) = ap (λ b. cond b (Some s.width) (width_in ss p)) (eq-eqb s.place p h.0) ∙ ap Some h.1
has-width n (s ∷ ss) p w r (inr h) =
    let l : suc s.place ≤ p = has-least (suc s.place) ss p w r.1 h in
    let ne : s.place ≡ p → ⊥ = λ e. (omega arith) in
    ap (λ b. cond b (Some s.width) (width_in ss p)) (ne_eqb s.place p ne) ∙ has-width (suc s.place) ss p w r.1 h

rises-from : (m n : ℕ) (ss : List Spot) → m ≤ n → Rises n ss → Rises m ss
rises-from m n [] l r = tt
rises-from m n (s ∷ ss) l r = (let y : n ≤ s.place = r.0 in omega arith, r.1)

rises-spots : (q w : ℕ) (c : Bool) (n : ℕ) (ys : List Spot) → Rises (q + n) ys → Rises q (spots q w c n ++ ys)
rises-spots q w c zero ys r = rises-from q (q + 0) ys (omega arith) r
rises-spots q w c (suc n) ys r = (omega arith, rises-spots (suc q) w c n ys (rises-from (suc q + n) (q + suc n) ys (omega arith) r))

spots-alone : (q w : ℕ) (c : Bool) (n : ℕ) → Rises q (spots q w c n)
spots-alone q w c zero = tt
spots-alone q w c (suc n) = (omega arith, spots-alone (suc q) w c n)

rises-port_ins : (q w : ℕ) (ps : List Port) → Rises q (port_ins q w ps)
rises-port_ins q w [] = tt
rises-port_ins q w (Load ∷ ps) = (omega arith, rises-from (suc q) (q + 2) (port_ins (q + 2) w ps) (omega arith) (rises-port_ins (q + 2) w ps))
rises-port_ins q w (Store ∷ ps) = (omega arith, (omega arith, rises-from (suc (q + 1)) (q + 2) (port_ins (q + 2) w ps) (omega arith) (rises-port_ins (q + 2) w ps)))

rises-port_outs : (q w : ℕ) (ps : List Port) → Rises q (port_outs q w ps)
rises-port_outs q w [] = tt
rises-port_outs q w (Load ∷ ps) = (omega arith, rises-from (suc q) (q + 1) (port_outs (q + 1) w ps) (omega arith) (rises-port_outs (q + 1) w ps))
rises-port_outs q w (Store ∷ ps) = rises-from q (q + 1) (port_outs (q + 1) w ps) (omega arith) (rises-port_outs (q + 1) w ps)

rises-result : (r : Option Ty) → Rises 1 (result_in r)
rises-result None = tt
rises-result (Some t) = (omega arith, tt)

pub rises-in : (net : Net) (k : Kind) → Rises 0 (ins net false k)
rises-in net Entry = tt
rises-in net (Param j) = tt
rises-in net (Const w n) = (omega arith, tt)
rises-in net (Op1 op) = (omega arith, tt)
rises-in net (Op2 op) = (omega arith, (omega arith, tt))
rises-in net (Select w) = (omega arith, (omega arith, (omega arith, tt)))
rises-in net (Fork w n) = (omega arith, tt)
rises-in net (Mux w n) = (omega arith, spots-alone 1 w false n)
rises-in net (Cmerge n) = spots-alone 0 32 true n
rises-in net (Branch w) = (omega arith, (omega arith, tt))
rises-in net (Sink w) = (omega arith, tt)
rises-in net (Read a) = (omega arith, tt)
rises-in net (Lsq a d ps gs f) = rises-spots 0 32 true (suc (length gs)) (port_ins (length gs + 1) (array_width net.arrays a) ps)
    (rises-from (0 + suc (length gs)) (length gs + 1) (port_ins (length gs + 1) (array_width net.arrays a) ps) (omega arith) (rises-port_ins (length gs + 1) (array_width net.arrays a) ps))
rises-in net Exit = (omega arith, rises-result net.result)

pub rises-out : (net : Net) (k : Kind) → Rises 0 (outs net false k)
rises-out net (Fork w zero) = tt
rises-out net (Fork w (suc n)) = (omega arith, spots-alone 1 w false n)
rises-out net (Branch w) = (omega arith, (omega arith, tt))
rises-out net (Sink w) = tt
rises-out net (Lsq a d ps gs f) = rises-spots 0 32 true (suc (length gs)) (port_outs (length gs + 1) (array_width net.arrays a) ps)
    (rises-from (0 + suc (length gs)) (length gs + 1) (port_outs (length gs + 1) (array_width net.arrays a) ps) (omega arith) (rises-port_outs (length gs + 1) (array_width net.arrays a) ps))
rises-out net Exit = tt
rises-out net _ = (omega arith, tt)
