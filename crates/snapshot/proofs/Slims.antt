-- Widths of channels and arrays are at most 64, and forks have few outputs.
use Rattle.std.proofs.Common.{◌≡◌, ℕ, zero, suc, ◌+◌, ◌<◌, ◌≤◌, ◌^◌, ◌&&◌, Bool, true, false, List, [], ◌∷◌, ◌++◌, length, arith, inl, inr}
use Rattle.std.proofs.lemmas.Bool.Decides.{nat_tests}
use Rattle.std.proofs.lemmas.Bool.{and_parts}
use Rattle.std.proofs.Math.Pow.{pow_mono}
use Rattle.el_base.specs.declared.operation.Op1.{Op1 as First}
use Rattle.el_base.specs.declared.operation.Op1.TheVariants.{Neg32}
use Rattle.el_base.specs.declared.operation.Op2.{Op2 as Second}
use Rattle.el_base.specs.declared.operation.Op2.TheVariants.{Add32}
use Rattle.el_base.specs.declared.ty.Array.{Array}
use Rattle.el_base.specs.declared.ty.Scalar.{Scalar}
use Rattle.el_base.specs.declared.ty.Ty.{Ty}
use Rattle.el_base.specs.declared.ty.Ty.TheVariants.{I8, U8, I16, U16, I32, U32, I64, U64}
use Rattle.el_base.specs.Widths.{ty_width, op1_out, op2_out}
use Rattle.net_types.specs.declared.net.Net.{Net}
use Rattle.net_types.specs.declared.net.Port.{Port}
use Rattle.net_types.specs.declared.net.Port.TheVariants.{Load, Store}
use Rattle.net_types.specs.declared.net.Unit.{Unit as Kind}
use Rattle.net_types.specs.declared.net.Unit.TheVariants.{Entry, Param, Const, Op1, Op2, Select, Fork, Mux, Cmerge, Branch, Sink, Read, Lsq, Exit}
use Rattle.net_types.specs.Nets.{kind_of, chan_at, nowhere}
use Rattle.net_types.specs.Rules.{HasWidth, is_width, width_fits}
use Rattle.net_types.specs.Tables.{Spot, spots, scalar_width, array_width, port_outs, outs}
use Rattle.net_check.specs.Checks.{IsChecked}
use Rattle.net_check.specs.Shapes.{HasShape}
use Rattle.net_core.specs.Parts.{noted_outs}

ty_slim : (t : Ty) → ty_width t ≤ 64
ty_slim I8 = omega arith
ty_slim U8 = omega arith
ty_slim I16 = omega arith
ty_slim U16 = omega arith
ty_slim I32 = omega arith
ty_slim U32 = omega arith
ty_slim I64 = omega arith
ty_slim U64 = omega arith

op1_slim : (op : First) → op1_out op ≤ 64
op1_slim Neg32 = omega arith
op1_slim op = omega arith

op2_slim : (op : Second) → op2_out op ≤ 64
op2_slim Add32 = omega arith
op2_slim op = omega arith

scalar_slim : (ss : List Scalar) (j : ℕ) → scalar_width ss j ≤ 64
scalar_slim [] j = omega arith
scalar_slim (s ∷ ss) zero = ty_slim s.ty
scalar_slim (s ∷ ss) (suc j) = scalar_slim ss j

array_slim : (xs : List Array) (a : ℕ) → array_width xs a ≤ 64
array_slim [] a = omega arith
array_slim (x ∷ xs) zero = ty_slim x.ty
array_slim (x ∷ xs) (suc a) = array_slim xs a

named_slim : (w : ℕ) → is_width w ≡ true → w ≤ 64
named_slim w e = grind (arith, nat_tests)

abbrev Slim : List Spot → Type 0
Slim [] = Unit {0}
Slim (s ∷ ss) = (s.width ≤ 64) × Slim ss

has_slim : (ss : List Spot) (p w : ℕ) → Slim ss → HasWidth ss p w → w ≤ 64
has_slim [] p w h i = absurd i
has_slim (s ∷ ss) p w h (inl i) = let a = h.0 in let b = i.1 in omega arith
has_slim (s ∷ ss) p w h (inr i) = has_slim ss p w h.1 i

spots_slim : (p w : ℕ) (c : Bool) (n : ℕ) → w ≤ 64 → Slim (spots p w c n)
spots_slim p w c zero h = tt
spots_slim p w c (suc n) h = (h, spots_slim (suc p) w c n h)

ports_slim : (w : ℕ) (ps : List Port) (p : ℕ) → w ≤ 64 → Slim (port_outs p w ps)
ports_slim w [] p h = tt
ports_slim w (Load ∷ ps) p h = (h, ports_slim w ps (p + 1) h)
ports_slim w (Store ∷ ps) p h = ports_slim w ps (p + 1) h

slim_append : (xs ys : List Spot) → Slim xs → Slim ys → Slim (xs ++ ys)
slim_append [] ys a b = b
slim_append (x ∷ xs) ys a b = (a.0, slim_append xs ys a.1 b)

outs_slim : (net : Net) (k : Kind) → width_fits k ≡ true → Slim (outs net false k)
outs_slim net Entry e = (omega arith, tt)
outs_slim net (Param j) e = (scalar_slim net.scalars j, tt)
outs_slim net (Const w n) e = (const_slim w _ e, tt)
  where
    const_slim : (w : ℕ) (b : Bool) → (is_width w && b) ≡ true → w ≤ 64
    const_slim w b e = named_slim w (and_parts (is_width w) b e).0
outs_slim net (Op1 op) e = (op1_slim op, tt)
outs_slim net (Op2 op) e = (op2_slim op, tt)
outs_slim net (Select w) e = (named_slim w e, tt)
outs_slim net (Fork w zero) e = tt
outs_slim net (Fork w (suc n)) e = (named_slim w e, spots_slim 1 w false n (named_slim w e))
outs_slim net (Mux w n) e = (named_slim w e, tt)
outs_slim net (Cmerge n) e = (omega arith, tt)
outs_slim net (Branch w) e = (named_slim w e, (named_slim w e, tt))
outs_slim net (Sink w) e = tt
outs_slim net (Read a) e = (array_slim net.arrays a, tt)
outs_slim net (Lsq a d ps gs f) e = slim_append (spots 0 32 true (suc (length gs))) _ (spots_slim 0 32 true (suc (length gs)) (omega arith)) (ports_slim (array_width net.arrays a) ps (length gs + 1) (array_slim net.arrays a))
outs_slim net Exit e = tt

pub power_slim : (w v : ℕ) → w ≤ 64 → v < 2 ^ w → v < 2 ^ 64
power_slim w v h l = let p = pow_mono h in omega arith

pub chan_slim : (net : Net) → IsChecked net → (c : ℕ) → c < length net.chans → (chan_at net c).width ≤ 64
chan_slim net k c l = has_slim _ _ _ (outs_slim net (kind_of net (chan_at net c).from.unit) (k.widths (chan_at net c).from.unit (k.within.from c l))) (k.c2.chans c nowhere l).source

pub chan_thin : (net : Net) → IsChecked net → (c v : ℕ) → c < length net.chans → v < 2 ^ (chan_at net c).width → v < 2 ^ 64
chan_thin net k c v l h = power_slim _ v (chan_slim net k c l) h

pub array_thin : (net : Net) (x v : ℕ) → v < 2 ^ array_width net.arrays x → v < 2 ^ 64
array_thin net x v h = power_slim _ v (array_slim net.arrays x) h

few_of : (k : Kind) → HasShape k → noted_outs k < 2 ^ 32
few_of (Fork w n) h = let m = h.most in omega arith
few_of Entry h = omega arith
few_of k h = omega arith

pub few_outs : (net : Net) → IsChecked net → (u : ℕ) → noted_outs (kind_of net u) < 2 ^ 32
few_outs net k u = few_of (kind_of net u) (k.shapes u)
