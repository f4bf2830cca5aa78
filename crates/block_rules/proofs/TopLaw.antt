-- No value is greater than what its steps tell.
use Rattle.std.proofs.Common.{◌≡◌, ℕ, zero, suc, ◌-◌, ◌^◌, ◌<◌, ◌≤◌, List, Option, Some, None, refl, sym, subst, eqb, inl, inr, arith}
use Rattle.std.specs.Prelude.{min, max}
use Rattle.std.proofs.lemmas.Bool.{cond_both}
use Rattle.std.proofs.Math.Pow.{pow_mono}
use Rattle.el_base.specs.declared.ty.Array.{Array}
use Rattle.el_base.specs.declared.operation.Op1.{Op1}
use Rattle.el_base.specs.declared.operation.Op1.TheVariants.{Neg32, Neg64, Not32, Not64, Zero32, Zero64, S8to16, S8to32, S8to64, S16to32, S16to64, S32to64, U8to16, U8to32, U8to64, U16to32, U16to64, U32to64, Cut16to8, Cut32to8, Cut32to16, Cut64to8, Cut64to16, Cut64to32}
use Rattle.el_base.specs.declared.operation.Op2.{Op2}
use Rattle.el_base.specs.declared.operation.Op2.TheVariants.{Add32, Add64, Sub32, Sub64, Mul32, Mul64, And32, And64, Or32, Or64, Xor32, Xor64, Shl32, Shl64, Shru32, Shru64, Shrs32, Shrs64, Divu32, Divu64, Remu32, Remu64, Divs32, Divs64, Rems32, Rems64, Eq32, Eq64, Ne32, Ne64, Ltu32, Ltu64, Leu32, Leu64, Lts32, Lts64, Les32, Les64}
use Rattle.el_base.specs.Widths.{op1_in, op2_in}
use Rattle.word_ops.specs.Operations.{op2_result}
use Rattle.word_rules.specs.Bounds.{greatest1, greatest2, greatest_by}
use Rattle.word_rules.proofs.Greatest.{bounded1, bounded2, bounded_by}
use Rattle.ir.specs.declared.instr.Instr.{Instr}
use Rattle.ir.specs.declared.instr.Instr.TheVariants.{Const, One, Two, Select, Load, Store}
use Rattle.ir.specs.Shapes.{Shape, IsOfWidth, IsWidth}
use Rattle.ir.specs.Steps.{value_at}
use Rattle.block_rules.specs.Known.{AreValues}
use Rattle.block_rules.specs.Reading.{step_at, const_at}
use Rattle.block_rules.specs.Tops.{any_top, narrowed, top_of_two, top_of, top_within}
use Rattle.block_rules.proofs.Facts.{below, made, constant}

op1-in-width : (op : Op1) → IsWidth (op1_in op)
op1-in-width Neg32 = inr (inr (inl refl))
op1-in-width Neg64 = inr (inr (inr refl))
op1-in-width Not32 = inr (inr (inl refl))
op1-in-width Not64 = inr (inr (inr refl))
op1-in-width Zero32 = inr (inr (inl refl))
op1-in-width Zero64 = inr (inr (inr refl))
op1-in-width S8to16 = inl refl
op1-in-width S8to32 = inl refl
op1-in-width S8to64 = inl refl
op1-in-width S16to32 = inr (inl refl)
op1-in-width S16to64 = inr (inl refl)
op1-in-width S32to64 = inr (inr (inl refl))
op1-in-width U8to16 = inl refl
op1-in-width U8to32 = inl refl
op1-in-width U8to64 = inl refl
op1-in-width U16to32 = inr (inl refl)
op1-in-width U16to64 = inr (inl refl)
op1-in-width U32to64 = inr (inr (inl refl))
op1-in-width Cut16to8 = inr (inl refl)
op1-in-width Cut32to8 = inr (inr (inl refl))
op1-in-width Cut32to16 = inr (inr (inl refl))
op1-in-width Cut64to8 = inr (inr (inr refl))
op1-in-width Cut64to16 = inr (inr (inr refl))
op1-in-width Cut64to32 = inr (inr (inr refl))

op2-in-width : (op : Op2) → IsWidth (op2_in op)
op2-in-width Add32 = inr (inr (inl refl))
op2-in-width Add64 = inr (inr (inr refl))
op2-in-width Sub32 = inr (inr (inl refl))
op2-in-width Sub64 = inr (inr (inr refl))
op2-in-width Mul32 = inr (inr (inl refl))
op2-in-width Mul64 = inr (inr (inr refl))
op2-in-width And32 = inr (inr (inl refl))
op2-in-width And64 = inr (inr (inr refl))
op2-in-width Or32 = inr (inr (inl refl))
op2-in-width Or64 = inr (inr (inr refl))
op2-in-width Xor32 = inr (inr (inl refl))
op2-in-width Xor64 = inr (inr (inr refl))
op2-in-width Shl32 = inr (inr (inl refl))
op2-in-width Shl64 = inr (inr (inr refl))
op2-in-width Shru32 = inr (inr (inl refl))
op2-in-width Shru64 = inr (inr (inr refl))
op2-in-width Shrs32 = inr (inr (inl refl))
op2-in-width Shrs64 = inr (inr (inr refl))
op2-in-width Divu32 = inr (inr (inl refl))
op2-in-width Divu64 = inr (inr (inr refl))
op2-in-width Remu32 = inr (inr (inl refl))
op2-in-width Remu64 = inr (inr (inr refl))
op2-in-width Divs32 = inr (inr (inl refl))
op2-in-width Divs64 = inr (inr (inr refl))
op2-in-width Rems32 = inr (inr (inl refl))
op2-in-width Rems64 = inr (inr (inr refl))
op2-in-width Eq32 = inr (inr (inl refl))
op2-in-width Eq64 = inr (inr (inr refl))
op2-in-width Ne32 = inr (inr (inl refl))
op2-in-width Ne64 = inr (inr (inr refl))
op2-in-width Ltu32 = inr (inr (inl refl))
op2-in-width Ltu64 = inr (inr (inr refl))
op2-in-width Leu32 = inr (inr (inl refl))
op2-in-width Leu64 = inr (inr (inr refl))
op2-in-width Lts32 = inr (inr (inl refl))
op2-in-width Lts64 = inr (inr (inr refl))
op2-in-width Les32 = inr (inr (inl refl))
op2-in-width Les64 = inr (inr (inr refl))

narrowed-at : (w x : ℕ) → IsWidth w → narrowed w x ≡ min x (2 ^ w - 1)
unfolding narrowed
narrowed-at w x h =
    let P : ℕ → Type 0 = λ u. narrowed u x ≡ min x (2 ^ u - 1) in
    elim h [
      | inl e ↦ subst P (sym e) refl
      | inr more ↦ elim more [
        | inl e ↦ subst P (sym e) refl
        | inr still ↦ elim still [ inl e ↦ subst P (sym e) refl | inr e ↦ subst P (sym e) refl ]
      ]
    ]

-- a value that is at most x, and a pattern
pub record IsUpTo (w a x : ℕ) : Type 0 where
  pub most : a ≤ narrowed w x
  pub below : narrowed w x < 2 ^ w

pub up_to : (w a x : ℕ) → IsWidth w → a ≤ x → a < 2 ^ w → IsUpTo w a x
up_to w a x h le lt =
    let e = narrowed-at w x h in
    record { most = omega (arith, e); below = omega (arith, e) }

widest : (w : ℕ) → IsWidth w → w ≤ 64
widest w h = elim h [
  | inl e ↦ omega arith
  | inr more ↦ elim more [ inl e ↦ omega arith | inr still ↦ elim still [ inl e ↦ omega arith | inr e ↦ omega arith ] ]
]

any : (w a : ℕ) → IsWidth w → a < 2 ^ w → a ≤ any_top
any w a h lt = let le : 2 ^ w ≤ 2 ^ 64 = pow_mono {i = w} {j = 64} (widest w h) in omega arith

module _ (arrays : List Array) (n : ℕ) (steps : List Instr) (ws : Shape) (vs : List ℕ) (known : AreValues arrays n steps ws vs) where
  two_top : (op : Op2) (a b x y : ℕ) (o : Option ℕ) → const_at n steps b ≡ o → IsOfWidth ws b (op2_in op) → IsUpTo (op2_in op) (value_at vs a) x → IsUpTo (op2_in op) (value_at vs b) y
      → op2_result op (value_at vs a) (value_at vs b) ≤ top_of_two op o (narrowed (op2_in op) x) (narrowed (op2_in op) y)
  unfolding top_of_two
  two_top op a b x y None e h p q = bounded2 op (value_at vs a) (value_at vs b) (narrowed (op2_in op) x) (narrowed (op2_in op) y) p.most q.most p.below q.below
  two_top op a b x y (Some c) e h p q =
      let u = narrowed (op2_in op) x in
      let v = narrowed (op2_in op) y in
      let k = constant arrays n steps ws vs known b (op2_in op) c e h in
      let r = op2_result op (value_at vs a) (value_at vs b) in
      cond_both (eqb c 0) (greatest2 op u v) (greatest_by op u c) (λ (z : ℕ). r ≤ z)
      (λ t. bounded2 op (value_at vs a) (value_at vs b) u v p.most q.most p.below q.below)
      (λ t. subst (λ (z : ℕ). op2_result op (value_at vs a) z ≤ greatest_by op u c) (sym k.value) (bounded_by op (value_at vs a) u c p.most p.below k.small))

  module _ (f : ℕ → ℕ) (rec : (a u : ℕ) → IsWidth u → IsOfWidth ws a u → value_at vs a ≤ f a) where
    operand_top : (a u : ℕ) → IsWidth u → IsOfWidth ws a u → IsUpTo u (value_at vs a) (f a)
    operand_top a u h e = up_to u (value_at vs a) (f a) h (rec a u h e) (below arrays n steps ws vs known a u e)

    step_top : (v w : ℕ) → IsWidth w → IsOfWidth ws v w → (o : Option Instr) → step_at n steps v ≡ o → value_at vs v ≤ top_of f n steps o
    step_top v w h e None s = any w (value_at vs v) h (below arrays n steps ws vs known v w e)
    step_top v w h e (Some (Const u c)) s =
        let m = made arrays n steps ws vs known v (Const u c) s in
        let is : value_at vs v ≡ c = m.value tt in
        omega (arith, is)
    step_top v w h e (Some (One op a)) s =
        let m = made arrays n steps ws vs known v (One op a) s in
        let p = operand_top a (op1_in op) (op1-in-width op) m.fits in
        let x = narrowed (op1_in op) (f a) in
        subst (λ (z : ℕ). z ≤ greatest1 op x) (sym (m.value tt)) (bounded1 op (value_at vs a) x p.most)
    step_top v w h e (Some (Two op a b)) s =
        let m = made arrays n steps ws vs known v (Two op a b) s in
        let u = op2_in op in
        let p = operand_top a u (op2-in-width op) m.fits.0 in
        let q = operand_top b u (op2-in-width op) m.fits.1 in
        subst (λ (z : ℕ). z ≤ top_of_two op (const_at n steps b) (narrowed u (f a)) (narrowed u (f b))) (sym (m.value tt))
        (two_top op a b (f a) (f b) (const_at n steps b) refl m.fits.1 p q)
    step_top v w h e (Some (Select u c a b)) s =
        let m = made arrays n steps ws vs known v (Select u c a b) s in
        let x = rec a u m.fits.0 m.fits.2 in
        let y = rec b u m.fits.0 m.fits.3 in
        subst (λ (z : ℕ). z ≤ max (f a) (f b)) (sym (m.value tt))
        (cond_both (eqb (value_at vs c) 0) (value_at vs b) (value_at vs a) (λ (z : ℕ). z ≤ max (f a) (f b)) (λ t. omega (arith, y)) (λ t. omega (arith, x)))
    step_top v w h e (Some (Load a p)) s = any w (value_at vs v) h (below arrays n steps ws vs known v w e)
    step_top v w h e (Some (Store a p x)) s = any w (value_at vs v) h (below arrays n steps ws vs known v w e)

  pub top_law : (k v w : ℕ) → IsWidth w → IsOfWidth ws v w → value_at vs v ≤ top_within k n steps v
  unfolding top_within
  top_law zero v w h e = any w (value_at vs v) h (below arrays n steps ws vs known v w e)
  top_law (suc k) v w h e = step_top (λ x. top_within k n steps x) (λ a u i g. top_law k a u i g) v w h e (step_at n steps v) refl
