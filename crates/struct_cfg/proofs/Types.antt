-- Types of operands, and what is used of the laws of operators and patterns.
use Rattle.std.proofs.Common.{◌≡◌, ℕ, ◌^◌, ◌<◌, refl, sym, ◌∙◌, ap}
use Rattle.std.specs.Prelude.{true, false, ℤ, pos, ◌+ℤ◌, ◌*ℤ◌}
use Rattle.std.proofs.Math.Nat.{eq-zero-or-pos}
use Rattle.std.proofs.Common.{⊎_elim}
use Rattle.el_base.specs.declared.ty.Ty.{Ty}
use Rattle.el_base.specs.declared.ty.Ty.TheVariants.{I8}
use Rattle.el_base.specs.declared.operation.Op2.TheVariants.{Mul64, Add64}
use Rattle.el_base.specs.Numbers.{IsInRange, pattern, number}
use Rattle.el_base.specs.Widths.{ty_width}
use Rattle.c_ast.specs.declared.tree.Unary.{Unary}
use Rattle.c_ast.specs.declared.tree.Binary.{Binary}
use Rattle.c_ast.specs.declared.tree.Binary.TheVariants.{Shl, Shr}
use Rattle.c_ast.specs.ResultTypes.{promoted}
use Rattle.word_ops.specs.Laws.{Gives2}
use Rattle.c_meaning.specs.Types.{conv}
use Rattle.c_meaning.specs.Operators.{is_zero}
use Rattle.c_meaning.specs.Patterns.{KeepsPatterns, ShiftKeepsPatterns, KeepsPattern, ConvertsPattern}
use Rattle.c_meaning.specs.Ranges.{ValuesFit}
use Rattle.c_meaning.proofs.OperatorLaws.{is_plain}
use Rattle.c_meaning.proofs.OperatorPatterns.{zero_yes}

-- what the laws of the crates below say
pub record OpLaws : Type 0 where
  pub plain : (op : Binary) (t : Ty) → is_plain op ≡ true → KeepsPatterns op (promoted t)
  pub left_shifts : (t : Ty) → ShiftKeepsPatterns Shl (promoted t)
  pub right_shifts : (t : Ty) → ShiftKeepsPatterns Shr (promoted t)
  pub unary : (op : Unary) (t : Ty) → KeepsPattern op (promoted t)
  pub conversions : (s t : Ty) → ConvertsPattern s t
  pub values_fit : ValuesFit
  pub width : (t : Ty) (z : ℤ) → pattern t z < 2 ^ ty_width t
  pub round : (t : Ty) (p : ℕ) → p < 2 ^ ty_width t → pattern t (number t p) ≡ p
  pub numbers : (t : Ty) (z : ℤ) → IsInRange t z → number t (pattern t z) ≡ z
  pub mul64 : Gives2 Mul64 (λ x y. x *ℤ y)
  pub add64 : Gives2 Add64 (λ x y. x +ℤ y)

-- ---- zero and its pattern

number_zero : (t : Ty) → number t 0 ≡ pos 0
number_zero I8 = refl
number_zero t = refl

pattern_zero : (t : Ty) → pattern t (pos 0) ≡ 0
pattern_zero I8 = refl
pattern_zero t = refl

pub pattern_none : (t : Ty) (x : ℤ) → is_zero x ≡ true → pattern t x ≡ 0
pattern_none t x e = ap (pattern t) (zero_yes x e) ∙ pattern_zero t

pub pattern_some : OpLaws → (t : Ty) (x : ℤ) → IsInRange t x → is_zero x ≡ false → 0 < pattern t x
pattern_some laws t x r e =
    ⊎_elim
    (λ z. let n : x ≡ pos 0 = sym (laws.numbers t x r) ∙ ap (number t) z ∙ number_zero t in let y : true ≡ false = ap is_zero (sym n) ∙ e in absurd (cc))
    (λ h. h) (eq-zero-or-pos (pattern t x))

pub pattern_conv : OpLaws → (t : Ty) (x : ℤ) → pattern t (conv t x) ≡ pattern t x
pattern_conv laws t x = laws.round t (pattern t x) (laws.width t x)
