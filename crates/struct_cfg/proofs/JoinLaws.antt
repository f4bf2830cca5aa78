-- What operators make of two values.
use Rattle.std.proofs.Common.{◌≡◌, ℕ, length, ◌∙◌}
use Rattle.std.specs.Prelude.{true, ℤ}
use Rattle.el_base.specs.declared.ty.Ty.{Ty}
use Rattle.el_base.specs.declared.operation.Op2.{Op2}
use Rattle.el_base.specs.Numbers.{IsInRange, pattern}
use Rattle.c_ast.specs.declared.tree.Unary.{Unary}
use Rattle.c_ast.specs.declared.tree.Unary.TheVariants.{Plus}
use Rattle.c_ast.specs.declared.tree.Binary.{Binary}
use Rattle.c_ast.specs.declared.tree.Binary.TheVariants.{Shl, Shr, Gt, Ge, Both, Either}
use Rattle.ir.specs.declared.instr.Instr.TheVariants.{Two}
use Rattle.word_ops.specs.Operations.{op2_result}
use Rattle.ir.specs.Steps.{Work}
use Rattle.c_meaning.specs.Patterns.{on_patterns, on_pattern, conversion_op}
use Rattle.c_meaning.proofs.OperatorLaws.{is_plain}
use Rattle.struct_cfg.specs.Layings.{one_step, after, applied}
use Rattle.struct_cfg.specs.Operators.{converted, unary_op, joined}
use Rattle.struct_cfg.specs.Seen.{IsValue, Makes}
use Rattle.struct_cfg.proofs.Works.{two_makes, one_makes, no_step_makes, applied_makes, makes_equal, after_makes, later}
use Rattle.struct_cfg.proofs.Types.{OpLaws, pattern_conv}

pub plain_makes : (op : Binary) (t u : Ty) (w : Work) (a b p q : ℕ) → is_plain op ≡ true → IsValue w a p → IsValue w b q → Makes w (joined op t u a b (length w.values)) (on_patterns op t p q)
plain_makes Shl t u w a b p q e i j = absurd (cc)
plain_makes Shr t u w a b p q e i j = absurd (cc)
plain_makes Gt t u w a b p q e i j = two_makes _ w b a q p j i
plain_makes Ge t u w a b p q e i j = two_makes _ w b a q p j i
plain_makes Both t u w a b p q e i j = absurd (cc)
plain_makes Either t u w a b p q e i j = absurd (cc)
plain_makes op t u w a b p q e i j = two_makes _ w a b p q i j

pub unary_makes : (op : Unary) (t : Ty) (w : Work) (v p : ℕ) → IsValue w v p → Makes w (applied (unary_op op t) v (length w.values)) (on_pattern op t p)
unary_makes Plus t w v p i = no_step_makes w v p (length w.values) i
unary_makes op t w v p i = one_makes _ w v p i

module _ (laws : OpLaws) where
  pub converted_makes : (s t : Ty) (w : Work) (v : ℕ) (x : ℤ) → IsInRange s x → IsValue w v (pattern s x) → Makes w (converted s t v (length w.values)) (pattern t x)
  converted_makes s t w v x r i = makes_equal w _ _ _ (laws.conversions s t x r ∙ pattern_conv laws t x) (applied_makes (conversion_op s t) w v (pattern s x) i)

  -- the amount of a shift, in the type of what is shifted
  shifted : (op : Op2) (t u : Ty) (w : Work) (a b p : ℕ) (y : ℤ) → IsInRange u y → IsValue w a p → IsValue w b (pattern u y)
      → Makes w (after (converted u t b) (λ c. one_step (Two op a c)) (length w.values)) (op2_result op p (pattern t y))
  shifted op t u w a b p y r i j =
      after_makes (converted u t b) (λ c. one_step (Two op a c)) w (pattern t y) (op2_result op p (pattern t y)) (converted_makes u t w b y r j)
      (λ c u a2 k. two_makes op u a c p (pattern t y) (later w u a p a2 i) k)

  pub left_shift_makes : (t u : Ty) (w : Work) (a b p : ℕ) (y : ℤ) → IsInRange u y → IsValue w a p → IsValue w b (pattern u y) → Makes w (joined Shl t u a b (length w.values)) (on_patterns Shl t p (pattern t y))
  left_shift_makes t u w a b p y r i j = shifted _ t u w a b p y r i j

  pub right_shift_makes : (t u : Ty) (w : Work) (a b p : ℕ) (y : ℤ) → IsInRange u y → IsValue w a p → IsValue w b (pattern u y) → Makes w (joined Shr t u a b (length w.values)) (on_patterns Shr t p (pattern t y))
  right_shift_makes t u w a b p y r i j = shifted _ t u w a b p y r i j
