-- What the steps of a block tell of its values.
use Rattle.std.proofs.Common.{◌≡◌, ℕ, zero, suc, ◌+◌, ◌-◌, ◌%◌, ◌^◌, ◌<◌, Bool, true, List, [], ◌∷◌, length, Option, Some, None, refl, sym, ◌∙◌, ap, subst, ltb, inl, inr, arith}
use Rattle.std.specs.Prelude.{slice_get, ◌==◌}
use Rattle.std.specs.Int.{from_bool}
use Rattle.std.proofs.lemmas.Bool.{false≢true, cond-true, cond-false, cases_lt}
use Rattle.std.proofs.lemmas.Option.{none-some, same_Some, slice_get_within}
use borrow.Author.Tests.{lt-ltb, le-ltb}
use Rattle.el_base.specs.declared.ty.Array.{Array}
use Rattle.el_base.specs.Widths.{op1_in, op2_in}
use Rattle.ir.specs.declared.instr.Instr.{Instr}
use Rattle.ir.specs.declared.instr.Instr.TheVariants.{Const, One, Two, Select, Load, Store}
use Rattle.ir.specs.Shapes.{Shape, IsOfWidth, StepFits, step_width}
use Rattle.ir.specs.Steps.{value_at}
use Rattle.block_pass.specs.Fitting.{FitsWidth, FitShape}
use Rattle.block_rules.specs.Known.{IsPure, pure_value, AreValues}
use Rattle.block_rules.specs.Kinds.{kind_of}
use Rattle.block_rules.specs.Reading.{step_at, constant_of, const_at, tests, is_test}
use Rattle.block_rules.proofs.Operations.{result-kind, out-kind, zero-out, zero-result, comparison, comparison-out}

-- ---- values that fit

pub same_length : (ws : Shape) (vs : List ℕ) → FitShape ws vs → length ws ≡ length vs
same_length [] [] f = refl
same_length (w ∷ ws) (v ∷ vs) f = ap suc (same_length ws vs f.1)
same_length [] (v ∷ vs) f = absurd f
same_length (w ∷ ws) [] f = absurd f

pub fit_below : (ws : Shape) (vs : List ℕ) (v w : ℕ) → FitShape ws vs → IsOfWidth ws v w → value_at vs v < 2 ^ w
fit_below [] [] v w f e = absurd (omega (arith, slice_get_within [] v (Some w) e))
fit_below (x ∷ ws) (y ∷ vs) zero w f e = subst (λ (o : Option ℕ). FitsWidth o y) (same_Some x (Some w) e) f.0
fit_below (x ∷ ws) (y ∷ vs) (suc v) w f e = fit_below ws vs v w f.1 e
fit_below [] (y ∷ vs) v w f e = absurd f
fit_below (x ∷ ws) [] v w f e = absurd f

-- ---- the step of a value

step_place : (n : ℕ) (steps : List Instr) (v : ℕ) (i : Instr) → step_at n steps v ≡ Some i → (slice_get steps (v - n) ≡ Some i) × (n + (v - n) ≡ v)
step_place n steps v i e = elim (cases_lt v n) [
  | inl h ↦ absurd (none-some i (sym (cond-true (ltb v n) None (slice_get steps (v - n)) (lt-ltb v n h)) ∙ e))
  | inr h ↦ (sym (cond-false (ltb v n) None (slice_get steps (v - n)) (le-ltb v n h)) ∙ e, omega arith)
]

-- a value that a step makes
pub record IsMade (arrays : List Array) (ws : Shape) (vs : List ℕ) (v : ℕ) (i : Instr) : Type 0 where
  pub fits : StepFits arrays ws i
  pub width : slice_get ws v ≡ Some (step_width arrays i)
  pub value : IsPure i → value_at vs v ≡ pure_value i vs

-- a constant's step
constant_step : (o : Option Instr) (c : ℕ) → constant_of o ≡ Some c → (u : ℕ) × (o ≡ Some (Const u c))
constant_step None c e = absurd (none-some c e)
constant_step (Some (Const u d)) c e = (u, ap (λ (x : ℕ). Some (Const u x)) (same_Some d c e))
constant_step (Some (One op a)) c e = absurd (none-some c e)
constant_step (Some (Two op a b)) c e = absurd (none-some c e)
constant_step (Some (Select w d a b)) c e = absurd (none-some c e)
constant_step (Some (Load a p)) c e = absurd (none-some c e)
constant_step (Some (Store a p v)) c e = absurd (none-some c e)

-- a value that is the constant c
pub record IsConstant (vs : List ℕ) (v w c : ℕ) : Type 0 where
  pub value : value_at vs v ≡ c
  pub small : c < 2 ^ w

-- a value that is 0 or 1
pub record IsBit (ws : Shape) (vs : List ℕ) (v : ℕ) : Type 0 where
  pub width : IsOfWidth ws v 32
  pub bit : Bool
  pub value : value_at vs v ≡ from_bool bit

module _ (arrays : List Array) (n : ℕ) (steps : List Instr) (ws : Shape) (vs : List ℕ) (known : AreValues arrays n steps ws vs) where
  pub long : length ws ≡ length vs
  long = same_length ws vs known.fit

  pub below : (v w : ℕ) → IsOfWidth ws v w → value_at vs v < 2 ^ w
  below v w e = fit_below ws vs v w known.fit e

  pub made : (v : ℕ) (i : Instr) → step_at n steps v ≡ Some i → IsMade arrays ws vs v i
  made v i e =
      let p = step_place n steps v i e in
      record {
        fits = known.fits (v - n) i p.0;
        width = ap (slice_get ws) (sym p.1) ∙ known.widths (v - n) i p.0;
        value = λ u. ap (value_at vs) (sym p.1) ∙ known.each (v - n) i p.0 u;
      }

  pub constant : (v w c : ℕ) → const_at n steps v ≡ Some c → IsOfWidth ws v w → IsConstant vs v w c
  unfolding const_at
  constant v w c e h =
      let s = constant_step (step_at n steps v) c e in
      let m = made v (Const s.0 c) s.1 in
      let o : Some (Some s.0) ≡ Some (Some w) = sym m.width ∙ h in
      let u : s.0 ≡ w = same_Some s.0 w (same_Some (Some s.0) (Some w) o) in
      record { value = m.value tt; small = subst (λ (k : ℕ). c < 2 ^ k) u m.fits.1 }

  test_step : (v : ℕ) (o : Option Instr) → step_at n steps v ≡ o → tests o ≡ true → IsBit ws vs v
  test_step v None e h = absurd (false≢true h)
  test_step v (Some (Const w c)) e h = absurd (false≢true h)
  test_step v (Some (One op a)) e h =
      let m = made v (One op a) e in
      record {
        width = m.width ∙ ap (λ (u : ℕ). Some (Some u)) (zero-out op h);
        bit = value_at vs a % 2 ^ op1_in op == 0;
        value = m.value tt ∙ zero-result op h (value_at vs a);
      }
  test_step v (Some (Two op a b)) e h =
      let m = made v (Two op a b) e in
      let x = value_at vs a % 2 ^ op2_in op in
      let y = value_at vs b % 2 ^ op2_in op in
      let t = comparison (kind_of op) h (op2_in op) x y in
      record {
        width = m.width ∙ ap (λ (u : ℕ). Some (Some u)) (out-kind op ∙ comparison-out (kind_of op) h (op2_in op));
        bit = t.0;
        value = m.value tt ∙ result-kind op (value_at vs a) (value_at vs b) ∙ t.1;
      }
  test_step v (Some (Select w c a b)) e h = absurd (false≢true h)
  test_step v (Some (Load a p)) e h = absurd (false≢true h)
  test_step v (Some (Store a p x)) e h = absurd (false≢true h)

  pub test : (v : ℕ) → is_test n steps v ≡ true → IsBit ws vs v
  unfolding is_test
  test v h = test_step v (step_at n steps v) refl h
