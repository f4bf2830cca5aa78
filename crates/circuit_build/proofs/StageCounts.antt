-- Tables of what is left, as tokens.
use Rattle.std.proofs.Common.{◌≡◌, ◌≢◌, ℕ, zero, suc, ◌+◌, ◌*◌, ◌^◌, ◌<◌, ◌≤◌, Bool, true, false, cond, Option, Some, None, List, [], ◌∷◌, ◌++◌, length, get_or, refl, sym, ap, ◌∙◌, subst, inl, inr, arith, slice_get, length-append}
use Rattle.std.proofs.lemmas.Bool.{cases_eq}
use Rattle.el_base.specs.declared.ty.Array.{Array}
use Rattle.ir.specs.declared.instr.Instr.{Instr}
use Rattle.ir.specs.declared.instr.Instr.TheVariants as step
use Rattle.ir.specs.Renaming.{operands}
use Rattle.ir.specs.Shapes.{Shape, IsOfWidth, StepFits, StepsFit, step_width, shape_after}
use Rattle.circuit_build.specs.Uses.{all_added, is_laid, step_added, steps_added}
use Rattle.circuit_build.proofs.Remains.{one_if, one_own, one_other, often, added_other, all_added_is, AreBelow, operands_below, operands_few, steps_added_length, steps_added_most}
use Rattle.circuit_build.proofs.StageTokens.{more, more_all}
use Rattle.circuit_build.proofs.StageSteps.{needed}

-- ---- tokens of a value more

more_own : (v : ℕ) (T : ℕ → ℕ) → more v T v ≡ suc (T v)
more_own zero T = refl
more_own (suc v) T = more_own v (λ w. T (suc w))

more_other : (v w : ℕ) (T : ℕ → ℕ) → w ≢ v → more v T w ≡ T w
more_other zero zero T n = absurd (n refl)
more_other zero (suc w) T n = refl
more_other (suc v) zero T n = refl
more_other (suc v) (suc w) T n = more_other v w (λ x. T (suc x)) (λ e. n (ap suc e))

pub more_is : (v w : ℕ) (T : ℕ → ℕ) → more v T w ≡ T w + one_if v w
more_is v w T = elim (cases_eq w v) [
  | inl e ↦ (let x = ap (λ k. more v T k) e in let y = more_own v T in let o = ap (λ k. one_if v k) e in let p = one_own v in let q = ap T e in omega (arith, x, y, o, p, q))
  | inr n ↦ (let x = more_other v w T n in let o = one_other v w n in omega (arith, x, o))
]

pub more_all_is : (vs : List ℕ) (w : ℕ) (T : ℕ → ℕ) → more_all vs T w ≡ T w + often w vs
more_all_is [] w T = omega arith
more_all_is (v ∷ vs) w T = let i = more_all_is vs w T in let x = more_is v w (more_all vs T) in omega (arith, i, x)

-- ---- in front of a step

abbrev pub table : List ℕ → ℕ → ℕ
table t w = get_or t w 0

below_as : (vs : List ℕ) (n m : ℕ) → n ≤ m → AreBelow n vs → AreBelow m vs
below_as [] n m e b = tt
below_as (v ∷ vs) n m e b = let l = b.0 in (omega (arith, l, e), below_as vs n m e b.1)

pub below_in : (vs : List ℕ) (n m : ℕ) → n ≡ m → AreBelow n vs → AreBelow m vs
below_in vs n m e b = subst (λ k. AreBelow k vs) e b

pub step_needs : (arrays : List Array) (ws : Shape) (n : ℕ) (i : Instr) (t : List ℕ) (w : ℕ) → StepFits arrays ws i → length ws ≤ length t → get_or t w 0 + 5 < 2 ^ 32 → get_or (step_added n i t) w 0 ≡ needed i (table t) (get_or t n 0) w
step_needs arrays ws n i t w fit l few = by (is_laid i (get_or t n 0))
  where
    by : (b : Bool) → get_or (cond b (all_added (operands i) t) t) w 0 ≡ cond b (more_all (operands i) (table t) w) (table t w)
    by true =
        let f = operands_few i in
        let x = all_added_is (operands i) w t (below_as (operands i) (length ws) (length t) l (operands_below arrays ws i fit)) (omega (arith, few, f)) in
        let y = more_all_is (operands i) w (table t) in
        omega (arith, x, y)
    by false = refl

-- ---- a value without a width has no use

abbrev NotAmong : ℕ → List ℕ → Type 0
NotAmong w [] = Unit {0}
NotAmong w (v ∷ vs) = (w ≢ v) × NotAmong w vs

all_added_not : (vs : List ℕ) (w : ℕ) (t : List ℕ) → NotAmong w vs → get_or (all_added vs t) w 0 ≡ get_or t w 0
all_added_not [] w t h = refl
all_added_not (v ∷ vs) w t h = all_added_not vs w _ h.1 ∙ added_other v 1 w t h.0

of_width_not : (ws : Shape) (w v x : ℕ) → slice_get ws w ≡ Some None → IsOfWidth ws v x → w ≢ v
of_width_not ws w v x none h e = let k : Some None ≡ Some (Some x) = sym none ∙ ap (slice_get ws) e ∙ h in absurd (cc)

operands_not : (arrays : List Array) (ws : Shape) (w : ℕ) (i : Instr) → slice_get ws w ≡ Some None → StepFits arrays ws i → NotAmong w (operands i)
operands_not arrays ws w (step.Const x n) none h = tt
operands_not arrays ws w (step.One op a) none h = (of_width_not ws w a _ none h, tt)
operands_not arrays ws w (step.Two op a b) none h = (of_width_not ws w a _ none h.0, (of_width_not ws w b _ none h.1, tt))
operands_not arrays ws w (step.Select x c a b) none h = (of_width_not ws w c _ none h.1, (of_width_not ws w a _ none h.2, (of_width_not ws w b _ none h.3, tt)))
operands_not arrays ws w (step.Load a p) none (x, y, h) = (of_width_not ws w p _ none h, tt)
operands_not arrays ws w (step.Store a p v) none (x, y, h, k) = (of_width_not ws w p _ none h, (of_width_not ws w v _ none k, tt))

pub get_before : (ws vs : Shape) (v : ℕ) (x : Option ℕ) → slice_get ws v ≡ Some x → slice_get (ws ++ vs) v ≡ Some x
get_before [] vs v x e = absurd (cc)
get_before (w ∷ ws) vs zero x e = e
get_before (w ∷ ws) vs (suc v) x e = get_before ws vs v x e

pub get_last : (ws : Shape) (x : Option ℕ) → slice_get (ws ++ x ∷ []) (length ws) ≡ Some x
get_last [] x = refl
get_last (w ∷ ws) x = get_last ws x

pub shape_keeps : (arrays : List Array) (is : List Instr) (ws : Shape) (v : ℕ) (x : Option ℕ) → slice_get ws v ≡ Some x → slice_get (shape_after arrays ws is) v ≡ Some x
shape_keeps arrays [] ws v x e = e
shape_keeps arrays (i ∷ is) ws v x e = shape_keeps arrays is (ws ++ step_width arrays i ∷ []) v x (get_before ws (step_width arrays i ∷ []) v x e)

pub silent_steps : (arrays : List Array) (is : List Instr) (ws : Shape) (n w : ℕ) (t : List ℕ) → slice_get ws w ≡ Some None → StepsFit arrays ws is → get_or (steps_added n is t) w 0 ≡ get_or t w 0
silent_steps arrays [] ws n w t none fit = refl
silent_steps arrays (i ∷ is) ws n w t none fit = by (is_laid i (get_or u n 0)) ∙ silent_steps arrays is (ws ++ step_width arrays i ∷ []) (suc n) w t (get_before ws (step_width arrays i ∷ []) w None none) fit.1
  where
    u : List ℕ
    u = steps_added (suc n) is t

    by : (b : Bool) → get_or (cond b (all_added (operands i) (steps_added (suc n) is t)) (steps_added (suc n) is t)) w 0 ≡ get_or (steps_added (suc n) is t) w 0
    by true = all_added_not (operands i) w (steps_added (suc n) is t) (operands_not arrays ws w i none fit.0)
    by false = refl
