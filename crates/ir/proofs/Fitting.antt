-- Renamed steps fit, and steps that fit name earlier values alone.
use Rattle.std.proofs.Common.{◌≡◌, ℕ, zero, suc, ◌+◌, ◌-◌, ◌<◌, List, [], ◌∷◌, ◌++◌, map, length, Option, Some, refl, sym, ◌∙◌, ap, subst, arith, length-append, inl, inr}
use Rattle.std.specs.Prelude.{Bool, true, slice_get}
use Rattle.std.proofs.lemmas.Bool.{cases_lt}
use Rattle.std.proofs.lemmas.Option.{slice_get_within}
use Rattle.el_base.specs.declared.ty.Array.{Array}
use Rattle.ir.specs.declared.instr.Instr.{Instr}
use Rattle.ir.specs.declared.instr.Instr.TheVariants.{Const, One, Two, Select, Load, Store}
use Rattle.ir.specs.Shapes.{Shape, IsOfWidth, StepFits, StepsFit, step_width, shape_after}
use Rattle.ir.specs.Renaming.{renamed, operands, MayName, AllMayBeNamed, StepsName, AreKept, OperandsAreKept, Shifts, KeepsWidths, RenamedFit, RenamedStepsFit, FittingStepsName}

-- ---- steps that fit name earlier values

-- a value that has a width is one of the shape's
below : (ws : Shape) (a w : ℕ) → IsOfWidth ws a w → a < length ws
below ws a w h = slice_get_within ws a (Some w) h

module _ (kept : ℕ → Bool) (n : ℕ) where
  earlier : (k : ℕ) (ws : Shape) (a w : ℕ) → length ws ≡ n + k → (a < n → kept a ≡ true) → IsOfWidth ws a w → MayName kept n k a
  earlier k ws a w long keep h =
      let l = below ws a w h in
      elim (cases_lt a n) [ inl lt ↦ inl (lt, keep lt) | inr ge ↦ inr (a - n, omega arith, omega arith) ]

  step_names : (arrays : List Array) (i : Instr) (k : ℕ) (ws : Shape) → length ws ≡ n + k → AreKept kept n (operands i) → StepFits arrays ws i → AllMayBeNamed kept n k (operands i)
  step_names arrays (Const w c) k ws long keep h = tt
  step_names arrays (One op a) k ws long keep h = (earlier k ws a _ long keep.0 h, tt)
  step_names arrays (Two op a b) k ws long keep h = (earlier k ws a _ long keep.0 h.0, (earlier k ws b _ long keep.1.0 h.1, tt))
  step_names arrays (Select w c a b) k ws long keep h =
      (earlier k ws c _ long keep.0 h.1, (earlier k ws a _ long keep.1.0 h.2, (earlier k ws b _ long keep.1.1.0 h.3, tt)))
  step_names arrays (Load a p) k ws long keep h = (earlier k ws p _ long keep.0 h.2, tt)
  step_names arrays (Store a p v) k ws long keep h = (earlier k ws p _ long keep.0 h.2, (earlier k ws v _ long keep.1.0 h.3, tt))

  steps_name : (arrays : List Array) (is : List Instr) (k : ℕ) (ws : Shape) → length ws ≡ n + k → OperandsAreKept kept n is → StepsFit arrays ws is → StepsName kept n k is
  steps_name arrays [] k ws long keep h = tt
  steps_name arrays (i ∷ is) k ws long keep h = (
    step_names arrays i k ws long keep.0 h.0,
    steps_name arrays is (suc k) (ws ++ step_width arrays i ∷ []) (omega (arith, long, length-append ws (step_width arrays i ∷ []))) keep.1 h.1,
  )

pub fitting_steps_name : FittingStepsName
fitting_steps_name kept n arrays is k ws long keep h = steps_name kept n arrays is k ws long keep h

-- ---- renamed steps fit

-- a step has the width that it had
same_width : (arrays : List Array) (f : ℕ → ℕ) (i : Instr) → step_width arrays (renamed f i) ≡ step_width arrays i
same_width arrays f (Const w n) = refl
same_width arrays f (One op a) = refl
same_width arrays f (Two op a b) = refl
same_width arrays f (Select w c a b) = refl
same_width arrays f (Load a p) = refl
same_width arrays f (Store a p v) = refl

-- a value in front keeps its width, and the value behind has the last width
in_front : (ws : Shape) (x : Option ℕ) (a : ℕ) → a < length ws → slice_get (ws ++ x ∷ []) a ≡ slice_get ws a
in_front [] x a h = absurd (omega arith)
in_front (y ∷ ws) x zero h = refl
in_front (y ∷ ws) x (suc a) h = in_front ws x a (omega arith)

pub behind : (ws : Shape) (x : Option ℕ) → slice_get (ws ++ x ∷ []) (length ws) ≡ Some x
behind [] x = refl
behind (y ∷ ws) x = behind ws x

module _ (kept : ℕ → Bool) (f : ℕ → ℕ) (n m : ℕ) (shift : Shifts f n m) (arrays : List Array) where
  old_width : (k : ℕ) (ws us : Shape) (x : Option ℕ) (a w : ℕ) → length ws ≡ n + k → MayName kept n k a → KeepsWidths kept f n k ws us
      → IsOfWidth (ws ++ x ∷ []) a w → IsOfWidth (us ++ x ∷ []) (f a) w
  old_width k ws us x a w long may keeps h =
      let lt : a < length ws = elim may [ inl p ↦ omega (arith, p.0, long) | inr q ↦ omega (arith, q.1, q.2, long) ] in
      let r = keeps a w may (sym (in_front ws x a lt) ∙ h) in
      in_front us x (f a) (below us (f a) w r) ∙ r

  new_width : (k : ℕ) (ws us : Shape) (x : Option ℕ) (w : ℕ) → length ws ≡ n + k → length us ≡ m + k
      → IsOfWidth (ws ++ x ∷ []) (n + k) w → IsOfWidth (us ++ x ∷ []) (f (n + k)) w
  new_width k ws us x w long long_new h =
      let e : Some x ≡ Some (Some w) = sym (behind ws x) ∙ ap (slice_get (ws ++ x ∷ [])) long ∙ h in
      ap (slice_get (us ++ x ∷ [])) (shift k ∙ sym long_new) ∙ behind us x ∙ e

  more_widths : (k : ℕ) (ws us : Shape) (x : Option ℕ) → length ws ≡ n + k → length us ≡ m + k → KeepsWidths kept f n k ws us
      → KeepsWidths kept f n (suc k) (ws ++ x ∷ []) (us ++ x ∷ [])
  more_widths k ws us x long long_new keeps a w may h =
      elim may [ inl p ↦ old_width k ws us x a w long (inl p) keeps h | inr q ↦ by_place q.0 q.1 q.2 ]
    where
      by_place : (i : ℕ) → i < suc k → a ≡ n + i → IsOfWidth (us ++ x ∷ []) (f a) w
      by_place i lt e =
          elim (cases_lt i k) [
            | inl l ↦ old_width k ws us x a w long (inr (i, l, e)) keeps h
            | inr g ↦
                let last : a ≡ n + k = omega arith in
                subst (λ b. IsOfWidth (us ++ x ∷ []) (f b) w) (sym last)
                (new_width k ws us x w long long_new (subst (λ b. IsOfWidth (ws ++ x ∷ []) b w) last h))
          ]

  step_fits : (k : ℕ) (ws us : Shape) (i : Instr) → KeepsWidths kept f n k ws us → AllMayBeNamed kept n k (operands i) → StepFits arrays ws i
      → StepFits arrays us (renamed f i)
  step_fits k ws us (Const w c) keeps may h = h
  step_fits k ws us (One op a) keeps may h = keeps a _ may.0 h
  step_fits k ws us (Two op a b) keeps may h = (keeps a _ may.0 h.0, keeps b _ may.1.0 h.1)
  step_fits k ws us (Select w c a b) keeps may h = (h.0, keeps c _ may.0 h.1, keeps a _ may.1.0 h.2, keeps b _ may.1.1.0 h.3)
  step_fits k ws us (Load a p) keeps may h = (h.0, h.1, keeps p _ may.0 h.2)
  step_fits k ws us (Store a p v) keeps may h = (h.0, h.1, keeps p _ may.0 h.2, keeps v _ may.1.0 h.3)

  renamed_fit : (is : List Instr) (k : ℕ) (ws us : Shape) → length ws ≡ n + k → length us ≡ m + k → KeepsWidths kept f n k ws us
      → StepsName kept n k is → StepsFit arrays ws is → RenamedFit kept f n k arrays ws us is
  renamed_fit [] k ws us long long_new keeps names h =
      let e : k ≡ k + 0 = omega arith in record { steps = tt; widths = subst (λ j. KeepsWidths kept f n j ws us) e keeps }
  renamed_fit (i ∷ is) k ws us long long_new keeps names h =
      let x = step_width arrays i in
      let y = step_width arrays (renamed f i) in
      let e : suc k + length is ≡ k + suc (length is) = omega arith in
      let r = renamed_fit is (suc k) (ws ++ x ∷ []) (us ++ x ∷ []) (omega (arith, long, length-append ws (x ∷ []))) (omega (arith, long_new, length-append us (x ∷ []))) (more_widths k ws us x long long_new keeps) names.1 h.1 in
      let same : x ≡ y = sym (same_width arrays f i) in
      record {
        steps = (step_fits k ws us i keeps names.0 h.0, subst (λ z. StepsFit arrays (us ++ z ∷ []) (map (renamed f) is)) same r.steps);
        widths = subst (λ j. KeepsWidths kept f n j (shape_after arrays (ws ++ x ∷ []) is) (shape_after arrays (us ++ y ∷ []) (map (renamed f) is))) e
            (subst (λ z. KeepsWidths kept f n (suc k + length is) (shape_after arrays (ws ++ x ∷ []) is) (shape_after arrays (us ++ z ∷ []) (map (renamed f) is))) same r.widths);
      }

pub renamed_steps_fit : RenamedStepsFit
renamed_steps_fit kept f n m shift arrays is k ws us long long_new keeps names h = renamed_fit kept f n m shift arrays is k ws us long long_new keeps names h
