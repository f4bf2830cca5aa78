-- Along steps that fit, values and elements stay in their widths.
use Rattle.std.proofs.Common.{◌≡◌, ℕ, zero, suc, ◌<◌, ◌^◌, List, [], ◌∷◌, ◌++◌, map, get_or, Option, Some, refl, sym, ap, subst, inl, inr}
use Rattle.std.specs.Prelude.{◌==◌, Bool, true, false, if◌then◌else◌, set, slice_get, length, All}
use Rattle.std.proofs.lemmas.Bool.{cases_lt}
use Rattle.std.proofs.lemmas.Nat.{pow_pos}
use Rattle.std.proofs.lemmas.List.{get_or_past}
use Rattle.std.proofs.lemmas.List.Elements.{All-get_or, All-set}
use Rattle.el_base.specs.declared.ty.Array.{Array}
use Rattle.el_base.specs.Widths.{ty_width}
use Rattle.ir.specs.declared.instr.Instr.{Instr}
use Rattle.ir.specs.declared.instr.Instr.TheVariants.{Const, One, Two, Select, Load, Store}
use Rattle.ir.specs.Shapes.{Shape, IsOfWidth, StepFits, StepsFit, element_width, step_width, shape_after}
use Rattle.ir.specs.Steps.{Work, value_at, cells, step_value, step_arrays, after_step, through}
use Rattle.ir.specs.Graphs.{AreHanded}
use Rattle.word_ops.specs.Laws.{BelowWidth1, BelowWidth2}
use Rattle.block_pass.specs.Fitting.{FitWidths, FitsWidth, FitShape, FitArrays}
use Rattle.block_pass.specs.Laws.{FitsAfter, ValuesStayInWidths}

-- ---- values

pub fit_more : (ws : Shape) (vs : List ℕ) (x : Option ℕ) (v : ℕ) → FitShape ws vs → FitsWidth x v → FitShape (ws ++ x ∷ []) (vs ++ v ∷ [])
fit_more [] [] x v h e = (e, tt)
fit_more (w ∷ ws) (u ∷ vs) x v h e = (h.0, fit_more ws vs x v h.1 e)
fit_more [] (u ∷ vs) x v h e = absurd h
fit_more (w ∷ ws) [] x v h e = absurd h

pub fit_at : (ws : Shape) (vs : List ℕ) (a w : ℕ) → FitShape ws vs → IsOfWidth ws a w → value_at vs a < 2 ^ w
fit_at [] vs a w h e = absurd (cc)
fit_at (x ∷ ws) [] a w h e = absurd h
fit_at (x ∷ ws) (v ∷ vs) zero w h e = let z : x ≡ Some w = cc in subst (λ y. FitsWidth y v) z h.0
fit_at (x ∷ ws) (v ∷ vs) (suc a) w h e = fit_at ws vs a w h.1 e

-- the values that a block is given are those of its first shape
pub fit_first : (ws vs : List ℕ) → FitWidths ws vs → FitShape (map Some ws) vs
fit_first [] [] h = tt
fit_first (w ∷ ws) (v ∷ vs) h = (h.0, fit_first ws vs h.1)
fit_first [] (v ∷ vs) h = absurd h
fit_first (w ∷ ws) [] h = absurd h

-- what is handed on fits the arguments
pub fit_handed : (ws : Shape) (vs with args : List ℕ) → FitShape ws vs → AreHanded ws with args → FitWidths args (map (value_at vs) with)
fit_handed ws vs [] [] fit h = tt
fit_handed ws vs (a ∷ with) (w ∷ args) fit h = (fit_at ws vs a w fit h.0, fit_handed ws vs with args fit h.1)
fit_handed ws vs [] (w ∷ args) fit h = absurd h
fit_handed ws vs (a ∷ with) [] fit h = absurd h

pub fit_long : (ws vs : List ℕ) → FitWidths ws vs → length vs ≡ length ws
fit_long [] [] h = refl
fit_long (w ∷ ws) (v ∷ vs) h = ap suc (fit_long ws vs h.1)
fit_long [] (v ∷ vs) h = absurd h
fit_long (w ∷ ws) [] h = absurd h

-- ---- elements

cells_fit : (xs : List Array) (ess : List (List ℕ)) (a : ℕ) (x : Array) → FitArrays xs ess → slice_get xs a ≡ Some x → All (λ n. n < 2 ^ ty_width x.ty) (cells ess a)
cells_fit [] ess a x h e = absurd (cc)
cells_fit (y ∷ xs) [] a x h e = absurd h
cells_fit (y ∷ xs) (es ∷ ess) zero x h e = let z : y ≡ x = cc in subst (λ (t : Array). All (λ n. n < 2 ^ ty_width t.ty) es) z h.0
cells_fit (y ∷ xs) (es ∷ ess) (suc a) x h e = cells_fit xs ess a x h.1 e

set_fits : (xs : List Array) (ess : List (List ℕ)) (a : ℕ) (x : Array) (es : List ℕ) → FitArrays xs ess → slice_get xs a ≡ Some x → All (λ n. n < 2 ^ ty_width x.ty) es → FitArrays xs (set ess a es)
set_fits [] ess a x es h e all = absurd (cc)
set_fits (y ∷ xs) [] a x es h e all = absurd h
set_fits (y ∷ xs) (fs ∷ ess) zero x es h e all = let z : y ≡ x = cc in (subst (λ (t : Array). All (λ n. n < 2 ^ ty_width t.ty) es) (sym z) all, h.1)
set_fits (y ∷ xs) (fs ∷ ess) (suc a) x es h e all = (h.0, set_fits xs ess a x es h.1 e all)

-- past the elements stands 0
element_fits : (w : ℕ) (es : List ℕ) (p : ℕ) → All (λ n. n < 2 ^ w) es → get_or es p 0 < 2 ^ w
element_fits w es p all = elim (cases_lt p (length es)) [
  | inl lt ↦ All-get_or (λ n. n < 2 ^ w) es p 0 lt all
  | inr ge ↦ subst (λ n. n < 2 ^ w) (sym (get_or_past es p 0 ge)) (pow_pos w)
]

-- ---- steps

module _ (one : BelowWidth1) (two : BelowWidth2) (xs : List Array) where
  value_fits : (ws : Shape) (i : Instr) (w : Work) → StepFits xs ws i → FitsAfter xs ws w → FitsWidth (step_width xs i) (step_value i w.values w.arrays)
  value_fits ws (Const k n) w fit h = fit.1
  value_fits ws (One op a) w fit h = one op (value_at w.values a)
  value_fits ws (Two op a b) w fit h = two op (value_at w.values a) (value_at w.values b)
  value_fits ws (Select k c a b) w fit h = by (value_at w.values c == 0)
    where
      by : (t : Bool) → (if t then value_at w.values b else value_at w.values a) < 2 ^ k
      by true = fit_at ws w.values b k h.values fit.3
      by false = fit_at ws w.values a k h.values fit.2
  value_fits ws (Load a p) w fit h =
      let x = fit.1.0 in
      subst (λ o. FitsWidth (element_width o) (get_or (cells w.arrays a) (value_at w.values p) 0)) (sym fit.1.1)
      (element_fits (ty_width x.ty) (cells w.arrays a) (value_at w.values p) (cells_fit xs w.arrays a x h.elements fit.1.1))
  value_fits ws (Store a p v) w fit h = tt

  arrays_fit : (ws : Shape) (i : Instr) (w : Work) → StepFits xs ws i → FitsAfter xs ws w → FitArrays xs (step_arrays i w.values w.arrays)
  arrays_fit ws (Const k n) w fit h = h.elements
  arrays_fit ws (One op a) w fit h = h.elements
  arrays_fit ws (Two op a b) w fit h = h.elements
  arrays_fit ws (Select k c a b) w fit h = h.elements
  arrays_fit ws (Load a p) w fit h = h.elements
  arrays_fit ws (Store a p v) w fit h =
      let x = fit.1.0 in
      let lt : value_at w.values v < 2 ^ ty_width x.ty = subst (λ k. value_at w.values v < 2 ^ k) (sym fit.1.2) (fit_at ws w.values v fit.0 h.values fit.3) in
      set_fits xs w.arrays a x (set (cells w.arrays a) (value_at w.values p) (value_at w.values v)) h.elements fit.1.1
      (All-set (λ n. n < 2 ^ ty_width x.ty) (cells w.arrays a) (value_at w.values p) (value_at w.values v) lt (cells_fit xs w.arrays a x h.elements fit.1.1))

  steps_stay : (is : List Instr) (ws : Shape) (w : Work) → StepsFit xs ws is → FitsAfter xs ws w → FitsAfter xs (shape_after xs ws is) (through is w)
  steps_stay [] ws w fit h = h
  steps_stay (i ∷ is) ws w fit h = steps_stay is (ws ++ step_width xs i ∷ []) (after_step i w) fit.1 (record {
    values = fit_more ws w.values (step_width xs i) (step_value i w.values w.arrays) h.values (value_fits ws i w fit.0 h);
    elements = arrays_fit ws i w fit.0 h;
  })

pub stay_in_widths : BelowWidth1 → BelowWidth2 → ValuesStayInWidths
stay_in_widths one two xs ws is w fit h = steps_stay one two xs is ws w fit h
