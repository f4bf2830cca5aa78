-- Steps behind others: shapes and values in front stay, each step fits what stands then, and each pure step has the value that it gives.
use Rattle.std.proofs.Common.{◌≡◌, ℕ, zero, suc, ◌+◌, ◌<◌, List, [], ◌∷◌, ◌++◌, map, length, get_or, Option, Some, refl, sym, ◌∙◌, ap, subst, arith, length-append}
use Rattle.std.specs.Prelude.{slice_get, set}
use Rattle.std.proofs.lemmas.Option.{slice_get_within}
use Rattle.std.proofs.lemmas.List.{get_or_append_left, get_or_push}
use Rattle.el_base.specs.declared.ty.Array.{Array}
use Rattle.word_ops.specs.Operations.{op1_result, op2_result}
use Rattle.ir.specs.declared.instr.Instr.{Instr}
use Rattle.ir.specs.declared.instr.Instr.TheVariants.{Const, One, Two, Select, Load, Store}
use Rattle.ir.specs.Steps.{Work, value_at, chosen_of, cells, strays_past, step_value, step_arrays, step_strays, after_step, through, beginning}
use Rattle.ir.specs.Shapes.{Shape, IsOfWidth, StepFits, StepsFit, step_width, shape_after}
use Rattle.ir.specs.Renaming.{renamed}
use Rattle.ir.proofs.Fitting.{behind}
use Rattle.block_merge.proofs.JoinedValues.{shape_long, somes_long}
use Rattle.block_pass.specs.Fitting.{FitShape, FitArrays}
use Rattle.block_pass.specs.Laws.{ValuesStayInWidths}
use Rattle.block_rules.specs.Known.{IsPure, pure_value, AreValues}

-- ---- lists

pub get_front : {X : Type 0} (xs ys : List X) (a : ℕ) (x : X) → slice_get xs a ≡ Some x → slice_get (xs ++ ys) a ≡ Some x
get_front [] ys a x h = absurd (cc)
get_front (z ∷ xs) ys zero x h = h
get_front (z ∷ xs) ys (suc a) x h = get_front xs ys a x h

pub get_before : {X : Type 0} (xs ys : List X) (a : ℕ) → a < length xs → slice_get (xs ++ ys) a ≡ slice_get xs a
get_before [] ys a h = absurd (omega arith)
get_before (z ∷ xs) ys zero h = refl
get_before (z ∷ xs) ys (suc a) h = get_before xs ys a (omega arith)

-- ---- steps under new numbers

pub width_renamed : (xs : List Array) (f : ℕ → ℕ) (i : Instr) → step_width xs (renamed f i) ≡ step_width xs i
width_renamed xs f (Const w n) = refl
width_renamed xs f (One op a) = refl
width_renamed xs f (Two op a b) = refl
width_renamed xs f (Select w c a b) = refl
width_renamed xs f (Load a p) = refl
width_renamed xs f (Store a p v) = refl

pub pure_renamed : (f : ℕ → ℕ) (i : Instr) → IsPure i → IsPure (renamed f i)
pure_renamed f (Const w n) h = tt
pure_renamed f (One op a) h = tt
pure_renamed f (Two op a b) h = tt
pure_renamed f (Select w c a b) h = tt
pure_renamed f (Load a p) h = absurd h
pure_renamed f (Store a p v) h = absurd h

pub renamed_same : (i : Instr) → renamed (λ a. a) i ≡ i
renamed_same (Const w n) = refl
renamed_same (One op a) = refl
renamed_same (Two op a b) = refl
renamed_same (Select w c a b) = refl
renamed_same (Load a p) = refl
renamed_same (Store a p v) = refl

pub fits_renamed : (xs : List Array) (f : ℕ → ℕ) (ws us : Shape) → ((a y : ℕ) → IsOfWidth ws a y → IsOfWidth us (f a) y) → (i : Instr) → StepFits xs ws i → StepFits xs us (renamed f i)
fits_renamed xs f ws us keep (Const w c) h = h
fits_renamed xs f ws us keep (One op a) h = keep a _ h
fits_renamed xs f ws us keep (Two op a b) h = (keep a _ h.0, keep b _ h.1)
fits_renamed xs f ws us keep (Select w c a b) h = (h.0, keep c _ h.1, keep a _ h.2, keep b _ h.3)
fits_renamed xs f ws us keep (Load a p) h = (h.0, h.1, keep p _ h.2)
fits_renamed xs f ws us keep (Store a p v) h = (h.0, h.1, keep p _ h.2, keep v _ h.3)

-- where the operands have the same values under their new numbers
abbrev pub SameValues : (ℕ → ℕ) → Shape → List ℕ → List ℕ → Type 0
SameValues f ws olds news = (a y : ℕ) → IsOfWidth ws a y → value_at news (f a) ≡ value_at olds a

module _ (xs : List Array) (f : ℕ → ℕ) (ws : Shape) (olds news : List ℕ) (same : SameValues f ws olds news) (arrays : List (List ℕ)) where
  pub value_renamed : (i : Instr) → StepFits xs ws i → step_value (renamed f i) news arrays ≡ step_value i olds arrays
  value_renamed (Const w n) h = refl
  value_renamed (One op a) h = ap (op1_result op) (same a _ h)
  value_renamed (Two op a b) h = ap (λ c. op2_result op c (value_at news (f b))) (same a _ h.0) ∙ ap (op2_result op (value_at olds a)) (same b _ h.1)
  value_renamed (Select w c a b) h =
      ap (λ z. chosen_of z (value_at news (f a)) (value_at news (f b))) (same c _ h.1)
      ∙ ap (λ z. chosen_of (value_at olds c) z (value_at news (f b))) (same a _ h.2)
      ∙ ap (chosen_of (value_at olds c) (value_at olds a)) (same b _ h.3)
  value_renamed (Load a p) h = ap (λ z. get_or (cells arrays a) z 0) (same p _ h.2)
  value_renamed (Store a p v) h = refl

  pub arrays_renamed : (i : Instr) → StepFits xs ws i → step_arrays (renamed f i) news arrays ≡ step_arrays i olds arrays
  arrays_renamed (Const w n) h = refl
  arrays_renamed (One op a) h = refl
  arrays_renamed (Two op a b) h = refl
  arrays_renamed (Select w c a b) h = refl
  arrays_renamed (Load a p) h = refl
  arrays_renamed (Store a p v) h =
      ap (λ z. set arrays a (set (cells arrays a) z (value_at news (f v)))) (same p _ h.2) ∙ ap (λ z. set arrays a (set (cells arrays a) (value_at olds p) z)) (same v _ h.3)

  pub strays_renamed : (i : Instr) → StepFits xs ws i → step_strays (renamed f i) news arrays ≡ step_strays i olds arrays
  strays_renamed (Const w n) h = refl
  strays_renamed (One op a) h = refl
  strays_renamed (Two op a b) h = refl
  strays_renamed (Select w c a b) h = refl
  strays_renamed (Load a p) h = ap (strays_past (cells arrays a)) (same p _ h.2)
  strays_renamed (Store a p v) h = ap (strays_past (cells arrays a)) (same p _ h.2)

-- ---- pure steps

pub pure_any : (i : Instr) (vs : List ℕ) (arrays : List (List ℕ)) → IsPure i → step_value i vs arrays ≡ pure_value i vs
pure_any (Const w n) vs arrays h = refl
pure_any (One op a) vs arrays h = refl
pure_any (Two op a b) vs arrays h = refl
pure_any (Select w c a b) vs arrays h = refl
pure_any (Load a p) vs arrays h = absurd h
pure_any (Store a p v) vs arrays h = absurd h

pub pure_arrays : (i : Instr) (vs : List ℕ) (arrays : List (List ℕ)) → IsPure i → step_arrays i vs arrays ≡ arrays
pure_arrays (Const w n) vs arrays h = refl
pure_arrays (One op a) vs arrays h = refl
pure_arrays (Two op a b) vs arrays h = refl
pure_arrays (Select w c a b) vs arrays h = refl
pure_arrays (Load a p) vs arrays h = absurd h
pure_arrays (Store a p v) vs arrays h = absurd h

pub pure_strays : (i : Instr) (vs : List ℕ) (arrays : List (List ℕ)) → IsPure i → step_strays i vs arrays ≡ 0
pure_strays (Const w n) vs arrays h = refl
pure_strays (One op a) vs arrays h = refl
pure_strays (Two op a b) vs arrays h = refl
pure_strays (Select w c a b) vs arrays h = refl
pure_strays (Load a p) vs arrays h = absurd h
pure_strays (Store a p v) vs arrays h = absurd h

-- a pure step's value has a width
pub pure_width : (xs : List Array) (i : Instr) → IsPure i → (y : ℕ) × (step_width xs i ≡ Some y)
pure_width xs (Const w n) h = (w, refl)
pure_width xs (One op a) h = (_, refl)
pure_width xs (Two op a b) h = (_, refl)
pure_width xs (Select w c a b) h = (w, refl)
pure_width xs (Load a p) h = absurd h
pure_width xs (Store a p v) h = absurd h

-- ---- behind others

module _ (xs : List Array) where
  pub shape_append : (is js : List Instr) (ws : Shape) → shape_after xs ws (is ++ js) ≡ shape_after xs (shape_after xs ws is) js
  shape_append [] js ws = refl
  shape_append (i ∷ is) js ws = shape_append is js (ws ++ step_width xs i ∷ [])

  pub fit_append : (is js : List Instr) (ws : Shape) → StepsFit xs ws is → StepsFit xs (shape_after xs ws is) js → StepsFit xs ws (is ++ js)
  fit_append [] js ws h k = k
  fit_append (i ∷ is) js ws h k = (h.0, fit_append is js (ws ++ step_width xs i ∷ []) h.1 k)

  pub width_stays : (is : List Instr) (ws : Shape) (a : ℕ) (x : Option ℕ) → slice_get ws a ≡ Some x → slice_get (shape_after xs ws is) a ≡ Some x
  width_stays [] ws a x h = h
  width_stays (i ∷ is) ws a x h = width_stays is (ws ++ step_width xs i ∷ []) a x (get_front ws (step_width xs i ∷ []) a x h)

  pub value_stays : (is : List Instr) (w : Work) (a : ℕ) → a < length w.values → value_at (through is w).values a ≡ value_at w.values a
  value_stays [] w a h = refl
  value_stays (i ∷ is) w a h =
      let x = step_value i w.values w.arrays in
      value_stays is (after_step i w) a (omega (arith, length-append w.values (x ∷ []))) ∙ get_or_append_left w.values (x ∷ []) 0 a h

  pub step_stays : (ws us : Shape) (i : Instr) → ((a y : ℕ) → IsOfWidth ws a y → IsOfWidth us a y) → StepFits xs ws i → StepFits xs us i
  step_stays ws us i keep h = subst (λ j. StepFits xs us j) (renamed_same i) (fits_renamed xs (λ a. a) ws us keep i h)

  pub pure_stays : (ws : Shape) (olds news : List ℕ) (i : Instr) → SameValues (λ a. a) ws olds news → StepFits xs ws i → pure_value i news ≡ pure_value i olds
  pure_stays ws olds news i same h = ap (λ j. pure_value j news) (sym (renamed_same i)) ∙ value_renamed xs (λ a. a) ws olds news same [] i h

  -- the step whose value has this number
  pub record StepShare (ws : Shape) (vs : List ℕ) (at : ℕ) (i : Instr) : Type 0 where
    pub fits : StepFits xs ws i
    pub width : slice_get ws at ≡ Some (step_width xs i)
    pub value : IsPure i → value_at vs at ≡ pure_value i vs

  first_step : (i : Instr) (is : List Instr) (ws : Shape) (w : Work) → length w.values ≡ length ws → StepFits xs ws i
      → StepShare (shape_after xs (ws ++ step_width xs i ∷ []) is) (through is (after_step i w)).values (length ws) i
  first_step i is ws w long fit =
      let x = step_width xs i in
      let v = step_value i w.values w.arrays in
      let us = shape_after xs (ws ++ x ∷ []) is in
      let vs = (through is (after_step i w)).values in
      let more : length (w.values ++ v ∷ []) ≡ length w.values + 1 = length-append w.values (v ∷ []) in
      record {
        fits = step_stays ws us i (λ a y h. width_stays is (ws ++ x ∷ []) a (Some y) (get_front ws (x ∷ []) a (Some y) h)) fit;
        width = width_stays is (ws ++ x ∷ []) (length ws) x (behind ws x);
        value = λ pure.
            value_stays is (after_step i w) (length ws) (omega (arith, long, more))
            ∙ get_or_push w.values v 0 (length ws) long
            ∙ pure_any i w.values w.arrays pure
            ∙ sym (pure_stays ws w.values vs i (λ a y h.
            let lt = slice_get_within ws a (Some y) h in
            value_stays is (after_step i w) a (omega (arith, long, more, lt)) ∙ get_or_append_left w.values (v ∷ []) 0 a (omega (arith, long, lt))) fit);
      }

  pub step_share : (is : List Instr) (ws : Shape) (w : Work) (k : ℕ) (i : Instr) → length w.values ≡ length ws → StepsFit xs ws is → slice_get is k ≡ Some i
      → StepShare (shape_after xs ws is) (through is w).values (length ws + k) i
  step_share [] ws w k i long fit e = absurd (cc)
  step_share (j ∷ is) ws w zero i long fit e =
      let s : j ≡ i = cc in
      let z : length ws ≡ length ws + 0 = omega arith in
      subst (λ n. StepShare (shape_after xs ws (j ∷ is)) (through (j ∷ is) w).values n i) z
      (subst (λ o. StepShare (shape_after xs ws (j ∷ is)) (through (j ∷ is) w).values (length ws) o) s (first_step j is ws w long fit.0))
  step_share (j ∷ is) ws w (suc k) i long fit e =
      let x = step_width xs j in
      let v = step_value j w.values w.arrays in
      let long_ws : length (ws ++ x ∷ []) ≡ length ws + 1 = length-append ws (x ∷ []) in
      let long_vs : length (w.values ++ v ∷ []) ≡ length w.values + 1 = length-append w.values (v ∷ []) in
      let z : length (ws ++ x ∷ []) + k ≡ length ws + suc k = omega (arith, long_ws) in
      subst (λ n. StepShare (shape_after xs ws (j ∷ is)) (through (j ∷ is) w).values n i) z
      (step_share is (ws ++ x ∷ []) (after_step j w) k i (omega (arith, long, long_ws, long_vs)) fit.1 e)

-- ---- given values that fit

pub fit_shape_long : (ws : Shape) (vs : List ℕ) → FitShape ws vs → length vs ≡ length ws
fit_shape_long [] [] h = refl
fit_shape_long (w ∷ ws) (v ∷ vs) h = ap suc (fit_shape_long ws vs h.1)
fit_shape_long [] (v ∷ vs) h = absurd h
fit_shape_long (w ∷ ws) [] h = absurd h

pub fit_arrays_long : (xs : List Array) (ess : List (List ℕ)) → FitArrays xs ess → length ess ≡ length xs
fit_arrays_long [] [] h = refl
fit_arrays_long (x ∷ xs) (es ∷ ess) h = ap suc (fit_arrays_long xs ess h.1)
fit_arrays_long [] (es ∷ ess) h = absurd h
fit_arrays_long (x ∷ xs) [] h = absurd h

-- the values of steps that fit are what the steps say
pub are_values : ValuesStayInWidths → (xs : List Array) (args : List ℕ) (is : List Instr) (us : List ℕ) (arrays : List (List ℕ)) → StepsFit xs (map Some args) is → FitShape (map Some args) us → FitArrays xs arrays
    → AreValues xs (length args) is (shape_after xs (map Some args) is) (through is (beginning us arrays)).values
are_values stay xs args is us arrays fit given elements =
    let ws = map Some args in
    let w = beginning us arrays in
    let n : length ws ≡ length args = somes_long args in
    let long : length us ≡ length ws = fit_shape_long ws us given in
    let share = λ (k : ℕ) (i : Instr) (e : slice_get is k ≡ Some i). subst (λ m. StepShare xs (shape_after xs ws is) (through is w).values (m + k) i) n (step_share xs is ws w k i long fit e) in
    record {
      long = shape_long xs ws is ∙ ap (λ m. m + length is) n;
      fit = (stay xs ws is w fit (record { values = given; elements = elements })).values;
      fits = λ k i e. (share k i e).fits;
      widths = λ k i e. (share k i e).width;
      each = λ k i e pure. (share k i e).value pure;
    }
