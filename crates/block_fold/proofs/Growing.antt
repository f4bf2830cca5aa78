-- A block under construction in a visit: its shape and its work, and what further steps leave as it is.
use Rattle.std.proofs.Common.{◌≡◌, ℕ, ◌+◌, List, [], ◌∷◌, ◌++◌, map, length, Some, refl, sym, ◌∙◌, ap, subst, arith}
use Rattle.std.specs.Prelude.{slice_get}
use Rattle.std.specs.List.{flat_map}
use Rattle.std.proofs.lemmas.Option.{slice_get_within}
use Rattle.std.proofs.lemmas.List.{get_or_append_left, get_or_push, append-nil}
use Rattle.el_base.specs.declared.ty.Array.{Array}
use Rattle.ir.specs.declared.instr.Instr.{Instr}
use Rattle.ir.specs.declared.instr.Instr.TheVariants.{Const, One, Two, Select, Load, Store}
use Rattle.ir.specs.Steps.{Work, value_at, step_value, after_step, through, beginning}
use Rattle.ir.specs.Shapes.{Shape, IsOfWidth, StepFits, StepsFit, step_width, shape_after}
use Rattle.ir.proofs.Fitting.{behind}
use Rattle.block_merge.specs.Found.{stored_by}
use Rattle.block_merge.proofs.JoinedValues.{through_long, shape_long, somes_long}
use Rattle.block_merge.proofs.Works.{through_append}
use Rattle.block_pass.specs.Fitting.{FitShape, FitArrays}
use Rattle.block_pass.specs.Laws.{ValuesStayInWidths}
use Rattle.block_rules.specs.Known.{IsPure, AreValues}
use Rattle.block_fold.proofs.StepLemmas.{get_front, shape_append, fit_append, fit_shape_long, pure_arrays, pure_strays, are_values}
use Rattle.block_fold.proofs.Tables.{KeepsWidth, KeepsValue}

-- ---- a visit

-- what a block is given that fits its arguments and the arrays
pub record Start : Type 0 where
  pub declared : List Array
  pub args : List ℕ
  pub given : List ℕ
  pub arrays : List (List ℕ)
  pub fit_given : FitShape (map Some args) given
  pub fit_arrays : FitArrays declared arrays

abbrev pub count : Start → ℕ
count s = length s.args

abbrev pub shape : Start → List Instr → Shape
shape s is = shape_after s.declared (map Some s.args) is

abbrev pub work : Start → List Instr → Work
work s is = through is (beginning s.given s.arrays)

abbrev pub values : Start → List Instr → List ℕ
values s is = (work s is).values

abbrev pub Fit : Start → List Instr → Type 0
Fit s is = StepsFit s.declared (map Some s.args) is

pub shape_count : (s : Start) (is : List Instr) → length (shape s is) ≡ count s + length is
shape_count s is = shape_long s.declared (map Some s.args) is ∙ ap (λ m. m + length is) (somes_long s.args)

pub values_count : (s : Start) (is : List Instr) → length (values s is) ≡ length (shape s is)
values_count s is =
    let a = through_long is (beginning s.given s.arrays) in
    let b = fit_shape_long (map Some s.args) s.given s.fit_given in
    let c = shape_long s.declared (map Some s.args) is in
    omega (arith, a, b, c)

pub known_values : ValuesStayInWidths → (s : Start) (is : List Instr) → Fit s is → AreValues s.declared (count s) is (shape s is) (values s is)
known_values stay s is fit = are_values stay s.declared s.args is s.given s.arrays fit s.fit_given s.fit_arrays

-- ---- one step more

pub shape_more : (s : Start) (is : List Instr) (i : Instr) → shape s (is ++ i ∷ []) ≡ shape s is ++ step_width s.declared i ∷ []
shape_more s is i = shape_append s.declared is (i ∷ []) (map Some s.args)

pub work_more : (s : Start) (is : List Instr) (i : Instr) → work s (is ++ i ∷ []) ≡ after_step i (work s is)
work_more s is i = through_append is (i ∷ []) (beginning s.given s.arrays)

pub fit_more : (s : Start) (is : List Instr) (i : Instr) → Fit s is → StepFits s.declared (shape s is) i → Fit s (is ++ i ∷ [])
fit_more s is i fit h = fit_append s.declared is (i ∷ []) (map Some s.args) fit (h, tt)

-- the new value has the next number
pub width_more : (s : Start) (is : List Instr) (i : Instr) → slice_get (shape s (is ++ i ∷ [])) (count s + length is) ≡ Some (step_width s.declared i)
width_more s is i =
    ap (λ ws. slice_get ws (count s + length is)) (shape_more s is i)
    ∙ ap (slice_get (shape s is ++ step_width s.declared i ∷ [])) (sym (shape_count s is))
    ∙ behind (shape s is) (step_width s.declared i)

pub value_more : (s : Start) (is : List Instr) (i : Instr) → value_at (values s (is ++ i ∷ [])) (count s + length is) ≡ step_value i (values s is) (work s is).arrays
value_more s is i =
    ap (λ (w : Work). value_at w.values (count s + length is)) (work_more s is i)
    ∙ get_or_push (values s is) (step_value i (values s is) (work s is).arrays) 0 (count s + length is) (values_count s is ∙ shape_count s is)

-- ---- what stays

-- widths and values of what stood
pub record Grows (s : Start) (old new : List Instr) : Type 0 where
  pub widths : (a y : ℕ) → IsOfWidth (shape s old) a y → IsOfWidth (shape s new) a y
  pub values : (a y : ℕ) → IsOfWidth (shape s old) a y → value_at (values s new) a ≡ value_at (values s old) a

pub grows_none : (s : Start) (is : List Instr) → Grows s is is
grows_none s is = record { widths = λ a y h. h; values = λ a y h. refl }

pub grows_on : (s : Start) (is js ks : List Instr) → Grows s is js → Grows s js ks → Grows s is ks
grows_on s is js ks g h = record {
  widths = λ a y e. h.widths a y (g.widths a y e);
  values = λ a y e. h.values a y (g.widths a y e) ∙ g.values a y e;
}

pub grows_more : (s : Start) (is : List Instr) (i : Instr) → Grows s is (is ++ i ∷ [])
grows_more s is i =
    let x = step_value i (values s is) (work s is).arrays in
    record {
      widths = λ a y h. subst (λ ws. IsOfWidth ws a y) (sym (shape_more s is i)) (get_front (shape s is) (step_width s.declared i ∷ []) a (Some y) h);
      values = λ a y h.
          let lt = slice_get_within (shape s is) a (Some y) h in
          ap (λ (w : Work). value_at w.values a) (work_more s is i) ∙ get_or_append_left (values s is) (x ∷ []) 0 a (omega (arith, lt, values_count s is));
    }

pub grown_widths : (s : Start) (m : ℕ) (numbers : List ℕ) (ws : Shape) (old new : List Instr) → Grows s old new → KeepsWidth m numbers ws (shape s old) → KeepsWidth m numbers ws (shape s new)
grown_widths s m numbers ws old new g keep a y h = g.widths _ y (keep a y h)

pub grown_values : (s : Start) (m : ℕ) (numbers : List ℕ) (ws : Shape) (olds : List ℕ) (old new : List Instr) → Grows s old new → KeepsWidth m numbers ws (shape s old)
    → KeepsValue m numbers ws olds (values s old) → KeepsValue m numbers ws olds (values s new)
grown_values s m numbers ws olds old new g widths keep a y h = g.values _ y (widths a y h) ∙ keep a y h

-- arrays, strays, and to which arrays stores are
pub record Stays (s : Start) (old new : List Instr) : Type 0 where
  pub arrays : (work s new).arrays ≡ (work s old).arrays
  pub strays : (work s new).strays ≡ (work s old).strays
  pub stored : flat_map stored_by new ≡ flat_map stored_by old

pub stays_none : (s : Start) (is : List Instr) → Stays s is is
stays_none s is = record { arrays = refl; strays = refl; stored = refl }

pub stays_on : (s : Start) (is js ks : List Instr) → Stays s is js → Stays s js ks → Stays s is ks
stays_on s is js ks g h = record { arrays = h.arrays ∙ g.arrays; strays = h.strays ∙ g.strays; stored = h.stored ∙ g.stored }

pub stored_more : (is : List Instr) (i : Instr) → flat_map stored_by (is ++ i ∷ []) ≡ flat_map stored_by is ++ stored_by i
stored_more [] i = append-nil (stored_by i)
stored_more (j ∷ is) i = ap (λ l. stored_by j ++ l) (stored_more is i) ∙ regroup (stored_by j) (flat_map stored_by is) (stored_by i)
  where
    regroup : (xs ys zs : List ℕ) → xs ++ (ys ++ zs) ≡ (xs ++ ys) ++ zs
    regroup [] ys zs = refl
    regroup (x ∷ xs) ys zs = ap (λ l. x ∷ l) (regroup xs ys zs)

pure_stores : (i : Instr) → IsPure i → stored_by i ≡ []
pure_stores (Const w n) h = refl
pure_stores (One op a) h = refl
pure_stores (Two op a b) h = refl
pure_stores (Select w c a b) h = refl
pure_stores (Load a p) h = absurd h
pure_stores (Store a p v) h = absurd h

pub stays_more : (s : Start) (is : List Instr) (i : Instr) → IsPure i → Stays s is (is ++ i ∷ [])
stays_more s is i pure =
    let none = pure_strays i (values s is) (work s is).arrays pure in
    record {
      arrays = ap (λ (w : Work). w.arrays) (work_more s is i) ∙ pure_arrays i (values s is) (work s is).arrays pure;
      strays = ap (λ (w : Work). w.strays) (work_more s is i) ∙ omega (arith, none);
      stored = stored_more is i ∙ ap (λ l. flat_map stored_by is ++ l) (pure_stores i pure) ∙ append-nil (flat_map stored_by is);
    }
