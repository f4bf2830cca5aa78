-- The inputs of kernels and of nets with their headers.
use Rattle.std.proofs.Common.{◌≡◌, ℕ, ◌^◌, ◌<◌, List, [], ◌∷◌, ◌++◌, map, refl, sym, ap, subst, ◌∙◌}
use Rattle.std.specs.Prelude.{ℤ, All}
use Rattle.std.specs.List.{AllZip}
use Rattle.std.proofs.lemmas.List.{length-map}
use Rattle.std.proofs.lemmas.List.Elements.{All-cons, All-nil, All-head, All-tail}
use Rattle.el_base.specs.declared.ty.Ty.{Ty}
use Rattle.el_base.specs.declared.ty.Scalar.{Scalar}
use Rattle.el_base.specs.declared.ty.Array.{Array}
use Rattle.el_base.specs.Headers.{Header}
use Rattle.el_base.specs.Widths.{ty_width}
use Rattle.el_base.specs.Numbers.{pattern, number, IsInRange}
use Rattle.c_ast.specs.declared.tree.Param.{Param}
use Rattle.c_ast.specs.declared.typed.ArrayOf.{ArrayOf}
use Rattle.c_meaning.specs.Stores.{AreInRanges, AreArraysOf, scalar_type, scalar_types}
use Rattle.c_meaning.specs.Headers.{scalar_of, scalars_of, flat}
use Rattle.c_meaning.specs.KernelPatterns.{scalar_patterns, array_patterns}
use Rattle.net_types.specs.Inputs.{IsPatternOf, AreElementsOf}
use Rattle.kernel_compile.specs.Goods.{input_patterns, PatternsFit, InputsAreNumbers}

abbrev FitsScalar : Scalar → ℕ → Type 0
FitsScalar s n = IsPatternOf s.ty n

-- ---- patterns of numbers that fit

module _ (wide : (t : Ty) (z : ℤ) → pattern t z < 2 ^ ty_width t) where
  one_fits : (ds : List ℕ) (p : Param) (ps : List Param) (zs : List ℤ)
      → ((ws : List ℤ) → AreInRanges (scalar_types ps) ws → AllZip FitsScalar (scalars_of ps) (scalar_patterns (scalar_types ps) ws))
      → AreInRanges (scalar_type ds p.ty ++ scalar_types ps) zs → AllZip FitsScalar (scalar_of ds p ++ scalars_of ps) (scalar_patterns (scalar_type ds p.ty ++ scalar_types ps) zs)
  one_fits (d ∷ ds) p ps zs ih h = ih zs h
  one_fits [] p ps [] ih h = absurd h
  one_fits [] p ps (z ∷ zs) ih h = (wide p.ty z, ih zs h.1)

  scalars_fit : (ps : List Param) (zs : List ℤ) → AreInRanges (scalar_types ps) zs → AllZip FitsScalar (scalars_of ps) (scalar_patterns (scalar_types ps) zs)
  scalars_fit [] zs h = tt
  scalars_fit (p ∷ ps) zs h = one_fits p.dims p ps zs (λ ws g. scalars_fit ps ws g) h

  elements_fit : (t : Ty) (zs : List ℤ) → All (IsPatternOf t) (map (pattern t) zs)
  elements_fit t [] = All-nil (IsPatternOf t)
  elements_fit t (z ∷ zs) = All-cons (IsPatternOf t) (pattern t z) (map (pattern t) zs) (wide t z) (elements_fit t zs)

  arrays_fit : (xs : List ArrayOf) (zss : List (List ℤ)) → AreArraysOf xs zss → AllZip AreElementsOf (map flat xs) (array_patterns xs zss)
  arrays_fit [] [] h = tt
  arrays_fit [] (zs ∷ zss) h = absurd h
  arrays_fit (x ∷ xs) [] h = absurd h
  arrays_fit (x ∷ xs) (zs ∷ zss) h = (record { len = length-map zs (pattern x.ty) ∙ h.0; patterns = elements_fit x.ty zs }, arrays_fit xs zss h.2)

  pub patterns_fit : PatternsFit
  patterns_fit net k z same fit =
      let i = input_patterns k z in
      record {
        scalars = subst (λ (xs : List Scalar). AllZip FitsScalar xs i.scalars) (sym (ap (λ (h : Header). h.scalars) same)) (scalars_fit k.params z.scalars fit.each_scalar);
        arrays = subst (λ (xs : List Array). AllZip AreElementsOf xs i.arrays) (sym (ap (λ (h : Header). h.arrays) same)) (arrays_fit k.arrays z.arrays fit.each_array);
      }

-- ---- numbers of patterns that fit

scalar_numbers : List Ty → List ℕ → List ℤ
scalar_numbers [] ps = []
scalar_numbers (t ∷ ts) [] = []
scalar_numbers (t ∷ ts) (p ∷ ps) = number t p ∷ scalar_numbers ts ps

array_numbers : List ArrayOf → List (List ℕ) → List (List ℤ)
array_numbers [] pss = []
array_numbers (x ∷ xs) [] = []
array_numbers (x ∷ xs) (ps ∷ pss) = map (number x.ty) ps ∷ array_numbers xs pss

-- numbers in their ranges, of these patterns
abbrev AreNumbersOf : List Ty → List ℕ → Type 0
AreNumbersOf ts ps = AreInRanges ts (scalar_numbers ts ps) × (scalar_patterns ts (scalar_numbers ts ps) ≡ ps)

module _ (in_range : (t : Ty) (p : ℕ) → p < 2 ^ ty_width t → IsInRange t (number t p)) (again : (t : Ty) (p : ℕ) → p < 2 ^ ty_width t → pattern t (number t p) ≡ p) where
  one_number : (ds : List ℕ) (p : Param) (ps : List Param) (vs : List ℕ)
      → ((ws : List ℕ) → AllZip FitsScalar (scalars_of ps) ws → AreNumbersOf (scalar_types ps) ws)
      → AllZip FitsScalar (scalar_of ds p ++ scalars_of ps) vs → AreNumbersOf (scalar_type ds p.ty ++ scalar_types ps) vs
  unfolding scalar_numbers
  one_number (d ∷ ds) p ps vs ih h = ih vs h
  one_number [] p ps [] ih h = absurd h
  one_number [] p ps (v ∷ vs) ih h =
      let rest = ih vs h.1 in
      let a = again p.ty v h.0 in
      let b = rest.1 in
      ((in_range p.ty v h.0, rest.0), λ i. a i ∷ b i)

  scalar_numbers_of : (ps : List Param) (vs : List ℕ) → AllZip FitsScalar (scalars_of ps) vs → AreNumbersOf (scalar_types ps) vs
  unfolding scalar_numbers
  scalar_numbers_of [] [] h = (tt, refl)
  scalar_numbers_of [] (v ∷ vs) h = absurd h
  scalar_numbers_of (p ∷ ps) vs h = one_number p.dims p ps vs (λ ws g. scalar_numbers_of ps ws g) h

  elements_ranged : (t : Ty) (ps : List ℕ) → All (IsPatternOf t) ps → All (IsInRange t) (map (number t) ps)
  elements_ranged t [] h = All-nil (IsInRange t)
  elements_ranged t (p ∷ ps) h =
      All-cons (IsInRange t) (number t p) (map (number t) ps) (in_range t p (All-head (IsPatternOf t) p ps h)) (elements_ranged t ps (All-tail (IsPatternOf t) p ps h))

  elements_again : (t : Ty) (ps : List ℕ) → All (IsPatternOf t) ps → map (pattern t) (map (number t) ps) ≡ ps
  elements_again t [] h = refl
  elements_again t (p ∷ ps) h =
      let a = again t p (All-head (IsPatternOf t) p ps h) in
      let b = elements_again t ps (All-tail (IsPatternOf t) p ps h) in
      λ i. a i ∷ b i

  array_numbers_of : (xs : List ArrayOf) (pss : List (List ℕ)) → AllZip AreElementsOf (map flat xs) pss
      → AreArraysOf xs (array_numbers xs pss) × (array_patterns xs (array_numbers xs pss) ≡ pss)
  unfolding array_numbers
  array_numbers_of [] [] h = (tt, refl)
  array_numbers_of [] (ps ∷ pss) h = absurd h
  array_numbers_of (x ∷ xs) [] h = absurd h
  array_numbers_of (x ∷ xs) (ps ∷ pss) h =
      let rest = array_numbers_of xs pss h.1 in
      let a = elements_again x.ty ps h.0.patterns in
      let b = rest.1 in
      ((length-map ps (number x.ty) ∙ h.0.len, elements_ranged x.ty ps h.0.patterns, rest.0), λ i. a i ∷ b i)

  pub inputs_are_numbers : InputsAreNumbers
  inputs_are_numbers net k i same fit =
      let s = scalar_numbers_of k.params i.scalars (subst (λ (xs : List Scalar). AllZip FitsScalar xs i.scalars) (ap (λ (h : Header). h.scalars) same) fit.scalars) in
      let a = array_numbers_of k.arrays i.arrays (subst (λ (xs : List Array). AllZip AreElementsOf xs i.arrays) (ap (λ (h : Header). h.arrays) same) fit.arrays) in
      let p = s.1 in
      let q = a.1 in
      record {
        numbers = record { scalars = scalar_numbers (scalar_types k.params) i.scalars; arrays = array_numbers k.arrays i.arrays };
        fitting = record { each_scalar = s.0; each_array = a.0 };
        same = λ j. record { scalars = p j; arrays = q j };
      }
