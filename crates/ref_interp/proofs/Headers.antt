-- Inputs and results by the header of a kernel: one pattern for each scalar, and the elements of each array.
use Rattle.std.proofs.Common.{◌≡◌, ℕ, ◌^◌, ◌<◌, List, [], ◌∷◌, ◌++◌, map, Option, Some, None, refl, sym, ◌∙◌, ap, subst}
use Rattle.std.specs.Prelude.{ℤ, All}
use Rattle.std.specs.List.{AllZip}
use Rattle.std.proofs.lemmas.List.{length-map}
use Rattle.std.proofs.lemmas.List.Elements.{All-nil, All-cons, All-head, All-tail}
use Rattle.el_base.specs.declared.ty.Ty.{Ty}
use Rattle.el_base.specs.declared.ty.Scalar.{Scalar}
use Rattle.el_base.specs.Numbers.{IsInRange, number, pattern}
use Rattle.el_base.specs.Widths.{ty_width}
use Rattle.net_types.specs.declared.firing.Inputs.{Inputs as Patterns}
use Rattle.net_types.specs.Inputs.{IsPatternOf, AreElementsOf}
use Rattle.c_ast.specs.declared.tree.Param.{Param}
use Rattle.c_ast.specs.declared.typed.ArrayOf.{ArrayOf}
use Rattle.c_ast.specs.declared.typed.Typed.{Typed}
use Rattle.c_meaning.specs.declared.profile.Profile.{Profile}
use Rattle.c_meaning.specs.Stores.{Inputs, AreInRanges, AreArraysOf, AreFitting, scalar_type, scalar_types}
use Rattle.c_meaning.specs.Headers.{scalar_of, scalars_of, flat}
use Rattle.c_meaning.specs.KernelPatterns.{array_patterns, result_pattern}
use Rattle.c_meaning.specs.Lawful.{Lawful}
use Rattle.c_meaning.specs.Ranges.{IsResultIn, ResultsFit}
use Rattle.ref_interp.specs.declared.kernel.Outcome.{Outcome}
use Rattle.ref_interp.specs.declared.kernel.Outcome.TheVariants as outcome
use Rattle.ref_interp.specs.Cells.{array_numbers}
use Rattle.ref_interp.specs.Outcomes.{InputsFit, scalar_numbers, input_numbers, Says, IsResultOf, HasResults}

-- ---- scalars

one_type : (ds : List ℕ) (p : Param) (ts : List Ty) (ss : List Scalar) → ts ≡ map (λ (s : Scalar). s.ty) ss → scalar_type ds p.ty ++ ts ≡ map (λ (s : Scalar). s.ty) (scalar_of ds p ++ ss)
one_type [] p ts ss e = ap (λ us. p.ty ∷ us) e
one_type (d ∷ ds) p ts ss e = e

types_are : (ps : List Param) → scalar_types ps ≡ map (λ (s : Scalar). s.ty) (scalars_of ps)
types_are [] = refl
types_are (p ∷ ps) = one_type p.dims p (scalar_types ps) (scalars_of ps) (types_are ps)

by_types : (ss : List Scalar) (ns : List ℕ) → AllZip (λ (s : Scalar) n. IsPatternOf s.ty n) ss ns → AllZip IsPatternOf (map (λ (s : Scalar). s.ty) ss) ns
by_types [] [] h = tt
by_types [] (n ∷ ns) h = absurd h
by_types (s ∷ ss) [] h = absurd h
by_types (s ∷ ss) (n ∷ ns) h = (h.0, by_types ss ns h.1)

pub scalars_fit : (k : Typed) (i : Patterns) → InputsFit k i → AllZip IsPatternOf (scalar_types k.params) i.scalars
scalars_fit k i fit = subst (λ ts. AllZip IsPatternOf ts i.scalars) (sym (types_are k.params)) (by_types (scalars_of k.params) i.scalars fit.scalars)

-- ---- the numbers of patterns are inputs that fit

abbrev pub StandInRange : Type 0
StandInRange = (t : Ty) (p : ℕ) → p < 2 ^ ty_width t → IsInRange t (number t p)

abbrev pub HaveWidth : Type 0
HaveWidth = (t : Ty) (z : ℤ) → pattern t z < 2 ^ ty_width t

numbers_in : (ts : List Ty) (ps : List ℕ) → StandInRange → AllZip IsPatternOf ts ps → AreInRanges ts (scalar_numbers ts ps)
numbers_in [] [] stand h = tt
numbers_in [] (p ∷ ps) stand h = absurd h
numbers_in (t ∷ ts) [] stand h = absurd h
numbers_in (t ∷ ts) (p ∷ ps) stand h = (stand t p h.0, numbers_in ts ps stand h.1)

row_in : (t : Ty) (ps : List ℕ) → StandInRange → All (IsPatternOf t) ps → All (IsInRange t) (map (number t) ps)
row_in t [] stand h = All-nil (IsInRange t)
row_in t (p ∷ ps) stand h = All-cons (IsInRange t) (number t p) (map (number t) ps) (stand t p (All-head (IsPatternOf t) p ps h)) (row_in t ps stand (All-tail (IsPatternOf t) p ps h))

rows_in : (xs : List ArrayOf) (pss : List (List ℕ)) → StandInRange → AllZip AreElementsOf (map flat xs) pss → AreArraysOf xs (array_numbers xs pss)
rows_in [] [] stand h = tt
rows_in [] (ps ∷ pss) stand h = absurd h
rows_in (x ∷ xs) [] stand h = absurd h
rows_in (x ∷ xs) (ps ∷ pss) stand h = (length-map ps (number x.ty) ∙ h.0.len, row_in x.ty ps stand h.0.patterns, rows_in xs pss stand h.1)

pub inputs_fit : (k : Typed) (i : Patterns) → StandInRange → InputsFit k i → AreFitting k.params k.arrays (input_numbers k i)
inputs_fit k i stand fit = record {
  each_scalar = numbers_in (scalar_types k.params) i.scalars stand (scalars_fit k i fit);
  each_array = rows_in k.arrays i.arrays stand fit.arrays;
}

-- ---- results

row_back : (t : Ty) (zs : List ℤ) → HaveWidth → All (IsPatternOf t) (map (pattern t) zs)
row_back t [] wide = All-nil (IsPatternOf t)
row_back t (z ∷ zs) wide = All-cons (IsPatternOf t) (pattern t z) (map (pattern t) zs) (wide t z) (row_back t zs wide)

rows_back : (xs : List ArrayOf) (zss : List (List ℤ)) → HaveWidth → AreArraysOf xs zss → AllZip AreElementsOf (map flat xs) (array_patterns xs zss)
rows_back [] [] wide h = tt
rows_back [] (zs ∷ zss) wide h = absurd h
rows_back (x ∷ xs) [] wide h = absurd h
rows_back (x ∷ xs) (zs ∷ zss) wide h = (record { len = length-map zs (pattern x.ty) ∙ h.0; patterns = row_back x.ty zs wide }, rows_back xs zss wide h.2)

value_back : (t : Option Ty) (r : Option ℤ) → HaveWidth → IsResultIn t r → IsResultOf t (result_pattern t r)
value_back None None wide h = tt
value_back None (Some z) wide h = absurd h
value_back (Some t) None wide h = absurd h
value_back (Some t) (Some z) wide h = wide t z

pub has_results : (k : Typed) (p : Profile) (i : Inputs) (n : ℕ) (o : Outcome) → ResultsFit → HaveWidth → Lawful k → AreFitting k.params k.arrays i → Says k p i n o → HasResults k o
has_results k p i n (outcome.Ends arrays value turns) results wide law fit says =
    let h = results k p i says.out says.r turns law fit says.ends in
    record {
      each_array = subst (AllZip AreElementsOf (map flat k.arrays)) (sym says.arrays_are) (rows_back k.arrays says.out wide h.each_array);
      result = subst (IsResultOf k.result) (sym says.value_is) (value_back k.result says.r wide h.result);
    }
has_results k p i n (outcome.Undefined span) results wide law fit says = tt
has_results k p i n outcome.OutOfTurns results wide law fit says = tt
