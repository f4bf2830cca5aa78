-- A run of a circuit shows what the plain interpreter shows.
use Rattle.std.proofs.Common.{◌≡◌, ℕ, ◌^◌, ◌<◌, List, [], ◌∷◌, ◌++◌, length, map, refl, sym, ap, ◌∙◌, subst}
use Rattle.std.specs.Prelude.{All}
use Rattle.std.specs.List.{AllZip}
use Rattle.std.proofs.lemmas.List.Elements.{All-head, All-tail}
use Rattle.el_base.specs.declared.ty.Ty.{Ty}
use Rattle.el_base.specs.Numbers.{number, pattern}
use Rattle.el_base.specs.Widths.{ty_width}
use Rattle.c_ast.specs.declared.typed.Typed.{Typed}
use Rattle.c_ast.specs.declared.typed.ArrayOf.{ArrayOf}
use Rattle.c_meaning.specs.Headers.{flat}
use Rattle.c_meaning.specs.KernelPatterns.{scalar_patterns, array_patterns, result_pattern}
use Rattle.c_meaning.specs.Stores.{scalar_types}
use Rattle.net_types.specs.declared.firing.Inputs.{Inputs}
use Rattle.net_types.specs.Inputs.{IsPatternOf, AreElementsOf}
use Rattle.inputs_text.specs.Results.{array_lines, return_line}
use Rattle.ref_interp.specs.Cells.{array_numbers}
use Rattle.ref_interp.specs.Outcomes.{InputsFit, scalar_numbers, input_numbers}
use Rattle.ref_interp.proofs.Headers.{StandInRange, scalars_fit, inputs_fit}
use Rattle.kernel_front.specs.declared.reading.Kernel.{Kernel}
use Rattle.kernel_front.specs.Answers.{HasOneAnswer}
use Rattle.kernel_compile.specs.Goods.{input_patterns}
use Rattle.kernel_ref.specs.declared.options.InterpretOptions.{InterpretOptions}
use Rattle.kernel_ref.specs.Texts.{On, Gives}
use Rattle.kernel_ref.specs.Results.{EndsWith}
use Rattle.net_runs.specs.Given.{Bytes}
use Rattle.kernel_runs.specs.Goes.{GivesNumbers, IsFront, BeginsWithEnd, IsRight}
use Rattle.kernel_runs.specs.Laws.{EndingKernelsRun, GoesAsInterpreted}
use Rattle.kernel_runs.specs.Printed.{InterpretedKernelsGo}
use Rattle.kernel_runs.proofs.RefusedLemmas.{one_kernel}

-- ---- inputs are the patterns of the numbers that they stand for

module _ (again : (t : Ty) (p : ℕ) → p < 2 ^ ty_width t → pattern t (number t p) ≡ p) where
  scalars_back : (ts : List Ty) (vs : List ℕ) → AllZip IsPatternOf ts vs → scalar_patterns ts (scalar_numbers ts vs) ≡ vs
  scalars_back [] [] h = refl
  scalars_back [] (v ∷ vs) h = absurd h
  scalars_back (t ∷ ts) [] h = absurd h
  scalars_back (t ∷ ts) (v ∷ vs) h =
      let a = again t v h.0 in
      let b = scalars_back ts vs h.1 in
      λ i. a i ∷ b i

  elements_back : (t : Ty) (ps : List ℕ) → All (IsPatternOf t) ps → map (pattern t) (map (number t) ps) ≡ ps
  elements_back t [] h = refl
  elements_back t (p ∷ ps) h =
      let a = again t p (All-head (IsPatternOf t) p ps h) in
      let b = elements_back t ps (All-tail (IsPatternOf t) p ps h) in
      λ i. a i ∷ b i

  arrays_back : (xs : List ArrayOf) (pss : List (List ℕ)) → AllZip AreElementsOf (map flat xs) pss → array_patterns xs (array_numbers xs pss) ≡ pss
  arrays_back [] [] h = refl
  arrays_back [] (ps ∷ pss) h = absurd h
  arrays_back (x ∷ xs) [] h = absurd h
  arrays_back (x ∷ xs) (ps ∷ pss) h =
      let a = elements_back x.ty ps h.0.patterns in
      let b = arrays_back xs pss h.1 in
      λ i. a i ∷ b i

  inputs_back : (k : Typed) (i : Inputs) → InputsFit k i → input_patterns k (input_numbers k i) ≡ i
  inputs_back k i fit =
      let a = scalars_back (scalar_types k.params) i.scalars (scalars_fit k i fit) in
      let b = arrays_back k.arrays i.arrays fit.arrays in
      λ j. record { scalars = a j; arrays = b j }

  -- ---- the results

  module _ (stand : StandInRange) where
    pub given_numbers : (k : Typed) (bytes : Bytes) (i : Inputs) → Gives k bytes i → InputsFit k i → GivesNumbers k bytes (input_numbers k i)
    given_numbers k bytes i given fit = record { fitting = inputs_fit k i stand fit; given = subst (Gives k bytes) (sym (inputs_back k i fit)) given }

    begins : (k : Typed) (bytes text : Bytes) (made : ℕ) (o : InterpretOptions) (told : Bytes) → IsRight k bytes text made → (on : On k bytes (EndsWith o told k)) → IsFront on.holds.results text
    begins k bytes text made o told right on =
        let e = on.holds in
        let so = e.ends in
        let end : BeginsWithEnd k so.out so.r text = right.results o.profile (input_numbers k on.inputs) so.out so.r e.turns (given_numbers k bytes on.inputs on.given on.fit) so.ends in
        let same : end.results ≡ e.results =
        end.shown ∙ ap (λ xs. array_lines (map flat k.arrays) xs ++ return_line k.result (result_pattern k.result so.r)) (sym so.arrays_are)
        ∙ ap (λ v. array_lines (map flat k.arrays) e.arrays ++ return_line k.result v) (sym so.value_is) ∙ sym e.shown in
        subst (λ front. IsFront front text) same end.front

    pub as_interpreted : ((bytes : List ℕ) → HasOneAnswer bytes) → GoesAsInterpreted
    as_interpreted one bytes inputs kernel c o i text told read goes ends =
        let made = length goes.holds.runs.holds.firings in
        let same : goes.kernel ≡ kernel = one_kernel one bytes goes.kernel kernel goes.read read in
        let right = subst (λ (k : Kernel). IsRight k.typed inputs goes.holds.run_text made) same goes.holds.right in
        begins kernel.typed inputs goes.holds.run_text made i told right ends

    pub go_on : EndingKernelsRun → InterpretedKernelsGo
    go_on law bytes inputs told kernel c o i r is on within some goes =
        let so = on.holds.ends in
        law bytes inputs c o r (record {
          kernel = kernel;
          read = is;
          ends = record {
            profile = i.profile;
            numbers = input_numbers kernel.typed on.inputs;
            given = given_numbers kernel.typed inputs on.inputs on.given on.fit;
            out = so.out;
            r = so.r;
            turns = on.holds.turns;
            ends = so.ends;
            within = within;
          };
        }) some goes
