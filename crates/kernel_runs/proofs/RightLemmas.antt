-- A run of a kernel's circuit at rest shows the kernel's own arrays and result.
use Rattle.std.proofs.Common.{◌≡◌, ◌≢◌, ℕ, suc, ◌<◌, List, [], ◌∷◌, ◌++◌, length, get_or, map, Option, true, refl, sym, ap, ◌∙◌, subst, append_assoc}
use Rattle.std.specs.Prelude.{ℤ, Ok, Err}
use Rattle.std.proofs.lemmas.List.{length-map, ext_get_or}
use Rattle.el_base.specs.Headers.{Header}
use Rattle.el_base.specs.declared.ty.Scalar.{Scalar}
use Rattle.el_base.specs.declared.ty.Array.{Array}
use Rattle.c_ast.specs.declared.typed.Typed.{Typed}
use Rattle.c_ast.specs.declared.typed.ArrayOf.{ArrayOf}
use Rattle.c_meaning.specs.declared.profile.Profile.{Profile}
use Rattle.c_meaning.specs.declared.profile.Profile.TheVariants.{Plain}
use Rattle.c_meaning.specs.Headers.{scalars_of, flat, kernel_header}
use Rattle.c_meaning.specs.KernelPatterns.{array_patterns, result_pattern}
use Rattle.c_meaning.specs.Lawful.{Lawful}
use Rattle.c_meaning.specs.Ranges.{ResultsFit}
use Rattle.c_meaning.specs.Stores.{Inputs as Numbers, AreArraysOf}
use Rattle.net_types.specs.declared.net.Net.{Net}
use Rattle.net_types.specs.declared.net.Unit.TheVariants.{Exit}
use Rattle.net_types.specs.declared.firing.Inputs.{Inputs}
use Rattle.net_types.specs.Headers.{net_header}
use Rattle.net_types.specs.Nets.{kind_of}
use Rattle.net_core.specs.Fire.{State}
use Rattle.net_core.specs.Runs.{Run}
use Rattle.inputs_text.specs.Results.{ResultText, array_lines, return_line}
use Rattle.inputs_text.specs.Texts.{InputText, IsOfOneInputs}
use Rattle.kernel_compile.specs.Goods.{Good, GoodNetsCompute, HoldsEnd, input_patterns}
use Rattle.kernel_ref.specs.Texts.{Gives as GivesKernel}
use Rattle.net_runs.specs.declared.options.RunOptions.{RunOptions}
use Rattle.net_runs.specs.declared.refusal.RunRefusal.{RunRefusal}
use Rattle.net_runs.specs.declared.refusal.RunRefusal.TheVariants as run
use Rattle.net_runs.specs.Given.{Bytes, Gives, On}
use Rattle.inputs_text.specs.StateResults.{AreElementsIn, IsTextOf}
use Rattle.net_runs.specs.Results.{count_line, cycles_line, log_lines}
use Rattle.net_runs.specs.Runs.{Runs, Sticks}
use Rattle.net_runs.proofs.OneRuns.{exit_kind}
use Rattle.kernel_runs.specs.Goes.{GivesNumbers, IsFront, IsRight, GoesTo}
use Rattle.kernel_runs.specs.Joined.{IsJoinedText}

-- as many arrays of patterns as arrays
patterns_counted : (xs : List ArrayOf) (zss : List (List ℤ)) → AreArraysOf xs zss → length (array_patterns xs zss) ≡ length xs
patterns_counted [] [] h = refl
patterns_counted [] (zs ∷ zss) h = absurd h
patterns_counted (x ∷ xs) [] h = absurd h
patterns_counted (x ∷ xs) (zs ∷ zss) h = ap suc (patterns_counted xs zss h.2)

front_of : (front a b c text : Bytes) → text ≡ front ++ a ++ b ++ c → IsFront front text
front_of front a b c text is = record { rest = a ++ (b ++ c); whole = is ∙ append_assoc (front ++ a) b c ∙ append_assoc front a (b ++ c) }

-- ---- headers

module _ (k : Typed) (net : Net) (header : net_header net ≡ kernel_header k) where
  pub scalars_are : net.scalars ≡ scalars_of k.params
  scalars_are = ap (λ (h : Header). h.scalars) header

  pub arrays_are : net.arrays ≡ map flat k.arrays
  arrays_are = ap (λ (h : Header). h.arrays) header

  pub result_is : net.result ≡ k.result
  result_is = ap (λ (h : Header). h.result) header

  -- a text of the kernel's inputs is one of the net's
  pub given_net : (bytes : Bytes) (i : Inputs) → GivesKernel k bytes i → Gives net bytes i
  given_net bytes i given =
      subst (λ (ss : List Scalar). InputText ss net.arrays i bytes) (sym scalars_are) (subst (λ (xs : List Array). InputText (scalars_of k.params) xs i bytes) (sym arrays_are) given)

  pub same_inputs : IsOfOneInputs → (bytes : Bytes) (z : Numbers) (i : Inputs) → GivesNumbers k bytes z → Gives net bytes i → i ≡ input_patterns k z
  same_inputs one bytes z i g given = one net.scalars net.arrays i (input_patterns k z) bytes given (given_net bytes (input_patterns k z) g.given)

-- ---- the end of a run

module _ (one : IsOfOneInputs) (computing : GoodNetsCompute) (fits : ResultsFit) (k : Typed) (net : Net) (lawful : Lawful k) (good : (p : Profile) → Good net k p) where
  header : net_header net ≡ kernel_header k
  header = (good Plain).header

  -- the elements in a state that holds the end are its patterns
  elements_are : (out : List (List ℤ)) (r : Option ℤ) (s : State) (values : List (List ℕ)) → AreArraysOf k.arrays out → HoldsEnd net k out r s → AreElementsIn net s values
      → values ≡ array_patterns k.arrays out
  elements_are out r s values fit holds are =
      let many : length net.arrays ≡ length k.arrays = ap length (arrays_are k net header) ∙ length-map k.arrays flat in
      let long : length values ≡ length (array_patterns k.arrays out) = are.count ∙ many ∙ sym (patterns_counted k.arrays out fit) in
      ext_get_or [] values (array_patterns k.arrays out) long (λ a l. are.each a (subst (λ n. a < n) are.count l) ∙ ap (λ xs. get_or xs a []) holds.arrays)

  -- and so its text is that of the end
  pub text_is : (out : List (List ℤ)) (r : Option ℤ) (s : State) (text : Bytes) → AreArraysOf k.arrays out → HoldsEnd net k out r s → IsTextOf net s text
      → ResultText (map flat k.arrays) k.result (array_patterns k.arrays out) (result_pattern k.result r) text
  text_is out r s text fit holds is =
      let exit = (good Plain).checked.one_exit in
      let kind : kind_of net exit.unit ≡ Exit = exit_kind (kind_of net exit.unit) exit.here in
      let value : is.value ≡ result_pattern k.result r = sym (is.took exit.unit kind) ∙ holds.exited.value exit.unit kind in
      let values : is.values ≡ array_patterns k.arrays out = elements_are out r s is.values fit holds is.elements in
      is.whole ∙ ap (λ vs. array_lines net.arrays vs ++ return_line net.result is.value) values
      ∙ ap (λ v. array_lines net.arrays (array_patterns k.arrays out) ++ return_line net.result v) value
      ∙ ap (λ (xs : List Array). array_lines xs (array_patterns k.arrays out) ++ return_line net.result (result_pattern k.result r)) (arrays_are k net header)
      ∙ ap (λ t. array_lines (map flat k.arrays) (array_patterns k.arrays out) ++ return_line t (result_pattern k.result r)) (result_is k net header)

  module _ (bytes : Bytes) (o : RunOptions) (text : Bytes) (runs : Runs net bytes o (Ok text)) where
    run_is : (z : Numbers) → GivesNumbers k bytes z → Run net (input_patterns k z) runs.holds.firings runs.holds.state
    run_is z g = subst (λ i. Run net i runs.holds.firings runs.holds.state) (same_inputs k net header one bytes z runs.inputs g runs.given) runs.holds.one.run.run

    pub right : IsRight k bytes text (length runs.holds.firings)
    right = record {
      results = λ p z out r t g ends.
          let holds : HoldsEnd net k out r runs.holds.state =
          (computing net k p (good p)).right z out r t runs.holds.firings runs.holds.state g.fitting ends (run_is z g) runs.holds.one.run.rest in
          let told = runs.holds.holds.told in
          record {
            results = told.results;
            shown = text_is out r runs.holds.state told.results (fits k p z out r t lawful g.fitting ends).each_array holds told.are.shown;
            front = front_of told.results (count_line o.count (length runs.holds.firings)) (cycles_line o.cycles runs.holds.holds.number) (log_lines o.log runs.holds.firings) text told.whole;
          };
      few = λ p z out r t g ends. (computing net k p (good p)).bounded z out r t runs.holds.firings runs.holds.state g.fitting ends (run_is z g);
    }

    pub goes_to : (joined : Bytes) → IsJoinedText net text joined → GoesTo k net bytes o joined
    goes_to joined is = record { net_text = is.net_text; printed = is.printed; run_text = text; runs = runs; whole = is.whole; right = right }

-- ---- a circuit is never stuck

module _ (computing : GoodNetsCompute) (k : Typed) (net : Net) (good : Good net k Plain) (bytes : Bytes) (o : RunOptions) where
  never_stuck : On net bytes (Sticks net o) → ⊥
  never_stuck on =
      let one = on.holds.one.run in
      on.holds.holds ((computing net k Plain good).exits on.inputs on.holds.firings on.holds.state on.fit one.run one.rest)

  pub moves : (r : RunRefusal) → Runs net bytes o (Err r) → r ≢ run.Stuck
  moves r is stuck = never_stuck (subst (λ (x : RunRefusal). Runs net bytes o (Err x)) stuck is)
