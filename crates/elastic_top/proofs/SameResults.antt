-- A run of a kernel's circuit shows exactly the results that the plain interpreter shows.
use Rattle.std.proofs.Common.{◌≡◌, ℕ, ◌^◌, ◌<◌, List, ◌++◌, length, map, sym, ap, ◌∙◌, subst}
use Rattle.std.specs.Prelude.{codes, Ok}
use Rattle.el_base.specs.declared.ty.Ty.{Ty}
use Rattle.el_base.specs.Numbers.{number, pattern}
use Rattle.el_base.specs.Widths.{ty_width}
use Rattle.c_ast.specs.declared.typed.Typed.{Typed}
use Rattle.c_meaning.specs.declared.profile.Profile.{Profile}
use Rattle.c_meaning.specs.declared.profile.Profile.TheVariants.{Plain}
use Rattle.c_meaning.specs.Headers.{flat}
use Rattle.c_meaning.specs.KernelPatterns.{result_pattern}
use Rattle.c_meaning.specs.Lawful.{Lawful}
use Rattle.c_meaning.specs.Ranges.{ResultsFit}
use Rattle.net_types.specs.declared.net.Net.{Net}
use Rattle.net_core.specs.Runs.{Run}
use Rattle.inputs_text.specs.Results.{array_lines, return_line}
use Rattle.inputs_text.specs.Texts.{IsOfOneInputs}
use Rattle.ref_interp.specs.Outcomes.{input_numbers}
use Rattle.ref_interp.proofs.Headers.{StandInRange}
use Rattle.kernel_front.specs.declared.reading.Kernel.{Kernel}
use Rattle.kernel_front.specs.Answers.{HasOneAnswer}
use Rattle.kernel_compile.specs.Goods.{Good, GoodNetsCompute, HoldsEnd, input_patterns}
use Rattle.kernel_ref.specs.declared.options.InterpretOptions.{InterpretOptions}
use Rattle.kernel_ref.specs.Answers.{Interprets}
use Rattle.kernel_ref.specs.Texts.{On}
use Rattle.kernel_ref.specs.Results.{EndsWith}
use Rattle.net_runs.specs.declared.options.RunOptions.{RunOptions}
use Rattle.net_runs.specs.Given.{Bytes}
use Rattle.net_runs.specs.Results.{count_line, cycles_line, log_lines}
use Rattle.net_runs.specs.Runs.{Runs}
use Rattle.kernel_runs.specs.Goes.{GivesNumbers, Goes}
use Rattle.kernel_runs.proofs.InterpretedLemmas.{given_numbers}
use Rattle.kernel_runs.proofs.RefusedLemmas.{one_kernel}
use Rattle.kernel_runs.proofs.RightLemmas.{same_inputs, text_is}
use Rattle.command_words.specs.declared.verb.Verb.TheVariants.{Go, Ref}
use Rattle.elastic_top.specs.Answers.{OfKernel, at}
use Rattle.elastic_top.specs.Options.{circuit_of, interpretation_of, options_of}
use Rattle.elastic_top.specs.Printed.{RefAndGoShowOneEnd}
use Rattle.elastic_top.proofs.OneAnswerLemmas.{by_verb}

module _ (again : (t : Ty) (p : ℕ) → p < 2 ^ ty_width t → pattern t (number t p) ≡ p) where
  -- ---- the results

  module _ (stand : StandInRange) (one : IsOfOneInputs) (computing : GoodNetsCompute) (fits : ResultsFit) where
    same_results : (k : Typed) (net : Net) (lawful : Lawful k) (good : (p : Profile) → Good net k p) (bytes : Bytes) (o : RunOptions) (text : Bytes) (i : InterpretOptions) (told : Bytes)
        → (runs : Runs net bytes o (Ok text)) (on : On k bytes (EndsWith i told k)) → runs.holds.holds.told.results ≡ on.holds.results
    same_results k net lawful good bytes o text i told runs on =
        let e = on.holds in
        let so = e.ends in
        let z = input_numbers k on.inputs in
        let g : GivesNumbers k bytes z = given_numbers again stand k bytes on.inputs on.given on.fit in
        let run_is : Run net (input_patterns k z) runs.holds.firings runs.holds.state
        = subst (λ j. Run net j runs.holds.firings runs.holds.state) (same_inputs k net (good Plain).header one bytes z runs.inputs g runs.given) runs.holds.one.run.run in
        let holds : HoldsEnd net k so.out so.r runs.holds.state
        = (computing net k i.profile (good i.profile)).right z so.out so.r e.turns runs.holds.firings runs.holds.state g.fitting so.ends run_is runs.holds.one.run.rest in
        text_is one computing fits k net lawful good so.out so.r runs.holds.state runs.holds.holds.told.results (fits k i.profile z so.out so.r e.turns lawful g.fitting so.ends).each_array holds runs.holds.holds.told.are.shown
        ∙ ap (λ xs. array_lines (map flat k.arrays) xs ++ return_line k.result (result_pattern k.result so.r)) (sym so.arrays_are)
        ∙ ap (λ v. array_lines (map flat k.arrays) e.arrays ++ return_line k.result v) (sym so.value_is) ∙ sym e.shown

    pub one_end : ((bytes : List ℕ) → HasOneAnswer bytes) → RefAndGoShowOneEnd
    one_end texts c d contents told gone ref go a b =
        let x : OfKernel (at contents 0) (λ k. Interprets k (at contents 1) (interpretation_of c.chosen) (Ok told)) = by_verb Ref c contents (Ok told) ref a in
        let y : Goes (at contents 0) (at contents 1) (circuit_of d.chosen) (options_of d.chosen) (Ok gone) = by_verb Go d contents (Ok gone) go b in
        let on : On y.kernel.typed (at contents 1) (EndsWith (interpretation_of c.chosen) told y.kernel.typed)
        = subst (λ (k : Kernel). On k.typed (at contents 1) (EndsWith (interpretation_of c.chosen) told k.typed)) (one_kernel texts (at contents 0) x.kernel y.kernel x.read y.read) x.holds in
        let r = y.holds.runs.holds in
        let same : r.holds.told.results ≡ on.holds.results
        = same_results y.kernel.typed y.net y.read.lawful y.circuit.good (at contents 1) (options_of d.chosen) y.holds.run_text (interpretation_of c.chosen) told y.holds.runs on in
        record {
          results = on.holds.results;
          turns = on.holds.turns;
          interpreted = on.holds.whole;
          netlist = y.holds.net_text;
          compiled = record { kernel = y.kernel; read = y.read; net = y.net; circuit = y.circuit; holds = y.holds.printed };
          made = length r.firings;
          cycles = r.holds.number;
          firings = r.firings;
          ran = y.holds.whole ∙ ap (λ t. y.holds.net_text ++ codes "%%\n" ++ t) r.holds.told.whole
              ∙ ap (λ t. y.holds.net_text ++ codes "%%\n" ++ (t ++ count_line d.chosen.count (length r.firings) ++ cycles_line d.chosen.cycles r.holds.number ++ log_lines d.chosen.log r.firings)) same;
        }
