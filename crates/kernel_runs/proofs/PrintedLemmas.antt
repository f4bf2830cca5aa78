-- What replays of the printed circuit of a kernel show, and runs of it.
use Rattle.std.proofs.Common.{◌≡◌, ◌⊎◌, inl, inr, ℕ, List, Option, subst}
use Rattle.std.specs.Prelude.{ℤ, Ok}
use Rattle.c_ast.specs.declared.typed.Typed.{Typed}
use Rattle.c_meaning.specs.declared.profile.Profile.{Profile}
use Rattle.c_meaning.specs.declared.profile.Profile.TheVariants.{Plain}
use Rattle.c_meaning.specs.Lawful.{Lawful}
use Rattle.c_meaning.specs.Ranges.{ResultsFit}
use Rattle.c_meaning.specs.Statements.{Ends}
use Rattle.c_meaning.specs.Stores.{Inputs as Numbers}
use Rattle.net_types.specs.declared.net.Net.{Net}
use Rattle.net_core.specs.Runs.{Run}
use Rattle.inputs_text.specs.Texts.{IsOfOneInputs}
use Rattle.kernel_front.specs.declared.reading.Kernel.{Kernel}
use Rattle.kernel_front.specs.Answers.{HasOneAnswer}
use Rattle.kernel_compile.specs.Goods.{Good, GoodNetsCompute, HoldsEnd, input_patterns}
use Rattle.net_runs.specs.Given.{Bytes}
use Rattle.net_runs.specs.Replays.{Replays}
use Rattle.net_runs.specs.Runs.{Runs}
use Rattle.kernel_runs.specs.Goes.{GivesNumbers, BeginsWithEnd}
use Rattle.kernel_runs.specs.Printed.{ReplaysAreRight, RunsAreRight, IsEndText, NamesNext}
use Rattle.kernel_runs.proofs.OneGo.{same_net}
use Rattle.kernel_runs.proofs.RefusedLemmas.{one_kernel}
use Rattle.kernel_runs.proofs.RightLemmas.{right, same_inputs, text_is}

module _ (one : IsOfOneInputs) (computing : GoodNetsCompute) (fits : ResultsFit) where
  module _ (k : Typed) (net : Net) (lawful : Lawful k) (good : (p : Profile) → Good net k p) (inputs schedule text : Bytes) (p : Profile) (z : Numbers) (out : List (List ℤ)) (r : Option ℤ) (t : ℕ)
      (g : GivesNumbers k inputs z) (ends : Ends k p z out r t) where
    shown : Replays net inputs schedule (Ok text)
        → IsEndText k out r text ⊎ NamesNext text
    shown replays = elim replays.on.holds [
      | inl rests ↦ inl (
          let same : replays.on.inputs ≡ input_patterns k z = same_inputs k net (good Plain).header one inputs z replays.on.inputs g replays.on.given in
          let run_is : Run net (input_patterns k z) replays.firings rests.state = subst (λ i. Run net i replays.firings rests.state) same rests.one.run.run in
          let holds : HoldsEnd net k out r rests.state = (computing net k p (good p)).right z out r t replays.firings rests.state g.fitting ends run_is rests.one.run.rest in
          text_is one computing fits k net lawful good out r rests.state text (fits k p z out r t lawful g.fitting ends).each_array holds rests.holds.shown)
      | inr goes ↦ inr (record { next = goes.next; whole = goes.whole })
    ]

  module _ (answers : (bytes : List ℕ) → HasOneAnswer bytes) where
    pub replayed : ReplaysAreRight
    replayed bytes net_text inputs schedule text c kernel net read compiled says replays =
        let same : net ≡ compiled.net = same_net net_text compiled.net net compiled.holds.read says in
        let kernels : compiled.kernel ≡ kernel = one_kernel answers bytes compiled.kernel kernel compiled.read read in
        subst
        (λ (k : Kernel).
        (p : Profile) (z : Numbers) (out : List (List ℤ)) (r : Option ℤ) (t : ℕ) → GivesNumbers k.typed inputs z → Ends k.typed p z out r t → IsEndText k.typed out r text ⊎ NamesNext text)
        kernels
        (λ p z out r t g ends. shown compiled.kernel.typed compiled.net compiled.read.lawful compiled.circuit.good inputs schedule text p z out r t g ends
        (subst (λ (n : Net). Replays n inputs schedule (Ok text)) same replays))

    pub ran : RunsAreRight
    ran bytes net_text inputs text c o kernel net read compiled says runs =
        let same : net ≡ compiled.net = same_net net_text compiled.net net compiled.holds.read says in
        let kernels : compiled.kernel ≡ kernel = one_kernel answers bytes compiled.kernel kernel compiled.read read in
        subst
        (λ (k : Kernel). (p : Profile) (z : Numbers) (out : List (List ℤ)) (r : Option ℤ) (t : ℕ) → GivesNumbers k.typed inputs z → Ends k.typed p z out r t → BeginsWithEnd k.typed out r text)
        kernels
        (right one computing fits compiled.kernel.typed compiled.net compiled.read.lawful compiled.circuit.good inputs o text (subst (λ (n : Net). Runs n inputs o (Ok text)) same runs)).results
