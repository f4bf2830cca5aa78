-- Kernels are not refused, and ending ones run.
use Rattle.std.proofs.Common.{◌≡◌, ◌≢◌, inl, inr, ℕ, List, refl, ap, subst, arith}
use Rattle.std.specs.Prelude.{Result, Ok, Err}
use Rattle.c_ast.specs.declared.typed.Typed.{Typed}
use Rattle.c_meaning.specs.declared.profile.Profile.{Profile}
use Rattle.c_meaning.specs.declared.profile.Profile.TheVariants.{Plain}
use Rattle.net_types.specs.declared.net.Net.{Net}
use Rattle.net_types.specs.declared.firing.Inputs.{Inputs}
use Rattle.net_core.specs.Runs.{Run, Long}
use Rattle.net_core.specs.States.{strays_at}
use Rattle.inputs_text.specs.declared.refusal.InputRefusal.{InputRefusal}
use Rattle.inputs_text.specs.Texts.{IsOfOneInputs}
use Rattle.kernel_front.specs.declared.reading.Kernel.{Kernel}
use Rattle.kernel_front.specs.declared.refusal.KernelRefusal.{KernelRefusal}
use Rattle.kernel_front.specs.declared.refusal.KernelRefusal.TheVariants as front
use Rattle.kernel_front.specs.Answers.{Says, IsKernel, HasOneAnswer}
use Rattle.kernel_compile.specs.Goods.{GoodNetsCompute, Good, HoldsEnd, EndsInTime as LimitServes, input_patterns}
use Rattle.net_runs.specs.declared.options.RunOptions.{RunOptions}
use Rattle.net_runs.specs.declared.refusal.RunRefusal.{RunRefusal}
use Rattle.net_runs.specs.declared.refusal.RunRefusal.TheVariants as run
use Rattle.net_runs.specs.Given.{Bytes, Gives, IsNoInputs}
use Rattle.net_runs.specs.Results.{IsStrayIn}
use Rattle.net_runs.specs.Runs.{Strays}
use Rattle.net_runs.proofs.LawLemmas.{given_not_refused}
use Rattle.kernel_runs.specs.declared.refusal.GoRefusal.TheVariants as refusal
use Rattle.kernel_runs.specs.Circuits.{IsNoKernel}
use Rattle.kernel_runs.specs.Goes.{IsNoRun}
use Rattle.kernel_runs.specs.Laws.{KernelsCompile, EndsInFirings, IsEnding, EndingKernelsRun}
use Rattle.kernel_runs.proofs.RightLemmas.{given_net, same_inputs}

-- ---- one kernel

abbrev IsRead : Result Kernel KernelRefusal → Type 0
IsRead (Ok kernel) = Unit {0}
IsRead (Err r) = ⊥

abbrev kernel_or : Kernel → Result Kernel KernelRefusal → Kernel
kernel_or k (Ok kernel) = kernel
kernel_or k (Err r) = k

module _ (one : (bytes : List ℕ) → HasOneAnswer bytes) where
  pub one_kernel : (bytes : Bytes) (k l : Kernel) → IsKernel bytes k → IsKernel bytes l → k ≡ l
  one_kernel bytes k l a b = elim (one bytes (Ok k) a (Ok l) (λ e. subst IsRead e tt) b) [
    | inl e ↦ ap (kernel_or k) e
    | inr e ↦ absurd (subst IsRead e tt)
  ]

  pub kernel_or_not : (bytes : Bytes) (k : Kernel) (r : KernelRefusal) → IsKernel bytes k → r ≢ front.Memory → Says bytes (Err r) → ⊥
  kernel_or_not bytes k r is some says = elim (one bytes (Ok k) is (Err r) (λ e. some (let same : r ≡ front.Memory = cc in same)) says) [
    | inl e ↦ subst IsRead e tt
    | inr e ↦ subst IsRead e tt
  ]

  pub no_kernel : (bytes : Bytes) (k : Kernel) (r : KernelRefusal) → IsKernel bytes k → IsNoKernel bytes r → ⊥
  no_kernel bytes k (front.Lex r) is told = kernel_or_not bytes k (front.Lex r) is (λ e. absurd (cc)) told
  no_kernel bytes k (front.Parse r) is told = kernel_or_not bytes k (front.Parse r) is (λ e. absurd (cc)) told
  no_kernel bytes k (front.Types r) is told = kernel_or_not bytes k (front.Types r) is (λ e. absurd (cc)) told
  no_kernel bytes k (front.Inline r) is told = kernel_or_not bytes k (front.Inline r) is (λ e. absurd (cc)) told
  no_kernel bytes k front.Memory is told = told

  pub compile : KernelsCompile
  compile bytes kernel o (front.Lex r) is some told = kernel_or_not bytes kernel (front.Lex r) is some told
  compile bytes kernel o (front.Parse r) is some told = kernel_or_not bytes kernel (front.Parse r) is some told
  compile bytes kernel o (front.Types r) is some told = kernel_or_not bytes kernel (front.Types r) is some told
  compile bytes kernel o (front.Inline r) is some told = kernel_or_not bytes kernel (front.Inline r) is some told
  compile bytes kernel o front.Memory is some told = some refl

  -- ---- a kernel that ends in time

  module _ (readings : IsOfOneInputs) (computing : GoodNetsCompute) (serves : LimitServes) where
    -- of one kernel and its net
    module _ (k : Typed) (net : Net) (good : (p : Profile) → Good net k p) (inputs : Bytes) (o : RunOptions) (ends : EndsInFirings k inputs o.limit) where
      not_refused : (e : InputRefusal) → IsNoInputs net inputs e → ⊥
      not_refused e told = given_not_refused net inputs (input_patterns k ends.numbers) e (given_net k net (good Plain).header inputs (input_patterns k ends.numbers) ends.given.given) told

      not_long : (i : Inputs) → Gives net inputs i → Long net i o.limit → ⊥
      not_long i given long =
          let same : i ≡ input_patterns k ends.numbers = same_inputs k net (good Plain).header readings inputs ends.numbers i ends.given given in
          serves net k ends.profile ends.numbers ends.out ends.r ends.turns o.limit (good ends.profile) ends.given.fitting ends.ends ends.within (subst (λ j. Long net j o.limit) same long)

      not_stray : (array : ℕ) (name : Bytes) (i : Inputs) → Gives net inputs i → Strays net o array name i → ⊥
      not_stray array name i given strays =
          let same : i ≡ input_patterns k ends.numbers = same_inputs k net (good Plain).header readings inputs ends.numbers i ends.given given in
          let run_is : Run net (input_patterns k ends.numbers) strays.firings strays.state = subst (λ j. Run net j strays.firings strays.state) same strays.one.run.run in
          let holds : HoldsEnd net k ends.out ends.r strays.state =
          (computing net k ends.profile (good ends.profile)).right ends.numbers ends.out ends.r ends.turns strays.firings strays.state ends.given.fitting ends.ends run_is strays.one.run.rest in
          let stray : IsStrayIn net strays.state array name = strays.holds in
          let none : strays_at strays.state array ≡ 0 = holds.clean array in
          absurd (omega (arith, stray.first.has, none))

      no_run : (r : RunRefusal) → IsNoRun net inputs o r → ⊥
      no_run (run.Inputs e) is = not_refused e is.runs
      no_run (run.Schedule e) is = is.runs
      no_run (run.NotEnabled i) is = is.runs
      no_run (run.Limit n) is = not_long is.runs.1.inputs is.runs.1.given (subst (Long net is.runs.1.inputs) is.runs.0 is.runs.1.holds)
      no_run run.Stuck is = is.moves refl
      no_run (run.Stray array name) is = not_stray array name is.runs.inputs is.runs.given is.runs.holds
      no_run run.Memory is = is.cause refl

    -- the kernel that the bytes spell is that of the circuit
    ending : (bytes inputs : Bytes) (limit : ℕ) (k : Kernel) → IsKernel bytes k → IsEnding bytes inputs limit → EndsInFirings k.typed inputs limit
    ending bytes inputs limit k is e = subst (λ (l : Kernel). EndsInFirings l.typed inputs limit) (one_kernel bytes e.kernel k e.read is) e.ends

    pub run_in_time : EndingKernelsRun
    run_in_time bytes inputs c o (refusal.Kernel r) ends some is = no_kernel bytes ends.kernel r ends.read is
    run_in_time bytes inputs c o (refusal.Run r) ends some is =
        no_run is.kernel.typed is.net is.circuit.good inputs o (ending bytes inputs o.limit is.kernel is.read ends) r is.holds
    run_in_time bytes inputs c o refusal.Memory ends some is = some refl
