-- Calls that have nothing to refuse.
use Rattle.std.proofs.Common.{◌≢◌, ap, subst, sym, ◌∙◌}
use Rattle.std.specs.Prelude.{ℕ, Err, IsSome, Option, Some, None, is_some}
use Rattle.std.proofs.lemmas.Bool.{false≢true}
use Rattle.kernel_front.specs.declared.refusal.KernelRefusal.{KernelRefusal}
use Rattle.kernel_front.specs.declared.refusal.KernelRefusal.TheVariants as front
use Rattle.kernel_front.specs.Refusals.{refusal_number as kernel_number}
use Rattle.kernel_runs.specs.declared.refusal.GoRefusal.{GoRefusal}
use Rattle.kernel_runs.specs.declared.refusal.GoRefusal.TheVariants as go
use Rattle.kernel_runs.specs.Refusals.{go_number}
use Rattle.kernel_runs.specs.Laws.{EndingKernelsRun, KernelsCompile}
use Rattle.elastic_top.specs.Answers.{AnswersBy, BenchesSeed, CompilesKernel, GoesKernel, at}
use Rattle.elastic_top.specs.Faults.{label_number}
use Rattle.elastic_top.specs.Laws.{BenchesRefuseNothing, EndingKernelsGo, KernelsAreCompiled}
use Rattle.elastic_top.specs.Options.{circuit_of, options_of}
use Rattle.elastic_top.specs.declared.fault.Refusal.{Refusal}

-- a refusal that has a number is not want of memory
pub kernel_told : (r : KernelRefusal) → IsSome (kernel_number r) → r ≢ front.Memory
kernel_told r has e = false≢true (sym (ap (λ (x : KernelRefusal). is_some (kernel_number x)) e) ∙ has)

pub go_told : (r : GoRefusal) → IsSome (go_number r) → r ≢ go.Memory
go_told r has e = false≢true (sym (ap (λ (x : GoRefusal). is_some (go_number x)) e) ∙ has)

pub compiled : KernelsCompile → KernelsAreCompiled
compiled law c contents kernel e read r is =
    let a : CompilesKernel (at c.plain 0) (circuit_of c.chosen) (at contents 0) (Err r) = subst (λ v. AnswersBy v c.plain c.chosen contents (Err r)) e is.1 in
    let has : IsSome (kernel_number a.refused) = subst (λ (x : Refusal). IsSome (label_number x)) a.is is.0 in
    law (at contents 0) kernel (circuit_of c.chosen) a.refused read (kernel_told a.refused has) a.holds

pub goes : EndingKernelsRun → EndingKernelsGo
goes law c contents e ends r is =
    let a : GoesKernel (at c.plain 0) (at c.plain 1) (circuit_of c.chosen) (options_of c.chosen) (at contents 0) (at contents 1) (Err r) =
    subst (λ v. AnswersBy v c.plain c.chosen contents (Err r)) e is.1 in
    let has : IsSome (go_number a.refused) = subst (λ (x : Refusal). IsSome (label_number x)) a.is is.0 in
    law (at contents 0) (at contents 1) (circuit_of c.chosen) (options_of c.chosen) a.refused ends (go_told a.refused has) a.holds

benched : (seed : Option ℕ) (r : Refusal) → IsSome (label_number r) → BenchesSeed seed (Err r) → ⊥
benched None r told is = absurd is
benched (Some number) r told is = false≢true (subst (λ (x : Refusal). IsSome (label_number x)) is.1 told)

pub benches : BenchesRefuseNothing
benches c contents e r is = benched c.chosen.seed r is.0 (subst (λ v. AnswersBy v c.plain c.chosen contents (Err r)) e is.1)
