-- The answer to a kernel goes with the reader's.
use Rattle.std.proofs.Common.{◌≡◌, ◌⊎◌, ℕ, List, inl, inr, subst}
use Rattle.std.specs.Prelude.{Result, Ok, Err}
use Rattle.kernel_front.specs.Answers.{IsOnly}
use Rattle.kernel_front.specs.declared.reading.Kernel.{Kernel}
use Rattle.kernel_front.specs.declared.refusal.KernelRefusal.{KernelRefusal}
use Rattle.kernel_front.specs.declared.refusal.KernelRefusal.TheVariants as refusal
use Rattle.kernel_compile.specs.declared.compiling.Compiled.{Compiled}
use Rattle.kernel_compile.specs.Compiling.{GoesWith, AnswersAsRead}

abbrev IsKept : Result Kernel KernelRefusal → Type 0
IsKept (Ok kernel) = Unit {0}
IsKept (Err e) = ⊥

pub as_read : (bytes : List ℕ) (kernel : Kernel) (c : Compiled) → c.typed ≡ kernel.typed → c.nodes ≡ kernel.nodes → IsOnly bytes (Ok kernel) → AnswersAsRead bytes (Ok c)
as_read bytes kernel c t n only read told says = by (only read told says)
  where
    by : (Ok kernel ≡ read) ⊎ (Ok kernel ≡ Err refusal.Memory) → GoesWith read (Ok c) ⊎ (Ok c ≡ Err refusal.Memory)
    by (inl e) = inl (subst (λ x. GoesWith x (Ok c)) e (t, n))
    by (inr e) = absurd (subst IsKept e tt)
