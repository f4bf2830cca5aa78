-- The number and the word by which refusals of a kernel's circuit and its run are printed: those of the kernel's reader, and those of runs.
use Rattle.std.specs.Prelude.{ℕ, List, codes, Option, None}
use Rattle.kernel_front.specs.declared.refusal.KernelRefusal.{KernelRefusal}
use Rattle.kernel_front.specs.declared.refusal.KernelRefusal.TheVariants as front
use Rattle.kernel_front.specs.Refusals.{refusal_number as kernel_number, refusal_word as kernel_word}
use Rattle.net_runs.specs.declared.refusal.RunRefusal.{RunRefusal}
use Rattle.net_runs.specs.declared.refusal.RunRefusal.TheVariants as run
use Rattle.net_runs.specs.Refusals.{run_refusal_number, run_refusal_word}
use Rattle.kernel_runs.specs.declared.refusal.GoRefusal.{GoRefusal}
use Rattle.kernel_runs.specs.declared.refusal.GoRefusal.TheVariants as refusal

-- want of memory has no number
abbrev pub go_number : GoRefusal → Option ℕ
go_number (refusal.Kernel r) = kernel_number r
go_number (refusal.Run r) = run_refusal_number r
go_number refusal.Memory = None

abbrev pub go_word : GoRefusal → List ℕ
go_word (refusal.Kernel r) = kernel_word r
go_word (refusal.Run r) = run_refusal_word r
go_word refusal.Memory = codes "Memory"

-- ---- the refusal where the kernel is refused so, or the run; want of memory is the same everywhere

abbrev pub of_kernel : KernelRefusal → GoRefusal
of_kernel (front.Lex r) = refusal.Kernel (front.Lex r)
of_kernel (front.Parse r) = refusal.Kernel (front.Parse r)
of_kernel (front.Types r) = refusal.Kernel (front.Types r)
of_kernel (front.Inline r) = refusal.Kernel (front.Inline r)
of_kernel front.Memory = refusal.Memory

abbrev pub of_run : RunRefusal → GoRefusal
of_run (run.Inputs r) = refusal.Run (run.Inputs r)
of_run (run.Schedule r) = refusal.Run (run.Schedule r)
of_run (run.NotEnabled i) = refusal.Run (run.NotEnabled i)
of_run (run.Limit n) = refusal.Run (run.Limit n)
of_run run.Stuck = refusal.Run run.Stuck
of_run (run.Stray array name) = refusal.Run (run.Stray array name)
of_run run.Memory = refusal.Memory
