-- When a call has nothing to refuse, so that what is asked of its answers for it to be sound holds.
use Rattle.std.specs.Prelude.{◌≡◌, List, Err}
use Rattle.kernel_front.specs.declared.reading.Kernel.{Kernel}
use Rattle.kernel_front.specs.Answers.{IsKernel}
use Rattle.kernel_runs.specs.Laws.{IsEnding}
use Rattle.command_words.specs.declared.verb.Verb.TheVariants.{Bench, Compile, Go}
use Rattle.command_words.specs.Tables.{Text}
use Rattle.command_words.specs.Commands.{Asked}
use Rattle.elastic_top.specs.Answers.{Answers, at}
use Rattle.elastic_top.specs.Options.{limit_or}
use Rattle.elastic_top.specs.declared.fault.Refusal.{Refusal}

-- for these contents of its files a call has no refusal
abbrev pub RefusesNothing : Asked → List Text → Type 0
RefusesNothing c contents = (r : Refusal) → Answers c contents (Err r) → ⊥

-- a call of `bench`
abbrev pub BenchesRefuseNothing : Type 0
BenchesRefuseNothing = (c : Asked) (contents : List Text) → c.verb ≡ Bench → RefusesNothing c contents

-- a call of `compile`, where its file spells a kernel
abbrev pub KernelsAreCompiled : Type 0
KernelsAreCompiled = (c : Asked) (contents : List Text) (kernel : Kernel) → c.verb ≡ Compile → IsKernel (at contents 0) kernel → RefusesNothing c contents

-- a call of `go`, where its files spell a kernel and inputs on which that ends within the limit, 256 firings being counted for each of its nodes, once for each
-- turn and once more
abbrev pub EndingKernelsGo : Type 0
EndingKernelsGo = (c : Asked) (contents : List Text) → c.verb ≡ Go → IsEnding (at contents 0) (at contents 1) (limit_or c.chosen.limit) → RefusesNothing c contents
