-- What each command answers for the contents of its files.
use Rattle.std.specs.Prelude.{◌≡◌, ◌⊎◌, ℕ, Bool, List, [], get_or, Option, Some, None, IsSome, Result, Ok, Err}
use Rattle.std.specs.Option.{option_copied}
use Rattle.std.specs.Borrow.{Bor}
use Rattle.el_base.specs.declared.memory.Memory.{Memory}
use Rattle.net_types.specs.declared.net.Net.{Net}
use Rattle.net_text.specs.Texts.{NetText as IsNetText}
use Rattle.net_front.specs.Answers.{IsNetlist, NetlistSays}
use Rattle.command_words.specs.declared.verb.Verb.{Verb}
use Rattle.command_words.specs.declared.verb.Verb.TheVariants as verb
use Rattle.command_words.specs.Tables.{Text}
use Rattle.command_words.specs.Commands.{Asked}
use Rattle.command_words.specs.declared.command.Chosen.{Chosen}
use Rattle.net_runs.specs.declared.options.RunOptions.{RunOptions}
use Rattle.net_runs.specs.Runs.{Runs}
use Rattle.net_runs.specs.Replays.{Replays}
use Rattle.net_runs.specs.Saves.{Saves}
use Rattle.net_runs.specs.Resumes.{Resumes}
use Rattle.c_ast.specs.declared.typed.Typed.{Typed}
use Rattle.kernel_front.specs.declared.reading.Kernel.{Kernel as ReadKernel}
use Rattle.kernel_front.specs.Answers.{IsKernel, Says as KernelSays}
use Rattle.kernel_runs.specs.declared.options.CircuitOptions.{CircuitOptions}
use Rattle.kernel_runs.specs.Circuits.{Compiles}
use Rattle.kernel_runs.specs.Goes.{Goes}
use Rattle.kernel_bench.specs.Benches.{Benches}
use Rattle.kernel_ref.specs.declared.options.InterpretOptions.{InterpretOptions}
use Rattle.kernel_ref.specs.Answers.{Interprets}
use Rattle.elastic_top.specs.Options.{at_or, circuit_of, limit_or, options_of, interpretation_of}
use Rattle.elastic_top.specs.Faults.{label_number}
use Rattle.elastic_top.specs.declared.fault.KernelFiles.{KernelFiles}
use Rattle.elastic_top.specs.declared.fault.RunFiles.{RunFiles}
use Rattle.elastic_top.specs.declared.fault.Refusal.{Refusal}
use Rattle.elastic_top.specs.declared.fault.Refusal.TheVariants as work

-- ---- refusals

-- the refusal is of this kind of work: it names such files, and it wraps a refusal of that work, of which that holds
pub record Wraps {F R : Type 0} (kind : F → R → Refusal) (Named : F → Type 0) (Holds : R → Type 0) (refusal : Refusal) : Type 0 where
  pub files : F
  pub refused : R
  pub is : refusal ≡ kind files refused
  pub named : Named files
  pub holds : Holds refused

-- the words that name files
abbrev pub NamesFile : Text → Bor Text → Type 0
NamesFile word file = file.now ≡ word

abbrev pub NamesKernel : Text → Text → KernelFiles → Type 0
NamesKernel kernel inputs files = (files.kernel.now ≡ kernel) × (files.inputs.now ≡ inputs)

abbrev pub NamesRun : Text → Option Text → RunFiles → Type 0
NamesRun inputs schedule files = (files.inputs.now ≡ inputs) × (option_copied files.schedule ≡ schedule)

-- ---- upgrade: the text in version 2 of a checked net

-- the bytes are the text of a checked net, and the text is its text in version 2
pub record IsUpgraded (bytes upgraded : Text) : Type 0 where
  pub net : Net
  pub read : IsNetlist bytes net
  pub printed : IsNetText net upgraded

abbrev pub Upgrades : Text → Text → Result Text Refusal → Type 0
Upgrades file bytes (Ok text) = IsUpgraded bytes text
Upgrades file bytes (Err refusal) = Wraps work.Net (NamesFile file) (λ r. NetlistSays bytes (Err r)) refusal

-- ---- run and replay: the answers for a checked net

-- the bytes are the text of a checked net, of which that holds
pub record OfNet (bytes : Text) (Holds : Net → Type 0) : Type 0 where
  pub net : Net
  pub read : IsNetlist bytes net
  pub holds : Holds net

abbrev pub RunsNet : Text → Text → RunOptions → Text → Text → Result Text Refusal → Type 0
RunsNet netlist inputs o net_bytes input_bytes (Ok text) = OfNet net_bytes (λ net. Runs net input_bytes o (Ok text))
RunsNet netlist inputs o net_bytes input_bytes (Err refusal) =
    Wraps work.Net (NamesFile netlist) (λ r. NetlistSays net_bytes (Err r)) refusal
    ⊎ Wraps work.Run (NamesRun inputs None) (λ r. OfNet net_bytes (λ net. Runs net input_bytes o (Err r))) refusal

abbrev pub ReplaysNet : Text → Text → Text → Text → Text → Text → Result Text Refusal → Type 0
ReplaysNet netlist inputs schedule net_bytes input_bytes bytes (Ok text) = OfNet net_bytes (λ net. Replays net input_bytes bytes (Ok text))
ReplaysNet netlist inputs schedule net_bytes input_bytes bytes (Err refusal) =
    Wraps work.Net (NamesFile netlist) (λ r. NetlistSays net_bytes (Err r)) refusal
    ⊎ Wraps work.Run (NamesRun inputs (Some schedule)) (λ r. OfNet net_bytes (λ net. Replays net input_bytes bytes (Err r))) refusal

-- ---- save and resume: a state of a run as text, and what it comes to

abbrev pub SavesNet : Text → Text → ℕ → Text → Text → Result Text Refusal → Type 0
SavesNet netlist inputs k net_bytes input_bytes (Ok text) = OfNet net_bytes (λ net. Saves net input_bytes k (Ok text))
SavesNet netlist inputs k net_bytes input_bytes (Err refusal) =
    Wraps work.Net (NamesFile netlist) (λ r. NetlistSays net_bytes (Err r)) refusal
    ⊎ Wraps work.Run (NamesRun inputs None) (λ r. OfNet net_bytes (λ net. Saves net input_bytes k (Err r))) refusal

abbrev pub ResumesNet : Text → Text → ℕ → Bool → Text → Text → Result Text Refusal → Type 0
ResumesNet netlist snapshot limit count net_bytes bytes (Ok text) = OfNet net_bytes (λ net. Resumes net bytes limit count (Ok text))
ResumesNet netlist snapshot limit count net_bytes bytes (Err refusal) =
    Wraps work.Net (NamesFile netlist) (λ r. NetlistSays net_bytes (Err r)) refusal
    ⊎ Wraps work.Resume (NamesFile snapshot) (λ r. OfNet net_bytes (λ net. Resumes net bytes limit count (Err r))) refusal

-- ---- ref: the results of the kernel, run by the plain interpreter

-- the bytes are a kernel, of whose typed tree that holds
pub record OfKernel (bytes : Text) (Holds : Typed → Type 0) : Type 0 where
  pub kernel : ReadKernel
  pub read : IsKernel bytes kernel
  pub holds : Holds kernel.typed

abbrev pub InterpretsKernel : Text → Text → InterpretOptions → Text → Text → Result Text Refusal → Type 0
InterpretsKernel kernel inputs o kernel_bytes input_bytes (Ok text) = OfKernel kernel_bytes (λ k. Interprets k input_bytes o (Ok text))
InterpretsKernel kernel inputs o kernel_bytes input_bytes (Err refusal) =
    Wraps work.Kernel (NamesFile kernel) (λ r. KernelSays kernel_bytes (Err r)) refusal
    ⊎ Wraps work.Interpret (NamesKernel kernel inputs) (λ r. OfKernel kernel_bytes (λ k. Interprets k input_bytes o (Err r))) refusal

-- ---- compile and go: the circuit of the kernel, and a run of it

abbrev pub CompilesKernel : Text → CircuitOptions → Text → Result Text Refusal → Type 0
CompilesKernel kernel c bytes (Ok text) = Compiles bytes c (Ok text)
CompilesKernel kernel c bytes (Err refusal) = Wraps work.Kernel (NamesFile kernel) (λ r. Compiles bytes c (Err r)) refusal

abbrev pub GoesKernel : Text → Text → CircuitOptions → RunOptions → Text → Text → Result Text Refusal → Type 0
GoesKernel kernel inputs c o kernel_bytes input_bytes (Ok text) = Goes kernel_bytes input_bytes c o (Ok text)
GoesKernel kernel inputs c o kernel_bytes input_bytes (Err refusal) =
    Wraps work.Go (NamesKernel kernel inputs) (λ r. Goes kernel_bytes input_bytes c o (Err r)) refusal

-- ---- bench: the summary of a run of one kernel's circuit, on the inputs that a number gives

-- a refusal is want of memory
abbrev pub BenchesOf : ℕ → Result Text Refusal → Type 0
BenchesOf number (Ok text) = Benches number text
BenchesOf number (Err refusal) = (want : Memory) × (refusal ≡ work.Bench want)

-- so it is of the number that is given
abbrev pub BenchesSeed : Option ℕ → Result Text Refusal → Type 0
BenchesSeed None answer = ⊥
BenchesSeed (Some number) answer = BenchesOf number answer

-- ---- all commands

-- the text at a place of a list
abbrev pub at : List Text → ℕ → Text
at texts i = get_or texts i []

-- what the work of a command says of the contents of its files, one line a command; want of memory says nothing
abbrev pub AnswersBy : Verb → List Text → Chosen → List Text → Result Text Refusal → Type 0
AnswersBy verb.Compile plain chosen contents answer = CompilesKernel (at plain 0) (circuit_of chosen) (at contents 0) answer
AnswersBy verb.Go plain chosen contents answer = GoesKernel (at plain 0) (at plain 1) (circuit_of chosen) (options_of chosen) (at contents 0) (at contents 1) answer
AnswersBy verb.Run plain chosen contents answer = RunsNet (at plain 0) (at plain 1) (options_of chosen) (at contents 0) (at contents 1) answer
AnswersBy verb.Replay plain chosen contents answer = ReplaysNet (at plain 0) (at plain 1) (at plain 2) (at contents 0) (at contents 1) (at contents 2) answer
AnswersBy verb.Bench plain chosen contents answer = BenchesSeed chosen.seed answer
AnswersBy verb.Upgrade plain chosen contents answer = Upgrades (at plain 0) (at contents 0) answer
AnswersBy verb.Ref plain chosen contents answer = InterpretsKernel (at plain 0) (at plain 1) (interpretation_of chosen) (at contents 0) (at contents 1) answer
AnswersBy verb.Save plain chosen contents answer = SavesNet (at plain 0) (at plain 1) (at_or chosen.at) (at contents 0) (at contents 1) answer
AnswersBy verb.Resume plain chosen contents answer = ResumesNet (at plain 0) (at plain 1) (limit_or chosen.limit) chosen.count (at contents 0) (at contents 1) answer

abbrev pub IsSaid : Asked → List Text → Result Text Refusal → Type 0
IsSaid c contents answer = AnswersBy c.verb c.plain c.chosen contents answer

-- what a command answers for the contents of its files: a text, or a refusal that has a number, and so is not want of memory
abbrev pub Answers : Asked → List Text → Result Text Refusal → Type 0
Answers c contents (Ok text) = IsSaid c contents (Ok text)
Answers c contents (Err refusal) = IsSome (label_number refusal) × IsSaid c contents (Err refusal)
