-- That a kernel, options and inputs have one answer by however many workers, but for want of memory; and that what is printed is one net.
use Rattle.std.specs.Prelude.{◌≡◌, ◌≢◌, ◌++◌, ℕ, codes, length, Option, Result, Ok, Err}
use Rattle.net_types.specs.declared.net.Net.{Net}
use Rattle.net_types.specs.declared.firing.Inputs.{Inputs}
use Rattle.net_core.specs.Runs.{Long}
use Rattle.net_text.specs.Refusals.{Says as SaysNet}
use Rattle.kernel_front.specs.declared.refusal.KernelRefusal.{KernelRefusal}
use Rattle.kernel_front.specs.declared.refusal.KernelRefusal.TheVariants as front
use Rattle.net_runs.specs.declared.options.RunOptions.{RunOptions}
use Rattle.net_runs.specs.declared.refusal.RunRefusal.TheVariants as run
use Rattle.net_runs.specs.Given.{Bytes, Gives}
use Rattle.net_runs.specs.Runs.{Runs}
use Rattle.net_runs.specs.Laws.{AsksForNoCycles, with_workers}
use Rattle.kernel_runs.specs.declared.options.CircuitOptions.{CircuitOptions}
use Rattle.kernel_runs.specs.declared.refusal.GoRefusal.{GoRefusal}
use Rattle.kernel_runs.specs.declared.refusal.GoRefusal.TheVariants as refusal
use Rattle.kernel_runs.specs.Circuits.{Compiles}
use Rattle.kernel_runs.specs.Goes.{Goes}

-- ---- compilations

-- two answers of a compilation of one kernel by the same options, neither of which is want of memory, are equal
abbrev pub CompilesHaveOneAnswer : Type 0
CompilesHaveOneAnswer = (bytes : Bytes) (c : CircuitOptions) (a b : Result Bytes KernelRefusal) → a ≢ Err front.Memory → b ≢ Err front.Memory
    → Compiles bytes c a → Compiles bytes c b → a ≡ b

-- ---- runs

-- two answers for one kernel and its inputs, by however many workers or by cycles, neither of which is want of memory, are equal where neither cycles nor firings are told
abbrev pub GoesHaveOneAnswer : Type 0
GoesHaveOneAnswer = (bytes inputs : Bytes) (c : CircuitOptions) (o : RunOptions) (workers : Option ℕ) (a b : Result Bytes GoRefusal) → AsksForNoCycles o
    → a ≢ Err refusal.Memory → b ≢ Err refusal.Memory → Goes bytes inputs c o a → Goes bytes inputs c (with_workers o workers) b → a ≡ b

-- whatever is told, what is refused once is refused always and in the same way
abbrev pub RefusalsAreOne : Type 0
RefusalsAreOne = (bytes inputs : Bytes) (c : CircuitOptions) (o : RunOptions) (workers : Option ℕ) (e : GoRefusal) (b : Result Bytes GoRefusal) → e ≢ refusal.Memory
    → b ≢ Err refusal.Memory → Goes bytes inputs c o (Err e) → Goes bytes inputs c (with_workers o workers) b → b ≡ Err e

-- and two texts show one net, the same results and as many firings
abbrev pub TextsShowOneRun : Type 0
TextsShowOneRun = (bytes inputs s t : Bytes) (c : CircuitOptions) (o : RunOptions) (workers : Option ℕ) (a : Goes bytes inputs c o (Ok s))
    (b : Goes bytes inputs c (with_workers o workers) (Ok t)) → (a.net ≡ b.net) × (a.holds.net_text ≡ b.holds.net_text)
    × (a.holds.runs.holds.holds.told.results ≡ b.holds.runs.holds.holds.told.results) × (length a.holds.runs.holds.firings ≡ length b.holds.runs.holds.firings)

-- ---- both

-- the second text is the first, a line `%%` and the text of a run of the net that is read from the first
pub record IsFollowedByRun (text gone inputs : Bytes) (o : RunOptions) : Type 0 where
  pub run_text : Bytes
  pub whole : gone ≡ text ++ codes "%%\n" ++ run_text
  pub runs : (net : Net) → SaysNet text (Ok net) → Runs net inputs o (Ok run_text)

-- so it is with the text that a compilation has, and the text of the circuit and of a run
abbrev pub OneNetIsPrinted : Type 0
OneNetIsPrinted = (bytes inputs text gone : Bytes) (c : CircuitOptions) (o : RunOptions) → Compiles bytes c (Ok text) → Goes bytes inputs c o (Ok gone) → IsFollowedByRun text gone inputs o

-- for the limit of the options to be refused is that the net has runs of more firings on the inputs that the bytes give
pub record LimitDecides (net : Net) (kernel bytes : Bytes) (c : CircuitOptions) (o : RunOptions) (inputs : Inputs) : Type 0 where
  pub long : (n : ℕ) → Goes kernel bytes c o (Err (refusal.Run (run.Limit n))) → (n ≡ o.limit) × Long net inputs o.limit
  pub refused : (a : Result Bytes GoRefusal) → Long net inputs o.limit → a ≢ Err refusal.Memory → Goes kernel bytes c o a → a ≡ Err (refusal.Run (run.Limit o.limit))

-- the net is that which is read from the text of the compilation
abbrev pub LimitIsOfPrintedNet : Type 0
LimitIsOfPrintedNet = (kernel bytes text : Bytes) (c : CircuitOptions) (o : RunOptions) (net : Net) (inputs : Inputs) → Compiles kernel c (Ok text) → SaysNet text (Ok net)
    → Gives net bytes inputs → LimitDecides net kernel bytes c o inputs
