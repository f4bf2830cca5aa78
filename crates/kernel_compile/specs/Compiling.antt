-- What each answer of the compiler says of the bytes of a kernel.
use Rattle.std.specs.Prelude.{◌≡◌, ◌≢◌, ◌≤◌, ◌⊎◌, ℕ, ℤ, Bool, List, Option, Some, Result, Ok, Err}
use Rattle.c_ast.specs.declared.typed.Typed.{Typed}
use Rattle.c_meaning.specs.declared.profile.Profile.{Profile}
use Rattle.c_meaning.specs.Lawful.{Lawful}
use Rattle.c_meaning.specs.Statements.{Ends}
use Rattle.c_meaning.specs.Stores.{Inputs as Numbers, AreFitting}
use Rattle.net_types.specs.declared.net.Net.{Net}
use Rattle.net_check.specs.Cycles.{Leads}
use Rattle.net_check.specs.Retimed.{Retimed}
use Rattle.kernel_front.specs.Answers.{Says, IsKernel}
use Rattle.kernel_front.specs.declared.reading.Kernel.{Kernel}
use Rattle.kernel_front.specs.declared.refusal.KernelRefusal.{KernelRefusal}
use Rattle.kernel_front.specs.declared.refusal.KernelRefusal.TheVariants as refusal
use Rattle.buffer_place.specs.declared.timing.Timing.{Timing}
use Rattle.buffer_place.specs.Chains.{walk_weight}
use Rattle.buffer_place.specs.Placing.{IsPlaced}
use Rattle.buffer_place.specs.Timings.{IsTiming}
use Rattle.queue_marks.specs.Marked.{marked, HasMark}
use Rattle.kernel_compile.specs.declared.compiling.Compiled.{Compiled}
use Rattle.kernel_compile.specs.Goods.{Good, RestsInTime}
use Rattle.kernel_compile.specs.Layers.{IsKernelNet}
use Rattle.kernel_compile.specs.Targets.{TargetsHaveQueues}

-- the net is good under every profile: it is the net of the kernel's graph, with the mark on its queues where that is asked for, and with the slots and delays
-- of the timing; the arrays that the kernel assigns to have queues, and no others
pub record IsCircuit (t : Timing) (forward : Bool) (k : Typed) (net : Net) : Type 0 where
  pub good : (p : Profile) → Good net k p
  pub plain : Net
  pub of_graph : IsKernelNet k plain
  pub placed : IsPlaced t (marked forward plain) net
  pub marks : HasMark forward net
  pub targets : TargetsHaveQueues k net

-- two circuits of a kernel with the same timing and the same marks are one net
abbrev pub CircuitsAreOne : Type 0
CircuitsAreOne = (t : Timing) (forward : Bool) (k : Typed) (m n : Net) → IsCircuit t forward k m → IsCircuit t forward k n → m ≡ n

-- where a timing has a depth, no walk along channels of delay 0 of a circuit weighs more
abbrev pub CircuitsAreWithinDepth : Type 0
CircuitsAreWithinDepth = (t : Timing) (forward : Bool) (k : Typed) (depth : ℕ) (net : Net) → IsTiming t → t.depth ≡ Some depth → IsCircuit t forward k net
    → (v u : ℕ) (cs : List ℕ) → Leads net v cs u → walk_weight net v cs ≤ depth

-- where a kernel ends, a circuit of it, with whatever other slots and delays it is checked, has firings to rest in which it ends as the kernel does
abbrev pub CircuitsRest : Type 0
CircuitsRest = (t : Timing) (forward : Bool) (k : Typed) (m n : Net) → Lawful k → IsCircuit t forward k m → Retimed m n
    → (p : Profile) (z : Numbers) (out : List (List ℤ)) (r : Option ℤ) (turns : ℕ) → AreFitting k.params k.arrays z → Ends k p z out r turns → RestsInTime n k z out r turns

-- the bytes spell and type a program, the kernel is the tree without calls that it becomes, with so many nodes, and the net is its circuit
pub record IsCompiled (bytes : List ℕ) (t : Timing) (forward : Bool) (c : Compiled) : Type 0 where
  pub kernel : IsKernel bytes (record { typed = c.typed; nodes = c.nodes })
  pub circuit : IsCircuit t forward c.typed c.net

-- what an answer says of the bytes: a refusal what it says of a reader, so want of memory says nothing
abbrev pub CompileSays : List ℕ → Timing → Bool → Result Compiled KernelRefusal → Type 0
CompileSays bytes t forward (Ok c) = IsCompiled bytes t forward c
CompileSays bytes t forward (Err e) = Says bytes (Err e)

-- the answer goes with a reader's: the same kernel, or the same refusal
abbrev pub GoesWith : Result Kernel KernelRefusal → Result Compiled KernelRefusal → Type 0
GoesWith (Ok kernel) (Ok c) = (c.typed ≡ kernel.typed) × (c.nodes ≡ kernel.nodes)
GoesWith (Err e) (Err d) = d ≡ e
GoesWith (Ok kernel) (Err d) = ⊥
GoesWith (Err e) (Ok c) = ⊥

-- whatever but want of memory says what holds of the bytes, the answer goes with it or is want of memory
abbrev pub AnswersAsRead : List ℕ → Result Compiled KernelRefusal → Type 0
AnswersAsRead bytes r = (read : Result Kernel KernelRefusal) → read ≢ Err refusal.Memory → Says bytes read → GoesWith read r ⊎ (r ≡ Err refusal.Memory)
