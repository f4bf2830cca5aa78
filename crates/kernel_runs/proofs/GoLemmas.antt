-- From the refusals of a kernel's reader and of a run of its circuit to what is answered for both texts.
use Rattle.std.proofs.Common.{◌≡◌, ◌≢◌, sym, subst}
use Rattle.std.specs.Prelude.{Result, Ok, Err, IfErr, IsErrAnd}
use Rattle.net_types.specs.declared.net.Net.{Net}
use Rattle.kernel_front.specs.declared.reading.Kernel.{Kernel}
use Rattle.kernel_front.specs.declared.refusal.KernelRefusal.{KernelRefusal}
use Rattle.kernel_front.specs.declared.refusal.KernelRefusal.TheVariants as front
use Rattle.kernel_front.specs.Answers.{Says, IsKernel}
use Rattle.kernel_compile.specs.Compiling.{IsCircuit}
use Rattle.net_runs.specs.declared.options.RunOptions.{RunOptions}
use Rattle.net_runs.specs.declared.refusal.RunRefusal.{RunRefusal}
use Rattle.net_runs.specs.declared.refusal.RunRefusal.TheVariants as run
use Rattle.net_runs.specs.Given.{Bytes}
use Rattle.net_runs.specs.Runs.{Runs}
use Rattle.kernel_runs.specs.declared.options.CircuitOptions.{CircuitOptions}
use Rattle.kernel_runs.specs.Goes.{Goes}
use Rattle.kernel_runs.specs.Refusals.{of_kernel, of_run}

-- what holds of the error that one is made of holds of it
pub converted : {A E : Type 0} (Holds : E → Type 0) (r : Result A E) (e : E) → IsErrAnd r (λ x. x ≡ e) → Holds e → IfErr r Holds
converted Holds (Ok x) e is holds = absurd is
converted Holds (Err x) e is holds = subst Holds (sym is) holds

pub kernel_goes : (bytes inputs : Bytes) (c : CircuitOptions) (o : RunOptions) (r : KernelRefusal) → Says bytes (Err r) → Goes bytes inputs c o (Err (of_kernel r))
kernel_goes bytes inputs c o (front.Lex r) is = is
kernel_goes bytes inputs c o (front.Parse r) is = is
kernel_goes bytes inputs c o (front.Types r) is = is
kernel_goes bytes inputs c o (front.Inline r) is = is
kernel_goes bytes inputs c o front.Memory is = tt

module _ (bytes inputs : Bytes) (c : CircuitOptions) (o : RunOptions) (kernel : Kernel) (net : Net) (read : IsKernel bytes kernel)
    (circuit : IsCircuit c.timing c.forward kernel.typed net) where
  pub run_goes : (r : RunRefusal) → r ≢ run.Stuck → Runs net inputs o (Err r) → Goes bytes inputs c o (Err (of_run r))
  run_goes (run.Inputs r) moves is = record { kernel = kernel; read = read; net = net; circuit = circuit; holds = record { moves = moves; cause = λ e. absurd (cc); runs = is } }
  run_goes (run.Schedule r) moves is = absurd is
  run_goes (run.NotEnabled i) moves is = absurd is
  run_goes (run.Limit n) moves is = record { kernel = kernel; read = read; net = net; circuit = circuit; holds = record { moves = moves; cause = λ e. absurd (cc); runs = is } }
  run_goes run.Stuck moves is = record { kernel = kernel; read = read; net = net; circuit = circuit; holds = record { moves = moves; cause = λ e. absurd (cc); runs = is } }
  run_goes (run.Stray array name) moves is = record { kernel = kernel; read = read; net = net; circuit = circuit; holds = record { moves = moves; cause = λ e. absurd (cc); runs = is } }
  run_goes run.Memory moves is = tt
