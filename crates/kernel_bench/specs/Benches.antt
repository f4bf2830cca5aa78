-- What a bench tells of the circuit of its kernel and of the inputs that a number gives.
use Rattle.std.specs.Prelude.{◌≡◌, ℕ, List, length, false}
use Rattle.std.specs.List.{sum}
use Rattle.buffer_place.specs.Timings.{usual}
use Rattle.net_types.specs.declared.firing.Firing.{Firing}
use Rattle.net_types.specs.declared.firing.Inputs.{Inputs}
use Rattle.net_types.specs.declared.net.Net.{Net}
use Rattle.net_core.specs.Fire.{State}
use Rattle.net_core.specs.States.{elements_at}
use Rattle.net_runs.specs.Given.{Bytes}
use Rattle.net_runs.specs.Runs.{IsOneRest, AreCycles}
use Rattle.kernel_front.specs.Answers.{IsKernel}
use Rattle.kernel_runs.specs.declared.options.CircuitOptions.{CircuitOptions}
use Rattle.kernel_runs.specs.Circuits.{OfCircuit}
use Rattle.kernel_bench.specs.Histogram.{bench_kernel, hist}
use Rattle.kernel_bench.specs.Drawn.{bench_inputs}
use Rattle.kernel_bench.specs.Summaries.{summary_text}
use Rattle.kernel_bench.specs.Worked.{CountsTo}

-- the usual timing, and queues without the mark
abbrev pub usual_circuit : CircuitOptions
usual_circuit = record { timing = usual; forward = false }

-- The text tells the number of firings to the one state at rest, that of the cycles in which they are made, and the sum of the elements of array 2, which is h.
-- That sum is 524800 whatever the number, so each element is its own number.
pub record TellsBench (net : Net) (inputs : Inputs) (text : Bytes) : Type 0 where
  pub firings : List Firing
  pub state : State
  pub one : IsOneRest net inputs firings state
  pub cycles : List (List Firing)
  pub are : AreCycles net inputs firings state cycles
  pub whole : text ≡ summary_text (length firings) (length cycles) (sum (elements_at state 2))
  pub total : sum (elements_at state 2) ≡ 524800

-- so it is of the circuit of the kernel, with the usual timing, and of the inputs that the number gives
abbrev pub Benches : ℕ → Bytes → Type 0
Benches number text = OfCircuit bench_kernel usual_circuit (λ k net. TellsBench net (bench_inputs number) text)

-- the bytes are a kernel: this typed tree, of 23 nodes
abbrev pub IsWorkedKernel : Type 0
IsWorkedKernel = IsKernel bench_kernel (record { typed = hist; nodes = 23 })

-- and it ends on the inputs of each number
abbrev pub WorkedKernelEnds : Type 0
WorkedKernelEnds = (number : ℕ) → CountsTo number
