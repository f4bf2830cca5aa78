-- The net of a kernel's graph with the mark on its queues, or as it is.
use Rattle.std.proofs.Common.{◌≡◌, ℕ, Bool, true, false, Option, List, sym, subst, refl}
use Rattle.std.proofs.lemmas.List.{length-map}
use Rattle.el_base.specs.Limits.{IsNumbered}
use Rattle.c_ast.specs.declared.typed.Typed.{Typed}
use Rattle.ir.specs.Graphs.{Graph}
use Rattle.ir.specs.Headers.{graph_header}
use Rattle.ir.specs.Visits.{Visit}
use Rattle.net_types.specs.declared.net.Net.{Net}
use Rattle.net_types.specs.declared.firing.Inputs.{Inputs}
use Rattle.net_types.specs.Headers.{net_header}
use Rattle.net_types.specs.Inputs.{InputsFit}
use Rattle.net_types.specs.Numbered.{AreNumbered}
use Rattle.net_core.specs.Laws.{SpentIsAtRest}
use Rattle.kernel_graph.specs.Shares.{GraphShare}
use Rattle.circuit_build.specs.Follows.{Follows, Completes, FollowsVisits, CompletesVisits}
use Rattle.circuit_build.specs.Kept.{KeepsRules}
use Rattle.circuit_build.specs.Laws.{OneSlot}
use Rattle.queue_marks.specs.Laws.{MarksAllowRuns, MarksEndAlike, MarksKeepUntimed}
use Rattle.queue_marks.specs.Marked.{with_mark, forwarding, marked, with_marks}
use Rattle.kernel_compile.specs.Layers.{IsKernelNet}

-- ---- rules and sizes

pub rules_marked : MarksKeepUntimed → (forward : Bool) (net : Net) → KeepsRules net → KeepsRules (marked forward net)
rules_marked keeps true net h = let m = keeps net in record { c1 = m.c1 h.c1; c2 = m.c2 h.c2; c5 = m.c5 h.c5; c6 = m.c6 h.c6; c7 = m.c7 h.c7; c8 = m.c8 h.c8 }
rules_marked keeps false net h = h

pub numbered_marked : (forward : Bool) (net : Net) → AreNumbered net → AreNumbered (marked forward net)
numbered_marked true net h = record { units = subst IsNumbered (sym (length-map net.units with_mark)) h.units; chans = h.chans }
numbered_marked false net h = h

pub chans_marked : (forward : Bool) (net : Net) → (marked forward net).chans ≡ net.chans
chans_marked true net = refl
chans_marked false net = refl

-- ---- runs

-- what the runs of a kernel's net rest on
pub record Runner (k : Typed) (net : Net) : Type 0 where
  pub graph : Graph
  pub of_kernel : GraphShare k graph
  pub header : net_header net ≡ graph_header graph
  pub slots : OneSlot net
  pub follows : FollowsVisits graph net
  pub completes : CompletesVisits graph net

module _ (runs : MarksAllowRuns) (ends : MarksEndAlike) (spent : SpentIsAtRest) (net : Net) (g : Graph) where
  fits_plain : (i : Inputs) → InputsFit (forwarding net) i → InputsFit net i
  fits_plain i h = record { scalars = h.scalars; arrays = h.arrays }

  follows_marked : (i : Inputs) (vs : List Visit) → Follows net g i vs → Follows (forwarding net) g i vs
  follows_marked i vs w = record { firings = w.firings; to = with_marks net w.to; run = runs net i w.firings w.to w.run; some = w.some; few = w.few }

  completes_marked : (i : Inputs) (vs : List Visit) (r : Option ℕ) (arrays : List (List ℕ)) → Completes net g i vs r arrays → Completes (forwarding net) g i vs r arrays
  unfolding follows_marked
  completes_marked i vs r arrays w =
      let to = w.follows.to in
      let alike = ends net to in
      let all = alike.spent w.spent in
      record {
        follows = follows_marked i vs w.follows;
        rests = spent (forwarding net) (with_marks net to) all;
        spent = all;
        exited = alike.exited r w.exited;
        arrays_are = w.arrays_are;
        clean = w.clean;
      }

pub runner_marked : MarksAllowRuns → MarksEndAlike → SpentIsAtRest → (forward : Bool) (k : Typed) (net : Net) → IsKernelNet k net → Runner k (marked forward net)
runner_marked runs ends spent true k net is =
    let g = is.graph in
    record {
      graph = g;
      of_kernel = is.of_kernel;
      header = is.laid.header;
      slots = is.laid.slots;
      follows = λ i vs fit are. follows_marked runs ends spent net g i vs (is.follows i vs (fits_plain runs ends spent net g i fit) are);
      completes = λ i rest r arrays fit done. completes_marked runs ends spent net g i _ r arrays (is.completes i rest r arrays (fits_plain runs ends spent net g i fit) done);
    }
runner_marked runs ends spent false k net is =
    record { graph = is.graph; of_kernel = is.of_kernel; header = is.laid.header; slots = is.laid.slots; follows = is.follows; completes = is.completes }
