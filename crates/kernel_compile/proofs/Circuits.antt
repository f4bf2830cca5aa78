-- From a kernel's graph to its net, and from the net to the circuit.
use Rattle.std.proofs.Common.{◌≡◌, ◌+◌, ◌≤◌, Bool, List, length, sym, ap, subst, ◌∙◌, arith}
use Rattle.std.specs.Prelude.{Result, Ok, Err, IfOk}
use Rattle.el_base.specs.declared.memory.Memory.{Memory}
use Rattle.el_base.specs.Limits.{max_nodes, max_sum_of_slots}
use Rattle.c_ast.specs.declared.typed.Typed.{Typed}
use Rattle.c_ast.specs.Nodes.{typed_nodes}
use Rattle.c_meaning.specs.Lawful.{Lawful}
use Rattle.ir.specs.declared.groups.Groups.{Groups}
use Rattle.ir.specs.Accesses.{GroupsShare}
use Rattle.ir.specs.Graphs.{Graph, IsGraph, size}
use Rattle.net_types.specs.declared.net.Chan.{Chan}
use Rattle.net_types.specs.declared.net.Net.{Net}
use Rattle.net_types.specs.Numbered.{AreNumbered}
use Rattle.net_check.specs.Checks.{IsChecked}
use Rattle.net_check.specs.Cycles.{KeepsC4}
use Rattle.net_check.specs.Laws.{AllRulesCheck, TimesBreakTwoRules}
use Rattle.net_check.specs.Sizes.{KeepsC3}
use Rattle.kernel_graph.specs.Composed.{IsGraphOf}
use Rattle.kernel_graph.specs.Shares.{GraphShare}
use Rattle.circuit_build.specs.Built.{built}
use Rattle.circuit_build.specs.Kept.{KeepsRules, SharesIfAsked}
use Rattle.circuit_build.specs.Follows.{FollowsIfAsked, CompletesIfAsked}
use Rattle.buffer_place.specs.declared.timing.Timing.{Timing}
use Rattle.buffer_place.specs.Placing.{IsPlaced}
use Rattle.queue_marks.specs.Laws.{MarksKeepUntimed, QueuesHaveMark}
use Rattle.queue_marks.specs.Marked.{marked}
use Rattle.kernel_compile.specs.Compiling.{IsCircuit}
use Rattle.kernel_compile.specs.Layers.{IsKernelNet, KernelNetsAreGood}
use Rattle.kernel_compile.proofs.Asked.{asked, parameters_few, chans_few}
use Rattle.kernel_compile.proofs.Checking.{numbered_too, placed_checked}
use Rattle.kernel_compile.proofs.Marking.{rules_marked, numbered_marked, chans_marked}
use Rattle.kernel_compile.proofs.Queues.{marks_asked}
use Rattle.kernel_compile.proofs.Targets.{targets_laid, targets_kept}

pub net_kept : (k : Typed) (g : Graph) (gs : Groups) (r : Result Net Memory) → Lawful k → IsGraphOf k g → GraphShare k g → GroupsShare g gs → IsGraph g
    → IfOk r (λ net. net ≡ built g gs) → IfOk r (SharesIfAsked g gs) → IfOk r (FollowsIfAsked g gs) → IfOk r (CompletesIfAsked g gs) → IfOk r (IsKernelNet k)
net_kept k g gs (Ok net) lawful made share groups graph is laid follows completes =
    let ask = asked k g lawful share gs graph groups in
    record {
      graph = g;
      groups = gs;
      made = made;
      of_kernel = share;
      accesses = groups;
      is = is;
      laid = laid ask;
      follows = follows ask;
      completes = completes ask;
      targets = targets_laid k g gs net share graph groups (laid ask);
    }
net_kept k g gs (Err e) lawful made share groups graph is laid follows completes = tt

module _ (k : Typed) (net : Net) (lawful : Lawful k) (few : typed_nodes k ≤ max_nodes) (is : IsKernelNet k net) where
  channels_few : length net.chans ≤ max_sum_of_slots
  channels_few =
      let g = is.graph in
      chans_few (typed_nodes k) (size g) (length g.scalars + length g.arrays) (length net.chans) few is.of_kernel.small.bounded (let a = parameters_few k g lawful is.of_kernel in omega arith) is.laid.small.chans

  net_numbered : AreNumbered net
  net_numbered = record { units = is.laid.small.units; chans = (let c = channels_few in omega arith) }

  -- with the marks, or as it is
  module _ (keeps : MarksKeepUntimed) (forward : Bool) (m : Net) (e : m ≡ marked forward net) where
    pub marked_few : length m.chans ≤ max_sum_of_slots
    marked_few =
        let same : length m.chans ≡ length net.chans = ap (λ (n : Net). length n.chans) e ∙ ap (λ (cs : List Chan). length cs) (chans_marked forward net) in
        let c = channels_few in
        omega arith

    pub marked_numbered : AreNumbered m
    marked_numbered = subst AreNumbered (sym e) (numbered_marked forward net net_numbered)

    pub marked_rules : KeepsRules m
    marked_rules = subst KeepsRules (sym e) (rules_marked keeps forward net is.laid.rules)

    module _ (all : AllRulesCheck) (times : TimesBreakTwoRules) (t : Timing) (net2 : Net) (placed : IsPlaced t m net2) (c3 : KeepsC3 net2) (c4 : KeepsC4 net2) where
      pub placed_numbered : AreNumbered net2
      placed_numbered = numbered_too m net2 placed.same marked_numbered

      pub circuit_checked : IsChecked net2
      circuit_checked = placed_checked all times m net2 marked_rules placed.same c3 c4 marked_numbered

      is_circuit : KernelNetsAreGood → QueuesHaveMark → IsCircuit t forward k net2
      is_circuit good have =
          let laid : IsPlaced t (marked forward net) net2 = subst (λ n. IsPlaced t n net2) e placed in
          record {
            good = λ p. good k net net2 forward p lawful is (record { same = laid.same; checked = circuit_checked });
            plain = net;
            of_graph = is;
            placed = laid;
            marks = marks_asked have forward is.graph is.groups net net2 is.accesses is.laid laid.same circuit_checked;
            targets = targets_kept forward k net net2 laid.same is.targets;
          }

      pub circuit_kept : (r : Result Net Memory) → KernelNetsAreGood → QueuesHaveMark → IfOk r (λ c. c ≡ net2) → IfOk r (IsCircuit t forward k)
      circuit_kept (Ok c) good have same = subst (IsCircuit t forward k) (sym same) (is_circuit good have)
      circuit_kept (Err e) good have same = tt
