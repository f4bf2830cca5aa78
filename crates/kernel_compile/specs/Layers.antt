-- The net of a kernel's graph, and that it computes the kernel with whatever slots and delays it is checked, with the mark on its queues or without.
use Rattle.std.specs.Prelude.{◌≡◌, Bool}
use Rattle.c_ast.specs.declared.typed.Typed.{Typed}
use Rattle.c_meaning.specs.declared.profile.Profile.{Profile}
use Rattle.c_meaning.specs.Lawful.{Lawful}
use Rattle.ir.specs.declared.groups.Groups.{Groups}
use Rattle.ir.specs.Accesses.{GroupsShare}
use Rattle.ir.specs.Graphs.{Graph}
use Rattle.net_types.specs.declared.net.Net.{Net}
use Rattle.net_check.specs.Retimed.{Retimed}
use Rattle.kernel_graph.specs.Composed.{IsGraphOf}
use Rattle.kernel_graph.specs.Shares.{GraphShare}
use Rattle.circuit_build.specs.Built.{built}
use Rattle.circuit_build.specs.Kept.{BuildShare}
use Rattle.circuit_build.specs.Follows.{FollowsVisits, CompletesVisits}
use Rattle.queue_marks.specs.Marked.{marked}
use Rattle.kernel_compile.specs.Goods.{Good}
use Rattle.kernel_compile.specs.Targets.{TargetsHaveQueues}

-- the net that is built of the kernel's graph and of the graph's accesses: it follows the visits of the graph, and completes with them; the arrays that the
-- kernel assigns to have queues, and no others
pub record IsKernelNet (k : Typed) (net : Net) : Type 0 where
  pub graph : Graph
  pub groups : Groups
  pub made : IsGraphOf k graph
  pub of_kernel : GraphShare k graph
  pub accesses : GroupsShare graph groups
  pub is : net ≡ built graph groups
  pub laid : BuildShare graph groups net
  pub follows : FollowsVisits graph net
  pub completes : CompletesVisits graph net
  pub targets : TargetsHaveQueues k net

-- so each checked net that is equal to it but for slots and delays is good, under every profile, and so is each that is equal to it with the marks
abbrev pub KernelNetsAreGood : Type 0
KernelNetsAreGood = (k : Typed) (net net2 : Net) (forward : Bool) (p : Profile) → Lawful k → IsKernelNet k net → Retimed (marked forward net) net2 → Good net2 k p
