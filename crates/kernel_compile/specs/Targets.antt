-- Which arrays of a kernel have a queue in its circuit.
use Rattle.std.specs.Prelude.{◌≡◌, ◌↔◌, ℕ, Bool, List}
use Rattle.c_ast.specs.declared.typed.Typed.{Typed}
use Rattle.kernel_graph.specs.Targets.{IsAssignedTo}
use Rattle.net_types.specs.declared.net.Net.{Net}
use Rattle.net_types.specs.declared.net.Port.{Port}
use Rattle.net_types.specs.declared.net.Unit.TheVariants.{Lsq}
use Rattle.net_types.specs.Nets.{kind_of}

-- some unit of the net is a queue of the array
pub record HasQueue (net : Net) (a : ℕ) : Type 0 where
  pub unit : ℕ
  pub depth : ℕ
  pub ports : List Port
  pub groups : List (List ℕ)
  pub mark : Bool
  pub is : kind_of net unit ≡ Lsq a depth ports groups mark

-- the arrays that have a queue are those that the kernel assigns to: an array that is no target of an assignment has none
abbrev pub TargetsHaveQueues : Typed → Net → Type 0
TargetsHaveQueues k net = (a : ℕ) → HasQueue net a ↔ IsAssignedTo k a
