-- Private: only contracts of this crate cite it. Tables that show rule C1.
use Rattle.net_types.specs.declared.net.Net.{Net}
use Rattle.net_types.specs.Rules.{KeepsC1}
use Rattle.net_check.specs.declared.wires.Side.{Side}
use Rattle.net_check.specs.declared.wires.Side.TheVariants.{In, Out}
use Rattle.net_check.specs.declared.wires.Wires.{Wires}
use Rattle.net_check.specs.private.Joins.{AreJoined}
use Rattle.net_check.specs.private.Steers.{IsTableOf}

-- the table of a side whose places have one channel each
pub record IsJoinTable (side : Side) (net : Net) (w : Wires) : Type 0 where
  pub table : IsTableOf side net w
  pub joined : AreJoined side net

-- the tables of both sides of a net that keeps rule C1
pub record AreJoinTables (net : Net) (t : Wires × Wires) : Type 0 where
  pub ins : IsTableOf In net t.0
  pub outs : IsTableOf Out net t.1
  pub kept : KeepsC1 net
