-- The rules that every built net keeps, and what is known of it.
use Rattle.std.specs.Prelude.{◌≡◌, ◌≢◌, ℕ, List}
use Rattle.ir.specs.declared.groups.Groups.{Groups}
use Rattle.ir.specs.Graphs.{Graph}
use Rattle.ir.specs.Headers.{graph_header}
use Rattle.ir.specs.Sample.{sample_graph, sample_groups}
use Rattle.net_types.specs.declared.net.Net.{Net}
use Rattle.net_types.specs.Headers.{net_header}
use Rattle.net_types.specs.Rules.{KeepsC1, KeepsC2}
use Rattle.net_check.specs.Controls.{KeepsC5}
use Rattle.net_check.specs.Ends.{KeepsC6}
use Rattle.net_check.specs.Shapes.{KeepsC7}
use Rattle.net_check.specs.Headers.{KeepsC8}
use Rattle.circuit_build.specs.Asks.{IsAsked}
use Rattle.circuit_build.specs.Built.{built}
use Rattle.circuit_build.specs.Counted.{ArraysServed}
use Rattle.circuit_build.specs.Laws.{OneSlot}
use Rattle.circuit_build.specs.Sizes.{IsSmallNet}

-- all rules but those of slots and delays
pub record KeepsRules (net : Net) : Type 0 where
  pub c1 : KeepsC1 net
  pub c2 : KeepsC2 net
  pub c5 : KeepsC5 net
  pub c6 : KeepsC6 net
  pub c7 : KeepsC7 net
  pub c8 : KeepsC8 net

abbrev pub NetsKeepRules : Type 0
NetsKeepRules = (g : Graph) (gs : Groups) → IsAsked g gs → KeepsRules (built g gs)

-- the net has the graph's header and one slot in each channel, keeps the rules, is small, and serves each array
pub record BuildShare (g : Graph) (gs : Groups) (net : Net) : Type 0 where
  pub header : net_header net ≡ graph_header g
  pub slots : OneSlot net
  pub rules : KeepsRules net
  pub small : IsSmallNet g net
  pub served : ArraysServed g gs net

-- so for every graph that is asked for
abbrev pub SharesIfAsked : Graph → Groups → Net → Type 0
SharesIfAsked g gs net = IsAsked g gs → BuildShare g gs net

-- the worked graph is such a one
abbrev pub SampleIsAsked : Type 0
SampleIsAsked = (name n a : List ℕ) → n ≢ a → IsAsked (sample_graph name n a) sample_groups
