-- The headers of both kinds of graphs.
pub use Rattle.el_base.specs.Headers.{Header}
use Rattle.ir.specs.Graphs.{Graph}
use Rattle.ir.specs.Variables.{VarGraph}

abbrev pub graph_header : Graph → Header
graph_header g = record { name = g.name; scalars = g.scalars; arrays = g.arrays; result = g.result }

abbrev pub var_graph_header : VarGraph → Header
var_graph_header g = record { name = g.name; scalars = g.scalars; arrays = g.arrays; result = g.result }
