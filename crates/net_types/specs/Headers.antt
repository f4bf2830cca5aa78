-- The header of a net.
pub use Rattle.el_base.specs.Headers.{Header}
use Rattle.net_types.specs.declared.net.Net.{Net}

abbrev pub net_header : Net → Header
net_header net = record { name = net.name; scalars = net.scalars; arrays = net.arrays; result = net.result }
