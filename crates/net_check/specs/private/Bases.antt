-- Private: only contracts of this crate cite it. The rules that are tried first, which ask for no table of the channels at places.
use Rattle.net_types.specs.declared.net.Net.{Net}
use Rattle.net_types.specs.Numbered.{AreNumbered}
use Rattle.net_types.specs.Rules.{KeepsC1, KeepsC2}
use Rattle.net_check.specs.Headers.{KeepsC8}
use Rattle.net_check.specs.Shapes.{KeepsC7}
use Rattle.net_check.specs.Sizes.{KeepsC3}

pub record KeepsBase (net : Net) : Type 0 where
  pub numbered : AreNumbered net
  pub c8 : KeepsC8 net
  pub c7 : KeepsC7 net
  pub c1 : KeepsC1 net
  pub c2 : KeepsC2 net
  pub c3 : KeepsC3 net
