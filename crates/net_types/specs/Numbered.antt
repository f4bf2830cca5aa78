-- Nets whose units and channels can be numbered.
use Rattle.std.specs.Prelude.{length}
use Rattle.el_base.specs.Limits.{IsNumbered}
use Rattle.net_types.specs.declared.net.Net.{Net}

-- units and channels are fewer than 2 ^ 32 each, so that a number of 32 bits names each of them
pub record AreNumbered (net : Net) : Type 0 where
  pub units : IsNumbered (length net.units)
  pub chans : IsNumbered (length net.chans)
