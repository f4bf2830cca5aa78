-- Private: only contracts of this crate cite it. A checked net with its tables.
use Rattle.net_check.specs.declared.wires.Side.TheVariants.{In, Out}
use Rattle.net_check.specs.declared.checked.Checked.TheInside.{Inside}
use Rattle.net_check.specs.Checks.{IsChecked}
use Rattle.net_check.specs.private.Pinned.{ArePins}
use Rattle.net_check.specs.private.Steers.{IsTableOf}

pub record IsTabled (c : Inside) : Type 0 where
  pub ins : IsTableOf In c.net c.into
  pub outs : IsTableOf Out c.net c.out_of
  pub pins : ArePins c.pins.items c.net.chans
  pub checked : IsChecked c.net
