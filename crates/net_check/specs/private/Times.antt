-- Private: only contracts of this crate cite it. Slots and delays of channels while they are changed.
use Rattle.std.specs.Prelude.{Some, List, map, get_or, slice_set}
use Rattle.net_types.specs.declared.net.Chan.{Chan}
use Rattle.net_types.specs.declared.net.Net.{Net}
use Rattle.net_types.specs.Nets.{nowhere}
use Rattle.net_types.specs.Numbered.{AreNumbered}
use Rattle.net_types.specs.Rules.{KeepsC1, KeepsC2}
use Rattle.net_check.specs.declared.retiming.Change.{Change}
use Rattle.net_check.specs.Headers.{KeepsC8}
use Rattle.net_check.specs.Shapes.{KeepsC7}
use Rattle.net_check.specs.Controls.{KeepsC5}
use Rattle.net_check.specs.Ends.{KeepsC6}
use Rattle.net_check.specs.Retimed.{changed}

-- the slots and the delay that the channel of a change has
abbrev pub time_before : List Chan → Change → Change
time_before cs x = record { chan = x.chan; slots = (get_or cs x.chan nowhere).slots; delay = (get_or cs x.chan nowhere).delay }

abbrev pub times_before : List Chan → List Change → List Change
times_before cs xs = map (time_before cs) xs

-- the channels after one change
abbrev pub timed : Change → List Chan → List Chan
timed x cs = slice_set cs x.chan (changed (Some x) (get_or cs x.chan nowhere))

-- the rules that read no slots and no delays are kept
pub record KeepsOthers (net : Net) : Type 0 where
  pub numbered : AreNumbered net
  pub c1 : KeepsC1 net
  pub c2 : KeepsC2 net
  pub c5 : KeepsC5 net
  pub c6 : KeepsC6 net
  pub c7 : KeepsC7 net
  pub c8 : KeepsC8 net
