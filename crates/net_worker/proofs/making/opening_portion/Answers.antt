use Rattle.std.proofs.Common.{subst, sym, length}
use Rattle.net_worker.specs.ChannelEnds.{AreChannels}
use Rattle.net_worker.proofs.Holdings.{chans_ascend, units_ascend}
use Rattle.net_worker.proofs.making.opening_portion.Goals as goal

pub new-requires-clause-units : goal.new-requires-clause-units
new-requires-clause-units c = subst (AreChannels (length c.args.tables.now.net.now.units)) (sym c.in_ok-units.ensures) (units_ascend c.args.tables.now c.args.number)

pub new-requires-clause-chans : goal.new-requires-clause-chans
new-requires-clause-chans c = subst (AreChannels (length c.args.tables.now.net.now.chans)) (sym c.requires.chans) (chans_ascend c.args.tables.now c.args.number)
