use Rattle.std.proofs.Common.{◌∙◌, ap}
use Rattle.net_worker.specs.ChannelEnds.{spread}
use Rattle.net_worker.proofs.EndPlaces.{spread_new}
use Rattle.net_worker.proofs.channel_ends.ChannelEnds.new.Goals as goal

pub returns-clause-items : goal.returns-clause-items
returns-clause-items g c = ap (spread c.args.count c.in_ok-chans.chans.items) c.in_ok-ends.ensures ∙ spread_new c.args.count c.in_ok-chans.chans.items _
