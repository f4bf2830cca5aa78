use Rattle.std.proofs.Common.{ℕ, ◌<◌, ◌≡◌}
use Rattle.std.specs.List.{All, Contains}
use Rattle.net_worker.specs.ChannelEnds.{AreChannels}
use Rattle.net_worker.specs.Places.{has_end, numbers_where}
use Rattle.net_worker.specs.Workers.{IsInto, IsOutOf}
use Rattle.net_worker.proofs.making.channels_around.Given as goal

abbrev pub invariant-loop-at : goal.invariant-loop-at
invariant-loop-at l = record {
  outs : (c : ℕ) → c < l.at → IsOutOf l.tables l.number c → Contains l.outs.items c;
  outs_only : All (IsOutOf l.tables l.number) l.outs.items;
  outs_ascend : AreChannels l.at l.outs.items;
  ins : (c : ℕ) → c < l.at → IsInto l.tables l.number c → Contains l.ins.items c;
  ins_only : All (IsInto l.tables l.number) l.ins.items;
  ins_ascend : AreChannels l.at l.ins.items;
  all : l.all.items ≡ numbers_where (has_end l.tables.net.now l.tables.owners l.number) l.at;
}
