-- What ends by channel are, once a `&mut` to one of them has ended.
use Rattle.std.specs.Prelude.{ℕ, Option, Some, set}
use Rattle.std.specs.Borrow.{LendsIf, Fml, RattleType, MutBor}
use Rattle.net_worker.specs.ChannelEnds.{EndsByChannel}
use Rattle.net_worker.specs.contracts.channel_ends.ChannelEnds.{the_row}

module _ (T : RattleType) (s : MutBor (EndsByChannel T.Denot)) where
  -- the channel has the last value behind r; at `None` all is as it was
  abbrev pub lends_end : ℕ → Option (MutBor T.Denot) → Fml
  lends_end c r = LendsIf (the_row T) T s r (λ w. record { items = set s.now.items c (Some w); chans = s.now.chans }) s.now
