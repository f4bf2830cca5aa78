-- What a lent list ends as.
use Rattle.std.specs.Prelude.{List, length}
use Rattle.std.specs.Borrow.{Lends, MutBor, Fml, RattleType, Array}
use Rattle.std.specs.List.{refill}
use Rattle.el_base.specs.contracts.list.List.{the_row}

-- the list ends with the items that were left behind the slice, which keeps its length
abbrev pub LendsItems : (T : RattleType) → MutBor (List T.Denot) → MutBor (List T.Denot) → Fml
LendsItems T l r = Lends (the_row T) (Array T 0) l r (refill (length l.now) l.now)
