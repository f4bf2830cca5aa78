-- Rule C7: the numbers of inputs and outputs, and the shape of queues.
use Rattle.std.specs.Prelude.{ℕ, ◌<◌, ◌≤◌}
use Rattle.std.specs.List.{All}
use Rattle.el_base.specs.Limits.{max_ways}
use Rattle.net_types.specs.declared.net.Net.{Net}
use Rattle.net_types.specs.declared.net.Unit.{Unit as Kind}
use Rattle.net_types.specs.declared.net.Unit.TheVariants.{Entry, Param, Const, Op1, Op2, Select, Fork, Mux, Cmerge, Branch, Sink, Read, Lsq, Exit}
use Rattle.net_types.specs.Queues.{IsQueueShape}
use Rattle.net_check.specs.declared.refusal.At.{At}
use Rattle.net_check.specs.declared.refusal.At.TheVariants as «at»
use Rattle.net_check.specs.Lowest.{IsLowest, UnitLacks}

-- outputs of a fork, and inputs of a mux or a control merge, are 1 and more in number, up to the most ways
pub record IsCount (n : ℕ) : Type 0 where
  pub some : 0 < n
  pub most : n ≤ max_ways

abbrev pub HasShape : Kind → Type 0
HasShape Entry = Unit {0}
HasShape (Param j) = Unit {0}
HasShape (Const w n) = Unit {0}
HasShape (Op1 op) = Unit {0}
HasShape (Op2 op) = Unit {0}
HasShape (Select w) = Unit {0}
HasShape (Fork w n) = IsCount n
HasShape (Mux w n) = IsCount n
HasShape (Cmerge n) = IsCount n
HasShape (Branch w) = Unit {0}
HasShape (Sink w) = Unit {0}
HasShape (Read a) = Unit {0}
HasShape (Lsq a d ps gs f) = IsQueueShape d ps gs
HasShape Exit = Unit {0}

-- C7: each unit has its shape
pub record KeepsC7 (net : Net) : Type 0 where
  pub units : All HasShape net.units

-- the culprit: the lowest unit without it
abbrev pub CulpritC7 : Net → At → Type 0
CulpritC7 net (at.Unit u) = IsLowest (UnitLacks net HasShape) u
CulpritC7 net (at.Chan c) = ⊥
CulpritC7 net at.Net = ⊥
