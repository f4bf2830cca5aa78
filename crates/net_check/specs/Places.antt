-- The culprits of rules C1 and C2.
use Rattle.std.specs.Prelude.{◌≡◌, ℕ, ◌<◌, IsTrue, length, map}
use Rattle.net_types.specs.declared.net.Chan.{Chan}
use Rattle.net_types.specs.declared.net.Net.{Net}
use Rattle.net_types.specs.Rules.{in_places, out_places, times_in, width_fits, IsOfWidth}
use Rattle.net_check.specs.declared.refusal.At.{At}
use Rattle.net_check.specs.declared.refusal.At.TheVariants as «at»
use Rattle.net_check.specs.Lowest.{IsLowest, UnitLacks, ChanLacks}

-- both ends of the channel are places
pub record HasEnds (net : Net) (c : Chan) : Type 0 where
  pub from : 0 < times_in (out_places net) c.from.unit c.from.place
  pub to : 0 < times_in (in_places net) c.to.unit c.to.place

-- each place of the unit u has exactly one channel
pub record IsJoined (net : Net) (u : ℕ) : Type 0 where
  pub ins : (p : ℕ) → 0 < times_in (in_places net) u p → times_in (map (λ (c : Chan). c.to) net.chans) u p ≡ 1
  pub outs : (p : ℕ) → 0 < times_in (out_places net) u p → times_in (map (λ (c : Chan). c.from) net.chans) u p ≡ 1

pub record IsUnjoined (net : Net) (u : ℕ) : Type 0 where
  pub within : u < length net.units
  pub lacks : IsJoined net u → ⊥

-- the culprit of C1: the lowest channel with an end that is no place, else the lowest unit with a place without exactly one channel
abbrev pub CulpritC1 : Net → At → Type 0
CulpritC1 net (at.Chan c) = IsLowest (ChanLacks net (HasEnds net)) c
CulpritC1 net (at.Unit u) = ((c : ℕ) → ChanLacks net (HasEnds net) c → ⊥) × IsLowest (IsUnjoined net) u
CulpritC1 net at.Net = ⊥

-- the culprit of C2: the lowest unit of another width or with a constant that has no such width, else the lowest channel
-- of another width than one of its places
abbrev pub CulpritC2 : Net → At → Type 0
CulpritC2 net (at.Unit u) = IsLowest (UnitLacks net (λ k. IsTrue (width_fits k))) u
CulpritC2 net (at.Chan c) = ((u : ℕ) → UnitLacks net (λ k. IsTrue (width_fits k)) u → ⊥) × IsLowest (ChanLacks net (IsOfWidth net)) c
CulpritC2 net at.Net = ⊥
