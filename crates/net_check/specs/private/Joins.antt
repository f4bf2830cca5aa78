-- Private: only contracts of this crate cite it. Rule C1 on one side of units: the channels that end at each place.
use Rattle.std.specs.Prelude.{◌≡◌, ℕ, ◌<◌, ◌≤◌, nat_lt, Bool, true, false, cond, Option, Some, None, List, length}
use Rattle.std.specs.List.{count_by}
use Rattle.std.specs.declared.cmp.Ordering.{Ordering}
use Rattle.std.specs.Ordering.{nat_cmp, ordering_then}
use Rattle.std.specs.BTreeSet.{BTreeSet, contains}
use Rattle.net_types.specs.declared.net.Place.{Place}
use Rattle.net_types.specs.declared.net.Chan.{Chan}
use Rattle.net_types.specs.declared.net.Net.{Net}
use Rattle.net_types.specs.declared.net.Unit.{Unit as Kind}
use Rattle.net_types.specs.Nets.{is_at}
use Rattle.net_types.specs.Tables.{Spot, ins, outs}
use Rattle.net_types.specs.Rules.{in_places, out_places, times_in}
use Rattle.net_check.specs.declared.wires.Side.{Side}
use Rattle.net_check.specs.declared.wires.Side.TheVariants.{In, Out}
use Rattle.net_check.specs.private.Wires.{bound, end_of}

-- how many of the channels have their end at the place p of the unit u
abbrev pub ended : Side → List Chan → ℕ → ℕ → ℕ
ended side cs u p = count_by (λ (c : Chan). is_at (end_of side c) u p) cs

-- all places of the side
abbrev pub side_places : Side → Net → List Place
side_places In net = in_places net
side_places Out net = out_places net

-- one where the unit u has the place p, else none
abbrev pub placed : Side → Net → ℕ → ℕ → ℕ
placed side net u p = times_in (side_places side net) u p

-- the row of the table of places
abbrev pub row : Side → Net → Kind → List Spot
row In net k = ins net false k
row Out net k = outs net false k

-- each place of the side has one channel, and nothing else has one
pub record AreJoined (side : Side) (net : Net) : Type 0 where
  pub each : (u p : ℕ) → ended side net.chans u p ≡ placed side net u p

-- pairs in order: by the first, then by the second
abbrev pub pair_cmp : ℕ × ℕ → ℕ × ℕ → Ordering
pair_cmp x y = ordering_then (nat_cmp x.0 y.0) (nat_cmp x.1 y.1)

-- the set has the place p of the unit u
abbrev pub knows : BTreeSet (ℕ × ℕ) → ℕ → ℕ → Bool
knows known u p = contains pair_cmp known (u, p)

-- the lowest unit with a place at which two channels end
abbrev pub IsTwice : Side → List Chan → Option ℕ → Type 0
IsTwice side cs None = (u p : ℕ) → ended side cs u p ≤ 1
IsTwice side cs (Some t) = ((p : ℕ) × (2 ≤ ended side cs t p)) × ((u p : ℕ) → u < t → ended side cs u p ≤ 1)

-- the set has the ends of the channels, and that unit is this one
pub record IsGathered (side : Side) (cs : List Chan) (known : BTreeSet (ℕ × ℕ)) (twice : Option ℕ) : Type 0 where
  pub has : (u p : ℕ) → knows known u p ≡ nat_lt 0 (ended side cs u p)
  pub two : IsTwice side cs twice

-- the places of the unit u with a number below n are in the set
pub record AreKnown (side : Side) (net : Net) (known : BTreeSet (ℕ × ℕ)) (u n : ℕ) : Type 0 where
  pub each : (p : ℕ) → p < n → 0 < placed side net u p → knows known u p ≡ true

-- all places of the unit u are in the set
pub record IsKnown (side : Side) (net : Net) (known : BTreeSet (ℕ × ℕ)) (u : ℕ) : Type 0 where
  pub each : (p : ℕ) → 0 < placed side net u p → knows known u p ≡ true

-- the places of the unit u, whose kind this is, are in the sets of its side
pub record AreKnownOn (net : Net) (ins outs : BTreeSet (ℕ × ℕ)) (u : ℕ) (k : Kind) : Type 0 where
  pub into : AreKnown In net ins u (bound In k)
  pub out_of : AreKnown Out net outs u (bound Out k)

-- the inputs and the outputs of the unit u are in these sets
pub record IsKnownUnit (net : Net) (ins outs : BTreeSet (ℕ × ℕ)) (u : ℕ) : Type 0 where
  pub into : IsKnown In net ins u
  pub out_of : IsKnown Out net outs u

-- the lowest unit with a place that is not in the set of its side
abbrev pub IsMissing : Net → BTreeSet (ℕ × ℕ) → BTreeSet (ℕ × ℕ) → Option ℕ → Type 0
IsMissing net ins outs None = (v : ℕ) → v < length net.units → IsKnownUnit net ins outs v
IsMissing net ins outs (Some u) = (u < length net.units) × (IsKnownUnit net ins outs u → ⊥) × ((v : ℕ) → v < u → IsKnownUnit net ins outs v)

-- the lower of two numbers, where there are
abbrev pub lowest : Option ℕ → Option ℕ → Option ℕ
lowest None b = b
lowest (Some a) None = Some a
lowest (Some a) (Some b) = cond (nat_lt b a) (Some b) (Some a)

-- no two channels end at one place of the side
pub record AreAlone (side : Side) (cs : List Chan) : Type 0 where
  pub each : (u p : ℕ) → ended side cs u p ≤ 1

-- the places of the unit u with a number below n have a channel
pub record AreMetBelow (side : Side) (net : Net) (u n : ℕ) : Type 0 where
  pub each : (p : ℕ) → p < n → 0 < placed side net u p → 0 < ended side net.chans u p

-- each place of the side has a channel
pub record AreMet (side : Side) (net : Net) : Type 0 where
  pub each : (u p : ℕ) → 0 < placed side net u p → 0 < ended side net.chans u p
