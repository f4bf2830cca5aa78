-- What is here stays, where units, channels and places stay.
use Rattle.std.proofs.Common.{◌≡◌, ℕ, ◌<◌, List, length, get_or, ap, ◌∙◌, sym, subst}
use Rattle.net_types.specs.declared.net.Net.{Net}
use Rattle.net_worker.specs.ChannelEnds.{StandsAt}
use Rattle.net_worker.specs.Portions.{PortionView, HasPins, IsUnitHere, IsOutHere, IsInHere, SameHere}
use Rattle.net_worker.specs.declared.places.Places.{Places}

pub here_same : (p q : PortionView) → q ≡ p → SameHere p q
here_same p q e = record { units = ap (λ (v : PortionView). v.units) e; chans = ap (λ (v : PortionView). v.chans) e; places = ap (λ (v : PortionView). v.places) e }

pub here_trans : (p q r : PortionView) → SameHere p q → SameHere q r → SameHere p r
here_trans p q r h k = record { units = k.units ∙ h.units; chans = k.chans ∙ h.chans; places = k.places ∙ h.places }

-- the places of units and channels, and a list of what is here
abbrev pub UnitIn : Places → List ℕ → ℕ → Type 0
UnitIn ps us u = (u < length ps.units.items) × StandsAt us u (get_or ps.units.items u 0)

abbrev pub OutIn : Places → List ℕ → ℕ → Type 0
OutIn ps cs c = (c < length ps.outs.items) × StandsAt cs c (get_or ps.outs.items c 0)

abbrev pub InIn : Places → List ℕ → ℕ → Type 0
InIn ps cs c = (c < length ps.ins.items) × StandsAt cs c (get_or ps.ins.items c 0)

pub unit_on : (p q : PortionView) (u : ℕ) → SameHere p q → IsUnitHere p u → IsUnitHere q u
unit_on p q u h k = subst (λ us. UnitIn q.places us u) (sym h.units) (subst (λ ps. UnitIn ps p.units u) (sym h.places) k)

pub out_on : (p q : PortionView) (c : ℕ) → SameHere p q → IsOutHere p c → IsOutHere q c
out_on p q c h k = subst (λ cs. OutIn q.places cs c) (sym h.chans) (subst (λ ps. OutIn ps p.chans c) (sym h.places) k)

pub in_on : (p q : PortionView) (c : ℕ) → SameHere p q → IsInHere p c → IsInHere q c
in_on p q c h k = subst (λ cs. InIn q.places cs c) (sym h.chans) (subst (λ ps. InIn ps p.chans c) (sym h.places) k)

pub pins_on : (net : Net) (p q : PortionView) (u : ℕ) → SameHere p q → HasPins net p u → HasPins net q u
pins_on net p q u h k = record {
  unit = unit_on p q u h k.unit;
  outs = λ c l e. out_on p q c h (k.outs c l e);
  ins = λ c l e. in_on p q c h (k.ins c l e);
}
