-- The parts of one firing, over lists of ends, by the channels of its moves.
use Rattle.std.specs.Prelude.{◌≡◌, ℕ, max, Bool, true, false, Option, None, List, [], ◌∷◌, length, get_or}
use Rattle.elastic_link.specs.declared.take_end.TakeEnd.{TakeEnd}
use Rattle.net_types.specs.declared.net.Net.{Net}
use Rattle.net_check.specs.declared.pins.Pins.{Pins}
use Rattle.net_core.specs.declared.plan.Taken.{Taken}
use Rattle.net_core.specs.declared.plan.Taken.TheVariants as taken
use Rattle.net_core.specs.Fire.{among}
use Rattle.net_core.specs.Plans.{laid_of}
use Rattle.net_worker.specs.Fires.{TakeStep}
use Rattle.net_worker.specs.Firings.{HoldsIfAny, IsPayable}
use Rattle.net_worker.specs.Offers.{held_stamp}
use Rattle.net_worker.specs.Workers.{held_by}
use Rattle.net_worker.specs.declared.crossing_parts.Offered.{Offered}

-- of each of these channels there is no end, or it holds a token
abbrev pub AllHoldOn : List (Option TakeEnd) → List ℕ → Type 0
AllHoldOn es [] = Unit {0}
AllHoldOn es (c ∷ cs) = HoldsIfAny (get_or es c None) × AllHoldOn es cs

-- of each of them there is no end, or its token may be taken and repaid with the stamp n
abbrev pub AllPayableOn : ℕ → List (Option TakeEnd) → List ℕ → Type 0
AllPayableOn n es [] = Unit {0}
AllPayableOn n es (c ∷ cs) = IsPayable n (get_or es c None) × AllPayableOn n es cs

-- the greatest stamp of the tokens that are held on these channels
abbrev pub greatest_on : List (Option TakeEnd) → List ℕ → ℕ
greatest_on es [] = 0
greatest_on es (c ∷ cs) = max (held_stamp (held_by (get_or es c None))) (greatest_on es cs)

-- the tokens of these channels are taken, where they come from other workers, and repaid with the stamp n
pub record AreTakenOn (n : ℕ) (cs : List ℕ) (es es' : List (Option TakeEnd)) : Type 0 where
  pub long : length es' ≡ length es
  pub each : (c : ℕ) → TakeStep (among c cs) n (get_or es c None) (get_or es' c None)

-- the channels whose heads a firing uses: of a fork the one at its one input, whether it takes or not
abbrev pub taken_or_seen : Bool → Pins → Taken → Taken
taken_or_seen true pins takes = taken.One pins.first
taken_or_seen false pins takes = takes

-- the token is laid on the channel out of the place at which it is put
abbrev pub IsLaidBy : Net → Offered → Type 0
IsLaidBy net o = o.laid ≡ laid_of net o.unit o.put
