-- The text of a schedule: a line for each firing of a list.
use Rattle.std.specs.Prelude.{◌≡◌, ℕ, ◌<◌, ◌^◌, List, [], ◌∷◌, ◌++◌, codes, decimal}
use Rattle.std.specs.List.{flat_map}
use Rattle.net_types.specs.declared.firing.Act.{Act}
use Rattle.net_types.specs.declared.firing.Act.TheVariants.{Go, From, Send, Alloc, Addr, Data, Exec, Reply, Retire, End}
use Rattle.net_types.specs.declared.firing.Firing.{Firing}
use Rattle.net_types.specs.Order.{ActFits}

-- an act: its word, and the number that it names, where it names one
abbrev pub act_text : Act → List ℕ
act_text Go = codes "go"
act_text (From j) = codes "from " ++ decimal j
act_text (Send j) = codes "send " ++ decimal j
act_text (Alloc g) = codes "alloc " ++ decimal g
act_text (Addr p) = codes "addr " ++ decimal p
act_text (Data p) = codes "data " ++ decimal p
act_text (Exec e) = codes "exec " ++ decimal e
act_text (Reply p) = codes "reply " ++ decimal p
act_text Retire = codes "retire"
act_text End = codes "end"

-- a firing: the unit's number, a space (32) and the act
abbrev pub firing_text : Firing → List ℕ
firing_text f = decimal f.unit ++ 32 ∷ act_text f.act

-- each line ends with a line feed (10)
abbrev pub schedule_text : List Firing → List ℕ
schedule_text fs = flat_map (λ f. firing_text f ++ 10 ∷ []) fs

-- bytes are the text of a list of firings
abbrev pub ScheduleText : List Firing → List ℕ → Type 0
ScheduleText fs bytes = bytes ≡ schedule_text fs

-- the numbers fit their fields
pub record FiringFits (f : Firing) : Type 0 where
  pub unit : f.unit < 2 ^ 32
  pub act : ActFits f.act

-- bytes begin with no firing's whole line
abbrev pub BeginsNoLine : List ℕ → Type 0
BeginsNoLine bytes = (f : Firing) (more : List ℕ) → FiringFits f → bytes ≡ firing_text f ++ 10 ∷ more → ⊥
