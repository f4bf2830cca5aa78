-- Nets that break a rule, for which a law of checked nets fails.
use Rattle.std.specs.Prelude.{◌≡◌, ℕ, true, false, None, List, [], ◌∷◌, length, get_or}
use Rattle.el_base.specs.declared.ty.Ty.TheVariants.{I32, I64}
use Rattle.el_base.specs.declared.operation.Op1.TheVariants.{Neg32}
use Rattle.net_types.specs.declared.net.Net.{Net}
use Rattle.net_types.specs.declared.net.Port.TheVariants.{Store}
use Rattle.net_types.specs.declared.net.Unit.TheVariants.{Entry, Param, Op1, Fork, Cmerge, Branch, Sink, Lsq, Exit}
use Rattle.net_types.specs.declared.firing.Act.TheVariants.{Go, From, Send, Alloc, Addr, Data, Exec}
use Rattle.net_types.specs.declared.firing.Firing.{Firing}
use Rattle.net_types.specs.declared.firing.Inputs.{Inputs}
use Rattle.net_types.specs.Nets.{firing}
use Rattle.net_core.specs.Fire.{State, idle, enabled, after}
use Rattle.net_core.specs.Control.{control_tokens}
use Rattle.net_core.specs.Runs.{opening, Leads, Run, AtRest}
use Rattle.net_core.specs.Worked.{channel}

abbrev pub no_inputs : Inputs
no_inputs = record { scalars = []; arrays = [] }

-- a run that ends at rest, with these tokens on the channels
pub record RestsWith (net : Net) (inputs : Inputs) (fs : List Firing) (tokens : List (List ℕ)) : Type 0 where
  pub to : State
  pub run : Run net inputs fs to
  pub rests : AtRest net to
  pub left : to.tokens ≡ tokens

-- ---- two entries

-- two entries into the two inputs of a control merge before the exit
abbrev pub two_entries : Net
two_entries = record {
  name = [];
  scalars = [];
  arrays = [];
  result = None;
  units = Entry ∷ Entry ∷ Cmerge 2 ∷ Exit ∷ [];
  chans = channel 0 0 2 0 32 true ∷ channel 1 0 2 1 32 true ∷ channel 2 0 3 0 32 true ∷ [];
}

-- both entries, and then the merge from input 0 first, or from input 1
abbrev pub first_wins : List Firing
first_wins = firing 0 Go ∷ firing 1 Go ∷ firing 2 (From 0) ∷ firing 3 Go ∷ firing 2 (From 1) ∷ []

abbrev pub second_wins : List Firing
second_wins = firing 0 Go ∷ firing 1 Go ∷ firing 2 (From 1) ∷ firing 3 Go ∷ firing 2 (From 0) ∷ []

-- two control tokens, two merges that are enabled and of which one shuts the other out, and two runs of five firings
-- that end at rest in different states
pub record TwoEntriesRace : Type 0 where
  pub count : control_tokens two_entries (opening two_entries no_inputs) ≡ 2
  pub state : State
  pub run : Run two_entries no_inputs (firing 0 Go ∷ firing 1 Go ∷ []) state
  pub first : enabled two_entries state (firing 2 (From 0))
  pub second : enabled two_entries state (firing 2 (From 1))
  pub not_after : enabled two_entries (after two_entries state (firing 2 (From 0))) (firing 2 (From 1)) → ⊥
  pub leaves_one : RestsWith two_entries no_inputs first_wins ([] ∷ [] ∷ (1 ∷ []) ∷ [])
  pub leaves_zero : RestsWith two_entries no_inputs second_wins ([] ∷ [] ∷ (0 ∷ []) ∷ [])

-- the number that wins the merge says which way a parameter goes, and one way is longer
abbrev pub two_ways : Net
two_ways = record {
  name = [];
  scalars = record { name = []; ty = I32 } ∷ [];
  arrays = [];
  result = None;
  units = Entry ∷ Entry ∷ Cmerge 2 ∷ Param 0 ∷ Branch 32 ∷ Sink 32 ∷ Op1 Neg32 ∷ Sink 32 ∷ [];
  chans =
      channel 0 0 2 0 32 true
      ∷ channel 1 0 2 1 32 true
      ∷ channel 2 0 4 0 32 true
      ∷ channel 3 0 4 1 32 false
      ∷ channel 4 0 5 0 32 false
      ∷ channel 4 1 6 0 32 false
      ∷ channel 6 0 7 0 32 false
      ∷ [];
}

abbrev pub one_scalar : Inputs
one_scalar = record { scalars = 5 ∷ []; arrays = [] }

abbrev pub short_way : List Firing
short_way = firing 0 Go ∷ firing 1 Go ∷ firing 3 Go ∷ firing 2 (From 1) ∷ firing 4 Go ∷ firing 5 Go ∷ firing 2 (From 0) ∷ []

abbrev pub long_way : List Firing
long_way = firing 0 Go ∷ firing 1 Go ∷ firing 3 Go ∷ firing 2 (From 0) ∷ firing 4 Go ∷ firing 6 Go ∷ firing 7 Go ∷ firing 2 (From 1) ∷ []

-- a run of seven firings ends at rest, and so does one of eight
pub record WaysDiffer : Type 0 where
  pub short : RestsWith two_ways one_scalar short_way ([] ∷ [] ∷ (0 ∷ []) ∷ [] ∷ [] ∷ [] ∷ [] ∷ [])
  pub long : RestsWith two_ways one_scalar long_way ([] ∷ [] ∷ (1 ∷ []) ∷ [] ∷ [] ∷ [] ∷ [] ∷ [])
  pub short_firings : length short_way ≡ 7
  pub long_firings : length long_way ≡ 8

-- ---- an exit beside the queue

-- the control token goes past the queue to a sink, and a copy of it to the exit
abbrev pub early_exit : Net
early_exit = record {
  name = [];
  scalars = record { name = []; ty = I64 } ∷ record { name = []; ty = I32 } ∷ [];
  arrays = record { name = []; ty = I32; len = 1 } ∷ [];
  result = None;
  units = Entry ∷ Fork 32 2 ∷ Lsq 0 1 (Store ∷ []) ((0 ∷ []) ∷ []) false ∷ Param 0 ∷ Param 1 ∷ Exit ∷ Sink 32 ∷ [];
  chans =
      channel 0 0 1 0 32 true
      ∷ channel 1 0 2 0 32 true
      ∷ channel 2 0 2 1 32 true
      ∷ channel 2 1 6 0 32 true
      ∷ channel 1 1 5 0 32 false
      ∷ channel 3 0 2 2 64 false
      ∷ channel 4 0 2 3 32 false
      ∷ [];
}

abbrev pub store_inputs : Inputs
store_inputs = record { scalars = 0 ∷ 9 ∷ []; arrays = (7 ∷ []) ∷ [] }

abbrev pub until_exit : List Firing
until_exit = firing 0 Go ∷ firing 1 (Send 1) ∷ firing 5 Go ∷ []

abbrev pub store_then : List Firing
store_then = firing 1 (Send 0) ∷ firing 2 (Alloc 0) ∷ firing 3 Go ∷ firing 2 (Addr 0) ∷ firing 4 Go ∷ firing 2 (Data 0) ∷ firing 2 (Exec 0) ∷ []

-- the exit fires, and then the store is made
pub record StoreAfterExit : Type 0 where
  pub state : State
  pub run : Run early_exit store_inputs until_exit state
  pub fired : (get_or state.own 5 idle).fired ≡ true
  pub before : state.arrays ≡ (7 ∷ []) ∷ []
  pub later : State
  pub leads : Leads early_exit state store_then later
  pub after : later.arrays ≡ (9 ∷ []) ∷ []

pub record LawsNeedRules : Type 0 where
  pub entries : TwoEntriesRace
  pub ways : WaysDiffer
  pub exit : StoreAfterExit
