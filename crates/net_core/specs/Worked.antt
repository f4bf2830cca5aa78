-- Two worked nets, each with a list of firings from its opening state to rest.
use Rattle.std.specs.Prelude.{◌≡◌, ℕ, Bool, true, false, Some, List, [], ◌∷◌, get_or}
use Rattle.el_base.specs.declared.ty.Ty.TheVariants.{I32, I64}
use Rattle.el_base.specs.declared.operation.Op2.TheVariants.{Add32, Mul32}
use Rattle.net_types.specs.declared.net.Chan.{Chan}
use Rattle.net_types.specs.declared.net.Net.{Net}
use Rattle.net_types.specs.declared.net.Port.TheVariants.{Load, Store}
use Rattle.net_types.specs.declared.net.Unit.TheVariants.{Entry, Param, Const, Op2, Fork, Lsq, Exit}
use Rattle.net_types.specs.declared.firing.Act.TheVariants.{Go, Send, Alloc, Addr, Data, Exec, Reply, Retire, End}
use Rattle.net_types.specs.declared.firing.Firing.{Firing}
use Rattle.net_types.specs.declared.firing.Inputs.{Inputs}
use Rattle.net_types.specs.Nets.{firing, at}
use Rattle.net_core.specs.Fire.{State, idle}
use Rattle.net_core.specs.Runs.{Run, AtRest}

-- a channel of one slot from the output p of the unit u to the input q of the unit v
abbrev pub channel : (u p v q width : ℕ) → Bool → Chan
channel u p v q width ctl = record { from = at u p; to = at v q; width = width; slots = 1; delay = 0; ctl = ctl }

-- scalar 1 times 3, and scalar 0 added to it
abbrev pub straight : Net
straight = record {
  name = [];
  scalars = record { name = []; ty = I32 } ∷ record { name = []; ty = I32 } ∷ [];
  arrays = [];
  result = Some I32;
  units = Entry ∷ Param 0 ∷ Param 1 ∷ Fork 32 2 ∷ Const 32 3 ∷ Op2 Mul32 ∷ Op2 Add32 ∷ Exit ∷ [];
  chans =
      channel 0 0 3 0 32 true
      ∷ channel 3 0 7 0 32 true
      ∷ channel 3 1 4 0 32 false
      ∷ channel 1 0 6 0 32 false
      ∷ channel 2 0 5 0 32 false
      ∷ channel 4 0 5 1 32 false
      ∷ channel 5 0 6 1 32 false
      ∷ channel 6 0 7 1 32 false
      ∷ [];
}

abbrev pub straight_inputs : Inputs
straight_inputs = record { scalars = 2 ∷ 5 ∷ []; arrays = [] }

-- the fork sends the control token on last
abbrev pub straight_firings : List Firing
straight_firings =
    firing 0 Go
    ∷ firing 1 Go
    ∷ firing 2 Go
    ∷ firing 3 (Send 1)
    ∷ firing 3 (Send 0)
    ∷ firing 4 Go
    ∷ firing 5 Go
    ∷ firing 6 Go
    ∷ firing 7 Go
    ∷ []

-- scalar 1 is stored at the element that scalar 0 names, and the element that scalar 2 names is loaded: the net's result
abbrev pub queued : Bool → Net
queued forward = record {
  name = [];
  scalars = record { name = []; ty = I64 } ∷ record { name = []; ty = I32 } ∷ record { name = []; ty = I64 } ∷ [];
  arrays = record { name = []; ty = I32; len = 8 } ∷ [];
  result = Some I32;
  units = Entry ∷ Param 0 ∷ Param 1 ∷ Param 2 ∷ Lsq 0 2 (Store ∷ Load ∷ []) ((0 ∷ 1 ∷ []) ∷ []) forward ∷ Exit ∷ [];
  chans =
      channel 0 0 4 0 32 true
      ∷ channel 4 0 4 1 32 true
      ∷ channel 4 1 5 0 32 true
      ∷ channel 1 0 4 2 64 false
      ∷ channel 2 0 4 3 32 false
      ∷ channel 3 0 4 4 64 false
      ∷ channel 4 3 5 1 32 false
      ∷ [];
}

abbrev pub queued_inputs : (store load : ℕ) → Inputs
queued_inputs store load =
    record { scalars = store ∷ 9 ∷ load ∷ []; arrays = (10 ∷ 11 ∷ 12 ∷ 13 ∷ 14 ∷ 15 ∷ 16 ∷ 17 ∷ []) ∷ [] }

-- the younger load reads before the older store has its data
abbrev pub load_first : List Firing
load_first =
    firing 0 Go
    ∷ firing 4 (Alloc 0)
    ∷ firing 1 Go
    ∷ firing 4 (Addr 0)
    ∷ firing 3 Go
    ∷ firing 4 (Addr 1)
    ∷ firing 4 (Exec 1)
    ∷ firing 2 Go
    ∷ firing 4 (Data 0)
    ∷ firing 4 (Exec 0)
    ∷ firing 4 Retire
    ∷ firing 4 (Reply 1)
    ∷ firing 4 Retire
    ∷ firing 4 End
    ∷ firing 5 Go
    ∷ []

-- the younger load of the same element is given the data of the store, which writes later
abbrev pub given_on : List Firing
given_on =
    firing 0 Go
    ∷ firing 4 (Alloc 0)
    ∷ firing 1 Go
    ∷ firing 4 (Addr 0)
    ∷ firing 3 Go
    ∷ firing 4 (Addr 1)
    ∷ firing 2 Go
    ∷ firing 4 (Data 0)
    ∷ firing 4 (Exec 1)
    ∷ firing 4 (Reply 1)
    ∷ firing 4 (Exec 0)
    ∷ firing 4 Retire
    ∷ firing 4 Retire
    ∷ firing 4 End
    ∷ firing 5 Go
    ∷ []

-- a run of these firings ends at rest, the exit has taken this result, and the arrays and counts of strays are these
pub record RunsTo (net : Net) (inputs : Inputs) (fs : List Firing) (exit result : ℕ) (arrays : List (List ℕ)) (strays : List ℕ) : Type 0 where
  pub to : State
  pub run : Run net inputs fs to
  pub rests : AtRest net to
  pub fired : (get_or to.own exit idle).fired ≡ true
  pub took : (get_or to.own exit idle).value ≡ Some result
  pub holds : to.arrays ≡ arrays
  pub counts : to.strays ≡ strays

pub record WorkedNetsRun : Type 0 where
  pub straight_run : RunsTo straight straight_inputs straight_firings 7 17 [] []
  pub early_load : RunsTo (queued false) (queued_inputs 5 3) load_first 5 13 ((10 ∷ 11 ∷ 12 ∷ 13 ∷ 14 ∷ 9 ∷ 16 ∷ 17 ∷ []) ∷ []) (0 ∷ [])
  pub forwarded : RunsTo (queued true) (queued_inputs 3 3) given_on 5 9 ((10 ∷ 11 ∷ 12 ∷ 9 ∷ 14 ∷ 15 ∷ 16 ∷ 17 ∷ []) ∷ []) (0 ∷ [])
  pub past : RunsTo (queued false) (queued_inputs 8 9) load_first 5 0 ((10 ∷ 11 ∷ 12 ∷ 13 ∷ 14 ∷ 15 ∷ 16 ∷ 17 ∷ []) ∷ []) (2 ∷ [])
