-- The least enabled firing, in the order of firings.
use Rattle.std.specs.Prelude.{◌≡◌, ◌++◌, ℕ, true, false, Option, Some, None, List, [], ◌∷◌, map, length}
use Rattle.std.specs.List.{range_with_len}
use Rattle.net_types.specs.declared.net.Net.{Net}
use Rattle.net_types.specs.declared.firing.Firing.{Firing}
use Rattle.net_types.specs.declared.firing.Act.{Act}
use Rattle.net_types.specs.declared.firing.Act.TheVariants.{Go, From, Send, Alloc, Addr, Data, Exec, Reply, Retire, End}
use Rattle.net_types.specs.declared.net.Unit.{Unit as Kind}
use Rattle.net_types.specs.declared.net.Unit.TheVariants.{Entry, Param, Const, Op1, Op2, Select, Fork, Mux, Cmerge, Branch, Sink, Read, Lsq, Exit}
use Rattle.lsq_core.specs.Views.{oldest_of}
use Rattle.net_types.specs.Nets.{firing}
use Rattle.net_types.specs.Order.{is_before, ActLe}
use Rattle.net_core.specs.Fire.{State, Own, enabled}

-- the firing is enabled, and none before it is
pub record IsLeastFiring (net : Net) (s : State) (f : Firing) : Type 0 where
  pub fires : enabled net s f
  pub least : (g : Firing) → enabled net s g → is_before g f ≡ false

-- the firing is enabled and not before the place, and none between is
pub record IsLeastFrom (net : Net) (s : State) (place f : Firing) : Type 0 where
  pub fires : enabled net s f
  pub from : is_before f place ≡ false
  pub least : (g : Firing) → enabled net s g → is_before g place ≡ false → is_before g f ≡ false

-- all enabled firings are before the place
abbrev pub IsQuietFrom : Net → State → Firing → Type 0
IsQuietFrom net s place = (g : Firing) → enabled net s g → is_before g place ≡ true

-- no act of the unit is enabled but those before an act
abbrev pub IsQuiet : Net → State → ℕ → Act → Type 0
IsQuiet net s u from = (b : Act) → enabled net s (firing u b) → ActLe from b → ⊥

-- the act is the least enabled one of the unit that is not before an act
pub record IsLeastAct (net : Net) (s : State) (u : ℕ) (from act : Act) : Type 0 where
  pub fires : enabled net s (firing u act)
  pub after : ActLe from act
  pub least : (b : Act) → enabled net s (firing u b) → ActLe from b → ActLe act b

-- the acts of one kind with the numbers below n
abbrev pub acts_below : ℕ → (ℕ → Act) → List Act
acts_below n kind = map kind (range_with_len 0 n)

-- the execution of the oldest entry that may execute; where none may, a retirement stands in its place
abbrev pub exec_of : Option ℕ → Act
exec_of None = Retire
exec_of (Some serial) = Exec serial

-- the acts of a queue with so many ports and groups, in their order: of its executions that of the oldest entry that may
-- execute alone
abbrev pub queue_acts : ℕ → ℕ → Option ℕ → List Act
queue_acts ports groups oldest =
    acts_below groups Alloc ++ (acts_below ports Addr ++ (acts_below ports Data
    ++ (exec_of oldest ∷ (acts_below ports Reply ++ (Retire ∷ End ∷ [])))))

-- the acts that a unit may make, in their order
abbrev pub unit_acts : Kind → Own → List Act
unit_acts Entry o = Go ∷ []
unit_acts (Param j) o = Go ∷ []
unit_acts (Const w n) o = Go ∷ []
unit_acts (Op1 op) o = Go ∷ []
unit_acts (Op2 op) o = Go ∷ []
unit_acts (Select w) o = Go ∷ []
unit_acts (Fork w outs) o = acts_below outs Send
unit_acts (Mux w ins) o = Go ∷ []
unit_acts (Cmerge ins) o = acts_below ins From
unit_acts (Branch w) o = Go ∷ []
unit_acts (Sink w) o = Go ∷ []
unit_acts (Read a) o = Go ∷ []
unit_acts (Lsq a d ps gs f) o = queue_acts (length ps) (length gs) (oldest_of o.queue)
unit_acts Exit o = Go ∷ []
