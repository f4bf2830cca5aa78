-- That a state was made of a net has one proof, and states of a net that are equal are so in one way.
use Rattle.std.proofs.Common.{ℕ, List}
use Rattle.std.specs.Coded.{Coded-set, le_prop, Unit-prop, codes}
use Rattle.net_types.specs.declared.net.Net.{Net}
use Rattle.net_types.specs.declared.net.Unit.{Unit as Kind}
use Rattle.net_types.specs.declared.net.Unit.TheVariants as unit
use Rattle.net_core.specs.declared.cell.Cell.{Cell}
use Rattle.net_core.specs.declared.cell.Cell.TheVariants as cell
use Rattle.net_core.specs.declared.state.State.{State as Stored}
use Rattle.net_core.specs.Fire.{State}
use Rattle.net_core.specs.Plans.{IsShaped}
use Rattle.net_core.specs.States.{IsOf}

shaped_prop : (k : Kind) (c : Cell) (xs : List ℕ) → IsProp (IsShaped k c xs)
shaped_prop (unit.Lsq a d ps gs f) cell.Plain xs = Unit-prop
shaped_prop (unit.Lsq a d ps gs f) (cell.Start b) xs = Unit-prop
shaped_prop (unit.Lsq a d ps gs f) (cell.Exit b v) xs = Unit-prop
shaped_prop (unit.Lsq a d ps gs f) (cell.Fork bits) xs = Unit-prop
shaped_prop (unit.Lsq a d ps gs f) (cell.Queue b) xs = hlevel (codes, Coded-set)
shaped_prop k c xs = Unit-prop

pub is_of_prop : (net : Net) (s : Stored) → IsProp (IsOf net s)
is_of_prop net s = hlevel (codes, Coded-set, le_prop, shaped_prop)

pub state_set : IsSet State
state_set = hlevel (codes, Coded-set)
