-- What the run of a statement makes of a machine.
use Rattle.std.specs.Prelude.{◌≡◌, ℕ, ◌^◌, ◌<◌, ◌≤◌, List, [], get_or, Bool, true, false, Option, Some, None, ℤ}
use Rattle.el_base.specs.declared.ty.Ty.{Ty}
use Rattle.el_base.specs.Widths.{ty_width}
use Rattle.c_meaning.specs.Operators.{is_zero}
use Rattle.c_meaning.specs.Stores.{Objects}
use Rattle.c_meaning.specs.Expressions.{Meaning}
use Rattle.c_meaning.specs.Runs.{How, normally, by_break, by_continue, by_return, undefined, out_of_turns, Ended, Run, turn, with_value, run_of}
use Rattle.ref_interp.specs.declared.machine.Ending.{Ending}
use Rattle.ref_interp.specs.declared.machine.Ending.TheVariants as ending
use Rattle.ref_interp.specs.declared.machine.Test.{Test}
use Rattle.ref_interp.specs.declared.machine.Test.TheVariants as test
use Rattle.ref_interp.specs.declared.machine.Machine.{Machine}
use Rattle.ref_interp.specs.Answers.{most}
use Rattle.ref_interp.specs.Cells.{AreCells, cell_number, store_of}
use Rattle.ref_interp.specs.Laws.{PatternLaws}
use Rattle.ref_interp.specs.Parts.{PartLaws}

-- the elements of an array, none where there is no such array
abbrev pub cell_list : List (List ℕ) → ℕ → List ℕ
cell_list pss a = get_or pss a []

-- the number that a kernel of a result returns
abbrev pub returned_number : Option Ty → Option ℕ → Option ℤ
returned_number None v = None
returned_number (Some t) v = cell_number t v

abbrev pub how_of : Option Ty → Ending → Machine → How
how_of r ending.Normally m = normally
how_of r ending.Break m = by_break
how_of r ending.Continue m = by_continue
how_of r ending.Return m = by_return (returned_number r m.value)
how_of r ending.Undefined m = undefined m.trace.at
how_of r ending.OutOfTurns m = out_of_turns

abbrev pub ended : Objects → Option Ty → Ending → Machine → Ended
ended k r e m = record { how = how_of r e m; store = store_of k m.cells; left = m.left }

abbrev pub run_on : Objects → Run → Machine → Ended
run_on k run m = run (store_of k m.cells) m.left

-- a statement can run: the cells are those of the kernel, and turns were taken before
pub record CanRun (k : Objects) (m : Machine) : Type 0 where
  pub laws : PatternLaws
  pub parts : PartLaws
  pub cells : AreCells k m.cells
  pub few : m.left < most

-- a value is there exactly where the kernel has a result, and is a pattern of its type
abbrev pub IsGiven : Option Ty → Option ℕ → Type 0
IsGiven None None = Unit {0}
IsGiven (Some t) (Some p) = p < 2 ^ ty_width t
IsGiven None (Some p) = ⊥
IsGiven (Some t) None = ⊥

-- where it returned, the machine has such a value
abbrev pub Given : Option Ty → Ending → Machine → Type 0
Given r ending.Return m = IsGiven r m.value
Given r ending.Normally m = Unit {0}
Given r ending.Break m = Unit {0}
Given r ending.Continue m = Unit {0}
Given r ending.Undefined m = Unit {0}
Given r ending.OutOfTurns m = Unit {0}

-- it ran so, in a kernel of a result
pub record Ran (k : Objects) (r : Option Ty) (run : Run) (m : Machine) (e : Ending) (m2 : Machine) : Type 0 where
  pub is : run_on k run m ≡ ended k r e m2
  pub cells : AreCells k m2.cells
  pub few : m2.left < most
  pub given : Given r e m2

-- ---- conditions: one with its turn, and the runs that follow where it holds and where it fails

abbrev pub tested_run : Meaning → Run → Run → Run
tested_run cond a b = turn (with_value cond (λ x. run_of (is_zero x) b a))

abbrev pub TestIs : Objects → Option Ty → Test → Run → Run → Machine → Ended → Type 0
TestIs k r test.Holds a b m e = e ≡ run_on k a m
TestIs k r test.Fails a b m e = e ≡ run_on k b m
TestIs k r test.Undefined a b m e = e ≡ ended k r ending.Undefined m
TestIs k r test.OutOfTurns a b m e = e ≡ ended k r ending.OutOfTurns m

pub record Tested (k : Objects) (r : Option Ty) (cond : Meaning) (m : Machine) (t : Test) (m2 : Machine) : Type 0 where
  pub is : (a b : Run) → TestIs k r t a b m2 (run_on k (tested_run cond a b) m)
  pub cells : m2.cells ≡ m.cells
  pub fewer : m2.left ≤ m.left

-- ---- endings in loops

-- the body of a loop ended so that the loop goes on
abbrev pub goes_on : Ending → Bool
goes_on ending.Normally = true
goes_on ending.Continue = true
goes_on ending.Break = false
goes_on ending.Return = false
goes_on ending.Undefined = false
goes_on ending.OutOfTurns = false

-- how a loop ends whose body ended so
abbrev pub left_loop : Ending → Ending
left_loop ending.Break = ending.Normally
left_loop ending.Normally = ending.Normally
left_loop ending.Continue = ending.Continue
left_loop ending.Return = ending.Return
left_loop ending.Undefined = ending.Undefined
left_loop ending.OutOfTurns = ending.OutOfTurns

abbrev pub is_normal : Ending → Bool
is_normal ending.Normally = true
is_normal ending.Break = false
is_normal ending.Continue = false
is_normal ending.Return = false
is_normal ending.Undefined = false
is_normal ending.OutOfTurns = false
