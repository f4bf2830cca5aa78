-- How statements run one after another, with the turns that are left (ISO/IEC 9899:1999 6.8).
-- A run has a bound on its turns. Where a statement or a condition begins a turn is taken; what an expression used is taken after it.
use Rattle.std.specs.Prelude.{ℕ, zero, suc, List, [], ◌∷◌, ℤ, Bool, true, false, Option}
use Rattle.el_base.specs.declared.span.Span.{Span}
use Rattle.c_meaning.specs.Operators.{is_zero}
use Rattle.c_meaning.specs.Stores.{Store}
use Rattle.c_meaning.specs.Expressions.{Val, undefined_value, value, Meaning}

-- how a statement ends
pub data How : Type 0 where
  normally : How
  by_break : How
  by_continue : How
  by_return : Option ℤ → How
  -- the place of the first operation that is undefined
  undefined : Span → How
  out_of_turns : How

-- how it ended, the store then, and how many turns were left
pub record Ended : Type 0 where
  pub how : How
  pub store : Store
  pub left : ℕ

-- what runs from a store with so many turns
abbrev pub Run : Type 0
Run = Store → ℕ → Ended

abbrev pub ends : How → Run
ends how s n = record { how = how; store = s; left = n }

-- t turns are taken, and then it runs; it is out of turns where fewer are left
abbrev pub taking : ℕ → Run → Run
taking zero run s n = run s n
taking (suc t) run s zero = ends out_of_turns s zero
taking (suc t) run s (suc n) = taking t run s n

-- a statement or a condition begins
abbrev pub turn : Run → Run
turn run s n = taking 1 run s n

-- what runs next where a run ended normally; where it ended in another way, that is the end
abbrev pub go_on : How → Run → Run
go_on normally next s n = next s n
go_on by_break next s n = ends by_break s n
go_on by_continue next s n = ends by_continue s n
go_on (by_return v) next s n = ends (by_return v) s n
go_on (undefined at) next s n = ends (undefined at) s n
go_on out_of_turns next s n = ends out_of_turns s n

abbrev pub both_runs : Run → Run → Run
both_runs first next s n = let e = first s n in go_on e.how next e.store e.left

-- one after another
abbrev pub sequence : List Run → Run
sequence [] s n = ends normally s n
sequence (r ∷ rs) s n = both_runs r (sequence rs) s n

-- the value of an expression is used by what runs next, after the turns of the expression; where it is undefined that is the end
abbrev pub with_val : Val → (ℤ → Run) → Run
with_val (undefined_value at) next s n = ends (undefined at) s n
with_val (value x t) next s n = taking t (next x) s n

abbrev pub with_value : Meaning → (ℤ → Run) → Run
with_value m next s n = with_val (m s) next s n

-- a condition is evaluated, and one of two runs follows; before it runs what stands before the condition
abbrev pub run_of : Bool → Run → Run → Run
run_of true a b s n = a s n
run_of false a b s n = b s n

abbrev pub branch : Run → Meaning → Run → Run → Run
branch before cond yes_part no_part = both_runs before (turn (with_value cond (λ x. run_of (is_zero x) no_part yes_part)))

-- after the body of a loop: it goes on where the body ended normally or by continue, and ends normally where it ended by break
abbrev pub after_body : How → Run → Run
after_body normally next s n = next s n
after_body by_continue next s n = next s n
after_body by_break next s n = ends normally s n
after_body (by_return v) next s n = ends (by_return v) s n
after_body (undefined at) next s n = ends (undefined at) s n
after_body out_of_turns next s n = ends out_of_turns s n

abbrev pub looped : Run → Run → Run
looped body next s n = let e = body s n in after_body e.how next e.store e.left

-- At most so many rounds of a loop: the condition, the body, the step, and again. Each round takes a turn for its condition, so as many rounds as there are turns are enough.
abbrev pub rounds : ℕ → Run → Meaning → Run → Run → Run
rounds zero before cond body step s n = ends out_of_turns s n
rounds (suc r) before cond body step s n = branch before cond (looped body (both_runs step (rounds r before cond body step))) (ends normally) s n

-- a loop from its condition on
abbrev pub loop : Run → Meaning → Run → Run → Run
loop before cond body step s n = rounds (suc n) before cond body step s n
