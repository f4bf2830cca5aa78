-- What a pattern and a trace say of the value of an expression.
use Rattle.std.specs.Prelude.{◌≡◌, ℕ, ◌+◌, ◌^◌, ◌<◌, min, Bool, true, false}
use Rattle.el_base.specs.declared.ty.Ty.{Ty}
use Rattle.el_base.specs.Numbers.{number}
use Rattle.el_base.specs.Widths.{ty_width}
use Rattle.c_meaning.specs.Expressions.{Val, undefined_value, value}
use Rattle.ref_interp.specs.declared.cells.Trace.{Trace}

-- the greatest number of 64 bits: so many turns or more
abbrev pub most : ℕ
most = 18446744073709551615

abbrev pub plus_turns : ℕ → ℕ → ℕ
plus_turns u n = min (u + n) most

-- a value has a pattern in a type; there were u turns before it, and w with those that it used
pub record Gives (t : Ty) (p u w : ℕ) (v : Val) : Type 0 where
  pub turns : ℕ
  pub is : v ≡ value (number t p) turns
  pub below : p < 2 ^ ty_width t
  pub used : w ≡ plus_turns u turns

-- where the trace after it has failed, the value is undefined at its place; else it has the pattern
abbrev pub Answered : Bool → Ty → Val → ℕ → Trace → ℕ → Type 0
Answered true t v u new p = v ≡ undefined_value new.at
Answered false t v u new p = Gives t p u new.turns v

abbrev pub Answers : Ty → Val → Trace → Trace → ℕ → Type 0
Answers t v old new p = Answered new.failed t v old.turns new p
