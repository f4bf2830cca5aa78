-- Broken rules with their places, and which of them goes first: the one that begins first, and at one place the one with the lowest number.
use Rattle.std.specs.Prelude.{◌≡◌, ℕ, ◌+◌, ◌-◌, Bool, false, ◌&&◌, ◌||◌, nat_lt, nat_eq, if◌then◌else◌, List, [], ◌∷◌, All, Contains, Option, Some, None}
use Rattle.el_base.specs.declared.span.Span.{Span}
use Rattle.c_types.specs.declared.fault.Rule.{Rule}
use Rattle.c_types.specs.declared.fault.Fault.{Fault}
use Rattle.c_types.specs.Refusals.{rule_number}

abbrev pub fault : Rule → Span → Fault
fault r s = record { rule = r; span = s }

-- the first n bytes of a place, or all of it where it has no more
abbrev pub first_bytes : ℕ → Span → Span
first_bytes n s = record { start = s.start; end = if nat_lt n (s.end - s.start) then s.start + n else s.end; line = s.line; column = s.column }

abbrev pub is_before : Fault → Fault → Bool
is_before f g = nat_lt f.span.start g.span.start || (nat_eq f.span.start g.span.start && nat_lt (rule_number f.rule) (rule_number g.rule))

-- a fault of a list before which no fault of the list goes
pub record IsFirst (f : Fault) (fs : List Fault) : Type 0 where
  pub one_of_them : Contains fs f
  pub none_before : All (λ g. is_before g f ≡ false) fs

-- the one of two that goes first, the first of them where neither goes before the other
abbrev pub earlier : Option Fault → Option Fault → Option Fault
earlier None g = g
earlier (Some f) None = Some f
earlier (Some f) (Some g) = if is_before g f then Some g else Some f

-- the first of those that go first
abbrev pub first_of : List Fault → Option Fault
first_of [] = None
first_of (f ∷ fs) = earlier (Some f) (first_of fs)
