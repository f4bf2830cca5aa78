-- The rules of the lines of an inputs text, in the order in which they are tried on a line.
use Rattle.std.specs.Prelude.{◌≡◌, ℕ, ℤ, ◌==◌, int_le, ◌&&◌, Bool, List, ◌∷◌, ◌++◌, length, map, if◌then◌else◌, Option, Some, None}
use Rattle.std.specs.Cmp.Lexicographic.{pointwise}
use Rattle.std.specs.List.{list_all, filter_map}
use Rattle.std.specs.Map.{lookup}
use Rattle.el_base.specs.declared.ty.Ty.{Ty}
use Rattle.el_base.specs.declared.ty.Array.{Array}
use Rattle.el_base.specs.declared.ty.Scalar.{Scalar}
use Rattle.el_base.specs.Numbers.{least_in, greatest_in}
use Rattle.el_base.specs.Widths.{ty_signed, ty_width}
use Rattle.inputs_text.specs.declared.header.Slot.{Slot}
use Rattle.inputs_text.specs.declared.refusal.Rule.{Rule}
use Rattle.inputs_text.specs.declared.refusal.Rule.TheVariants as rule
use Rattle.inputs_text.specs.Lines.{is_skipped, line_entry}

-- what a header asks for by each name: one number of a scalar's type, and as many of an array's as it has elements
abbrev pub scalar_slot : Scalar → List ℕ × Slot
scalar_slot s = (s.name, record { ty = s.ty; len = 1 })

abbrev pub array_slot : Array → List ℕ × Slot
array_slot a = (a.name, record { ty = a.ty; len = a.len })

abbrev pub slots : List Scalar → List Array → List (List ℕ × Slot)
slots scalars arrays = map scalar_slot scalars ++ map array_slot arrays

-- what stands beside a name in a list
abbrev pub beside : {T : Type 0} → List (List ℕ × T) → List ℕ → Option T
beside entries name = lookup (pointwise ◌==◌ name) entries

-- what lines give, in order: nothing where one is skipped or has not the form
unfoldable pub given : List ℕ → Option (List ℕ × List ℤ)
given line = if is_skipped line then None else line_entry line

unfoldable pub entries : List (List ℕ) → List (List ℕ × List ℤ)
entries ls = filter_map given ls

-- a type holds a number
unfoldable pub is_in_range : Ty → ℤ → Bool
is_in_range t z = int_le (least_in (ty_signed t) (ty_width t)) z && int_le z (greatest_in (ty_signed t) (ty_width t))

-- the first rule that numbers break: their name is in the header, no earlier line has it, they are as many as are asked for,
-- and the type holds each
abbrev pub broken_by_numbers : Option Slot → Option (List ℤ) → List ℤ → Option Rule
broken_by_numbers None earlier zs = Some rule.Unknown
broken_by_numbers (Some slot) (Some others) zs = Some rule.Twice
broken_by_numbers (Some slot) None zs = if length zs == slot.len then (if list_all (is_in_range slot.ty) zs then None else Some rule.Range) else Some rule.Count

-- the first rule that a line breaks which is not skipped, after others that gave entries: its form, and then those
abbrev pub broken_by_entry : List (List ℕ × Slot) → List (List ℕ × List ℤ) → Option (List ℕ × List ℤ) → Option Rule
broken_by_entry asked earlier None = Some rule.Form
broken_by_entry asked earlier (Some e) = broken_by_numbers (beside asked e.0) (beside earlier e.0) e.1

-- the first rule that a line breaks after the lines before it; none where it keeps them all or is skipped
abbrev pub broken_by : List (List ℕ × Slot) → List (List ℕ) → List ℕ → Option Rule
broken_by asked before line = if is_skipped line then None else broken_by_entry asked (entries before) (line_entry line)

-- each line keeps the rules
abbrev pub KeepRules : List (List ℕ × Slot) → List (List ℕ) → Type 0
KeepRules asked ls = (before : List (List ℕ)) (line : List ℕ) (after : List (List ℕ)) → ls ≡ before ++ line ∷ after → broken_by asked before line ≡ None
