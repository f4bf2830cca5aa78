-- Calls mean their inlined tree.
use Rattle.std.specs.Prelude.{◌↔◌, ℕ, List, ℤ, Option}
use Rattle.c_meaning.specs.declared.profile.Profile.{Profile}
use Rattle.c_meaning.specs.Stores.{Inputs}
use Rattle.c_meaning.specs.Statements.{Ends}
use Rattle.c_meaning.specs.Lawful.{Lawful}
use Rattle.c_ast.specs.declared.typed.Typed.{Typed}
use Rattle.c_ast.specs.declared.program.TypedProgram.{TypedProgram}
use Rattle.c_calls.specs.Meanings.{Calls}
use Rattle.c_calls.specs.Inlined.{Inlined}
use Rattle.c_calls.specs.Lawful.{LawfulProgram}

-- for every profile and all inputs, the program ends with these arrays and this result exactly where the kernel without calls does
abbrev pub CallsAreInlined : Type 0
CallsAreInlined = (P : TypedProgram) (k : Typed) → LawfulProgram P → Inlined P k
    → (p : Profile) (i : Inputs) (out : List (List ℤ)) (r : Option ℤ) → Calls P p i out r ↔ ((t : ℕ) × Ends k p i out r t)

abbrev pub InlinedIsLawful : Type 0
InlinedIsLawful = (P : TypedProgram) (k : Typed) → LawfulProgram P → Inlined P k → Lawful k
