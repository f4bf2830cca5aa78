-- That programs of texts are typed in one way, and lawfully.
use Rattle.std.specs.Prelude.{◌≡◌}
use Rattle.c_ast.specs.declared.tree.Program.{Program}
use Rattle.c_ast.specs.declared.program.TypedProgram.{TypedProgram}
use Rattle.c_ast.specs.OfTexts.{IsProgramOfText}
use Rattle.c_ast.specs.Programs.{TypingProgram}
use Rattle.c_ast.specs.ProgramCasts.{CastsProgram}
use Rattle.c_calls.specs.Lawful.{LawfulProgram}

-- the typed program of a program of a text that keeps the rules is lawful, scopes included
abbrev pub TypedIsLawful : Type 0
TypedIsLawful = (p : Program) (P : TypedProgram) → TypingProgram p → IsProgramOfText p → CastsProgram p P → LawfulProgram P

-- a program that keeps the rules has a typed program, and no program has two
abbrev pub TypedExists : Type 0
TypedExists = (p : Program) → TypingProgram p → (P : TypedProgram) × CastsProgram p P

abbrev pub TypedIsOne : Type 0
TypedIsOne = (p : Program) (P Q : TypedProgram) → CastsProgram p P → CastsProgram p Q → P ≡ Q
