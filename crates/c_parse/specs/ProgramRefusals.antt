-- What the refusals of the tokens of programs mean. The name of a program is its kernel's.
use Rattle.std.specs.Prelude.{List, Result}
use Rattle.el_base.specs.declared.span.Span.{Span}
use Rattle.c_ast.specs.declared.token.Token.{Token}
use Rattle.c_ast.specs.declared.tree.Program.{Program}
use Rattle.c_ast.specs.Programs.{program_nodes}
use Rattle.c_ast.specs.ProgramTexts.{DerivesProgram, program_nesting}
use Rattle.c_parse.specs.declared.refusal.ParseRefusal.{ParseRefusal}
use Rattle.c_parse.specs.Refusals.{SaysLargeBy, SaysBy, IsOnlyBy}

abbrev pub IsLargeProgram : Program → ParseRefusal → Type 0
IsLargeProgram = SaysLargeBy program_nodes (λ program. program.kernel.at)

abbrev pub SaysProgram : List Token → Span → Result Program ParseRefusal → Type 0
SaysProgram = SaysBy DerivesProgram program_nesting program_nodes (λ program. program.kernel.at)

abbrev pub IsOnlyProgram : List Token → Span → Result Program ParseRefusal → Type 0
IsOnlyProgram tokens end = IsOnlyBy (SaysProgram tokens end)
