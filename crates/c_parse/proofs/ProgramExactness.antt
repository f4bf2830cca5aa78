-- The table traces the texts of programs.
use Rattle.std.proofs.Common.{◌≡◌, List, [], ◌∷◌, refl}
use Rattle.c_ast.specs.declared.token.Token.{Token}
use Rattle.c_ast.specs.declared.tree.Program.{Program}
use Rattle.c_ast.specs.ProgramTexts.{DerivesProgram, program_nesting}
use Rattle.c_parse.specs.Symbols.{program_symbols}
use Rattle.c_parse.specs.Values.{Value}
use Rattle.c_parse.specs.Traces.{Trace, Verdict, judge}
use Rattle.c_parse.proofs.TracedPrograms.{traced_program}
use Rattle.c_parse.proofs.Meanings.{complete_program}
use Rattle.c_parse.proofs.Exactness.{Traced}
use Rattle.c_parse.proofs.Exactness as exact

same_program : (ts : List Token) (a b : Program) → Trace.complete (Value.of_program a ∷ []) ≡ Trace.complete (Value.of_program b ∷ []) → a ≡ b
same_program ts a b h = cc

pub traced_programs : Traced DerivesProgram program_nesting program_symbols
traced_programs = record { whole = λ ts p. Value.of_program p ∷ []; one = same_program; traced = traced_program; derives = λ ts h. complete_program ts [] h; sound = refl }

-- what a verdict says of the tokens
abbrev pub Means : List Token → Verdict → Type 0
Means tokens v = exact.Means DerivesProgram program_nesting program_symbols traced_programs tokens v

pub judged_means : (tokens : List Token) (v : Verdict) → judge program_symbols tokens ≡ v → Means tokens v
judged_means tokens v h = exact.judged_means DerivesProgram program_nesting program_symbols traced_programs tokens v h
