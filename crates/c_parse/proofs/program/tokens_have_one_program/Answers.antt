use Rattle.c_ast.specs.ProgramTexts.{DerivesProgram, program_nesting}
use Rattle.c_parse.specs.Symbols.{program_symbols}
use Rattle.c_parse.proofs.OneVerdict as verdicts
use Rattle.c_parse.proofs.ProgramExactness.{traced_programs}
use Rattle.c_parse.proofs.program.tokens_have_one_program.Goals as goal

pub returns : goal.returns
returns c = verdicts.one_tree DerivesProgram program_nesting program_symbols traced_programs
