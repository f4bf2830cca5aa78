use Rattle.c_ast.specs.Programs.{program_nodes}
use Rattle.c_ast.specs.ProgramTexts.{DerivesProgram, program_nesting}
use Rattle.c_parse.specs.Symbols.{program_symbols}
use Rattle.c_parse.proofs.ProgramExactness.{traced_programs}
use Rattle.c_parse.proofs.Answering.{only}
use Rattle.c_parse.proofs.program.programs_have_one_answer.Goals as goal

pub returns : goal.returns
returns c = only DerivesProgram program_nesting program_symbols traced_programs program_nodes (λ program. program.kernel.at)
