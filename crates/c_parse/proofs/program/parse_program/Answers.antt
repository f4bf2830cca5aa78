use Rattle.c_ast.specs.OfTexts.{IsProgramOfText}
use Rattle.c_ast.specs.Programs.{program_nodes}
use Rattle.c_ast.specs.ProgramTexts.{DerivesProgram, program_nesting}
use Rattle.c_parse.specs.Symbols.{program_symbols}
use Rattle.c_parse.proofs.ProgramExactness.{traced_programs}
use Rattle.c_parse.proofs.ProgramFitting.{program_fits}
use Rattle.c_parse.proofs.Answering.{only, refused_says, limited_says, limited_has}
use Rattle.c_parse.proofs.program.parse_program.Goals as goal

pub returns-in-Ok : goal.returns-in-Ok
returns-in-Ok c =
    let said = limited_says DerivesProgram program_nesting program_symbols traced_programs program_nodes (λ program. program.kernel.at) _ _ _ _ c.in-Ok.ensures.derived c.in-Ok.ensures.whole c.limited.ensures.same c.limited.ensures.small c.limited.ensures.large in
    record { says = said; only = only DerivesProgram program_nesting program_symbols traced_programs program_nodes (λ program. program.kernel.at) _ _ _ said; fits = λ h. limited_has IsProgramOfText _ _ c.limited.ensures.same (program_fits _ _ c.in-Ok.ensures.derived h) }

pub returns-in-Err : goal.returns-in-Err
returns-in-Err c =
    let said = refused_says DerivesProgram program_nesting program_symbols traced_programs program_nodes (λ program. program.kernel.at) _ _ _ _ c.refused.ensures c.in-Err.ensures.told in
    record { says = said; only = only DerivesProgram program_nesting program_symbols traced_programs program_nodes (λ program. program.kernel.at) _ _ _ said; fits = λ h. tt }
