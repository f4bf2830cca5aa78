use Rattle.c_meaning.proofs.PartsOfLawful.{stmt_block, stmt_choice, stmt_for_loop}
use Rattle.c_meaning.proofs.part_laws.lawful_statements_have_lawful_parts.Goals as goal

pub returns-clause-block : goal.returns-clause-block
returns-clause-block c = stmt_block

pub returns-clause-choice : goal.returns-clause-choice
returns-clause-choice c = stmt_choice

pub returns-clause-for_loop : goal.returns-clause-for_loop
returns-clause-for_loop c = stmt_for_loop
