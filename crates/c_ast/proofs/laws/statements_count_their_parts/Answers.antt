use Rattle.c_ast.proofs.NodeEquations.{stmt_block, stmt_declaration, stmt_assignment, stmt_stepping, stmt_choice, stmt_while_loop, stmt_do_loop, stmt_for_loop, stmt_leaving, stmt_continuing, stmt_returning, stmt_empty}
use Rattle.c_ast.proofs.laws.statements_count_their_parts.Goals as goal

pub returns : goal.returns
returns c = record {
  block = stmt_block;
  declaration = stmt_declaration;
  assignment = stmt_assignment;
  stepping = stmt_stepping;
  choice = stmt_choice;
  while_loop = stmt_while_loop;
  do_loop = stmt_do_loop;
  for_loop = stmt_for_loop;
  leaving = stmt_leaving;
  continuing = stmt_continuing;
  returning = stmt_returning;
  empty = stmt_empty;
}
