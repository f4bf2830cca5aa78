use Rattle.c_ast.proofs.TypedNodeEquations.{act_block, act_declaration, act_assignment, act_stepping, act_choice, act_while_loop, act_do_loop, act_for_loop, act_leaving, act_continuing, act_returning, act_empty}
use Rattle.c_ast.proofs.laws.typed_statements_count_their_parts.Goals as goal

pub returns : goal.returns
returns c = record {
  block = act_block;
  declaration = act_declaration;
  assignment = act_assignment;
  stepping = act_stepping;
  choice = act_choice;
  while_loop = act_while_loop;
  do_loop = act_do_loop;
  for_loop = act_for_loop;
  leaving = act_leaving;
  continuing = act_continuing;
  returning = act_returning;
  empty = act_empty;
}
