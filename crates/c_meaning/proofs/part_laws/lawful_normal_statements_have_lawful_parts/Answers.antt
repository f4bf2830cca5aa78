use Rattle.c_meaning.proofs.PartsOfLawful.{normal_block, normal_declaration, normal_assignment, normal_choice, normal_while_loop, normal_do_loop, normal_for_loop, normal_leaving, normal_continuing, normal_returning, normal_empty}
use Rattle.c_meaning.proofs.part_laws.lawful_normal_statements_have_lawful_parts.Goals as goal

pub returns : goal.returns
returns c = record {
  block = normal_block;
  declaration = normal_declaration;
  assignment = normal_assignment;
  choice = normal_choice;
  while_loop = normal_while_loop;
  do_loop = normal_do_loop;
  for_loop = normal_for_loop;
  leaving = normal_leaving;
  continuing = normal_continuing;
  returning = normal_returning;
  empty = normal_empty;
}
