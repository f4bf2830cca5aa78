use Rattle.c_meaning.proofs.PartsOfLawful.{quiet_block, quiet_declaration, quiet_assignment, quiet_choice, quiet_while_loop, quiet_do_loop, quiet_for_loop, quiet_leaving, quiet_continuing, quiet_returning, quiet_empty}
use Rattle.c_meaning.proofs.part_laws.returns_are_those_of_parts.Goals as goal

pub returns : goal.returns
returns c = record {
  block = quiet_block;
  declaration = quiet_declaration;
  assignment = quiet_assignment;
  choice = quiet_choice;
  while_loop = quiet_while_loop;
  do_loop = quiet_do_loop;
  for_loop = quiet_for_loop;
  leaving = quiet_leaving;
  continuing = quiet_continuing;
  returning = quiet_returning;
  empty = quiet_empty;
}
