use Rattle.c_meaning.proofs.PartsOfLawful.{outside_element}
use Rattle.c_meaning.proofs.part_laws.reads_stand_outside_of_sides.Goals as goal

pub returns-clause-element : goal.returns-clause-element
returns-clause-element c = outside_element
