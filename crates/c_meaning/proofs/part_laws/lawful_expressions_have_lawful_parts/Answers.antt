use Rattle.c_meaning.proofs.PartsOfLawful.{lawful_element}
use Rattle.c_meaning.proofs.part_laws.lawful_expressions_have_lawful_parts.Goals as goal

pub returns-clause-element : goal.returns-clause-element
returns-clause-element c = lawful_element
