use Rattle.c_norm.proofs.LawfulForms.{form_lawful}
use Rattle.c_norm.proofs.laws.normal_forms_are_lawful.Goals as goal

pub returns : goal.returns
returns c = form_lawful
