use Rattle.std.proofs.Common.{refl}
use Rattle.c_norm.proofs.laws.normal_forms_share.Goals as goal

pub returns : goal.returns
returns c k lawful = record {
  lawful = c.normal_forms_are_lawful.ensures k lawful;
  name = refl;
  place = refl;
  result = refl;
  params = refl;
  arrays = refl;
  few_vars = (c.normal_forms_are_small.ensures k lawful).few_vars;
  runs = c.normal_forms_end_alike.ensures k lawful;
}
