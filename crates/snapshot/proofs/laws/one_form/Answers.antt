use Rattle.snapshot.proofs.FormLemmas.{one_form, parts_fit}
use Rattle.snapshot.proofs.laws.one_form.Goals as goal

pub returns-clause-one : goal.returns-clause-one
returns-clause-one c = one_form

pub returns-clause-fit : goal.returns-clause-fit
returns-clause-fit c = parts_fit
