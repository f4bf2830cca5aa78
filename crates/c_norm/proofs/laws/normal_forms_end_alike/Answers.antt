use Rattle.c_norm.proofs.Kernels.{forms_end_alike}
use Rattle.c_norm.proofs.laws.normal_forms_end_alike.Goals as goal

pub returns : goal.returns
returns c = let h = c.numbers_stay_in_range.ensures in forms_end_alike h.values h.statements h.opening
