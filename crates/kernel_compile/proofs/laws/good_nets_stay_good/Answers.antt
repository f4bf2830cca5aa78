use Rattle.kernel_compile.proofs.GoodLemmas.{good_computes, good_retimed, ends_in_time}
use Rattle.kernel_compile.proofs.laws.good_nets_stay_good.Goals as goal

pub returns : goal.returns
returns c = record { computes = good_computes; retimed = good_retimed; in_time = ends_in_time }
