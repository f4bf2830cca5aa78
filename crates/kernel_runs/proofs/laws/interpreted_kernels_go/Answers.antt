use Rattle.kernel_runs.proofs.InterpretedLemmas.{go_on}
use Rattle.kernel_runs.proofs.laws.interpreted_kernels_go.Goals as goal

pub returns : goal.returns
returns c = go_on c.patterns_are_those_of_their_numbers.ensures c.patterns_stand_for_numbers_in_range.ensures c.ending_kernels_run.ensures
