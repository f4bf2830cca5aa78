use Rattle.block_pass.proofs.Values.{stay_in_widths}
use Rattle.block_pass.proofs.laws.values_stay_in_widths.Goals as goal

pub returns : goal.returns
returns c = stay_in_widths c.results_are_patterns.ensures.one c.results_are_patterns.ensures.two
