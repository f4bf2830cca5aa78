use Rattle.snapshot.proofs.StateFits.{state_fits}
use Rattle.snapshot.proofs.laws.saved_counts_fit.Goals as goal

pub returns : goal.returns
returns c net p fits = (state_fits net p fits).counts
