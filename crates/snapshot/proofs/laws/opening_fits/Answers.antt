use Rattle.snapshot.proofs.FitLemmas.{opening_fits}
use Rattle.snapshot.proofs.laws.opening_fits.Goals as goal

pub returns : goal.returns
returns c = opening_fits
