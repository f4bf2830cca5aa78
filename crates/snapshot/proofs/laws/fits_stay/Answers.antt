use Rattle.snapshot.proofs.FitLemmas.{fits_stay}
use Rattle.snapshot.proofs.laws.fits_stay.Goals as goal

pub returns : goal.returns
returns c = fits_stay c.results_are_patterns.ensures.one c.results_are_patterns.ensures.two c.acts_keep_a_queue.ensures.order c.acts_keep_a_queue.ensures.ports
