use Rattle.lsq_core.proofs.MarkLemmas.{mark_allows_more}
use Rattle.lsq_core.proofs.laws.mark_allows_more.Goals as goal

pub returns : goal.returns
returns c = mark_allows_more
