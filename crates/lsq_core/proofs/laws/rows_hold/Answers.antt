use Rattle.lsq_core.proofs.RowLemmas.{rows_hold}
use Rattle.lsq_core.proofs.laws.rows_hold.Goals as goal

pub returns : goal.returns
returns c = rows_hold
