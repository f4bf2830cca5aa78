use Rattle.el_base.proofs.ReadLemmas.{reads_back}
use Rattle.el_base.proofs.digits.written_numbers_read_back.Goals as goal

pub returns : goal.returns
returns c = reads_back
