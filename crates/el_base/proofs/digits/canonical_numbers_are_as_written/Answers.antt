use Rattle.el_base.proofs.WrittenLemmas.{as_written}
use Rattle.el_base.proofs.digits.canonical_numbers_are_as_written.Goals as goal

pub returns : goal.returns
returns c = as_written
