use Rattle.word_rules.proofs.Reciprocals.{long_magic_exists}
use Rattle.word_rules.proofs.existence.long_magic_exists.Goals as goal

pub returns : goal.returns
returns c = long_magic_exists
