use Rattle.word_rules.proofs.Reciprocals.{reciprocals_are_close, close_reciprocals_are_magic, reciprocals_fit_words}
use Rattle.word_rules.proofs.existence.reciprocals_are_close.Goals as goal

pub returns : goal.returns
returns c = record { close = reciprocals_are_close; magic = close_reciprocals_are_magic; word = reciprocals_fit_words }
