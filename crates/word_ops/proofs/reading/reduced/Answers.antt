use Rattle.word_ops.proofs.Words.{masked}
use Rattle.word_ops.proofs.reading.reduced.Goals as goal

pub returns : goal.returns
returns c = masked c.args.width c.args.a c.requires.within
