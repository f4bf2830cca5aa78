use Rattle.std.proofs.Common.{◌∙◌}
use Rattle.word_ops.proofs.Words.{word-flipped}
use Rattle.word_ops.proofs.arithmetic.flipped.Goals as goal

pub returns : goal.returns
returns c = c.reduced.ensures ∙ word-flipped c.args.width c.args.a c.requires.within c.requires.pattern
