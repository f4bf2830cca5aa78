use Rattle.std.proofs.Common.{◌∙◌}
use Rattle.word_ops.proofs.Words.{word-difference}
use Rattle.word_ops.proofs.arithmetic.difference.Goals as goal

pub returns : goal.returns
returns c = c.reduced.ensures ∙ word-difference c.args.width c.args.a c.args.b c.requires.within c.ranges.b.fits
