use Rattle.std.proofs.Common.{◌+◌, pos, ◌∙◌}
use Rattle.word_ops.proofs.Words.{word-residue}
use Rattle.word_ops.proofs.arithmetic.sum.Goals as goal

pub returns : goal.returns
returns c = c.reduced.ensures ∙ word-residue c.args.width (pos (c.args.a + c.args.b)) c.requires.within
