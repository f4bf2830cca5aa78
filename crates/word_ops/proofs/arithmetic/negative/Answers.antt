use Rattle.std.proofs.Common.{pos, ◌∙◌, ap}
use Rattle.std.proofs.Math.IntN.{+ℤ_idl, neg_ℤ}
use Rattle.el_base.specs.Numbers.{residue}
use Rattle.word_ops.proofs.Words.{word-difference}
use Rattle.word_ops.proofs.arithmetic.negative.Goals as goal

pub returns : goal.returns
returns c = c.reduced.ensures ∙ word-difference c.args.width 0 c.args.a c.requires.within c.ranges.a.fits ∙ ap (residue c.args.width) (+ℤ_idl (neg_ℤ (pos c.args.a)))
