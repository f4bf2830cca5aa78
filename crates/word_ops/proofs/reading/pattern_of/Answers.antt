use Rattle.std.proofs.Common.{◌%◌, ◌^◌, w64, of_z, ◌∙◌, ap, arith}
use Rattle.std.proofs.lemmas.Int.{ints, to_z-of_z}
use Rattle.word_ops.proofs.Words.{word-bits}
use Rattle.word_ops.proofs.reading.pattern_of.Goals as goal

pub returns : goal.returns
returns c = c.reduced.ensures ∙ ap (λ n. n % 2 ^ c.args.width) (c.cast_unsigned.ensures ∙ ap (of_z w64) (to_z-of_z w64 c.args.z c.ranges.z)) ∙ word-bits c.args.width c.args.z c.requires.within (omega (arith, ints))
