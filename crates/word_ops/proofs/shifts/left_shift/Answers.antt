use Rattle.std.proofs.Common.{◌%◌, ◌^◌, ◌*◌, pos, ◌∙◌}
use Rattle.word_ops.proofs.Words.{word-residue}
use Rattle.word_ops.proofs.shifts.left_shift.Goals as goal

pub returns : goal.returns
returns c = c.reduced.ensures ∙ word-residue c.args.width (pos (c.args.a * 2 ^ (c.args.b % c.args.width))) c.requires.within
