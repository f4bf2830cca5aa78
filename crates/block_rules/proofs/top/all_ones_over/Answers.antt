use Rattle.std.proofs.Common.{◌∙◌, arith}
use Rattle.std.specs.Int.Count.{count_leading_zeros}
use Rattle.std.proofs.lemmas.Nat.Bits.{ones_shr}
use Rattle.block_rules.proofs.top.all_ones_over.Goals as goal

pub returns-in-Some : goal.returns-in-Some
returns-in-Some c = c.in-Some.ensures.1 ∙ ones_shr 64 (count_leading_zeros 64 c.args.n) (omega (arith, c.in-Some.ensures.0))
