-- The worked examples, by computation.
use Rattle.std.proofs.Common.{lit<, lit≤, refl}
use Rattle.std.specs.Int.Count.{count_leading_zeros}
use Rattle.word_ops.specs.Operations.{op1_on, op2_on, op1_result, op2_result}
use Rattle.word_rules.specs.Amounts.{unsigned_amount, signed_amount}
use Rattle.word_rules.specs.Bounds.{greatest1, greatest2, greatest_by}
use Rattle.word_rules.specs.Worked.{ThreeIsWorked, SevenIsWorked, SignedSevenIsWorked, FourIsWorked, BoundsAreWorked}

pub three : ThreeIsWorked
unfolding op1_result op1_on op2_result op2_on unsigned_amount
three = (refl, refl, record { above = lit≤ tt; close = lit< tt }, record { product = lit< tt; amount = lit< tt }, refl)

pub seven : SevenIsWorked
unfolding op1_result op1_on op2_result op2_on unsigned_amount count_leading_zeros
seven = (refl, refl, refl, record { above = lit≤ tt; close = lit< tt }, refl, refl)

pub signed_seven : SignedSevenIsWorked
unfolding op1_result op1_on op2_result op2_on signed_amount
signed_seven = (refl, refl, record { above = lit< tt; close = lit< tt }, refl)

pub four : FourIsWorked
unfolding op1_result op1_on op2_result op2_on
four = (refl, refl)

pub bounds : BoundsAreWorked
unfolding greatest1 greatest2 greatest_by count_leading_zeros
bounds = (refl, refl, refl, refl, refl)
