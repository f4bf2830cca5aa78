-- Worked examples of quotients by products and shifts, and of greatest values.
use Rattle.std.specs.Prelude.{◌+◌, ◌-◌, ◌^◌, ◌≡◌, Some, None}
use Rattle.el_base.specs.declared.operation.Op1.TheVariants.{S8to32}
use Rattle.el_base.specs.declared.operation.Op2.TheVariants.{Add32, Sub32, And32, Or32, Shrs32, Remu32}
use Rattle.word_ops.specs.Operations.{op2_result}
use Rattle.word_rules.specs.Amounts.{unsigned_amount, signed_amount, quotient_with}
use Rattle.word_rules.specs.Bounds.{greatest1, greatest2, greatest_by}
use Rattle.word_rules.specs.Magic.{IsMagic, IsSignedMagic, FitsWord, reciprocal}
use Rattle.word_rules.specs.Quotients.{shifted_product32, shifted_long_product, shifted_signed_product, biased32}

-- for all numbers of 32 bits 3 has a magic number of 32 bits: 100 / 3
abbrev pub ThreeIsWorked : Type 0
ThreeIsWorked =
    (unsigned_amount (2 ^ 32 - 1) 3 ≡ Some 33) × (reciprocal 3 33 ≡ 2863311531) × IsMagic (2 ^ 32 - 1) 3 33 2863311531 × FitsWord (2 ^ 32 - 1) 33 2863311531 × (shifted_product32 100 2863311531 33 ≡ 33)

-- 7 has one of 33 bits, and for numbers up to 1,000 the amount 32 serves: 100 / 7
abbrev pub SevenIsWorked : Type 0
SevenIsWorked =
    (unsigned_amount (2 ^ 32 - 1) 7 ≡ None) × (unsigned_amount 1000 7 ≡ Some 32) × (reciprocal 7 35 ≡ 2 ^ 32 + 613566757) × IsMagic (2 ^ 32 - 1) 7 (32 + 3) (2 ^ 32 + 613566757) × (shifted_long_product 100 613566757 3 ≡ 14) × (quotient_with None 7 100 ≡ 14)

-- signed it has one of 32 bits: -100 / 7
abbrev pub SignedSevenIsWorked : Type 0
SignedSevenIsWorked =
    (signed_amount 7 ≡ Some 34) × (reciprocal 7 34 ≡ 2454267027) × IsSignedMagic 7 34 2454267027 × (shifted_signed_product (2 ^ 32 - 100) 2454267027 34 ≡ 2 ^ 32 - 14)

-- -5 / 4 and -5 % 4
abbrev pub FourIsWorked : Type 0
FourIsWorked =
    (op2_result Shrs32 (biased32 (2 ^ 32 - 5) 2) 2 ≡ 2 ^ 32 - 1) × (op2_result Sub32 (2 ^ 32 - 5) (op2_result And32 (biased32 (2 ^ 32 - 5) 2) (2 ^ 32 - 4)) ≡ 2 ^ 32 - 1)

abbrev pub BoundsAreWorked : Type 0
BoundsAreWorked =
    (greatest1 S8to32 127 ≡ 127) × (greatest1 S8to32 128 ≡ 2 ^ 32 - 1) × (greatest2 Or32 5 9 ≡ 15) × (greatest2 Add32 (2 ^ 32 - 1) 1 ≡ 2 ^ 32 - 1) × (greatest_by Remu32 1000 7 ≡ 6)
