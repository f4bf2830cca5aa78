use Rattle.std.proofs.Common.{ap, ◌∙◌, arith, take_all}
use Rattle.std.specs.Char.{digit_value}
use Rattle.std.specs.Str.Parse.{digits_value}
use Rattle.c_lex.proofs.Numerals.{value_more, mul_wide, add_wide, narrow_value}
use Rattle.c_lex.proofs.numeral.value_of.Goals as goal

pub returns-in_err-checked_mul : goal.returns-in_err-checked_mul
returns-in_err-checked_mul c = c.from_residual-in_err-checked_mul.ensures
    ∙ mul_wide c.args.base c.args.digits.now c.loop-byte.byte-index c.loop-byte.value c.from-in-loop-byte.result (omega (arith, c.requires.low)) c.loop-byte-test.true c.loop-byte.invariant.worth c.from-in-loop-byte.ensures
    c.in_err-checked_mul.ensures

pub returns-in_err-value : goal.returns-in_err-value
returns-in_err-value c = c.from_residual-in_err-value.ensures
    ∙ add_wide c.args.base c.args.digits.now c.loop-byte.byte-index c.loop-byte.value c.from-in-loop-byte.result c.in_ok-checked_mul.field-0 c.from-in-loop-byte-2.result (omega (arith, c.requires.low)) c.loop-byte-test.true
    c.loop-byte.invariant.worth c.from-in-loop-byte.ensures c.in_ok-checked_mul.ensures.1 (c.from-in-loop-byte-2.ensures ∙ c.in_ok-digit.ensures.value.1 ∙ ap digit_value c.from.ensures) c.in_err-value.ensures

pub loop-byte-preserved : goal.loop-byte-preserved
loop-byte-preserved c = record {
  low = omega (arith, c.in_ok-value.ensures.0, c.in_ok-value.ensures.1);
  worth = c.in_ok-value.ensures.1
      ∙ value_more c.args.base c.args.digits.now c.loop-byte.byte-index c.loop-byte.value c.from-in-loop-byte.result c.in_ok-checked_mul.field-0 c.from-in-loop-byte-2.result c.loop-byte-test.true
      c.loop-byte.invariant.worth c.from-in-loop-byte.ensures c.in_ok-checked_mul.ensures.1 (c.from-in-loop-byte-2.ensures ∙ c.in_ok-digit.ensures.value.1 ∙ ap digit_value c.from.ensures);
}

pub returns : goal.returns
returns c = narrow_value c.loop-byte.value _ (c.loop-byte.invariant.worth ∙ ap (digits_value c.args.base) (take_all c.loop-byte.byte-index c.args.digits.now c.loop-byte-test.false)) c.loop-byte.invariant.low
