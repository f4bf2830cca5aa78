use Rattle.std.proofs.Common.{◌+◌, ◌*◌, ◌^◌, min, ap, ◌∙◌, arith}
use Rattle.el_base.proofs.DigitLemmas.{capped_more}
use Rattle.el_base.proofs.digits.capped_value.Goals as goal

pub loop-digit-preserved : goal.loop-digit-preserved
loop-digit-preserved c = record {
  bound = omega arith;
  worth = c.min-value.ensures ∙ ap (λ n. min (c.loop-digit.value * 10 + n) (2 ^ 100)) c.from.ensures
      ∙ capped_more c.args.digits.now c.loop-digit.digit-index c.loop-digit.value c.loop-digit-test.true (c.requires _ _ c.loop-digit-test.true) c.loop-digit.invariant.worth;
}
