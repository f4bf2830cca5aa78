use Rattle.std.proofs.Common.{◌≡◌, true, All, sym, subst, arith, rules, take_all, ◌∙◌}
use Rattle.std.specs.Char.{is_ascii_digit}
use Rattle.el_base.proofs.DigitLemmas.{all_leading, leading_digits_is}
use Rattle.el_base.proofs.digits.leading_digits.Goals as goal

pub returns-then-not-is_ascii_digit : goal.returns-then-not-is_ascii_digit
returns-then-not-is_ascii_digit c =
    let front = leading_digits_is c.args.bytes.now c.loop-i.i (omega arith) c.loop-i.invariant (λ _. search rules) in
    record { front = front; digits = subst (All (λ b. is_ascii_digit b ≡ true)) (sym front) (all_leading c.args.bytes.now) }

pub returns : goal.returns
returns c =
    let whole = take_all c.loop-i.i c.args.bytes.now (omega arith) in
    let front = sym whole ∙ leading_digits_is c.args.bytes.now c.loop-i.i (omega arith) c.loop-i.invariant (λ h. absurd (omega arith)) in
    record { front = front; digits = subst (All (λ b. is_ascii_digit b ≡ true)) (sym front) (all_leading c.args.bytes.now) }
