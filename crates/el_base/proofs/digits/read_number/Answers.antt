use Rattle.std.proofs.Common.{◌≡◌, ◌-◌, length, take, drop, ap, ◌∙◌, rules, to_z, of_z}
use Rattle.std.proofs.lemmas.Int.{to_z-of_z}
use mir.Syntax.{w128}
use mir.Val.{SFits}
use Rattle.el_base.specs.Digits.{signed, capped_value}
use Rattle.el_base.proofs.DigitLemmas.{number_at_is, rest_is}
use Rattle.el_base.proofs.digits.read_number.Goals as goal

pub returns : goal.returns
returns c =
    let fits : SFits w128 c.signed.result = search rules in
    let worth : to_z w128 (of_z w128 c.signed.result) ≡ signed c.starts_with_minus-negative.result (capped_value c.leading_digits-digits.result.now) =
    to_z-of_z w128 c.signed.result fits ∙ c.signed.ensures ∙ ap (signed c.starts_with_minus-negative.result) c.capped_value.ensures in
    let rest = take (length c.args.bytes.now - c.args.at) (drop c.args.at c.args.bytes.now) in
    number_at_is c.args.bytes.now _ _ c.args.at c.from-from.result _ _ _ _ (rest_is c.args.bytes.now c.args.at) (rest_is rest c.from-from.result)
    c.starts_with_minus-negative.ensures (search rules) c.leading_digits-digits.ensures.front (search rules) worth c.is_canonical.ensures
