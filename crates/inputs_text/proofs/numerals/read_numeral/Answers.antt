use Rattle.std.proofs.Common.{sym, ◌∙◌, rules}
use Rattle.std.specs.Int.{w128}
use Rattle.std.proofs.lemmas.Int.{to_z-of_z}
use mir.Val.{SFits}
use Rattle.inputs_text.proofs.NumeralLemmas.{none_numeral, short_numeral, whole_numeral}
use Rattle.inputs_text.proofs.numerals.read_numeral.Goals as goal

pub returns-in_default : goal.returns-in_default
returns-in_default c = none_numeral c.args.word.now (sym c.read_number.ensures ∙ c.in_default.is)

pub returns-then-number-word : goal.returns-then-number-word
returns-then-number-word c =
    let fits : SFits w128 c.in-Some.number.value = search rules in
    rw (to_z-of_z w128 c.in-Some.number.value fits)
    (whole_numeral c.args.word.now c.in-Some.number (sym c.read_number.ensures ∙ c.in-Some.is) c.if-number-word.true)

pub returns-else-number-word : goal.returns-else-number-word
returns-else-number-word c = short_numeral c.args.word.now c.in-Some.number (sym c.read_number.ensures ∙ c.in-Some.is) c.if-number-word.false
