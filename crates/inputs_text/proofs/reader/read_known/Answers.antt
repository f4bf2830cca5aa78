use Rattle.std.proofs.Common.{◌≡◌, None, sym, ◌∙◌}
use Rattle.std.proofs.lemmas.Option.{MatchOption-at_none, MatchOption-at_some}
use Rattle.inputs_text.specs.Lines.{numbers_in, words}
use Rattle.inputs_text.specs.Measures.{MeasuresText}
use Rattle.std.proofs.lemmas.Bool.{not-true, not-false}
use Rattle.inputs_text.proofs.FoundLemmas.{judged_form, judged_twice, judged_count, judged_range, judged_kept}
use Rattle.inputs_text.proofs.reader.read_known.Goals as goal

pub returns-in_default : goal.returns-in_default
returns-in_default c = λ asked known earlier has.
    judged_form asked earlier c.args.name c.args.found.now.entries has _ _
    (MatchOption-at_none (numbers_in (words c.args.text.now) ≡ None) (MeasuresText c.args.slot c.args.text.now) c.in_default.is c.in_ok-numbers.ensures)

pub returns-then-contains_key : goal.returns-then-contains_key
returns-then-contains_key c = λ asked known earlier has.
    let read = MatchOption-at_some (numbers_in (words c.args.text.now) ≡ None) (MeasuresText c.args.slot c.args.text.now) c.in-Some.numbers c.in-Some.is c.in_ok-numbers.ensures in
    judged_twice asked earlier c.args.name c.args.found.now.entries has _ c.args.slot known (sym c.contains_key.ensures ∙ c.if-contains_key.true) read.numbers _ read.there

pub returns-then-numbers-slot : goal.returns-then-numbers-slot
returns-then-numbers-slot c = λ asked known earlier has.
    let read = MatchOption-at_some (numbers_in (words c.args.text.now) ≡ None) (MeasuresText c.args.slot c.args.text.now) c.in-Some.numbers c.in-Some.is c.in_ok-numbers.ensures in
    judged_count asked earlier c.args.name c.args.found.now.entries has _ c.args.slot known (sym c.contains_key.ensures ∙ c.if-contains_key.false) read.numbers c.in-Some.numbers read.measured _ read.there
    c.if-numbers-slot.true

pub returns-then-not-numbers : goal.returns-then-not-numbers
returns-then-not-numbers c = λ asked known earlier has.
    let read = MatchOption-at_some (numbers_in (words c.args.text.now) ≡ None) (MeasuresText c.args.slot c.args.text.now) c.in-Some.numbers c.in-Some.is c.in_ok-numbers.ensures in
    judged_range asked earlier c.args.name c.args.found.now.entries has _ c.args.slot known (sym c.contains_key.ensures ∙ c.if-contains_key.false) read.numbers c.in-Some.numbers read.measured _ read.there
    c.if-numbers-slot.false (not-true _ c.if-not-numbers.true)

pub returns : goal.returns
returns c = λ asked known earlier has.
    let read = MatchOption-at_some (numbers_in (words c.args.text.now) ≡ None) (MeasuresText c.args.slot c.args.text.now) c.in-Some.numbers c.in-Some.is c.in_ok-numbers.ensures in
    judged_kept asked earlier c.args.name c.args.found.now.entries has _ c.args.slot known (sym c.contains_key.ensures ∙ c.if-contains_key.false) read.numbers c.in-Some.numbers read.measured _ read.there
    c.if-numbers-slot.false (not-false _ c.if-not-numbers.false) (λ q. c.in_ok-insert.ensures.updates.0 q)
