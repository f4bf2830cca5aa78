use Rattle.std.proofs.Common.{sym, ◌∙◌}
use Rattle.std.proofs.lemmas.Result.{IfOk-weaker}
use Rattle.inputs_text.specs.Lines.{numbers_in, words}
use Rattle.inputs_text.specs.Readings.{JudgesEntry, JudgesKnown}
use Rattle.inputs_text.proofs.FoundLemmas.{judged_form, judged_unknown, none_there}
use Rattle.inputs_text.proofs.reader.read_entry.Goals as goal

pub returns-in-Some : goal.returns-in-Some
returns-in-Some c =
    IfOk-weaker c.read_known.result
    (JudgesKnown c.in-Some.slot c.args.name (numbers_in (words c.args.text.now)) c.args.found.now.entries c.read_known.new.found.entries)
    (JudgesEntry c.args.slots.now.entries c.args.name (numbers_in (words c.args.text.now)) c.args.found.now.entries c.read_known.new.found.entries)
    (λ o judges. judges c.args.slots.now.entries (sym c.get.ensures.value ∙ sym c.copied.ensures ∙ c.in-Some.is)) c.read_known.ensures

pub returns-then-has_numbers : goal.returns-then-has_numbers
returns-then-has_numbers c = λ earlier has.
    judged_unknown c.args.slots.now.entries earlier c.args.name c.args.found.now.entries has _ (sym c.get.ensures.value ∙ sym c.copied.ensures ∙ c.in-None.is) (numbers_in (words c.args.text.now)) (sym c.has_numbers.ensures ∙ c.if-has_numbers.true)

pub returns : goal.returns
returns c = λ earlier has.
    judged_form c.args.slots.now.entries earlier c.args.name c.args.found.now.entries has _ (numbers_in (words c.args.text.now)) (none_there _ (sym c.has_numbers.ensures ∙ c.if-has_numbers.false))
