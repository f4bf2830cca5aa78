use Rattle.std.proofs.Common.{sym, ◌∙◌}
use Rattle.std.proofs.lemmas.Result.{IfOk-weaker}
use Rattle.inputs_text.specs.Lines.{numbers_in, words}
use Rattle.inputs_text.specs.Readings.{JudgesEntry, JudgesLine}
use Rattle.inputs_text.proofs.JudgeLemmas.{line_skipped, line_formless, line_judged}
use Rattle.inputs_text.proofs.reader.read_line.Goals as goal

pub returns-then-is_skipped : goal.returns-then-is_skipped
returns-then-is_skipped c = λ earlier has.
    line_skipped c.args.slots.now.entries earlier c.args.line.now (sym c.is_skipped.ensures ∙ c.if-is_skipped.true) c.args.found.now.entries has

pub returns-in-None : goal.returns-in-None
returns-in-None c = λ earlier has.
    line_formless c.args.slots.now.entries earlier c.args.line.now (sym c.is_skipped.ensures ∙ c.if-is_skipped.false) c.cut.result.0.now c.cut.result.1.now c.cut.ensures.before c.cut.ensures.after
    (sym c.in-None.is ∙ c.in_ok-read_name.ensures) c.args.found.now.entries

pub returns-in-Some : goal.returns-in-Some
returns-in-Some c =
    IfOk-weaker c.read_entry.result
    (JudgesEntry c.args.slots.now.entries c.in-Some.name (numbers_in (words c.cut.result.1.now)) c.args.found.now.entries c.read_entry.new.found.entries)
    (JudgesLine c.args.slots.now.entries c.args.line.now c.args.found.now.entries c.read_entry.new.found.entries)
    (λ o judges earlier has.
    line_judged c.args.slots.now.entries earlier c.args.line.now (sym c.is_skipped.ensures ∙ c.if-is_skipped.false) c.cut.result.0.now c.cut.result.1.now c.cut.ensures.before c.cut.ensures.after
    c.in-Some.name (sym c.in-Some.is ∙ c.in_ok-read_name.ensures) c.args.found.now.entries c.read_entry.new.found.entries o has judges)
    c.read_entry.ensures
