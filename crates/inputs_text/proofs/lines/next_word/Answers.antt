use Rattle.std.proofs.Common.{arith, sym, ◌∙◌}
use Rattle.std.proofs.lemmas.List.{take_rest}
use Rattle.inputs_text.proofs.LineLemmas.{next_more, next_last, next_shorter, words_none, some_there}
use Rattle.inputs_text.proofs.lines.next_word.Goals as goal

pub returns-in_default : goal.returns-in_default
returns-in_default c = words_none c.args.text.now (sym c.word_at.ensures ∙ c.in_default.is)

pub returns-in-Some-blank_at : goal.returns-in-Some-blank_at
returns-in-Some-blank_at c =
    let start = sym c.word_at.ensures ∙ c.in-Some.is in
    let end = rw take_rest at (sym c.blank_at.ensures ∙ c.in-Some-blank_at.is) in
    rw (take_rest, take_rest) (next_more c.args.text.now c.in-Some.start start c.in-Some-blank_at.end end, next_shorter c.args.text.now c.in-Some.start start c.in-Some-blank_at.end end)

pub returns-in-None : goal.returns-in-None
returns-in-None c =
    let start = sym c.word_at.ensures ∙ c.in-Some.is in
    let end = rw take_rest at (sym c.blank_at.ensures ∙ c.in-None.is) in
    rw take_rest (next_last c.args.text.now c.in-Some.start start end, omega (arith, some_there c.args.text.now c.in-Some.start start))
