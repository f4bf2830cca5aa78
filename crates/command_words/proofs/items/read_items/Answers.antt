use Rattle.std.proofs.Common.{◌∷◌, ◌+◌, drop, sym, ◌∙◌, subst, refl, ap}
use Rattle.std.proofs.lemmas.Bool.{false≢true}
use Rattle.command_words.specs.Items.{items_of}
use Rattle.command_words.specs.Steps.{GoOn, Reads}
use Rattle.command_words.specs.Commands.{texts}
use Rattle.command_words.proofs.Moves.{reads_more, words_at, reads_end, no_words_left}
use Rattle.command_words.proofs.items.read_items.Goals as goal

pub returns-in_default-clause-none : goal.returns-in_default-clause-none
returns-in_default-clause-none c = λ none is t.
    let r = c.loop-word.invariant.complete is t in
    c.in_default.ensures.none refl r.rest (drop (c.loop-word.word-index + 1) (texts c.args.words.now))
    (subst (GoOn c.args.verb c.loop-word.state r.rest)
    (words_at c.loop-word.word-index c.args.words.now c.word-item.result c.loop-word-test.true c.word-item.is
    ∙ ap (λ w. w ∷ drop (c.loop-word.word-index + 1) (texts c.args.words.now)) (sym c.as_str.ensures.value)) r.on)

pub loop-word-preserved : goal.loop-word-preserved
loop-word-preserved c =
    subst (λ items. Reads c.args.verb c.in-Some.step.state items (texts c.args.words.now) (drop (c.loop-word.word-index + 1) (texts c.args.words.now)))
    (sym c.in_ok-push_item.ensures)
    (reads_more c.args.verb c.loop-word.state c.in-Some.step.state (items_of c.loop-word.items.items) _ (texts c.args.words.now)
    (drop (c.loop-word.word-index + 1) (texts c.args.words.now)) c.as_str.result.now
    (subst (Reads c.args.verb c.loop-word.state (items_of c.loop-word.items.items) (texts c.args.words.now))
    (words_at c.loop-word.word-index c.args.words.now c.word-item.result c.loop-word-test.true c.word-item.is
    ∙ ap (λ w. w ∷ drop (c.loop-word.word-index + 1) (texts c.args.words.now)) (sym c.as_str.ensures.value)) c.loop-word.invariant)
    c.in-Some.ensures.some)

pub returns-in-Open : goal.returns-in-Open
returns-in-Open c = record {
  some =
      reads_end c.args.verb c.loop-word.state (items_of c.loop-word.items.items) (texts c.args.words.now) _ c.loop-word.invariant
      (no_words_left c.loop-word.word-index c.args.words.now c.loop-word-test.false) c.in-Open.is;
  none = λ e. absurd (false≢true (sym e));
}
