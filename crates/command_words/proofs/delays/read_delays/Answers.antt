use Rattle.std.proofs.Common.{rules, ◌≡◌, refl, subst, sym}
use Rattle.std.specs.Prelude.{IsTrue, IsNone}
use Rattle.command_words.specs.Commands.{word_texts}
use Rattle.command_words.specs.Steps.{parts, AreEach}
use Rattle.command_words.proofs.DelayLemmas.{each_from, delays_from, apart_or_not}
use Rattle.command_words.proofs.delays.read_delays.Goals as goal

pub returns-in_default-clause-none : goal.returns-in_default-clause-none
returns-in_default-clause-none c = λ none ds is.
    let texts : word_texts c.as_slice.result.now ≡ parts c.args.text.now = rw c.as_slice.ensures.value c.in_ok-parts.ensures in
    c.in_ok-delays.ensures.none (subst (λ o. IsNone o) (sym c.in_default.is) refl) ds (subst (λ ps. AreEach ps ds) (sym texts) (each_from c.args.text.now ds is))

pub returns-then-not-are_apart-clause-none : goal.returns-then-not-are_apart-clause-none
returns-then-not-are_apart-clause-none c = λ none ds is.
    let texts : word_texts c.as_slice.result.now ≡ parts c.args.text.now = rw c.as_slice.ensures.value c.in_ok-parts.ensures in
    let each : AreEach (word_texts c.as_slice.result.now) c.in-Some.delays = rw c.in-Some.is at c.in_ok-delays.ensures.some in
    let apart = apart_or_not c.args.text.now c.in-Some.delays ds (subst (λ ps. AreEach ps c.in-Some.delays) texts each) is in
    let holds : IsTrue c.are_apart.result = c.are_apart.ensures.no (rw c.as_slice-2.ensures apart) in
    search rules

pub returns-clause-some : goal.returns-clause-some
returns-clause-some c =
    let texts : word_texts c.as_slice.result.now ≡ parts c.args.text.now = rw c.as_slice.ensures.value c.in_ok-parts.ensures in
    let each : AreEach (word_texts c.as_slice.result.now) c.in-Some.delays = rw c.in-Some.is at c.in_ok-delays.ensures.some in
    delays_from c.args.text.now c.in-Some.delays (subst (λ ps. AreEach ps c.in-Some.delays) texts each) (rw c.as_slice-2.ensures at c.are_apart.ensures.yes c.if-not-are_apart.false)
