use Rattle.std.proofs.Common.{◌+◌, refl, subst, sym, take}
use Rattle.std.specs.Prelude.{IsNone}
use Rattle.command_words.specs.Commands.{word_texts}
use Rattle.command_words.specs.Steps.{AreEach}
use Rattle.command_words.proofs.DelayLemmas.{each_more, none_for}
use Rattle.command_words.proofs.delays.each_delay.Goals as goal

pub returns-in_default-clause-none : goal.returns-in_default-clause-none
returns-in_default-clause-none c = λ none ds each.
    none_for c.loop-i.i c.args.parts.now c.part_at.result ds c.loop-i-test.true c.part_at.ensures (c.delay_of.ensures.none (subst (λ o. IsNone o) (sym c.in_default.is) refl)) each

pub loop-i-preserved : goal.loop-i-preserved
loop-i-preserved c =
    subst (AreEach (word_texts (take (c.loop-i.i + 1) c.args.parts.now))) (sym c.in_ok-push.ensures.ok)
    (each_more c.loop-i.i c.args.parts.now c.part_at.result c.loop-i.delays c.in-Some.delay c.loop-i-test.true c.part_at.ensures c.loop-i.invariant c.in-Some.ensures.some)
