use Rattle.std.proofs.Common.{arith}
use Rattle.command_words.proofs.DelayLemmas.{not_among}
use Rattle.command_words.proofs.delays.has_class.Goals as goal

pub returns-clause-no : goal.returns-clause-no
returns-clause-no c = λ among.
    absurd (not_among c.args.delays.now c.args.class (λ k d within. c.loop-delay.invariant k d (omega (arith, within, c.loop-delay-test.false))) among)
