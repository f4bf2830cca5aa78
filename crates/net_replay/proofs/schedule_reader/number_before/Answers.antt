use Rattle.std.proofs.Common.{refl, length, decimal}
use Rattle.std.proofs.lemmas.Bool.{false≢true}
use Rattle.net_replay.proofs.NumberLemmas.{number_some, number_none, in_front}
use Rattle.net_replay.proofs.schedule_reader.number_before.Goals as goal

pub returns-in_default : goal.returns-in_default
returns-in_default c n more k = c.in_default.ensures n (length (decimal n)) k.fits (in_front c.args.mark n c.args.text.now more c.requires k.fits k.whole)

pub returns-then-stands_at : goal.returns-then-stands_at
returns-then-stands_at c =
    number_some c.args.mark c.in-Some.number c.in-Some.end c.args.text.now c.in-Some.ensures.0 c.in-Some.ensures.1 (c.if-stands_at.ensures.0 refl).0 (c.if-stands_at.ensures.0 refl).1

pub returns-else-stands_at : goal.returns-else-stands_at
returns-else-stands_at c =
    number_none c.args.mark c.in-Some.number c.in-Some.end c.args.text.now c.requires c.in-Some.ensures.1 (λ h. false≢true (c.if-stands_at.ensures.1 h))
