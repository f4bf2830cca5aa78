use Rattle.std.proofs.Common.{decimal}
use Rattle.el_base.specs.Limits.{IsNumbered}
use Rattle.net_text.proofs.Lists.{fits_at, one_more}
use Rattle.net_text.proofs.ReadLemmas.{none_some}
use Rattle.net_text.proofs.read_pieces.read_numbers.Goals as goal

pub returns-in-None : goal.returns-in-None
returns-in-None c = λ ns fits e.
    let at = fits_at (λ part. part.now) IsNumbered decimal ns c.args.parts.now c.loop-part.part-index _ fits e c.loop-part-test.true in
    none_some at.0 (c.in-None.ensures.every at.0 at.1.0 at.1.1)

pub loop-part-preserved : goal.loop-part-preserved
loop-part-preserved c =
    let more = one_more (λ part. part.now) IsNumbered decimal c.loop-part.numbers c.push.new.self c.in-Some.number c.args.parts.now c.loop-part.part-index _
    c.in_ok-push-in-Some.ensures.ok c.loop-part.invariant.fits c.loop-part.invariant.same c.in-Some.ensures.named.0 c.in-Some.ensures.named.1 c.loop-part-test.true in
    record { fits = more.0; same = more.1 }
