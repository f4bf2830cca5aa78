use Rattle.net_text.specs.Fits.{GroupFits}
use Rattle.net_text.specs.Pieces.{group_text}
use Rattle.net_text.proofs.Lists.{fits_at, one_more}
use Rattle.net_text.proofs.ReadLemmas.{none_read, some_read}
use Rattle.net_text.proofs.read_pieces.read_group_list.Goals as goal

pub returns-in-None : goal.returns-in-None
returns-in-None c = λ gs fits e.
    let at = fits_at (λ part. part.now) GroupFits group_text gs c.args.parts.now c.loop-part.part-index _ fits e c.loop-part-test.true in
    none_read GroupFits group_text _ c.in_ok-group.field-0 c.in-None.is c.in_ok-group.ensures at.0 at.1.0 at.1.1

pub loop-part-preserved : goal.loop-part-preserved
loop-part-preserved c =
    let read = some_read GroupFits group_text _ c.in_ok-group.field-0 c.in-Some.group c.in-Some.is c.in_ok-group.ensures in
    let more = one_more (λ part. part.now) GroupFits group_text c.loop-part.groups c.push.new.self c.in-Some.group c.args.parts.now c.loop-part.part-index _
    c.in_ok-push-in-Some.ensures.ok c.loop-part.invariant.fits c.loop-part.invariant.same read.0 read.1 c.loop-part-test.true in
    record { fits = more.0; same = more.1 }
