use Rattle.net_core.proofs.RestoreLemmas.{sending_first, sending_unsent, sending_next}
use Rattle.net_core.proofs.parts.send_all.Goals as goal

pub loop-out-init : goal.loop-out-init
loop-out-init c = sending_first c.args.outs.now c.args.sent.now c.requires.none c.requires.fits

pub send-requires : goal.send-requires
send-requires c = sending_unsent c.args.outs.now c.args.sent.now c.loop-out.sent c.loop-out.out-index c.loop-out-test.true c.loop-out.invariant

pub loop-out-preserved : goal.loop-out-preserved
loop-out-preserved c =
    sending_next c.args.outs.now c.args.sent.now c.loop-out.sent c.send.new.self c.loop-out.out-index c.loop-out-test.true c.requires.fits.some c.loop-out.invariant c.send.ensures
