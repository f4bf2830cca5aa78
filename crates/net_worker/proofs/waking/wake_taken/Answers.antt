use Rattle.std.proofs.Common.{length, arith, ap, ◌∙◌}
use Rattle.net_worker.proofs.Holdings.{in_chan}
use Rattle.net_worker.proofs.waking.wake_taken.Goals as goal

pub held_in-held-requires-clause-here : goal.held_in-held-requires-clause-here
held_in-held-requires-clause-here c =
    let n = ap length (c.as_slice-chans.ensures ∙ ap (λ x. x.chans) c.net.ensures.net) in
    in_chan c.args.tables.now.net.now c.args.portion.now c.args.unit c.args.place c.into_place-at.result c.into_place-at.ensures c.requires.here (omega arith)
