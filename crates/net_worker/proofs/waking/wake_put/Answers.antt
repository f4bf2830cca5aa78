use Rattle.std.proofs.Common.{length, arith, ap, ◌∙◌}
use Rattle.net_worker.proofs.Holdings.{out_chan}
use Rattle.net_worker.proofs.waking.wake_put.Goals as goal

pub held_out-requires-clause-here : goal.held_out-requires-clause-here
held_out-requires-clause-here c =
    let n = ap length (c.as_slice-chans.ensures ∙ ap (λ x. x.chans) c.net.ensures.net) in
    out_chan c.args.tables.now.net.now c.args.portion.now c.args.unit c.args.place c.out_of_place-at.result c.out_of_place-at.ensures c.requires.here (omega arith)
