use Rattle.std.proofs.Common.{arith}
use Rattle.net_worker.proofs.Holdings.{out_chan}
use Rattle.net_worker.proofs.parts.hand_over.Goals as goal

pub take_out-requires-clause-here : goal.take_out-requires-clause-here
take_out-requires-clause-here c =
    out_chan c.args.net.now c.args.portion.now c.args.unit c.in-Some.put.place c.out_of_place-chan.result c.out_of_place-chan.ensures c.requires.here (let l = c.has.ensures.within c.if-has.true in omega (arith, c.requires.long))
