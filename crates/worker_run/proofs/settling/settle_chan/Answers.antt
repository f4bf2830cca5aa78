use Rattle.std.proofs.Common.{◌≡◌, ◌≢◌, arith}
use Rattle.worker_run.proofs.KeptLemmas.{from_within, to_within, from_put, to_take, from_to_link}
use Rattle.worker_run.proofs.settling.settle_chan.Goals as goal

pub settle_up-requires-clause-within : goal.settle_up-requires-clause-within
settle_up-requires-clause-within c = to_within c.args.tables.now c.args.workers.now c.requires.checked c.requires.made c.args.chan c.putter-from.result c.taker-to.result c.requires.within c.putter-from.ensures c.taker-to.ensures

pub settle_up-requires-clause-put : goal.settle_up-requires-clause-put
settle_up-requires-clause-put c =
    let ne : c.putter-from.result ≢ c.taker-to.result = λ q. absurd (omega (arith, q, c.if-from-to.true)) in
    from_put c.args.tables.now c.args.workers.now c.requires.checked c.requires.made c.args.chan c.putter-from.result c.taker-to.result c.requires.within c.putter-from.ensures c.taker-to.ensures c.requires.whole ne

pub settle_up-requires-clause-take : goal.settle_up-requires-clause-take
settle_up-requires-clause-take c =
    let ne : c.putter-from.result ≢ c.taker-to.result = λ q. absurd (omega (arith, q, c.if-from-to.true)) in
    to_take c.args.tables.now c.args.workers.now c.requires.checked c.requires.made c.args.chan c.putter-from.result c.taker-to.result c.requires.within c.putter-from.ensures c.taker-to.ensures c.requires.whole ne

pub settle_up-requires-clause-link : goal.settle_up-requires-clause-link
settle_up-requires-clause-link c =
    let ne : c.putter-from.result ≢ c.taker-to.result = λ q. absurd (omega (arith, q, c.if-from-to.true)) in
    from_to_link c.args.tables.now c.args.workers.now c.requires.checked c.requires.made c.args.chan c.putter-from.result c.taker-to.result c.requires.within c.putter-from.ensures c.taker-to.ensures c.requires.linked ne

pub settle_down-requires-clause-within : goal.settle_down-requires-clause-within
settle_down-requires-clause-within c = from_within c.args.tables.now c.args.workers.now c.requires.checked c.requires.made c.args.chan c.putter-from.result c.taker-to.result c.requires.within c.putter-from.ensures c.taker-to.ensures

pub settle_down-requires-clause-put : goal.settle_down-requires-clause-put
settle_down-requires-clause-put c =
    let ne : c.putter-from.result ≢ c.taker-to.result = λ q. absurd (omega (arith, q, c.if-to-from.true)) in
    from_put c.args.tables.now c.args.workers.now c.requires.checked c.requires.made c.args.chan c.putter-from.result c.taker-to.result c.requires.within c.putter-from.ensures c.taker-to.ensures c.requires.whole ne

pub settle_down-requires-clause-take : goal.settle_down-requires-clause-take
settle_down-requires-clause-take c =
    let ne : c.putter-from.result ≢ c.taker-to.result = λ q. absurd (omega (arith, q, c.if-to-from.true)) in
    to_take c.args.tables.now c.args.workers.now c.requires.checked c.requires.made c.args.chan c.putter-from.result c.taker-to.result c.requires.within c.putter-from.ensures c.taker-to.ensures c.requires.whole ne

pub settle_down-requires-clause-link : goal.settle_down-requires-clause-link
settle_down-requires-clause-link c =
    let ne : c.putter-from.result ≢ c.taker-to.result = λ q. absurd (omega (arith, q, c.if-to-from.true)) in
    from_to_link c.args.tables.now c.args.workers.now c.requires.checked c.requires.made c.args.chan c.putter-from.result c.taker-to.result c.requires.within c.putter-from.ensures c.taker-to.ensures c.requires.linked ne
