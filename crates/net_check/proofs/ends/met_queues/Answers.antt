use Rattle.std.proofs.Common.{length, ap, ◌∙◌, arith, rules}
use Rattle.net_check.specs.Ends.{IsEnd, source_of}
use Rattle.net_check.proofs.MarkLemmas.{true_iff, false_iff}
use Rattle.net_check.proofs.EndLemmas.{walking_none, walking_more, walking_fewer, walking_done}
use Rattle.net_check.proofs.ends.met_queues.Goals as goal

pub queues-init : goal.queues-init
queues-init c =
    walking_none c.args.net.now c.args.exit (length c.as_slice.result.now) c.source-from.result c.in_ok-met.met.items (ap length c.as_slice.ensures) (search rules) c.source-from.ensures

pub index_mut-requires : goal.index_mut-requires
index_mut-requires c =
    let e : IsEnd c.args.net.now c.queues.from = true_iff c.is_end.result (IsEnd c.args.net.now c.queues.from) c.is_end.ensures c.queues-test.true in
    let l = e.within in
    let s = c.queues.invariant.size in omega arith

pub queues-smaller : goal.queues-smaller
queues-smaller c =
    walking_fewer c.args.net.now c.args.exit c.queues.from c.queues.met.items c.requires.places c.requires.shapes c.requires.exit c.queues.invariant
    (true_iff c.is_end.result (IsEnd c.args.net.now c.queues.from) c.is_end.ensures c.queues-test.true)

pub queues-preserved : goal.queues-preserved
queues-preserved c =
    walking_more c.args.net.now c.args.exit c.queues.from c.source-from-in-queues.result c.queues.met.items c.requires.places c.requires.shapes c.requires.exit c.queues.invariant
    (true_iff c.is_end.result (IsEnd c.args.net.now c.queues.from) c.is_end.ensures c.queues-test.true) (c.source-from-in-queues.ensures ∙ ap (λ y. source_of c.args.net.now c.queues.from.unit y) c.from.ensures)

pub returns : goal.returns
returns c = walking_done c.args.net.now c.args.exit c.queues.from c.queues.met.items c.queues.invariant (false_iff c.is_end.result (IsEnd c.args.net.now c.queues.from) c.is_end.ensures c.queues-test.false)
