use Rattle.std.proofs.Common.{◌≡◌, ◌+◌, suc, sym, subst, arith}
use Rattle.net_core.specs.States.{state_of}
use Rattle.net_core.specs.private.Searches.{family_rank, queue_numbers, NoneIn, IsFirstIn}
use Rattle.net_core.proofs.SearchLemmas.{Below, IsRange, below_more, least_first}
use Rattle.net_core.proofs.QueueFindLemmas.{below_first, queue_range}
use Rattle.net_core.proofs.find.first_of_queue.Goals as goal

pub loop-at-init : goal.loop-at-init
loop-at-init g c =
    below_first c.args.net.now (state_of (g.S.Searched.stored c.args.state.now)) c.args.unit c.requires.queue.array c.args.queue.now c.requires.queue.shape c.requires.queue.state c.len.ensures.order c.len.ensures.ports c.args.from

pub returns-in-Some : goal.returns-in-Some
returns-in-Some g c =
    let f = c.queue_family-family.result in
    let e : family_rank c.queue_family-family.result ≡ 3 + c.loop-at.at = c.queue_family-family.ensures in
    let r : IsRange c.args.net.now (state_of (g.S.Searched.stored c.args.state.now)) c.args.unit c.args.from f (queue_numbers f c.args.from c.args.queue.now).start (queue_numbers f c.args.from c.args.queue.now).end =
    queue_range c.args.net.now (state_of (g.S.Searched.stored c.args.state.now)) c.args.unit c.requires.queue.array c.args.queue.now c.requires.queue.shape c.requires.queue.state c.len.ensures.order c.len.ensures.ports c.args.from f (omega arith) in
    least_first c.args.net.now (state_of (g.S.Searched.stored c.args.state.now)) c.args.unit c.args.from f _ _ c.in-Some.act (subst (Below c.args.net.now (state_of (g.S.Searched.stored c.args.state.now)) c.args.unit c.args.from) (sym e) c.loop-at.invariant) r
    (subst (λ n. IsFirstIn c.args.net.now (state_of (g.S.Searched.stored c.args.state.now)) c.args.unit f n.start n.end c.in-Some.act) {y = queue_numbers f c.args.from c.args.queue.now} c.queue_numbers-numbers.ensures c.in-Some.ensures)

pub loop-at-preserved : goal.loop-at-preserved
loop-at-preserved g c =
    let f = c.queue_family-family.result in
    let e : family_rank c.queue_family-family.result ≡ 3 + c.loop-at.at = c.queue_family-family.ensures in
    let r : IsRange c.args.net.now (state_of (g.S.Searched.stored c.args.state.now)) c.args.unit c.args.from f (queue_numbers f c.args.from c.args.queue.now).start (queue_numbers f c.args.from c.args.queue.now).end =
    queue_range c.args.net.now (state_of (g.S.Searched.stored c.args.state.now)) c.args.unit c.requires.queue.array c.args.queue.now c.requires.queue.shape c.requires.queue.state c.len.ensures.order c.len.ensures.ports c.args.from f (omega arith) in
    let n : suc (family_rank f) ≡ 3 + (c.loop-at.at + 1) = omega arith in
    subst (Below c.args.net.now (state_of (g.S.Searched.stored c.args.state.now)) c.args.unit c.args.from) n
    (below_more c.args.net.now (state_of (g.S.Searched.stored c.args.state.now)) c.args.unit c.args.from f _ _ (subst (Below c.args.net.now (state_of (g.S.Searched.stored c.args.state.now)) c.args.unit c.args.from) (sym e) c.loop-at.invariant) r
    (subst (λ n. NoneIn c.args.net.now (state_of (g.S.Searched.stored c.args.state.now)) c.args.unit f n.start n.end) {y = queue_numbers f c.args.from c.args.queue.now} c.queue_numbers-numbers.ensures c.in_default.ensures))
