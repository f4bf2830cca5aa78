use Rattle.std.proofs.Common.{◌≡◌, ◌≢◌, ◌+◌, ◌<◌, suc, List, length, set, refl, ap, ◌∙◌, sym, subst, arith, get_or}
use Rattle.elastic_link.specs.Ends.{IsNewPut}
use Rattle.net_types.specs.declared.net.Net.{Net}
use Rattle.net_types.specs.declared.net.Chan.{Chan}
use Rattle.net_types.specs.Nets.{nowhere}
use Rattle.net_check.specs.Checks.{IsChecked}
use Rattle.net_worker.specs.Views.{net_of}
use Rattle.worker_run.specs.private.Makings.{AreJoinedTo}
use Rattle.worker_run.proofs.JoinLemmas.{GivenPut, GivenTake, put_asked, put_none, take_asked, take_none, joined_next, joined_inside}
use Rattle.worker_run.proofs.making.join_chan.Goals as goal

pub give_put-requires-clause-out : goal.give_put-requires-clause-out
give_put-requires-clause-out c =
    let t = c.args.tables.now in
    let inside : c.args.chan < length (net_of t).chans = subst (λ (n : Net). c.args.chan < length n.chans) (sym c.requires.net) c.requires.within in
    let chans : c.as_slice.result.now ≡ (net_of t).chans = c.as_slice.ensures ∙ ap (λ (n : Net). n.chans) (c.net.ensures.net ∙ sym c.requires.net) in
    let new = subst (λ (cs : List Chan). IsNewPut (get_or cs c.args.chan nowhere).slots c.in_ok-put.put) chans c.in_ok-put.ensures.put in
    put_asked t c.args.count c.args.limit c.args.chan c.putter-from.result c.taker-to.result c.args.workers.now c.index-workers-from.result c.in_ok-put.put
    c.requires.checked c.requires.tables c.requires.joined inside c.putter-from.ensures c.taker-to.ensures c.if-from-to.true new

pub give_put-requires-clause-none : goal.give_put-requires-clause-none
give_put-requires-clause-none c =
    let t = c.args.tables.now in
    let inside : c.args.chan < length (net_of t).chans = subst (λ (n : Net). c.args.chan < length n.chans) (sym c.requires.net) c.requires.within in
    put_none t c.args.count c.args.limit c.args.chan c.putter-from.result c.args.workers.now c.index-workers-from.result c.requires.checked c.requires.tables c.requires.joined inside c.putter-from.ensures

pub give_take-requires-clause-into : goal.give_take-requires-clause-into
give_take-requires-clause-into c =
    let t = c.args.tables.now in
    let inside : c.args.chan < length (net_of t).chans = subst (λ (n : Net). c.args.chan < length n.chans) (sym c.requires.net) c.requires.within in
    let chans : c.as_slice.result.now ≡ (net_of t).chans = c.as_slice.ensures ∙ ap (λ (n : Net). n.chans) (c.net.ensures.net ∙ sym c.requires.net) in
    let new = subst (λ (cs : List Chan). IsNewPut (get_or cs c.args.chan nowhere).slots c.in_ok-put.put) chans c.in_ok-put.ensures.put in
    take_asked t c.args.count c.args.limit c.args.chan c.putter-from.result c.taker-to.result c.args.workers.now c.give_put.new.self c.index-workers-to.result c.in_ok-put.take
    c.requires.checked c.requires.tables c.requires.joined inside c.putter-from.ensures c.taker-to.ensures c.if-from-to.true c.in_ok-put.ensures.take (c.in_ok-put.ensures.link.2 ∙ new.slots)

pub give_take-requires-clause-none : goal.give_take-requires-clause-none
give_take-requires-clause-none c =
    let t = c.args.tables.now in
    let inside : c.args.chan < length (net_of t).chans = subst (λ (n : Net). c.args.chan < length n.chans) (sym c.requires.net) c.requires.within in
    take_none t c.args.count c.args.limit c.args.chan c.putter-from.result c.taker-to.result c.args.workers.now c.give_put.new.self c.index-workers-to.result
    c.requires.checked c.requires.tables c.requires.joined inside c.taker-to.ensures c.if-from-to.true

pub returns-in_ok-put : goal.returns-in_ok-put
returns-in_ok-put c =
    let t = c.args.tables.now in
    let ws = c.args.workers.now in
    let inside : c.args.chan < length (net_of t).chans = subst (λ (n : Net). c.args.chan < length n.chans) (sym c.requires.net) c.requires.within in
    let p = c.give_put.ensures in
    let q = c.give_take.ensures in
    let from = c.putter-from.result in
    let to = c.taker-to.result in
    let e : suc c.args.chan ≡ c.args.chan + 1 = omega arith in
    subst (λ n. AreJoinedTo t c.args.count c.args.limit n (set (set ws from c.give_put.new.self) to c.give_take.new.self)) e
    (joined_next t c.args.count c.args.limit c.args.chan ws c.requires.checked c.requires.tables c.requires.joined from to c.in_ok-put.put c.in_ok-put.take
    _ c.give_put.new.self _ c.give_take.new.self c.index-workers-from.result c.index-workers-to.result
    inside c.putter-from.ensures c.taker-to.ensures c.if-from-to.true refl refl c.in_ok-put.ensures.link
    (record { made = p.made; given = p.given; others = p.others; rest = p.rest })
    (record { made = q.made; given = q.given; others = q.others; rest = q.rest }))

pub returns-else-from-to : goal.returns-else-from-to
returns-else-from-to c =
    let t = c.args.tables.now in
    let e : suc c.args.chan ≡ c.args.chan + 1 = omega arith in
    let same = sym c.putter-from.ensures ∙ (c.if-from-to.false ∙ c.taker-to.ensures) in
    subst (λ n. AreJoinedTo t c.args.count c.args.limit n c.args.workers.now) e
    (joined_inside t c.args.count c.args.limit c.args.chan c.args.workers.now c.requires.checked c.requires.tables c.requires.joined same)
