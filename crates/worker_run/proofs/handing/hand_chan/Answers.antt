use Rattle.std.proofs.Common.{◌≡◌, ◌<◌, length, get_or, ap, sym, subst, arith}
use Rattle.std.proofs.lemmas.List.{get_or_default}
use Rattle.net_core.specs.States.{state_of}
use Rattle.net_types.specs.declared.net.Net.{Net}
use Rattle.net_worker.specs.Handed.{HoldsChan}
use Rattle.net_worker.specs.Plays.{putter, taker}
use Rattle.net_worker.specs.Views.{net_of, owner_in}
use Rattle.worker_run.proofs.HandLemmas.{drained_linked, hold_set, inner_handed, inner_linked, own_kept, own_set}
use Rattle.worker_run.proofs.handing.hand_chan.Goals as goal

pub hand_chan-requires-clause-here : goal.hand_chan-requires-clause-here
hand_chan-requires-clause-here c =
    let t = c.args.tables.now in
    let same = ap (λ (n : Net). taker n (owner_in t) c.args.chan) c.requires.net in
    let inside : c.args.chan < length (net_of t).chans = subst (λ (n : Net). c.args.chan < length n.chans) (sym c.requires.net) c.requires.within in
    let within : taker (net_of t) (owner_in t) c.args.chan < length c.args.workers.now = omega (arith, same, c.requires.can.to) in
    subst (λ o. HoldsChan (get_or c.args.workers.now o c.index-workers-to.result) c.args.chan) (sym c.taker-to.ensures)
    (c.requires.own.chans c.args.chan c.index-workers-to.result inside within)

pub returns-then-from-to-clause-own : goal.returns-then-from-to-clause-own
returns-then-from-to-clause-own c =
    let g = c.drain_up.ensures.drained in
    own_kept c.args.tables.now c.args.workers.now c.drain_up.new.workers g.long (λ j d l. (g.each j d l).holds) c.requires.own

pub returns-then-to-from-clause-own : goal.returns-then-to-from-clause-own
returns-then-to-from-clause-own c =
    let g = c.drain_down.ensures.drained in
    own_kept c.args.tables.now c.args.workers.now c.drain_down.new.workers g.long (λ j d l. (g.each j d l).holds) c.requires.own

pub returns-else-to-from-clause-own : goal.returns-else-to-from-clause-own
returns-else-to-from-clause-own c =
    let same = ap (λ (n : Net). taker n (owner_in c.args.tables.now) c.args.chan) c.requires.net in
    let within : c.taker-to.result < length c.args.workers.now = omega (arith, c.taker-to.ensures, same, c.requires.can.to) in
    let w = get_or c.args.workers.now c.taker-to.result c.index-workers-to.result in
    own_set c.args.tables.now c.args.workers.now c.taker-to.result w c.hand_chan.new.self within (get_or_default c.args.workers.now c.taker-to.result c.index-workers-to.result w within) c.hand_chan.ensures.rest.holds c.requires.own

pub returns-then-from-to-clause-linked : goal.returns-then-from-to-clause-linked
returns-then-from-to-clause-linked c =
    drained_linked c.args.tables.now c.putter-from.result c.taker-to.result c.args.chan c.args.workers.now c.drain_up.new.workers (state_of c.args.into.now) (state_of c.drain_up.new.into) c.putter-from.ensures c.taker-to.ensures
    c.drain_up.ensures.drained c.requires.linked

pub returns-then-to-from-clause-linked : goal.returns-then-to-from-clause-linked
returns-then-to-from-clause-linked c =
    drained_linked c.args.tables.now c.putter-from.result c.taker-to.result c.args.chan c.args.workers.now c.drain_down.new.workers (state_of c.args.into.now) (state_of c.drain_down.new.into) c.putter-from.ensures c.taker-to.ensures
    c.drain_down.ensures.drained c.requires.linked

pub returns-else-to-from-clause-holds : goal.returns-else-to-from-clause-holds
returns-else-to-from-clause-holds c =
    let same = ap (λ (n : Net). taker n (owner_in c.args.tables.now) c.args.chan) c.requires.net in
    let within : c.taker-to.result < length c.args.workers.now = omega (arith, c.taker-to.ensures, same, c.requires.can.to) in
    hold_set c.args.net.now c.args.workers.now c.taker-to.result c.hand_chan.new.self within c.requires.holds c.hand_chan.ensures.holds

pub returns-else-to-from-clause-handed : goal.returns-else-to-from-clause-handed
returns-else-to-from-clause-handed c =
    let t = c.args.tables.now in
    let net = c.args.net.now in
    let ws = c.args.workers.now in
    let o = c.taker-to.result in
    let takes = ap (λ (n : Net). taker n (owner_in t) c.args.chan) c.requires.net in
    let puts = ap (λ (n : Net). putter n (owner_in t) c.args.chan) c.requires.net in
    let within : o < length ws = omega (arith, c.taker-to.ensures, takes, c.requires.can.to) in
    let taken : taker net (owner_in t) c.args.chan ≡ o = omega (arith, c.taker-to.ensures, takes) in
    let put : putter net (owner_in t) c.args.chan ≡ taker net (owner_in t) c.args.chan = omega (arith, c.putter-from.ensures, puts, c.taker-to.ensures, takes, c.if-from-to.false, c.if-to-from.false) in
    let inside : c.args.chan < length (state_of c.args.into.now).tokens = omega (arith, c.requires.of.long, c.requires.within) in
    let w = get_or ws o c.index-workers-to.result in
    let g = c.hand_chan.ensures in
    inner_handed net (owner_in t) c.args.chan o ws w c.hand_chan.new.self (state_of c.args.into.now) (state_of c.hand_chan.new.into) within (get_or_default ws o c.index-workers-to.result w within) taken put inside g.state g.held g.rest

pub returns-else-to-from-clause-linked : goal.returns-else-to-from-clause-linked
returns-else-to-from-clause-linked c =
    let same = ap (λ (n : Net). taker n (owner_in c.args.tables.now) c.args.chan) c.requires.net in
    let within : c.taker-to.result < length c.args.workers.now = omega (arith, c.taker-to.ensures, same, c.requires.can.to) in
    let w = get_or c.args.workers.now c.taker-to.result c.index-workers-to.result in
    inner_linked c.args.tables.now c.taker-to.result c.args.workers.now w c.hand_chan.new.self within (get_or_default c.args.workers.now c.taker-to.result c.index-workers-to.result w within) c.hand_chan.ensures.rest c.requires.linked
