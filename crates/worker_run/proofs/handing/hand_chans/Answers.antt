use Rattle.std.proofs.Common.{◌≡◌, ◌<◌, length, ap, subst, arith}
use Rattle.net_core.specs.States.{state_of}
use Rattle.net_types.specs.declared.net.Net.{Net}
use Rattle.net_worker.specs.Views.{owner_in}
use Rattle.worker_run.specs.private.Handings.{AreChansHanded}
use Rattle.worker_run.proofs.HandLemmas.{can_still, chan_more}
use Rattle.worker_run.proofs.handing.hand_chans.Goals as goal

pub hand_chan-requires-clause-can : goal.hand_chan-requires-clause-can
hand_chan-requires-clause-can c =
    let same : length c.net.result.now.chans ≡ length c.args.net.now.chans = ap (λ (n : Net). length n.chans) c.net.ensures.net in
    let l : c.loop-chan.chan < length c.args.net.now.chans = omega (arith, c.loop-chan-test.true, c.len-chan-end.ensures, same) in
    can_still c.args.net.now (owner_in c.args.tables.now) c.args.workers.now c.loop-chan.workers (state_of c.args.into.now) (state_of c.loop-chan.into) c.loop-chan.chan c.loop-chan.invariant.handed (c.requires.can c.loop-chan.chan l)

pub loop-chan-preserved : goal.loop-chan-preserved
loop-chan-preserved c =
    let same : length c.net.result.now.chans ≡ length c.args.net.now.chans = ap (λ (n : Net). length n.chans) c.net.ensures.net in
    let l : c.loop-chan.chan < length c.args.net.now.chans = omega (arith, c.loop-chan-test.true, c.len-chan-end.ensures, same) in
    let can = c.requires.can c.loop-chan.chan l in
    let g = c.hand_chan.ensures in
    record {
      holds = g.holds;
      own = g.own;
      linked = g.linked;
      of = g.of;
      handed = chan_more c.args.net.now (owner_in c.args.tables.now) c.args.workers.now c.loop-chan.workers c.hand_chan.new.workers (state_of c.args.into.now) (state_of c.loop-chan.into) (state_of c.hand_chan.new.into) c.loop-chan.chan
          can.from can.to c.loop-chan.invariant.handed g.handed;
    }

pub returns-clause-handed : goal.returns-clause-handed
returns-clause-handed c =
    let same : length c.net.result.now.chans ≡ length c.args.net.now.chans = ap (λ (n : Net). length n.chans) c.net.ensures.net in
    let e : c.loop-chan.chan ≡ length c.args.net.now.chans = omega (arith, c.loop-chan-test.false, c.loop-chan.auto, c.len-chan-end.ensures, same) in
    subst (AreChansHanded c.args.net.now (owner_in c.args.tables.now) c.args.workers.now c.loop-chan.workers (state_of c.args.into.now) (state_of c.loop-chan.into)) e c.loop-chan.invariant.handed
