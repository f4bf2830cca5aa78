use Rattle.std.proofs.Common.{◌≡◌, ◌<◌, ◌≤◌, length, ap, sym, subst, arith}
use Rattle.net_types.specs.declared.net.Net.{Net}
use Rattle.net_check.specs.Checks.{IsChecked}
use Rattle.net_worker.specs.Views.{net_of}
use Rattle.worker_run.proofs.KeptLemmas.{made_hidden, are_linked_kept, whole_kept, are_kept_then, settled_more}
use Rattle.worker_run.proofs.settling.settle.Goals as goal

pub settle_chan-requires-clause-made : goal.settle_chan-requires-clause-made
settle_chan-requires-clause-made c = made_hidden c.args.tables.now c.args.workers.now c.loop-chan.workers c.loop-chan.invariant.kept c.requires.made

pub settle_chan-requires-clause-linked : goal.settle_chan-requires-clause-linked
settle_chan-requires-clause-linked c = are_linked_kept c.args.tables.now c.args.workers.now c.loop-chan.workers c.loop-chan.invariant.kept c.requires.linked

pub settle_chan-requires-clause-whole : goal.settle_chan-requires-clause-whole
settle_chan-requires-clause-whole c = whole_kept c.args.tables.now c.args.workers.now c.loop-chan.workers c.loop-chan.invariant.kept c.requires.whole

pub loop-chan-preserved : goal.loop-chan-preserved
loop-chan-preserved c =
    let t = c.args.tables.now in
    let checked = subst IsChecked (sym c.requires.net) c.net.ensures.checked in
    let long : length (net_of t).chans ≡ length c.args.net.now.chans = ap (λ (n : Net). length n.chans) c.requires.net in
    let same : length c.net.result.now.chans ≡ length c.args.net.now.chans = ap (λ (n : Net). length n.chans) c.net.ensures.net in
    record {
      kept = are_kept_then c.args.workers.now c.loop-chan.workers c.settle_chan.new.workers c.loop-chan.invariant.kept c.settle_chan.ensures.kept;
      sound = settled_more t c.args.workers.now c.loop-chan.workers c.settle_chan.new.workers c.loop-chan.chan checked c.requires.made
          (omega (arith, c.loop-chan-test.true, c.len-chan-end.ensures, long, same)) c.loop-chan.invariant.kept c.settle_chan.ensures.kept c.loop-chan.invariant.sound c.settle_chan.ensures.sound;
    }
