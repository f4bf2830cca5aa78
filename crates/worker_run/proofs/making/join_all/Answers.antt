use Rattle.std.proofs.Common.{◌≡◌, ◌≤◌, length, ap, sym, subst, arith}
use Rattle.net_types.specs.declared.net.Net.{Net}
use Rattle.net_check.specs.Checks.{IsChecked}
use Rattle.worker_run.specs.private.Makings.{AreJoinedTo}
use Rattle.worker_run.proofs.making.join_all.Goals as goal

pub join_chan-requires-clause-checked : goal.join_chan-requires-clause-checked
join_chan-requires-clause-checked c = subst IsChecked (sym c.requires.net) c.net.ensures.checked

pub returns : goal.returns
returns c =
    let same : length c.net.result.now.chans ≡ length c.args.net.now.chans = ap (λ (n : Net). length n.chans) c.net.ensures.net in
    let all : c.loop-chan.chan ≡ length c.args.net.now.chans = omega (arith, c.loop-chan-test.false, c.loop-chan.auto.chan-end, c.len-chan-end.ensures, same) in
    subst (λ n. AreJoinedTo c.args.tables.now c.args.count c.args.limit n c.loop-chan.workers) all c.loop-chan.invariant
