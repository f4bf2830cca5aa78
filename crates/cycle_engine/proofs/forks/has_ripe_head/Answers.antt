use Rattle.std.proofs.Common.{◌≡◌, length, arith, rules}
use Rattle.cycle_engine.proofs.SendLemmas.{past_unripe}
use Rattle.cycle_engine.proofs.forks.has_ripe_head.Goals as goal

pub returns-else-chan-as_slice : goal.returns-else-chan-as_slice
returns-else-chan-as_slice c =
    let n : length c.as_slice.result.now ≡ length c.args.net.now.chans = search rules in
    (λ t. absurd (search rules), λ r. absurd (past_unripe c.args.net.now c.args.now _ c.args.chan c.requires.dated (omega arith) r))
