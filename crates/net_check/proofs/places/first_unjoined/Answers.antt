use Rattle.net_check.proofs.JoinLemmas.{unjoined}
use Rattle.net_check.proofs.places.first_unjoined.Goals as goal

pub returns : goal.returns
returns c =
    unjoined c.args.net.now c.as_slice.result.now c.as_slice-2.result.now c.in_ok-ins.ins.known c.in_ok-outs.outs.known c.in_ok-ins.ins.twice c.in_ok-outs.outs.twice c.first_missing-missing.result c.lowest.result c.lowest-2.result
    c.as_slice.ensures c.as_slice-2.ensures c.requires.ends c.in_ok-ins.ensures c.in_ok-outs.ensures c.first_missing-missing.ensures c.lowest.ensures c.lowest-2.ensures
