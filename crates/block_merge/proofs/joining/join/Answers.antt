use Rattle.std.proofs.Common.{◌+◌, arith}
use Rattle.block_merge.proofs.JoinLemmas.{joined_is}
use Rattle.block_merge.proofs.joining.join.Goals as goal

pub returns : goal.returns
returns c =
    joined_is c.args.block c.args.next.now c.given_on.result (c.len.result + c.len-2.result) c.in_ok-jump.jump c.in_ok-steps.steps c.as_slice.result.now c.given_on.ensures
    (let p = c.len.ensures in let q = c.len-2.ensures in omega (arith, p, q)) c.in_ok-jump.ensures c.as_slice.ensures c.in_ok-steps.ensures
