use Rattle.std.proofs.Common.{arith}
use Rattle.block_prune.specs.Overwritten.{lasting_marks}
use Rattle.block_prune.proofs.Tables.{few_values}
use Rattle.block_prune.proofs.pruning.prune_block.Goals as goal

pub without_dead-requires : goal.without_dead-requires
without_dead-requires c =
    let b = c.args.block.now in
    let few = few_values (lasting_marks b.steps) b c.in_ok-lasting.lasting c.in_ok-lasting.ensures in
    let r = c.requires in
    omega (arith, few, r)
