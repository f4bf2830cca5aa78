use Rattle.block_prune.proofs.LastStores.{overwritten_may_go}
use Rattle.block_prune.proofs.LiveSteps.{dead_may_go}
use Rattle.block_prune.proofs.Goes.{pruned_keep}
use Rattle.block_prune.proofs.laws.pruned_blocks_keep.Goals as goal

pub returns-clause-stores : goal.returns-clause-stores
returns-clause-stores c = overwritten_may_go

pub returns-clause-steps : goal.returns-clause-steps
returns-clause-steps c = dead_may_go

pub returns-clause-both : goal.returns-clause-both
returns-clause-both c = pruned_keep
