use Rattle.std.proofs.Common.{refl}
use Rattle.block_prune.specs.Pruned.{pruned}
use Rattle.block_prune.proofs.worked.sample_is_pruned.Goals as goal

pub returns : goal.returns
unfolding pruned
returns c = refl
