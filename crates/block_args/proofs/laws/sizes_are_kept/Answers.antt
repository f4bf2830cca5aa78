use Rattle.block_args.proofs.Sizes.{sizes}
use Rattle.block_args.proofs.laws.sizes_are_kept.Goals as goal

pub returns : goal.returns
returns c = λ g table fine serves. sizes g fine table serves
