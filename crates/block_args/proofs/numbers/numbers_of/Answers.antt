use Rattle.std.proofs.Common.{refl}
use Rattle.block_args.proofs.Numbering.{numbers_are}
use Rattle.block_args.proofs.numbers.numbers_of.Goals as goal

pub returns : goal.returns
returns c = numbers_are c.args.held.now c.args.reads.now c.args.places.now _ c.requires.places c.in_ok-reads.ensures refl
