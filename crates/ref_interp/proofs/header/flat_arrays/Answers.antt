use Rattle.std.proofs.Common.{sym, subst}
use Rattle.std.specs.Prelude.{All}
use Rattle.ref_interp.specs.Names.{IsSmallArray}
use Rattle.ref_interp.proofs.Params.{small_arrays}
use Rattle.ref_interp.proofs.header.flat_arrays.Goals as goal

pub rows-requires : goal.rows-requires
rows-requires c = subst (All IsSmallArray) (sym c.as_slice.ensures) (small_arrays c.args.typed.now c.requires)
