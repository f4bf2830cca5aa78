use Rattle.std.proofs.Common.{sym}
use Rattle.c_parse.proofs.Parting.{none_yet, one_more, parted_at}
use Rattle.c_parse.proofs.program.parted.Goals as goal

pub free-init : goal.free-init
free-init c = none_yet _ _

pub free-preserved : goal.free-preserved
free-preserved c = one_more _ _ _ _ c.free.invariant (sym c.free-test.ensures) c.split_at.ensures.back

pub returns : goal.returns
returns c = parted_at _ _ _ _ _ c.free.invariant (sym c.free-test.ensures) c.split_at-2.ensures.front c.split_at-2.ensures.back
