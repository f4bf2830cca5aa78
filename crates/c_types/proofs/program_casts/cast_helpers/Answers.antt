use Rattle.std.proofs.Common.{take, refl}
use Rattle.c_types.proofs.FirstFaults.{item_more}
use Rattle.c_types.proofs.ProgramHelpers.{no_helper, one_more_helper, helper_here}
use Rattle.c_types.proofs.program_casts.cast_helpers.Goals as goal

pub loop-place-init : goal.loop-place-init
loop-place-init c = no_helper _ c.new-items.ensures

pub loop-place-preserved : goal.loop-place-preserved
loop-place-preserved c =
    one_more_helper (take c.loop-place.place c.args.helpers.now) _ c.index-helpers-place.result c.loop-place.items _ _
    (item_more c.args.helpers.now c.loop-place.place c.index-helpers-place.result c.loop-place-test.true c.index-helpers-place.is) c.loop-place.invariant c.in_ok-cast_helper.ensures c.in_ok-push.ensures.ok

pub cast_helper-requires : goal.cast_helper-requires
cast_helper-requires c =
    helper_here c.args.helpers.now _ c.loop-place.place c.index-helpers-place.result refl c.loop-place-test.true c.index-helpers-place.is c.requires.typing c.requires.numbered
