use Rattle.std.proofs.Common.{take, refl}
use Rattle.c_types.proofs.FirstFaults.{one_more, item_more}
use Rattle.c_types.specs.CallPlaces.{helper_places, helpers_places}
use Rattle.c_types.proofs.calls.of_helpers.Goals as goal

pub loop-helper-preserved : goal.loop-helper-preserved
loop-helper-preserved c =
    one_more helpers_places helper_places refl (λ h hs. refl) (take c.loop-helper.helper-index c.args.helpers.now) _ c.helper-item.result c.loop-helper.first c.of_helper.result _
    (item_more c.args.helpers.now c.loop-helper.helper-index c.helper-item.result c.loop-helper-test.true c.helper-item.is) c.loop-helper.invariant c.of_helper.ensures c.earlier-first.ensures
