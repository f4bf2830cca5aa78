use Rattle.std.proofs.Common.{◌≡◌, ◌+◌, [], ◌∷◌, ◌++◌, take}
use Rattle.c_types.proofs.FirstFaults.{item_more}
use Rattle.c_types.proofs.ProgramArms.{one_more_helper, one_more_known}
use Rattle.c_types.proofs.programs.of_helpers.Goals as goal

pub loop-helper-preserved : goal.loop-helper-preserved
loop-helper-preserved c =
    let more : take (c.loop-helper.helper-index + 1) c.args.helpers.now ≡ take c.loop-helper.helper-index c.args.helpers.now ++ c.helper-item.result ∷ [] =
    item_more c.args.helpers.now c.loop-helper.helper-index c.helper-item.result c.loop-helper-test.true c.helper-item.is in
    record {
      fault = one_more_helper (take c.loop-helper.helper-index c.args.helpers.now) (take (c.loop-helper.helper-index + 1) c.args.helpers.now) c.helper-item.result c.args.scopes.now c.loop-helper.scopes
          c.loop-helper.first c.in_ok-of_helper.field-0 _ more c.loop-helper.invariant.fault c.loop-helper.invariant.scopes c.in_ok-of_helper.ensures.fault c.earlier-first.ensures;
      scopes = one_more_known (take c.loop-helper.helper-index c.args.helpers.now) (take (c.loop-helper.helper-index + 1) c.args.helpers.now) c.helper-item.result c.args.scopes.now c.loop-helper.scopes _
          more c.loop-helper.invariant.scopes c.in_ok-of_helper.ensures.scopes;
    }
