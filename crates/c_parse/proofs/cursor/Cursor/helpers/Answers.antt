use Rattle.std.proofs.Common.{rules}
use Rattle.c_parse.proofs.Chains.{same_then, same_reduces}
use Rattle.c_parse.proofs.JudgedPrograms.{reads_no_helpers, reads_helper_after}
use Rattle.c_parse.proofs.cursor.Cursor.helpers.Goals as goal

pub helpers-init : goal.helpers-init
helpers-init c = record { read = reads_no_helpers _ _ c.new-helpers.ensures; judged = same_reduces }

pub helpers-preserved : goal.helpers-preserved
helpers-preserved c = record {
  read = reads_helper_after _ _ _ _ _ _ c.helpers.invariant.read c.in_ok-helper.ensures.derived c.in_ok-push.ensures.ok;
  judged = same_then c.helpers.invariant.judged (record { holds = c.in_ok-helper.ensures.judged (search rules) });
}
