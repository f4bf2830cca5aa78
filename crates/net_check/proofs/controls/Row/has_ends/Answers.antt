use Rattle.std.proofs.Common.{◌≡◌, ◌+◌, suc, true, ap, ◌∙◌, arith}
use Rattle.net_types.specs.Tables.{spots}
use Rattle.net_check.specs.private.Steers.{agrees, marks}
use Rattle.net_check.proofs.controls.Row.has_ends.Goals as goal

pub returns : goal.returns
returns c = let e : c.args.groups + 1 ≡ suc c.args.groups = omega arith in c.has_run.ensures 32 ∙ ap (λ n. agrees (marks c.args.self.now) (spots 0 32 true n)) e
