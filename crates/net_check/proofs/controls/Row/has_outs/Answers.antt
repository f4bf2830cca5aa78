use Rattle.std.proofs.Common.{sym, ap, ◌∙◌}
use Rattle.net_types.specs.Tables.{outs}
use Rattle.net_check.specs.private.Steers.{agrees, marks}
use Rattle.net_check.proofs.controls.Row.has_outs.Goals as goal

pub returns-in-Fork : goal.returns-in-Fork
returns-in-Fork c = c.has_copies.ensures c.args.self.now.net.now c.in-Fork.width ∙ ap (λ k. agrees (marks c.args.self.now) (outs c.args.self.now.net.now c.args.passes k)) (sym c.in-Fork.is)
