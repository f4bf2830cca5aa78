use Rattle.std.proofs.Common.{◌+◌, ◌∙◌, suc, true}
use Rattle.net_types.specs.Tables.{spots, port_ins}
use Rattle.net_check.specs.private.Steers.{marks}
use Rattle.net_check.proofs.SteerLemmas.{ends_fail, ports_decide}
use Rattle.net_check.proofs.controls.Row.has_queue_ins.Goals as goal

pub returns-then-has_ends : goal.returns-then-has_ends
returns-then-has_ends c =
    λ w. ports_decide (marks c.args.self.now) (spots 0 32 true (suc c.args.groups)) (port_ins (c.args.groups + 1) w c.args.ports.now) c.has_ends.result c.has_sources.result c.has_ends.ensures c.if-has_ends.true (c.has_sources.ensures w)

pub returns-else-has_ends : goal.returns-else-has_ends
returns-else-has_ends c =
    λ w. c.if-has_ends.false ∙ ends_fail (marks c.args.self.now) (spots 0 32 true (suc c.args.groups)) (port_ins (c.args.groups + 1) w c.args.ports.now) c.has_ends.result c.has_ends.ensures c.if-has_ends.false
