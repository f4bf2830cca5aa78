use Rattle.std.proofs.Common.{[]}
use Rattle.net_types.specs.declared.firing.Act.TheVariants.{Go}
use Rattle.net_types.specs.declared.net.Unit.TheVariants as unit
use Rattle.net_core.specs.Fire.{row}
use Rattle.net_core.specs.States.{own_at}
use Rattle.net_core.proofs.StateLemmas.{row_plan}
use Rattle.net_worker.proofs.portion.Portion.plan_sink_at.Goals as goal

pub returns-clause-effect : goal.returns-clause-effect
unfolding row
returns-clause-effect c =
    row_plan c.args.net.now c.args.self.now.state c.args.unit Go (unit.Sink c.requires.kind.width) _ c.plan_one.result c.requires.kind.shape c.heads-heads.ensures
    (c.plan_one.ensures.effect (unit.Sink c.requires.kind.width) (own_at c.args.self.now.state c.args.unit) [])
