use Rattle.net_types.specs.declared.firing.Act.TheVariants.{From}
use Rattle.net_types.specs.declared.net.Unit.TheVariants as unit
use Rattle.net_core.specs.Fire.{row}
use Rattle.net_core.specs.States.{own_at}
use Rattle.net_core.proofs.StateLemmas.{row_plan}
use Rattle.net_worker.proofs.portion.Portion.plan_from_at.Goals as goal

pub returns-clause-effect : goal.returns-clause-effect
unfolding row
returns-clause-effect c =
    row_plan c.args.net.now c.args.self.now.state c.args.unit (From c.args.input) (unit.Cmerge c.args.ins) _ c.plan_from.result c.requires.kind c.heads_beside-heads.ensures
    (c.plan_from.ensures.effect (unit.Cmerge c.args.ins) (own_at c.args.self.now.state c.args.unit) _)
