use Rattle.std.proofs.Common.{[]}
use Rattle.net_types.specs.declared.firing.Act.TheVariants.{Go}
use Rattle.net_types.specs.declared.net.Unit.TheVariants as unit
use Rattle.net_core.specs.Fire.{row, setting}
use Rattle.net_core.specs.States.{own_at, state_of}
use Rattle.net_core.proofs.StateLemmas.{row_plan}
use Rattle.net_worker.proofs.portion.Portion.plan_op2_at.Goals as goal

pub returns-clause-effect : goal.returns-clause-effect
unfolding row
returns-clause-effect c =
    row_plan c.args.net.now c.args.self.now.state c.args.unit Go (unit.Op2 c.args.op) _ c.plan_op2.result c.requires.kind c.heads-heads.ensures
    (c.plan_op2.ensures.effect [] (own_at c.args.self.now.state c.args.unit) (setting c.args.net.now (state_of c.args.self.now.state)))
