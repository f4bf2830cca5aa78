use Rattle.net_core.specs.Fire.{row}
use Rattle.net_core.specs.Plans.{own_of, setting_of}
use Rattle.net_core.proofs.plan.plan_go.Goals as goal

pub returns-in-Op1-clause-effect : goal.returns-in-Op1-clause-effect
unfolding row
returns-in-Op1-clause-effect g c = rw c.in-Op1.is (c.plan_op1.ensures.effect c.args.array.now (own_of c.args.cell.now) (setting_of c.args.scalars.now c.args.valued))

pub returns-in-Op2-clause-effect : goal.returns-in-Op2-clause-effect
unfolding row
returns-in-Op2-clause-effect g c = rw c.in-Op2.is (c.plan_op2.ensures.effect c.args.array.now (own_of c.args.cell.now) (setting_of c.args.scalars.now c.args.valued))

pub returns-in-Select-clause-effect : goal.returns-in-Select-clause-effect
unfolding row
returns-in-Select-clause-effect g c =
    rw c.in-Select.is (c.plan_select.ensures.effect c.in-Select.width c.args.array.now (own_of c.args.cell.now) (setting_of c.args.scalars.now c.args.valued))

pub returns-in-Mux-clause-effect : goal.returns-in-Mux-clause-effect
unfolding row
returns-in-Mux-clause-effect g c = rw c.in-Mux.is (c.plan_mux.ensures.effect c.in-Mux.width c.args.array.now (own_of c.args.cell.now) (setting_of c.args.scalars.now c.args.valued))

pub returns-in-Branch-clause-effect : goal.returns-in-Branch-clause-effect
unfolding row
returns-in-Branch-clause-effect g c =
    rw c.in-Branch.is (c.plan_branch.ensures.effect c.in-Branch.width c.args.array.now (own_of c.args.cell.now) (setting_of c.args.scalars.now c.args.valued))

pub returns-in-Read-clause-effect : goal.returns-in-Read-clause-effect
unfolding row
returns-in-Read-clause-effect g c = rw c.in-Read.is (c.plan_read.ensures.effect c.in-Read.field-0 (own_of c.args.cell.now) (setting_of c.args.scalars.now c.args.valued))
