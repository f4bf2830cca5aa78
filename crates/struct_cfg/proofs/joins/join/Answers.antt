use Rattle.struct_cfg.proofs.Coded.{left_as, right_as}
use Rattle.struct_cfg.proofs.joins.join.Goals as goal

pub returns-in-Shl : goal.returns-in-Shl
returns-in-Shl c =
    left_as c.args.op c.args.left.ty c.args.right.ty c.args.left.value c.args.right.value _ c.shift.result c.args.env.now c.args.steps.now c.shift.new.steps c.in-Shl.is c.by_type2-op.ensures c.shift.ensures

pub returns-in-Shr : goal.returns-in-Shr
returns-in-Shr c =
    right_as c.args.op c.args.left.ty c.args.right.ty c.args.left.value c.args.right.value _ c.shift-in-Shr.result c.args.env.now c.args.steps.now c.shift-in-Shr.new.steps c.in-Shr.is c.by_type2-op-in-Shr.ensures c.shift-in-Shr.ensures
