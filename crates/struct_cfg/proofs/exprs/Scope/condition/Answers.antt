use Rattle.struct_cfg.proofs.ExprCode.{condition_put, condition_few}
use Rattle.struct_cfg.proofs.exprs.Scope.condition.Goals as goal

pub returns-clause-laid : goal.returns-clause-laid
returns-clause-laid c = condition_put c.args.self.now.arrays.now c.args.self.now.env.now c.args.e.now c.args.steps.now _ _ _ _ c.in_ok-value.ensures.laid c.in_ok-flag.ensures.laid

pub returns-clause-few : goal.returns-clause-few
returns-clause-few c = condition_few c.args.self.now.arrays.now c.args.self.now.env.now c.args.e.now c.args.steps.now _ _ (returns-clause-laid c)
