use Rattle.struct_cfg.proofs.ExprCode.{store_put, store_few}
use Rattle.struct_cfg.proofs.exprs.Scope.store.Goals as goal

pub returns-clause-laid : goal.returns-clause-laid
returns-clause-laid c =
    store_put c.args.self.now.arrays.now c.args.self.now.env.now c.args.array c.args.indices.now c.args.e.now _ c.args.steps.now _ _ _ _ _ _ c.dims_of.ensures c.in_ok-addr.ensures.laid c.in_ok-value.ensures.laid c.in_ok-last.ensures.laid

pub returns-clause-few : goal.returns-clause-few
returns-clause-few c = store_few c.args.self.now.arrays.now c.args.self.now.env.now c.args.array c.args.indices.now c.args.e.now c.args.steps.now _ _ (returns-clause-laid c)
