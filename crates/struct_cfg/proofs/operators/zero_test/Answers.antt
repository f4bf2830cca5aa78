use Rattle.el_base.specs.declared.ty.Ty.TheVariants.{I8, U8, I16, U16}
use Rattle.struct_cfg.proofs.Coded.{test_as}
use Rattle.struct_cfg.proofs.operators.zero_test.Goals as goal

pub returns-in-I8-clause-laid : goal.returns-in-I8-clause-laid
returns-in-I8-clause-laid c = test_as c.args.ty I8 c.args.value c.twice.result c.args.env.now c.args.steps.now c.twice.new.steps c.in-I8.is c.twice.ensures.laid

pub returns-in-U8-clause-laid : goal.returns-in-U8-clause-laid
returns-in-U8-clause-laid c = test_as c.args.ty U8 c.args.value c.twice-in-U8.result c.args.env.now c.args.steps.now c.twice-in-U8.new.steps c.in-U8.is c.twice-in-U8.ensures.laid

pub returns-in-I16-clause-laid : goal.returns-in-I16-clause-laid
returns-in-I16-clause-laid c = test_as c.args.ty I16 c.args.value c.twice-in-I16.result c.args.env.now c.args.steps.now c.twice-in-I16.new.steps c.in-I16.is c.twice-in-I16.ensures.laid

pub returns-in-U16-clause-laid : goal.returns-in-U16-clause-laid
returns-in-U16-clause-laid c = test_as c.args.ty U16 c.args.value c.twice-in-U16.result c.args.env.now c.args.steps.now c.twice-in-U16.new.steps c.in-U16.is c.twice-in-U16.ensures.laid
