use Rattle.el_base.specs.declared.ty.Ty.TheVariants.{I64, U64}
use Rattle.struct_cfg.proofs.Coded.{flag_as}
use Rattle.struct_cfg.proofs.operators.flag.Goals as goal

pub returns-in-I64-clause-laid : goal.returns-in-I64-clause-laid
returns-in-I64-clause-laid c = flag_as c.args.ty I64 c.args.value c.twice.result c.args.env.now c.args.steps.now c.twice.new.steps c.in-I64.is c.twice.ensures.laid

pub returns-in-U64-clause-laid : goal.returns-in-U64-clause-laid
returns-in-U64-clause-laid c = flag_as c.args.ty U64 c.args.value c.twice-in-U64.result c.args.env.now c.args.steps.now c.twice-in-U64.new.steps c.in-U64.is c.twice-in-U64.ensures.laid
