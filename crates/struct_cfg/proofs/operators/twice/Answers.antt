use Rattle.struct_cfg.proofs.Coded.{twice_laid}
use Rattle.struct_cfg.proofs.operators.twice.Goals as goal

pub returns-clause-laid : goal.returns-clause-laid
returns-clause-laid c = twice_laid c.args.first c.args.second c.args.value c.args.env.now c.args.steps.now _ _ _ _ c.in_ok-middle.ensures.laid c.in_ok-last.ensures.laid
