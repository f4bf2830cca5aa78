use Rattle.struct_cfg.specs.Operators.{flag, first_else, truth_of}
use Rattle.struct_cfg.proofs.Coded.{sides_laid}
use Rattle.struct_cfg.proofs.operators.either_narrow.Goals as goal

pub returns : goal.returns
returns c =
    record { laid = sides_laid (flag c.args.left.ty c.args.left.value) (flag c.args.right.ty c.args.right.value) first_else truth_of c.args.env.now c.args.steps.now _ _ _ _ _ _ _ _ c.in_ok-f.ensures.laid c.in_ok-g.ensures.laid c.in_ok-chosen.ensures.laid c.in_ok-truth.ensures.laid }
