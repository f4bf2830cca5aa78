use Rattle.el_base.specs.declared.operation.Op1.TheVariants.{Zero32}
use Rattle.ir.specs.declared.instr.Instr.TheVariants.{One}
use Rattle.struct_cfg.specs.Layings.{one_step}
use Rattle.struct_cfg.specs.Operators.{zero_test, first_then}
use Rattle.struct_cfg.proofs.Coded.{sides_laid}
use Rattle.struct_cfg.proofs.operators.either_wide.Goals as goal

pub returns : goal.returns
returns c =
    record { laid = sides_laid (zero_test c.args.left.ty c.args.left.value) (zero_test c.args.right.ty c.args.right.value) first_then (λ s. one_step (One Zero32 s)) c.args.env.now c.args.steps.now _ _ _ _ _ _ _ _ c.in_ok-f.ensures.laid c.in_ok-g.ensures.laid c.in_ok-chosen.ensures.laid c.in_ok-truth.ensures.laid }
