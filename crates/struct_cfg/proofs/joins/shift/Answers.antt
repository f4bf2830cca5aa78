use Rattle.ir.specs.declared.instr.Instr.TheVariants.{Two}
use Rattle.struct_cfg.specs.Layings.{one_step}
use Rattle.struct_cfg.specs.Operators.{converted}
use Rattle.struct_cfg.proofs.Coded.{laid_after}
use Rattle.struct_cfg.proofs.joins.shift.Goals as goal

pub returns : goal.returns
returns c = laid_after (converted c.args.right.ty c.args.left.ty c.args.right.value) (λ n. one_step (Two c.args.op c.args.left.value n)) c.args.env.now c.args.steps.now _ _ _ _ c.in_ok-amount.ensures.laid c.in_ok-value.ensures.laid
