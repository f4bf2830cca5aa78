use Rattle.std.proofs.Common.{◌≢◌, ℕ, ◌<◌, get_or}
use Rattle.el_base.specs.declared.operation.TheConstants.{OP1S}
use Rattle.el_base.specs.declared.operation.Op1.{Op1}
use Rattle.el_base.specs.Names.{op1_name}
use Rattle.el_base.proofs.operation.Op1.of_name.Given as goal

abbrev pub invariant-loop-op : goal.invariant-loop-op
invariant-loop-op l = (k : ℕ) (d : Op1) → k < l.op-index → op1_name (get_or OP1S k d) ≢ l.bytes
