use Rattle.std.proofs.Common.{◌≢◌, ℕ, ◌<◌, get_or}
use Rattle.el_base.specs.declared.operation.TheConstants.{OP2S}
use Rattle.el_base.specs.declared.operation.Op2.{Op2}
use Rattle.el_base.specs.Names.{op2_name}
use Rattle.el_base.proofs.operation.Op2.of_name.Given as goal

abbrev pub invariant-loop-op : goal.invariant-loop-op
invariant-loop-op l = (k : ℕ) (d : Op2) → k < l.op-index → op2_name (get_or OP2S k d) ≢ l.bytes
