-- Which kinds of units are forks.
use Rattle.std.proofs.Common.{◌≡◌, ℕ, true, false, ap, sym}
use Rattle.el_base.specs.declared.operation.Op1.{Op1 as Operation1}
use Rattle.el_base.specs.declared.operation.Op2.{Op2 as Operation2}
use Rattle.net_types.specs.declared.net.Unit.{Unit as Kind}
use Rattle.net_types.specs.declared.net.Unit.TheVariants.{Op1, Op2, Read, Cmerge}
use Rattle.net_core.specs.Plans.{IsForkOf, IsConstOf, IsMuxOf, IsSelect, IsBranch, IsSink}
use Rattle.net_core.specs.Uses.{is_fork}

pub fork_is : (outs : ℕ) (k : Kind) → IsForkOf outs k → true ≡ is_fork k
fork_is outs k h = sym (ap is_fork h.shape)

pub const_not : (value : ℕ) (k : Kind) → IsConstOf value k → false ≡ is_fork k
const_not value k h = sym (ap is_fork h.shape)

pub mux_not : (ins : ℕ) (k : Kind) → IsMuxOf ins k → false ≡ is_fork k
mux_not ins k h = sym (ap is_fork h.shape)

pub select_not : (k : Kind) → IsSelect k → false ≡ is_fork k
select_not k h = sym (ap is_fork h.shape)

pub branch_not : (k : Kind) → IsBranch k → false ≡ is_fork k
branch_not k h = sym (ap is_fork h.shape)

pub sink_not : (k : Kind) → IsSink k → false ≡ is_fork k
sink_not k h = sym (ap is_fork h.shape)

pub op1_not : (op : Operation1) (k : Kind) → k ≡ Op1 op → false ≡ is_fork k
op1_not op k h = sym (ap is_fork h)

pub op2_not : (op : Operation2) (k : Kind) → k ≡ Op2 op → false ≡ is_fork k
op2_not op k h = sym (ap is_fork h)

pub read_not : (array : ℕ) (k : Kind) → k ≡ Read array → false ≡ is_fork k
read_not array k h = sym (ap is_fork h)

pub merge_not : (ins : ℕ) (k : Kind) → k ≡ Cmerge ins → false ≡ is_fork k
merge_not ins k h = sym (ap is_fork h)
