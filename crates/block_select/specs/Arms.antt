-- The sides of a condition: which of them are arms, and the block where both meet.
use Rattle.std.specs.Prelude.{ℕ, ◌==◌, ◌&&◌, not, nat_le, Bool, cond, List, option_map, sum_by, Option, Some, None}
use Rattle.std.specs.Option.{option_or}
use Rattle.el_base.specs.declared.operation.Op2.{Op2}
use Rattle.el_base.specs.declared.operation.Op2.TheVariants as op
use Rattle.ir.specs.declared.instr.Instr.{Instr}
use Rattle.ir.specs.declared.instr.Instr.TheVariants as step
use Rattle.ir.specs.declared.graph.Jump.{Jump}
use Rattle.ir.specs.declared.graph.Jump.TheVariants.{Go, Two, Return}
use Rattle.ir.specs.declared.graph.Block.{Block}
use Rattle.ir.specs.declared.graph.To.{To}
use Rattle.ir.specs.Accesses.{accesses_in}
use Rattle.block_merge.specs.Renamed.{block_of}
use Rattle.block_select.specs.declared.arms.Way.{Way}
use Rattle.block_select.specs.declared.arms.Way.TheVariants.{Direct, ByArm}
use Rattle.block_select.specs.declared.arms.Meeting.{Meeting}

-- ---- what steps cost

-- a product costs as much as 4 other operations, a division or a remainder as much as 36
abbrev pub op2_cost : Op2 → ℕ
op2_cost op.Add32 = 1
op2_cost op.Add64 = 1
op2_cost op.Sub32 = 1
op2_cost op.Sub64 = 1
op2_cost op.Mul32 = 4
op2_cost op.Mul64 = 4
op2_cost op.And32 = 1
op2_cost op.And64 = 1
op2_cost op.Or32 = 1
op2_cost op.Or64 = 1
op2_cost op.Xor32 = 1
op2_cost op.Xor64 = 1
op2_cost op.Shl32 = 1
op2_cost op.Shl64 = 1
op2_cost op.Shru32 = 1
op2_cost op.Shru64 = 1
op2_cost op.Shrs32 = 1
op2_cost op.Shrs64 = 1
op2_cost op.Divu32 = 36
op2_cost op.Divu64 = 36
op2_cost op.Remu32 = 36
op2_cost op.Remu64 = 36
op2_cost op.Divs32 = 36
op2_cost op.Divs64 = 36
op2_cost op.Rems32 = 36
op2_cost op.Rems64 = 36
op2_cost op.Eq32 = 1
op2_cost op.Eq64 = 1
op2_cost op.Ne32 = 1
op2_cost op.Ne64 = 1
op2_cost op.Ltu32 = 1
op2_cost op.Ltu64 = 1
op2_cost op.Leu32 = 1
op2_cost op.Leu64 = 1
op2_cost op.Lts32 = 1
op2_cost op.Lts64 = 1
op2_cost op.Les32 = 1
op2_cost op.Les64 = 1

-- a constant costs nothing
abbrev pub step_cost : Instr → ℕ
step_cost (step.Const w n) = 0
step_cost (step.One o a) = 1
step_cost (step.Two o a b) = op2_cost o
step_cost (step.Select w c a b) = 1
step_cost (step.Load a p) = 1
step_cost (step.Store a p v) = 1

-- ---- arms

-- the steps of an arm cost at most so much
abbrev pub max_arm_cost : ℕ
max_arm_cost = 12

-- no access, and of low cost
abbrev pub are_arm_steps : List Instr → Bool
are_arm_steps is = (accesses_in is == 0) && nat_le (sum_by step_cost is) max_arm_cost

abbrev pub arm_of_jump : Bool → Jump → Option To
arm_of_jump is_arm (Go to) = cond is_arm (Some to) None
arm_of_jump is_arm (Two c yes_part no_part) = None
arm_of_jump is_arm (Return v) = None

-- the edge of the arm to which a side of block k leads: of a block other than k that only computes, cheaply, and leads on without a condition
abbrev pub arm_of : List Block → ℕ → To → Option To
arm_of bs k to = let c = block_of bs to.block in arm_of_jump (not (to.block == k) && are_arm_steps c.steps) c.jump

-- ---- where both sides meet

-- the block to which a side of block k leads: directly, or by its arm, where it has one
abbrev pub side_end : List Block → ℕ → To → Way → Option ℕ
side_end bs k to Direct = Some to.block
side_end bs k to ByArm = option_map (λ t. t.block) (arm_of bs k to)

-- where both sides lead to one block by these ways
abbrev pub meeting_of_ends : Way → Way → Option ℕ → Option ℕ → Option Meeting
meeting_of_ends v w (Some m) (Some n) = cond (m == n) (Some (record { block = m; yes = v; no = w })) None
meeting_of_ends v w None (Some n) = None
meeting_of_ends v w (Some m) None = None
meeting_of_ends v w None None = None

abbrev pub meeting_by : List Block → ℕ → To → To → Way → Way → Option Meeting
meeting_by bs k yes_part no_part v w = meeting_of_ends v w (side_end bs k yes_part v) (side_end bs k no_part w)

-- where the sides of block k meet: directly before by arms, and by one arm before by both
abbrev pub meeting : List Block → ℕ → To → To → Option Meeting
meeting bs k yes_part no_part =
    let by = meeting_by bs k yes_part no_part in
    option_or (by Direct Direct) (option_or (by ByArm Direct) (option_or (by Direct ByArm) (by ByArm ByArm)))
