-- What an operation on one value becomes.
use Rattle.std.specs.Prelude.{ℕ, ◌&&◌, if◌then◌else◌, List, Option, Some, None}
use Rattle.el_base.specs.declared.operation.Op1.{Op1}
use Rattle.el_base.specs.Widths.{op1_out, op2_in}
use Rattle.word_ops.specs.Operations.{op1_result}
use Rattle.ir.specs.declared.instr.Instr.{Instr}
use Rattle.ir.specs.declared.instr.Instr.TheVariants.{Const, One, Two, Select, Load, Store}
use Rattle.block_rules.specs.declared.change.Change.{Change}
use Rattle.block_rules.specs.declared.change.Change.TheVariants.{Stays, Is, Becomes}
use Rattle.block_rules.specs.declared.kind.Kind.{Kind}
use Rattle.block_rules.specs.declared.kind.Kind.TheVariants.{Add, Sub, Mul, And, Or, Xor, Shl, Shru, Shrs, Divu, Remu, Divs, Rems, Eq, Ne, Ltu, Leu, Lts, Les}
use Rattle.block_rules.specs.declared.kind.Word.{Word}
use Rattle.block_rules.specs.Kinds.{word_of, kind_of, operation, is_zero}
use Rattle.block_rules.specs.Reading.{step_at, const_at, is_test}

-- the test for 0 of a comparison of a and b
unfoldable pub zero_of_kind : Kind → Word → ℕ → ℕ → Change
zero_of_kind Add w a b = Stays
zero_of_kind Sub w a b = Stays
zero_of_kind Mul w a b = Stays
zero_of_kind And w a b = Stays
zero_of_kind Or w a b = Stays
zero_of_kind Xor w a b = Stays
zero_of_kind Shl w a b = Stays
zero_of_kind Shru w a b = Stays
zero_of_kind Shrs w a b = Stays
zero_of_kind Divu w a b = Stays
zero_of_kind Remu w a b = Stays
zero_of_kind Divs w a b = Stays
zero_of_kind Rems w a b = Stays
zero_of_kind Eq w a b = Becomes (Two (operation Ne w) a b)
zero_of_kind Ne w a b = Becomes (Two (operation Eq w) a b)
zero_of_kind Ltu w a b = Becomes (Two (operation Leu w) b a)
zero_of_kind Leu w a b = Becomes (Two (operation Ltu w) b a)
zero_of_kind Lts w a b = Becomes (Two (operation Les w) b a)
zero_of_kind Les w a b = Becomes (Two (operation Lts w) b a)

-- the test for 0 of the value of a step
abbrev pub zero_of_step : ℕ → List Instr → Option Instr → Change
zero_of_step n steps None = Stays
zero_of_step n steps (Some (Const w c)) = Stays
zero_of_step n steps (Some (One op a)) = if is_zero op && is_test n steps a then Is a else Stays
zero_of_step n steps (Some (Two op a b)) = zero_of_kind (kind_of op) (word_of (op2_in op)) a b
zero_of_step n steps (Some (Select w c a b)) = Stays
zero_of_step n steps (Some (Load a p)) = Stays
zero_of_step n steps (Some (Store a p v)) = Stays

abbrev pub of_one : ℕ → List Instr → Op1 → ℕ → Option ℕ → Change
of_one n steps op a (Some x) = Becomes (Const (op1_out op) (op1_result op x))
of_one n steps op a None = if is_zero op then zero_of_step n steps (step_at n steps a) else Stays

unfoldable pub one_change : ℕ → List Instr → Op1 → ℕ → Change
one_change n steps op a = of_one n steps op a (const_at n steps a)
