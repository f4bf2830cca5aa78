-- The greatest value that a result can have, where those of the operands are known.
use Rattle.std.specs.Prelude.{ℕ, ◌+◌, ◌-◌, ◌*◌, ◌/◌, ◌%◌, ◌^◌, ◌<◌, ◌≤◌, nat_lt, min, max, if◌then◌else◌}
use Rattle.el_base.specs.declared.operation.Op1.{Op1}
use Rattle.el_base.specs.declared.operation.Op1.TheVariants.{Neg32, Neg64, Not32, Not64, Zero32, Zero64, S8to16, S8to32, S8to64, S16to32, S16to64, S32to64, U8to16, U8to32, U8to64, U16to32, U16to64, U32to64, Cut16to8, Cut32to8, Cut32to16, Cut64to8, Cut64to16, Cut64to32}
use Rattle.el_base.specs.declared.operation.Op2.{Op2}
use Rattle.el_base.specs.declared.operation.Op2.TheVariants.{Add32, Add64, Sub32, Sub64, Mul32, Mul64, And32, And64, Or32, Or64, Xor32, Xor64, Shl32, Shl64, Shru32, Shru64, Shrs32, Shrs64, Divu32, Divu64, Remu32, Remu64, Divs32, Divs64, Rems32, Rems64, Eq32, Eq64, Ne32, Ne64, Ltu32, Ltu64, Leu32, Leu64, Lts32, Lts64, Les32, Les64}
use Rattle.el_base.specs.Widths.{op1_in, op1_out, op2_in, op2_out}
use Rattle.word_ops.specs.Operations.{op1_result, op2_result}
use Rattle.word_rules.specs.Magic.{binary_digits}

-- the greatest pattern of w bits, and that of as many bits as n has
abbrev pub all_ones : ℕ → ℕ
all_ones w = 2 ^ w - 1

abbrev pub ones_over : ℕ → ℕ
ones_over n = all_ones (binary_digits n)

-- an extension keeps a number without sign; that of another is some pattern
abbrev pub greatest_extension : ℕ → ℕ → ℕ → ℕ
greatest_extension w v x = if nat_lt x (2 ^ (w - 1)) then x else all_ones v

-- of an operand up to x
unfoldable pub greatest1 : Op1 → ℕ → ℕ
greatest1 Neg32 x = all_ones 32
greatest1 Neg64 x = all_ones 64
greatest1 Not32 x = all_ones 32
greatest1 Not64 x = all_ones 64
greatest1 Zero32 x = 1
greatest1 Zero64 x = 1
greatest1 S8to16 x = greatest_extension 8 16 x
greatest1 S8to32 x = greatest_extension 8 32 x
greatest1 S8to64 x = greatest_extension 8 64 x
greatest1 S16to32 x = greatest_extension 16 32 x
greatest1 S16to64 x = greatest_extension 16 64 x
greatest1 S32to64 x = greatest_extension 32 64 x
greatest1 U8to16 x = x
greatest1 U8to32 x = x
greatest1 U8to64 x = x
greatest1 U16to32 x = x
greatest1 U16to64 x = x
greatest1 U32to64 x = x
greatest1 Cut16to8 x = min x (all_ones 8)
greatest1 Cut32to8 x = min x (all_ones 8)
greatest1 Cut32to16 x = min x (all_ones 16)
greatest1 Cut64to8 x = min x (all_ones 8)
greatest1 Cut64to16 x = min x (all_ones 16)
greatest1 Cut64to32 x = min x (all_ones 32)

-- of operands up to x and y
unfoldable pub greatest2 : Op2 → ℕ → ℕ → ℕ
greatest2 Add32 x y = min (x + y) (all_ones 32)
greatest2 Add64 x y = min (x + y) (all_ones 64)
greatest2 Sub32 x y = all_ones 32
greatest2 Sub64 x y = all_ones 64
greatest2 Mul32 x y = min (x * y) (all_ones 32)
greatest2 Mul64 x y = min (x * y) (all_ones 64)
greatest2 And32 x y = min x y
greatest2 And64 x y = min x y
greatest2 Or32 x y = ones_over (max x y)
greatest2 Or64 x y = ones_over (max x y)
greatest2 Xor32 x y = ones_over (max x y)
greatest2 Xor64 x y = ones_over (max x y)
greatest2 Shl32 x y = all_ones 32
greatest2 Shl64 x y = all_ones 64
greatest2 Shru32 x y = x
greatest2 Shru64 x y = x
greatest2 Shrs32 x y = all_ones 32
greatest2 Shrs64 x y = all_ones 64
greatest2 Divu32 x y = x
greatest2 Divu64 x y = x
greatest2 Remu32 x y = x
greatest2 Remu64 x y = x
greatest2 Divs32 x y = all_ones 32
greatest2 Divs64 x y = all_ones 64
greatest2 Rems32 x y = all_ones 32
greatest2 Rems64 x y = all_ones 64
greatest2 Eq32 x y = 1
greatest2 Eq64 x y = 1
greatest2 Ne32 x y = 1
greatest2 Ne64 x y = 1
greatest2 Ltu32 x y = 1
greatest2 Ltu64 x y = 1
greatest2 Leu32 x y = 1
greatest2 Leu64 x y = 1
greatest2 Lts32 x y = 1
greatest2 Lts64 x y = 1
greatest2 Les32 x y = 1
greatest2 Les64 x y = 1

-- of a first operand up to x, by the constant c
unfoldable pub greatest_by : Op2 → ℕ → ℕ → ℕ
greatest_by Add32 x c = greatest2 Add32 x c
greatest_by Add64 x c = greatest2 Add64 x c
greatest_by Sub32 x c = greatest2 Sub32 x c
greatest_by Sub64 x c = greatest2 Sub64 x c
greatest_by Mul32 x c = greatest2 Mul32 x c
greatest_by Mul64 x c = greatest2 Mul64 x c
greatest_by And32 x c = greatest2 And32 x c
greatest_by And64 x c = greatest2 And64 x c
greatest_by Or32 x c = greatest2 Or32 x c
greatest_by Or64 x c = greatest2 Or64 x c
greatest_by Xor32 x c = greatest2 Xor32 x c
greatest_by Xor64 x c = greatest2 Xor64 x c
greatest_by Shl32 x c = min (x * 2 ^ (c % 32)) (all_ones 32)
greatest_by Shl64 x c = min (x * 2 ^ (c % 64)) (all_ones 64)
greatest_by Shru32 x c = x / 2 ^ (c % 32)
greatest_by Shru64 x c = x / 2 ^ (c % 64)
greatest_by Shrs32 x c = greatest2 Shrs32 x c
greatest_by Shrs64 x c = greatest2 Shrs64 x c
greatest_by Divu32 x c = x / c
greatest_by Divu64 x c = x / c
greatest_by Remu32 x c = min x (c - 1)
greatest_by Remu64 x c = min x (c - 1)
greatest_by Divs32 x c = greatest2 Divs32 x c
greatest_by Divs64 x c = greatest2 Divs64 x c
greatest_by Rems32 x c = greatest2 Rems32 x c
greatest_by Rems64 x c = greatest2 Rems64 x c
greatest_by Eq32 x c = greatest2 Eq32 x c
greatest_by Eq64 x c = greatest2 Eq64 x c
greatest_by Ne32 x c = greatest2 Ne32 x c
greatest_by Ne64 x c = greatest2 Ne64 x c
greatest_by Ltu32 x c = greatest2 Ltu32 x c
greatest_by Ltu64 x c = greatest2 Ltu64 x c
greatest_by Leu32 x c = greatest2 Leu32 x c
greatest_by Leu64 x c = greatest2 Leu64 x c
greatest_by Lts32 x c = greatest2 Lts32 x c
greatest_by Lts64 x c = greatest2 Lts64 x c
greatest_by Les32 x c = greatest2 Les32 x c
greatest_by Les64 x c = greatest2 Les64 x c

-- results are no greater
abbrev pub BoundedResults1 : Type 0
BoundedResults1 = (op : Op1) (a x : ℕ) → a ≤ x → op1_result op a ≤ greatest1 op x

abbrev pub BoundedResults2 : Type 0
BoundedResults2 =
    (op : Op2) (a b x y : ℕ) → a ≤ x → b ≤ y → x < 2 ^ op2_in op → y < 2 ^ op2_in op → op2_result op a b ≤ greatest2 op x y

abbrev pub BoundedResultsBy : Type 0
BoundedResultsBy = (op : Op2) (a x c : ℕ) → a ≤ x → x < 2 ^ op2_in op → c < 2 ^ op2_in op → op2_result op a c ≤ greatest_by op x c

-- and the greatest value is a pattern of the result's width
abbrev pub BoundsAreBelowWidth1 : Type 0
BoundsAreBelowWidth1 = (op : Op1) (x : ℕ) → x < 2 ^ op1_in op → greatest1 op x < 2 ^ op1_out op

abbrev pub BoundsAreBelowWidth2 : Type 0
BoundsAreBelowWidth2 = (op : Op2) (x y : ℕ) → x < 2 ^ op2_in op → y < 2 ^ op2_in op → greatest2 op x y < 2 ^ op2_out op

abbrev pub BoundsAreBelowWidthBy : Type 0
BoundsAreBelowWidthBy = (op : Op2) (x c : ℕ) → x < 2 ^ op2_in op → c < 2 ^ op2_in op → greatest_by op x c < 2 ^ op2_out op
