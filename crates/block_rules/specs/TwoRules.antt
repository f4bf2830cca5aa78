-- What an operation on two values becomes, by the constants among them. The next value of the block has the number m.
use Rattle.std.specs.Prelude.{ℕ, ◌-◌, ◌%◌, ◌^◌, ◌==◌, nat_lt, ◌&&◌, if◌then◌else◌, Bool, Option, Some, None}
use Rattle.std.specs.Int.{w64, trailing_zeros}
use Rattle.el_base.specs.declared.operation.Op2.{Op2}
use Rattle.el_base.specs.Widths.{op2_in, op2_out}
use Rattle.word_ops.specs.Operations.{op2_result}
use Rattle.ir.specs.declared.instr.Instr.TheVariants.{Const, One, Two}
use Rattle.block_rules.specs.declared.change.Change.{Change}
use Rattle.block_rules.specs.declared.change.Change.TheVariants.{Stays, Is, Becomes, BecomesTwo}
use Rattle.block_rules.specs.declared.kind.Kind.{Kind}
use Rattle.block_rules.specs.declared.kind.Kind.TheVariants.{Add, Sub, Mul, And, Or, Xor, Shl, Shru, Shrs, Divu, Remu, Divs, Rems, Eq, Ne, Ltu, Leu, Lts, Les}
use Rattle.block_rules.specs.declared.kind.Word.{Word}
use Rattle.block_rules.specs.Kinds.{bits, word_of, kind_of, operation, negative_on, flip_on, zero_on, commutes}

-- ---- of two equal values

unfoldable pub of_equal : Kind → Word → ℕ → Change
of_equal Add w a = Stays
of_equal Sub w a = Becomes (Const (bits w) 0)
of_equal Mul w a = Stays
of_equal And w a = Is a
of_equal Or w a = Is a
of_equal Xor w a = Becomes (Const (bits w) 0)
of_equal Shl w a = Stays
of_equal Shru w a = Stays
of_equal Shrs w a = Stays
of_equal Divu w a = Stays
of_equal Remu w a = Stays
of_equal Divs w a = Stays
of_equal Rems w a = Stays
of_equal Eq w a = Becomes (Const 32 1)
of_equal Ne w a = Becomes (Const 32 0)
of_equal Ltu w a = Becomes (Const 32 0)
of_equal Leu w a = Becomes (Const 32 1)
of_equal Lts w a = Becomes (Const 32 0)
of_equal Les w a = Becomes (Const 32 1)

-- ---- with a constant x on the left, of an operation whose operands may not be swapped

unfoldable pub by_left : Kind → Word → ℕ → ℕ → Change
by_left Add w b x = Stays
by_left Sub w b x = if x == 0 then Becomes (One (negative_on w) b) else Stays
by_left Mul w b x = Stays
by_left And w b x = Stays
by_left Or w b x = Stays
by_left Xor w b x = Stays
by_left Shl w b x = Stays
by_left Shru w b x = Stays
by_left Shrs w b x = Stays
by_left Divu w b x = Stays
by_left Remu w b x = Stays
by_left Divs w b x = Stays
by_left Rems w b x = Stays
by_left Eq w b x = Stays
by_left Ne w b x = Stays
by_left Ltu w b x = Stays
by_left Leu w b x = Stays
by_left Lts w b x = Stays
by_left Les w b x = Stays

-- ---- with a constant y on the right

-- the k from 1 on with 2 ^ k = y: so many zeros stand behind its last 1
unfoldable pub exponent_of : ℕ → Option ℕ
exponent_of y = let k = trailing_zeros w64 y in if nat_lt 0 k && nat_lt k 64 && y == 2 ^ k then Some k else None

-- products, quotients and remainders by 2 ^ k
abbrev pub product_by : Word → ℕ → ℕ → Option ℕ → Change
product_by w m a None = Stays
product_by w m a (Some k) = BecomesTwo (Const (bits w) k) (Two (operation Shl w) a m)

abbrev pub quotient_by : Word → ℕ → ℕ → Option ℕ → Change
quotient_by w m a None = Stays
quotient_by w m a (Some k) = BecomesTwo (Const (bits w) k) (Two (operation Shru w) a m)

abbrev pub remainder_by : Word → ℕ → ℕ → ℕ → Option ℕ → Change
remainder_by w m a y None = Stays
remainder_by w m a y (Some k) = BecomesTwo (Const (bits w) (y - 1)) (Two (operation And w) a m)

-- products, bitwise operations, and comparisons for equality, of a test's value where t
abbrev pub multiplied_by : Word → ℕ → ℕ → ℕ → ℕ → Change
multiplied_by w m a b y = if y == 0 then Is b else (if y == 1 then Is a else product_by w m a (exponent_of y))

abbrev pub masked_by : Word → ℕ → ℕ → ℕ → Bool → Change
masked_by w a b y t = if y == 0 then Is b else (if y == 2 ^ bits w - 1 then Is a else (if t && y == 1 then Is a else Stays))

abbrev pub joined_by : Word → ℕ → ℕ → ℕ → Change
joined_by w a b y = if y == 0 then Is a else (if y == 2 ^ bits w - 1 then Is b else Stays)

abbrev pub flipped_by : Word → ℕ → ℕ → Change
flipped_by w a y = if y == 0 then Is a else (if y == 2 ^ bits w - 1 then Becomes (One (flip_on w) a) else Stays)

abbrev pub compared_by : Word → ℕ → ℕ → Bool → Change
compared_by w a y t = if y == 0 then Becomes (One (zero_on w) a) else (if t && y == 1 then Is a else Stays)

abbrev pub distinguished_by : Word → ℕ → ℕ → Bool → Change
distinguished_by w a y t = if t && y == 0 then Is a else (if t && y == 1 then Becomes (One (zero_on w) a) else Stays)

-- of the value a, a test's where t, and the value b that is the constant y
unfoldable pub by_right : Kind → Word → ℕ → ℕ → ℕ → ℕ → Bool → Change
by_right Add w m a b y t = if y == 0 then Is a else Stays
by_right Sub w m a b y t = if y == 0 then Is a else Stays
by_right Mul w m a b y t = multiplied_by w m a b y
by_right And w m a b y t = masked_by w a b y t
by_right Or w m a b y t = joined_by w a b y
by_right Xor w m a b y t = flipped_by w a y
by_right Shl w m a b y t = if y % bits w == 0 then Is a else Stays
by_right Shru w m a b y t = if y % bits w == 0 then Is a else Stays
by_right Shrs w m a b y t = if y % bits w == 0 then Is a else Stays
by_right Divu w m a b y t = if y == 1 then Is a else quotient_by w m a (exponent_of y)
by_right Remu w m a b y t = if y == 1 then Becomes (Const (bits w) 0) else remainder_by w m a y (exponent_of y)
by_right Divs w m a b y t = if y == 1 then Is a else Stays
by_right Rems w m a b y t = if y == 1 then Becomes (Const (bits w) 0) else Stays
by_right Eq w m a b y t = compared_by w a y t
by_right Ne w m a b y t = distinguished_by w a y t
by_right Ltu w m a b y t = Stays
by_right Leu w m a b y t = Stays
by_right Lts w m a b y t = Stays
by_right Les w m a b y t = Stays

-- ---- by which operands are constants

-- of two that are none
unfoldable pub by_none : Op2 → ℕ → ℕ → Change
by_none op a b = if a == b then of_equal (kind_of op) (word_of (op2_in op)) a else (if commutes (kind_of op) && nat_lt b a then Becomes (Two op b a) else Stays)

unfoldable pub by_constants : Op2 → ℕ → ℕ → ℕ → Option ℕ → Option ℕ → Bool → Change
by_constants op m a b (Some x) (Some y) t = Becomes (Const (op2_out op) (op2_result op x y))
by_constants op m a b (Some x) None t = if commutes (kind_of op) then Becomes (Two op b a) else by_left (kind_of op) (word_of (op2_in op)) b x
by_constants op m a b None (Some y) t = by_right (kind_of op) (word_of (op2_in op)) m a b y t
by_constants op m a b None None t = by_none op a b
