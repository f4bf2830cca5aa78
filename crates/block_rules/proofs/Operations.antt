-- The operations by kind and width: what each gives, and the widths of its operands and of its result.
use Rattle.std.proofs.Common.{◌≡◌, ℕ, ◌%◌, ◌^◌, ◌<◌, Bool, true, false, refl, ◌∙◌, ap, inl, inr}
use Rattle.std.specs.Prelude.{◌==◌, nat_lt, nat_le, not, bit_and, bit_or, bit_xor, int_lt, int_le}
use Rattle.std.specs.Int.{from_bool}
use Rattle.std.proofs.lemmas.Bool.{false≢true}
use Rattle.std.proofs.Math.Nat.{mod-eq_of_lt}
use Rattle.el_base.specs.declared.operation.Op1.{Op1}
use Rattle.el_base.specs.declared.operation.Op1.TheVariants.{Neg32, Neg64, Not32, Not64, Zero32, Zero64, S8to16, S8to32, S8to64, S16to32, S16to64, S32to64, U8to16, U8to32, U8to64, U16to32, U16to64, U32to64, Cut16to8, Cut32to8, Cut32to16, Cut64to8, Cut64to16, Cut64to32}
use Rattle.el_base.specs.declared.operation.Op2.{Op2}
use Rattle.el_base.specs.declared.operation.Op2.TheVariants.{Add32, Add64, Sub32, Sub64, Mul32, Mul64, And32, And64, Or32, Or64, Xor32, Xor64, Shl32, Shl64, Shru32, Shru64, Shrs32, Shrs64, Divu32, Divu64, Remu32, Remu64, Divs32, Divs64, Rems32, Rems64, Eq32, Eq64, Ne32, Ne64, Ltu32, Ltu64, Leu32, Leu64, Lts32, Lts64, Les32, Les64}
use Rattle.block_rules.specs.declared.kind.Kind.{Kind}
use Rattle.block_rules.specs.declared.kind.Kind.TheVariants.{Add, Sub, Mul, And, Or, Xor, Shl, Shru, Shrs, Divu, Remu, Divs, Rems, Eq, Ne, Ltu, Leu, Lts, Les}
use Rattle.block_rules.specs.declared.kind.Word.{Word}
use Rattle.block_rules.specs.declared.kind.Word.TheVariants.{Word32, Word64}
use Rattle.el_base.specs.Numbers.{signed_number}
use Rattle.el_base.specs.Widths.{op1_in, op1_out, op2_in, op2_out}
use Rattle.word_ops.specs.Operations.{sum_of, difference_of, product_of, negative_of, flipped_of, left_shift_of, right_shift_of, signed_shift_of, quotient_of, remainder_of, signed_quotient_of, signed_remainder_of, signed_less_of, signed_at_most_of, op1_on, op2_on, op1_result, op2_result}
use Rattle.ir.specs.Shapes.{IsWidth}
use Rattle.block_rules.specs.Kinds.{bits, word_of, kind_of, operation, negative_on, flip_on, zero_on, is_zero, is_comparison, is_unequal}

-- what the operation of a kind on patterns of w bits gives
abbrev pub kind_on : Kind → ℕ → ℕ → ℕ → ℕ
kind_on Add w x y = sum_of w x y
kind_on Sub w x y = difference_of w x y
kind_on Mul w x y = product_of w x y
kind_on And w x y = bit_and x y
kind_on Or w x y = bit_or x y
kind_on Xor w x y = bit_xor x y
kind_on Shl w x y = left_shift_of w x y
kind_on Shru w x y = right_shift_of w x y
kind_on Shrs w x y = signed_shift_of w x y
kind_on Divu w x y = quotient_of x y
kind_on Remu w x y = remainder_of x y
kind_on Divs w x y = signed_quotient_of w x y
kind_on Rems w x y = signed_remainder_of w x y
kind_on Eq w x y = from_bool (x == y)
kind_on Ne w x y = from_bool (not (x == y))
kind_on Ltu w x y = from_bool (nat_lt x y)
kind_on Leu w x y = from_bool (nat_le x y)
kind_on Lts w x y = signed_less_of w x y
kind_on Les w x y = signed_at_most_of w x y

-- the width of its result
abbrev pub width_out : Kind → ℕ → ℕ
width_out Add w = w
width_out Sub w = w
width_out Mul w = w
width_out And w = w
width_out Or w = w
width_out Xor w = w
width_out Shl w = w
width_out Shru w = w
width_out Shrs w = w
width_out Divu w = w
width_out Remu w = w
width_out Divs w = w
width_out Rems w = w
width_out Eq w = 32
width_out Ne w = 32
width_out Ltu w = 32
width_out Leu w = 32
width_out Lts w = 32
width_out Les w = 32

pub result-kind : (op : Op2) (x y : ℕ) → op2_result op x y ≡ kind_on (kind_of op) (op2_in op) (x % 2 ^ op2_in op) (y % 2 ^ op2_in op)
unfolding op2_result op2_on
result-kind Add32 x y = refl
result-kind Add64 x y = refl
result-kind Sub32 x y = refl
result-kind Sub64 x y = refl
result-kind Mul32 x y = refl
result-kind Mul64 x y = refl
result-kind And32 x y = refl
result-kind And64 x y = refl
result-kind Or32 x y = refl
result-kind Or64 x y = refl
result-kind Xor32 x y = refl
result-kind Xor64 x y = refl
result-kind Shl32 x y = refl
result-kind Shl64 x y = refl
result-kind Shru32 x y = refl
result-kind Shru64 x y = refl
result-kind Shrs32 x y = refl
result-kind Shrs64 x y = refl
result-kind Divu32 x y = refl
result-kind Divu64 x y = refl
result-kind Remu32 x y = refl
result-kind Remu64 x y = refl
result-kind Divs32 x y = refl
result-kind Divs64 x y = refl
result-kind Rems32 x y = refl
result-kind Rems64 x y = refl
result-kind Eq32 x y = refl
result-kind Eq64 x y = refl
result-kind Ne32 x y = refl
result-kind Ne64 x y = refl
result-kind Ltu32 x y = refl
result-kind Ltu64 x y = refl
result-kind Leu32 x y = refl
result-kind Leu64 x y = refl
result-kind Lts32 x y = refl
result-kind Lts64 x y = refl
result-kind Les32 x y = refl
result-kind Les64 x y = refl

pub out-kind : (op : Op2) → op2_out op ≡ width_out (kind_of op) (op2_in op)
out-kind Add32 = refl
out-kind Add64 = refl
out-kind Sub32 = refl
out-kind Sub64 = refl
out-kind Mul32 = refl
out-kind Mul64 = refl
out-kind And32 = refl
out-kind And64 = refl
out-kind Or32 = refl
out-kind Or64 = refl
out-kind Xor32 = refl
out-kind Xor64 = refl
out-kind Shl32 = refl
out-kind Shl64 = refl
out-kind Shru32 = refl
out-kind Shru64 = refl
out-kind Shrs32 = refl
out-kind Shrs64 = refl
out-kind Divu32 = refl
out-kind Divu64 = refl
out-kind Remu32 = refl
out-kind Remu64 = refl
out-kind Divs32 = refl
out-kind Divs64 = refl
out-kind Rems32 = refl
out-kind Rems64 = refl
out-kind Eq32 = refl
out-kind Eq64 = refl
out-kind Ne32 = refl
out-kind Ne64 = refl
out-kind Ltu32 = refl
out-kind Ltu64 = refl
out-kind Leu32 = refl
out-kind Leu64 = refl
out-kind Lts32 = refl
out-kind Lts64 = refl
out-kind Les32 = refl
out-kind Les64 = refl

pub in-word : (op : Op2) → op2_in op ≡ bits (word_of (op2_in op))
in-word Add32 = refl
in-word Add64 = refl
in-word Sub32 = refl
in-word Sub64 = refl
in-word Mul32 = refl
in-word Mul64 = refl
in-word And32 = refl
in-word And64 = refl
in-word Or32 = refl
in-word Or64 = refl
in-word Xor32 = refl
in-word Xor64 = refl
in-word Shl32 = refl
in-word Shl64 = refl
in-word Shru32 = refl
in-word Shru64 = refl
in-word Shrs32 = refl
in-word Shrs64 = refl
in-word Divu32 = refl
in-word Divu64 = refl
in-word Remu32 = refl
in-word Remu64 = refl
in-word Divs32 = refl
in-word Divs64 = refl
in-word Rems32 = refl
in-word Rems64 = refl
in-word Eq32 = refl
in-word Eq64 = refl
in-word Ne32 = refl
in-word Ne64 = refl
in-word Ltu32 = refl
in-word Ltu64 = refl
in-word Leu32 = refl
in-word Leu64 = refl
in-word Lts32 = refl
in-word Lts64 = refl
in-word Les32 = refl
in-word Les64 = refl

pub result-operation : (k : Kind) (w : Word) (x y : ℕ) → op2_result (operation k w) x y ≡ kind_on k (bits w) (x % 2 ^ bits w) (y % 2 ^ bits w)
unfolding op2_result op2_on
result-operation Add Word32 x y = refl
result-operation Add Word64 x y = refl
result-operation Sub Word32 x y = refl
result-operation Sub Word64 x y = refl
result-operation Mul Word32 x y = refl
result-operation Mul Word64 x y = refl
result-operation And Word32 x y = refl
result-operation And Word64 x y = refl
result-operation Or Word32 x y = refl
result-operation Or Word64 x y = refl
result-operation Xor Word32 x y = refl
result-operation Xor Word64 x y = refl
result-operation Shl Word32 x y = refl
result-operation Shl Word64 x y = refl
result-operation Shru Word32 x y = refl
result-operation Shru Word64 x y = refl
result-operation Shrs Word32 x y = refl
result-operation Shrs Word64 x y = refl
result-operation Divu Word32 x y = refl
result-operation Divu Word64 x y = refl
result-operation Remu Word32 x y = refl
result-operation Remu Word64 x y = refl
result-operation Divs Word32 x y = refl
result-operation Divs Word64 x y = refl
result-operation Rems Word32 x y = refl
result-operation Rems Word64 x y = refl
result-operation Eq Word32 x y = refl
result-operation Eq Word64 x y = refl
result-operation Ne Word32 x y = refl
result-operation Ne Word64 x y = refl
result-operation Ltu Word32 x y = refl
result-operation Ltu Word64 x y = refl
result-operation Leu Word32 x y = refl
result-operation Leu Word64 x y = refl
result-operation Lts Word32 x y = refl
result-operation Lts Word64 x y = refl
result-operation Les Word32 x y = refl
result-operation Les Word64 x y = refl

pub in-operation : (k : Kind) (w : Word) → op2_in (operation k w) ≡ bits w
in-operation Add Word32 = refl
in-operation Add Word64 = refl
in-operation Sub Word32 = refl
in-operation Sub Word64 = refl
in-operation Mul Word32 = refl
in-operation Mul Word64 = refl
in-operation And Word32 = refl
in-operation And Word64 = refl
in-operation Or Word32 = refl
in-operation Or Word64 = refl
in-operation Xor Word32 = refl
in-operation Xor Word64 = refl
in-operation Shl Word32 = refl
in-operation Shl Word64 = refl
in-operation Shru Word32 = refl
in-operation Shru Word64 = refl
in-operation Shrs Word32 = refl
in-operation Shrs Word64 = refl
in-operation Divu Word32 = refl
in-operation Divu Word64 = refl
in-operation Remu Word32 = refl
in-operation Remu Word64 = refl
in-operation Divs Word32 = refl
in-operation Divs Word64 = refl
in-operation Rems Word32 = refl
in-operation Rems Word64 = refl
in-operation Eq Word32 = refl
in-operation Eq Word64 = refl
in-operation Ne Word32 = refl
in-operation Ne Word64 = refl
in-operation Ltu Word32 = refl
in-operation Ltu Word64 = refl
in-operation Leu Word32 = refl
in-operation Leu Word64 = refl
in-operation Lts Word32 = refl
in-operation Lts Word64 = refl
in-operation Les Word32 = refl
in-operation Les Word64 = refl

pub out-operation : (k : Kind) (w : Word) → op2_out (operation k w) ≡ width_out k (bits w)
out-operation Add Word32 = refl
out-operation Add Word64 = refl
out-operation Sub Word32 = refl
out-operation Sub Word64 = refl
out-operation Mul Word32 = refl
out-operation Mul Word64 = refl
out-operation And Word32 = refl
out-operation And Word64 = refl
out-operation Or Word32 = refl
out-operation Or Word64 = refl
out-operation Xor Word32 = refl
out-operation Xor Word64 = refl
out-operation Shl Word32 = refl
out-operation Shl Word64 = refl
out-operation Shru Word32 = refl
out-operation Shru Word64 = refl
out-operation Shrs Word32 = refl
out-operation Shrs Word64 = refl
out-operation Divu Word32 = refl
out-operation Divu Word64 = refl
out-operation Remu Word32 = refl
out-operation Remu Word64 = refl
out-operation Divs Word32 = refl
out-operation Divs Word64 = refl
out-operation Rems Word32 = refl
out-operation Rems Word64 = refl
out-operation Eq Word32 = refl
out-operation Eq Word64 = refl
out-operation Ne Word32 = refl
out-operation Ne Word64 = refl
out-operation Ltu Word32 = refl
out-operation Ltu Word64 = refl
out-operation Leu Word32 = refl
out-operation Leu Word64 = refl
out-operation Lts Word32 = refl
out-operation Lts Word64 = refl
out-operation Les Word32 = refl
out-operation Les Word64 = refl

pub op1-width : (op : Op1) → IsWidth (op1_out op)
op1-width Neg32 = inr (inr (inl refl))
op1-width Neg64 = inr (inr (inr refl))
op1-width Not32 = inr (inr (inl refl))
op1-width Not64 = inr (inr (inr refl))
op1-width Zero32 = inr (inr (inl refl))
op1-width Zero64 = inr (inr (inl refl))
op1-width S8to16 = inr (inl refl)
op1-width S8to32 = inr (inr (inl refl))
op1-width S8to64 = inr (inr (inr refl))
op1-width S16to32 = inr (inr (inl refl))
op1-width S16to64 = inr (inr (inr refl))
op1-width S32to64 = inr (inr (inr refl))
op1-width U8to16 = inr (inl refl)
op1-width U8to32 = inr (inr (inl refl))
op1-width U8to64 = inr (inr (inr refl))
op1-width U16to32 = inr (inr (inl refl))
op1-width U16to64 = inr (inr (inr refl))
op1-width U32to64 = inr (inr (inr refl))
op1-width Cut16to8 = inl refl
op1-width Cut32to8 = inl refl
op1-width Cut32to16 = inr (inl refl)
op1-width Cut64to8 = inl refl
op1-width Cut64to16 = inr (inl refl)
op1-width Cut64to32 = inr (inr (inl refl))

pub op2-width : (op : Op2) → IsWidth (op2_out op)
op2-width Add32 = inr (inr (inl refl))
op2-width Add64 = inr (inr (inr refl))
op2-width Sub32 = inr (inr (inl refl))
op2-width Sub64 = inr (inr (inr refl))
op2-width Mul32 = inr (inr (inl refl))
op2-width Mul64 = inr (inr (inr refl))
op2-width And32 = inr (inr (inl refl))
op2-width And64 = inr (inr (inr refl))
op2-width Or32 = inr (inr (inl refl))
op2-width Or64 = inr (inr (inr refl))
op2-width Xor32 = inr (inr (inl refl))
op2-width Xor64 = inr (inr (inr refl))
op2-width Shl32 = inr (inr (inl refl))
op2-width Shl64 = inr (inr (inr refl))
op2-width Shru32 = inr (inr (inl refl))
op2-width Shru64 = inr (inr (inr refl))
op2-width Shrs32 = inr (inr (inl refl))
op2-width Shrs64 = inr (inr (inr refl))
op2-width Divu32 = inr (inr (inl refl))
op2-width Divu64 = inr (inr (inr refl))
op2-width Remu32 = inr (inr (inl refl))
op2-width Remu64 = inr (inr (inr refl))
op2-width Divs32 = inr (inr (inl refl))
op2-width Divs64 = inr (inr (inr refl))
op2-width Rems32 = inr (inr (inl refl))
op2-width Rems64 = inr (inr (inr refl))
op2-width Eq32 = inr (inr (inl refl))
op2-width Eq64 = inr (inr (inl refl))
op2-width Ne32 = inr (inr (inl refl))
op2-width Ne64 = inr (inr (inl refl))
op2-width Ltu32 = inr (inr (inl refl))
op2-width Ltu64 = inr (inr (inl refl))
op2-width Leu32 = inr (inr (inl refl))
op2-width Leu64 = inr (inr (inl refl))
op2-width Lts32 = inr (inr (inl refl))
op2-width Lts64 = inr (inr (inl refl))
op2-width Les32 = inr (inr (inl refl))
op2-width Les64 = inr (inr (inl refl))

pub word-width : (w : Word) → IsWidth (bits w)
word-width Word32 = inr (inr (inl refl))
word-width Word64 = inr (inr (inr refl))

pub negative-result : (w : Word) (x : ℕ) → op1_result (negative_on w) x ≡ negative_of (bits w) (x % 2 ^ bits w)
unfolding op1_result op1_on
negative-result Word32 x = refl
negative-result Word64 x = refl

pub negative-in : (w : Word) → op1_in (negative_on w) ≡ bits w
negative-in Word32 = refl
negative-in Word64 = refl

pub negative-out : (w : Word) → op1_out (negative_on w) ≡ bits w
negative-out Word32 = refl
negative-out Word64 = refl

pub flip-result : (w : Word) (x : ℕ) → op1_result (flip_on w) x ≡ flipped_of (bits w) (x % 2 ^ bits w)
unfolding op1_result op1_on
flip-result Word32 x = refl
flip-result Word64 x = refl

pub flip-in : (w : Word) → op1_in (flip_on w) ≡ bits w
flip-in Word32 = refl
flip-in Word64 = refl

pub flip-out : (w : Word) → op1_out (flip_on w) ≡ bits w
flip-out Word32 = refl
flip-out Word64 = refl

pub zero-test : (w : Word) (x : ℕ) → op1_result (zero_on w) x ≡ from_bool (x % 2 ^ bits w == 0)
unfolding op1_result op1_on
zero-test Word32 x = refl
zero-test Word64 x = refl

pub zero-in : (w : Word) → op1_in (zero_on w) ≡ bits w
zero-in Word32 = refl
zero-in Word64 = refl

pub zero-32 : (w : Word) → op1_out (zero_on w) ≡ 32
zero-32 Word32 = refl
zero-32 Word64 = refl

-- ---- tests for 0 and comparisons

pub zero-out : (op : Op1) → is_zero op ≡ true → op1_out op ≡ 32
zero-out Neg32 h = absurd (false≢true h)
zero-out Neg64 h = absurd (false≢true h)
zero-out Not32 h = absurd (false≢true h)
zero-out Not64 h = absurd (false≢true h)
zero-out Zero32 h = refl
zero-out Zero64 h = refl
zero-out S8to16 h = absurd (false≢true h)
zero-out S8to32 h = absurd (false≢true h)
zero-out S8to64 h = absurd (false≢true h)
zero-out S16to32 h = absurd (false≢true h)
zero-out S16to64 h = absurd (false≢true h)
zero-out S32to64 h = absurd (false≢true h)
zero-out U8to16 h = absurd (false≢true h)
zero-out U8to32 h = absurd (false≢true h)
zero-out U8to64 h = absurd (false≢true h)
zero-out U16to32 h = absurd (false≢true h)
zero-out U16to64 h = absurd (false≢true h)
zero-out U32to64 h = absurd (false≢true h)
zero-out Cut16to8 h = absurd (false≢true h)
zero-out Cut32to8 h = absurd (false≢true h)
zero-out Cut32to16 h = absurd (false≢true h)
zero-out Cut64to8 h = absurd (false≢true h)
zero-out Cut64to16 h = absurd (false≢true h)
zero-out Cut64to32 h = absurd (false≢true h)

pub zero-result : (op : Op1) → is_zero op ≡ true → (x : ℕ) → op1_result op x ≡ from_bool (x % 2 ^ op1_in op == 0)
unfolding op1_result op1_on
zero-result Neg32 h x = absurd (false≢true h)
zero-result Neg64 h x = absurd (false≢true h)
zero-result Not32 h x = absurd (false≢true h)
zero-result Not64 h x = absurd (false≢true h)
zero-result Zero32 h x = refl
zero-result Zero64 h x = refl
zero-result S8to16 h x = absurd (false≢true h)
zero-result S8to32 h x = absurd (false≢true h)
zero-result S8to64 h x = absurd (false≢true h)
zero-result S16to32 h x = absurd (false≢true h)
zero-result S16to64 h x = absurd (false≢true h)
zero-result S32to64 h x = absurd (false≢true h)
zero-result U8to16 h x = absurd (false≢true h)
zero-result U8to32 h x = absurd (false≢true h)
zero-result U8to64 h x = absurd (false≢true h)
zero-result U16to32 h x = absurd (false≢true h)
zero-result U16to64 h x = absurd (false≢true h)
zero-result U32to64 h x = absurd (false≢true h)
zero-result Cut16to8 h x = absurd (false≢true h)
zero-result Cut32to8 h x = absurd (false≢true h)
zero-result Cut32to16 h x = absurd (false≢true h)
zero-result Cut64to8 h x = absurd (false≢true h)
zero-result Cut64to16 h x = absurd (false≢true h)
zero-result Cut64to32 h x = absurd (false≢true h)

pub zero-bit : (op : Op1) → is_zero op ≡ true → (b : Bool) → op1_result op (from_bool b) ≡ from_bool (not b)
unfolding op1_result op1_on
zero-bit Neg32 h b = absurd (false≢true h)
zero-bit Neg64 h b = absurd (false≢true h)
zero-bit Not32 h b = absurd (false≢true h)
zero-bit Not64 h b = absurd (false≢true h)
zero-bit Zero32 h true = refl
zero-bit Zero32 h false = refl
zero-bit Zero64 h true = refl
zero-bit Zero64 h false = refl
zero-bit S8to16 h b = absurd (false≢true h)
zero-bit S8to32 h b = absurd (false≢true h)
zero-bit S8to64 h b = absurd (false≢true h)
zero-bit S16to32 h b = absurd (false≢true h)
zero-bit S16to64 h b = absurd (false≢true h)
zero-bit S32to64 h b = absurd (false≢true h)
zero-bit U8to16 h b = absurd (false≢true h)
zero-bit U8to32 h b = absurd (false≢true h)
zero-bit U8to64 h b = absurd (false≢true h)
zero-bit U16to32 h b = absurd (false≢true h)
zero-bit U16to64 h b = absurd (false≢true h)
zero-bit U32to64 h b = absurd (false≢true h)
zero-bit Cut16to8 h b = absurd (false≢true h)
zero-bit Cut32to8 h b = absurd (false≢true h)
zero-bit Cut32to16 h b = absurd (false≢true h)
zero-bit Cut64to8 h b = absurd (false≢true h)
zero-bit Cut64to16 h b = absurd (false≢true h)
zero-bit Cut64to32 h b = absurd (false≢true h)

pub comparison : (k : Kind) → is_comparison k ≡ true → (w x y : ℕ) → (b : Bool) × (kind_on k w x y ≡ from_bool b)
comparison Add h w x y = absurd (false≢true h)
comparison Sub h w x y = absurd (false≢true h)
comparison Mul h w x y = absurd (false≢true h)
comparison And h w x y = absurd (false≢true h)
comparison Or h w x y = absurd (false≢true h)
comparison Xor h w x y = absurd (false≢true h)
comparison Shl h w x y = absurd (false≢true h)
comparison Shru h w x y = absurd (false≢true h)
comparison Shrs h w x y = absurd (false≢true h)
comparison Divu h w x y = absurd (false≢true h)
comparison Remu h w x y = absurd (false≢true h)
comparison Divs h w x y = absurd (false≢true h)
comparison Rems h w x y = absurd (false≢true h)
comparison Eq h w x y = (x == y, refl)
comparison Ne h w x y = (not (x == y), refl)
comparison Ltu h w x y = (nat_lt x y, refl)
comparison Leu h w x y = (nat_le x y, refl)
comparison Lts h w x y = (int_lt (signed_number w x) (signed_number w y), refl)
comparison Les h w x y = (int_le (signed_number w x) (signed_number w y), refl)

pub comparison-out : (k : Kind) → is_comparison k ≡ true → (w : ℕ) → width_out k w ≡ 32
comparison-out Add h w = absurd (false≢true h)
comparison-out Sub h w = absurd (false≢true h)
comparison-out Mul h w = absurd (false≢true h)
comparison-out And h w = absurd (false≢true h)
comparison-out Or h w = absurd (false≢true h)
comparison-out Xor h w = absurd (false≢true h)
comparison-out Shl h w = absurd (false≢true h)
comparison-out Shru h w = absurd (false≢true h)
comparison-out Shrs h w = absurd (false≢true h)
comparison-out Divu h w = absurd (false≢true h)
comparison-out Remu h w = absurd (false≢true h)
comparison-out Divs h w = absurd (false≢true h)
comparison-out Rems h w = absurd (false≢true h)
comparison-out Eq h w = refl
comparison-out Ne h w = refl
comparison-out Ltu h w = refl
comparison-out Leu h w = refl
comparison-out Lts h w = refl
comparison-out Les h w = refl

pub unequal-result : (k : Kind) → is_unequal k ≡ true → (w x y : ℕ) → kind_on k w x y ≡ from_bool (not (x == y))
unequal-result Add h w x y = absurd (false≢true h)
unequal-result Sub h w x y = absurd (false≢true h)
unequal-result Mul h w x y = absurd (false≢true h)
unequal-result And h w x y = absurd (false≢true h)
unequal-result Or h w x y = absurd (false≢true h)
unequal-result Xor h w x y = absurd (false≢true h)
unequal-result Shl h w x y = absurd (false≢true h)
unequal-result Shru h w x y = absurd (false≢true h)
unequal-result Shrs h w x y = absurd (false≢true h)
unequal-result Divu h w x y = absurd (false≢true h)
unequal-result Remu h w x y = absurd (false≢true h)
unequal-result Divs h w x y = absurd (false≢true h)
unequal-result Rems h w x y = absurd (false≢true h)
unequal-result Eq h w x y = absurd (false≢true h)
unequal-result Ne h w x y = refl
unequal-result Ltu h w x y = absurd (false≢true h)
unequal-result Leu h w x y = absurd (false≢true h)
unequal-result Lts h w x y = absurd (false≢true h)
unequal-result Les h w x y = absurd (false≢true h)

-- ---- on patterns

pub result-below : (op : Op2) (x y : ℕ) → x < 2 ^ op2_in op → y < 2 ^ op2_in op → op2_result op x y ≡ kind_on (kind_of op) (bits (word_of (op2_in op))) x y
result-below op x y h g =
    let p : x % 2 ^ op2_in op ≡ x = mod-eq_of_lt h in
    let q : y % 2 ^ op2_in op ≡ y = mod-eq_of_lt g in
    result-kind op x y ∙ (λ i. kind_on (kind_of op) (in-word op i) (p i) (q i))

pub operation-below : (k : Kind) (w : Word) (x y : ℕ) → x < 2 ^ bits w → y < 2 ^ bits w → op2_result (operation k w) x y ≡ kind_on k (bits w) x y
operation-below k w x y h g =
    let p : x % 2 ^ bits w ≡ x = mod-eq_of_lt h in
    let q : y % 2 ^ bits w ≡ y = mod-eq_of_lt g in
    result-operation k w x y ∙ (λ i. kind_on k (bits w) (p i) (q i))

pub result-out : (op : Op2) → op2_out op ≡ width_out (kind_of op) (bits (word_of (op2_in op)))
result-out op = out-kind op ∙ ap (width_out (kind_of op)) (in-word op)
