-- Operations on two patterns of one width as a kind and a width, and which operations rules ask for.
use Rattle.std.specs.Prelude.{ℕ, ◌==◌, if◌then◌else◌, Bool, true, false}
use Rattle.el_base.specs.declared.operation.Op1.{Op1}
use Rattle.el_base.specs.declared.operation.Op1.TheVariants.{Neg32, Neg64, Not32, Not64, Zero32, Zero64, S8to16, S8to32, S8to64, S16to32, S16to64, S32to64, U8to16, U8to32, U8to64, U16to32, U16to64, U32to64, Cut16to8, Cut32to8, Cut32to16, Cut64to8, Cut64to16, Cut64to32}
use Rattle.el_base.specs.declared.operation.Op2.{Op2}
use Rattle.el_base.specs.declared.operation.Op2.TheVariants.{Add32, Add64, Sub32, Sub64, Mul32, Mul64, And32, And64, Or32, Or64, Xor32, Xor64, Shl32, Shl64, Shru32, Shru64, Shrs32, Shrs64, Divu32, Divu64, Remu32, Remu64, Divs32, Divs64, Rems32, Rems64, Eq32, Eq64, Ne32, Ne64, Ltu32, Ltu64, Leu32, Leu64, Lts32, Lts64, Les32, Les64}
use Rattle.block_rules.specs.declared.kind.Kind.{Kind}
use Rattle.block_rules.specs.declared.kind.Kind.TheVariants.{Add, Sub, Mul, And, Or, Xor, Shl, Shru, Shrs, Divu, Remu, Divs, Rems, Eq, Ne, Ltu, Leu, Lts, Les}
use Rattle.block_rules.specs.declared.kind.Word.{Word}
use Rattle.block_rules.specs.declared.kind.Word.TheVariants.{Word32, Word64}

abbrev pub bits : Word → ℕ
bits Word32 = 32
bits Word64 = 64

abbrev pub word_of : ℕ → Word
word_of w = if w == 32 then Word32 else Word64

abbrev pub kind_of : Op2 → Kind
kind_of Add32 = Add
kind_of Add64 = Add
kind_of Sub32 = Sub
kind_of Sub64 = Sub
kind_of Mul32 = Mul
kind_of Mul64 = Mul
kind_of And32 = And
kind_of And64 = And
kind_of Or32 = Or
kind_of Or64 = Or
kind_of Xor32 = Xor
kind_of Xor64 = Xor
kind_of Shl32 = Shl
kind_of Shl64 = Shl
kind_of Shru32 = Shru
kind_of Shru64 = Shru
kind_of Shrs32 = Shrs
kind_of Shrs64 = Shrs
kind_of Divu32 = Divu
kind_of Divu64 = Divu
kind_of Remu32 = Remu
kind_of Remu64 = Remu
kind_of Divs32 = Divs
kind_of Divs64 = Divs
kind_of Rems32 = Rems
kind_of Rems64 = Rems
kind_of Eq32 = Eq
kind_of Eq64 = Eq
kind_of Ne32 = Ne
kind_of Ne64 = Ne
kind_of Ltu32 = Ltu
kind_of Ltu64 = Ltu
kind_of Leu32 = Leu
kind_of Leu64 = Leu
kind_of Lts32 = Lts
kind_of Lts64 = Lts
kind_of Les32 = Les
kind_of Les64 = Les

-- the operation of a kind on patterns of that width
abbrev pub operation : Kind → Word → Op2
operation Add Word32 = Add32
operation Add Word64 = Add64
operation Sub Word32 = Sub32
operation Sub Word64 = Sub64
operation Mul Word32 = Mul32
operation Mul Word64 = Mul64
operation And Word32 = And32
operation And Word64 = And64
operation Or Word32 = Or32
operation Or Word64 = Or64
operation Xor Word32 = Xor32
operation Xor Word64 = Xor64
operation Shl Word32 = Shl32
operation Shl Word64 = Shl64
operation Shru Word32 = Shru32
operation Shru Word64 = Shru64
operation Shrs Word32 = Shrs32
operation Shrs Word64 = Shrs64
operation Divu Word32 = Divu32
operation Divu Word64 = Divu64
operation Remu Word32 = Remu32
operation Remu Word64 = Remu64
operation Divs Word32 = Divs32
operation Divs Word64 = Divs64
operation Rems Word32 = Rems32
operation Rems Word64 = Rems64
operation Eq Word32 = Eq32
operation Eq Word64 = Eq64
operation Ne Word32 = Ne32
operation Ne Word64 = Ne64
operation Ltu Word32 = Ltu32
operation Ltu Word64 = Ltu64
operation Leu Word32 = Leu32
operation Leu Word64 = Leu64
operation Lts Word32 = Lts32
operation Lts Word64 = Lts64
operation Les Word32 = Les32
operation Les Word64 = Les64

-- negative, flip and test for 0 of patterns of that width
abbrev pub negative_on : Word → Op1
negative_on Word32 = Neg32
negative_on Word64 = Neg64

abbrev pub flip_on : Word → Op1
flip_on Word32 = Not32
flip_on Word64 = Not64

abbrev pub zero_on : Word → Op1
zero_on Word32 = Zero32
zero_on Word64 = Zero64

-- whether it is a test for 0
abbrev pub is_zero : Op1 → Bool
is_zero Neg32 = false
is_zero Neg64 = false
is_zero Not32 = false
is_zero Not64 = false
is_zero Zero32 = true
is_zero Zero64 = true
is_zero S8to16 = false
is_zero S8to32 = false
is_zero S8to64 = false
is_zero S16to32 = false
is_zero S16to64 = false
is_zero S32to64 = false
is_zero U8to16 = false
is_zero U8to32 = false
is_zero U8to64 = false
is_zero U16to32 = false
is_zero U16to64 = false
is_zero U32to64 = false
is_zero Cut16to8 = false
is_zero Cut32to8 = false
is_zero Cut32to16 = false
is_zero Cut64to8 = false
is_zero Cut64to16 = false
is_zero Cut64to32 = false

-- whether it compares its operands
abbrev pub is_comparison : Kind → Bool
is_comparison Add = false
is_comparison Sub = false
is_comparison Mul = false
is_comparison And = false
is_comparison Or = false
is_comparison Xor = false
is_comparison Shl = false
is_comparison Shru = false
is_comparison Shrs = false
is_comparison Divu = false
is_comparison Remu = false
is_comparison Divs = false
is_comparison Rems = false
is_comparison Eq = true
is_comparison Ne = true
is_comparison Ltu = true
is_comparison Leu = true
is_comparison Lts = true
is_comparison Les = true

-- whether its operands may be swapped
abbrev pub commutes : Kind → Bool
commutes Add = true
commutes Sub = false
commutes Mul = true
commutes And = true
commutes Or = true
commutes Xor = true
commutes Shl = false
commutes Shru = false
commutes Shrs = false
commutes Divu = false
commutes Remu = false
commutes Divs = false
commutes Rems = false
commutes Eq = true
commutes Ne = true
commutes Ltu = false
commutes Leu = false
commutes Lts = false
commutes Les = false

-- whether it tells where its operands differ
abbrev pub is_unequal : Kind → Bool
is_unequal Add = false
is_unequal Sub = false
is_unequal Mul = false
is_unequal And = false
is_unequal Or = false
is_unequal Xor = false
is_unequal Shl = false
is_unequal Shru = false
is_unequal Shrs = false
is_unequal Divu = false
is_unequal Remu = false
is_unequal Divs = false
is_unequal Rems = false
is_unequal Eq = false
is_unequal Ne = true
is_unequal Ltu = false
is_unequal Leu = false
is_unequal Lts = false
is_unequal Les = false

-- whether it divides
abbrev pub is_division : Kind → Bool
is_division Add = false
is_division Sub = false
is_division Mul = false
is_division And = false
is_division Or = false
is_division Xor = false
is_division Shl = false
is_division Shru = false
is_division Shrs = false
is_division Divu = true
is_division Remu = true
is_division Divs = true
is_division Rems = true
is_division Eq = false
is_division Ne = false
is_division Ltu = false
is_division Leu = false
is_division Lts = false
is_division Les = false
