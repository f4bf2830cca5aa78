-- Integer constants: their form, value and type (ISO/IEC 9899:1999 6.4.4.1).
use Rattle.std.specs.Prelude.{ℕ, ◌+◌, ◌-◌, ◌^◌, Bool, true, false, ◌==◌, ◌&&◌, ◌||◌, nat_lt, if◌then◌else◌, List, [], ◌∷◌, length, take, drop, Option, None, option_map, codes}
use Rattle.std.specs.Char.{is_digit}
use Rattle.std.specs.List.{prefix_len, starts_with, find}
use Rattle.std.specs.Str.Parse.{digits_value}
use Rattle.el_base.specs.Widths.{ty_width, ty_signed}
use Rattle.el_base.specs.declared.ty.Ty.{Ty}
use Rattle.el_base.specs.declared.ty.Ty.TheVariants.{I32, U32, I64, U64}

-- whether a text begins with these bytes
abbrev pub begins : List ℕ → List ℕ → Bool
begins front text = starts_with ◌==◌ text front

-- `0x` or `0X` before hexadecimal digits
unfoldable pub prefix_of : List ℕ → ℕ
prefix_of token = if begins (codes "0x") token || begins (codes "0X") token then 2 else 0

-- hexadecimal after that prefix, octal after another 0, else decimal
unfoldable pub base_of : List ℕ → ℕ
base_of token = if prefix_of token == 2 then 16 else (if begins (codes "0") token then 8 else 10)

-- the digits after the prefix: as many as stand there
unfoldable pub digits_of : List ℕ → List ℕ
digits_of token = let body = drop (prefix_of token) token in take (prefix_len (λ b. is_digit b (base_of token)) body) body

-- what follows the digits
unfoldable pub suffix_of : List ℕ → List ℕ
suffix_of token = drop (prefix_of token + length (digits_of token)) token

-- how long `u` or `U` is at the front of a text: 1, or 0 where it does not stand there
unfoldable pub unsigned_len : List ℕ → ℕ
unsigned_len text = if begins (codes "u") text || begins (codes "U") text then 1 else 0

-- how long `ll`, `LL`, `l` or `L` is at the front of a text
unfoldable pub long_len : List ℕ → ℕ
long_len text = if begins (codes "ll") text || begins (codes "LL") text then 2
    else (if begins (codes "l") text || begins (codes "L") text then 1 else 0)

-- where the `l` begins: after a `u` that stands first
unfoldable pub long_at : List ℕ → ℕ
long_at suffix = unsigned_len suffix

-- where the `u` begins: before the `l` or after it
unfoldable pub unsigned_at : List ℕ → ℕ
unsigned_at suffix = if unsigned_len suffix == 1 then 0 else long_len suffix

-- whether a suffix has the one and the other, each once at most, in either order
unfoldable pub is_long : List ℕ → Bool
is_long suffix = nat_lt 0 (long_len (drop (long_at suffix) suffix))

unfoldable pub is_unsigned : List ℕ → Bool
is_unsigned suffix = nat_lt 0 (unsigned_len (drop (unsigned_at suffix) suffix))

unfoldable pub is_suffix : List ℕ → Bool
is_suffix suffix = length suffix == long_len (drop (long_at suffix) suffix) + unsigned_len (drop (unsigned_at suffix) suffix)

-- whether a token is an integer constant: one digit or more, and a suffix or none
unfoldable pub is_numeral : List ℕ → Bool
is_numeral token = nat_lt 0 (length (digits_of token)) && is_suffix (suffix_of token)

-- the types that a constant may have, in their order: by whether it is decimal, and its suffix
abbrev pub types_of : Bool → Bool → Bool → List Ty
types_of true false false = I32 ∷ I64 ∷ []
types_of false false false = I32 ∷ U32 ∷ I64 ∷ U64 ∷ []
types_of decimal true false = U32 ∷ U64 ∷ []
types_of true false true = I64 ∷ []
types_of false false true = I64 ∷ U64 ∷ []
types_of decimal true true = U64 ∷ []

-- whether a type holds a number that is not negative
abbrev pub holds : ℕ → Ty → Bool
holds n t = nat_lt n (2 ^ (if ty_signed t then ty_width t - 1 else ty_width t))

-- a constant's value with its type, the first that holds it; none holds 2 ^ 64
unfoldable pub typed_value : List Ty → ℕ → Option (ℕ × Ty)
typed_value types n = if nat_lt n (2 ^ 64) then option_map (λ t. (n, t)) (find (holds n) types) else None

unfoldable pub number_of : List ℕ → Option (ℕ × Ty)
number_of token = typed_value
    (types_of (base_of token == 10) (is_unsigned (suffix_of token)) (is_long (suffix_of token)))
    (digits_value (base_of token) (digits_of token))
