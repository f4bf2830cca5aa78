-- Texts as fields of rows.
use Rattle.std.specs.Prelude.{◌<◌, ⊤, ℕ, List, [], ◌∷◌, ◌==◌, codes, if◌then◌else◌}
use Rattle.row_fields.specs.declared.refusal.FieldRefusal.{FieldRefusal}
use Rattle.row_fields.specs.declared.refusal.FieldRefusal.TheVariants.{TooLong, NoNumber, Memory}

-- a byte of a text as it stands in a field: a line feed (10), a tab (9), a carriage return (13) and a backslash (92) behind
-- a backslash, and any other by itself
abbrev pub escape : ℕ → List ℕ
escape byte =
    if byte == 10 then codes "\\n"
    else if byte == 9 then codes "\\t"
    else if byte == 13 then codes "\\r"
    else if byte == 92 then codes "\\\\"
    else byte ∷ []

-- why a text of so many bytes, where so many are allowed, is refused
abbrev pub IsTextRefusal : ℕ → ℕ → FieldRefusal → Type 0
IsTextRefusal len most TooLong = most < len
IsTextRefusal len most NoNumber = ⊥
IsTextRefusal len most Memory = ⊤
