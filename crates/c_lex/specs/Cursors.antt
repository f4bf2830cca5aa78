-- Where a cursor stands in a text.
use Rattle.std.specs.Prelude.{◌≡◌, ℕ, ◌+◌, ◌≤◌, ◌==◌, if◌then◌else◌, List, length, take}
use Rattle.c_ast.specs.Tokens.{place_after, first_of_text}
use Rattle.c_lex.specs.declared.cursor.Cursor.{Cursor}

-- its line and column are those of its byte
pub record IsAt (bytes : List ℕ) (c : Cursor) : Type 0 where
  pub within : c.offset ≤ length bytes
  pub line : c.line ≡ (place_after first_of_text (take c.offset bytes)).line
  pub column : c.column ≡ (place_after first_of_text (take c.offset bytes)).column

-- the place after a byte
abbrev pub cursor_after : ℕ → Cursor → Cursor
cursor_after b c = if b == 10 then record { offset = c.offset + 1; line = c.line + 1; column = 1 } else record { offset = c.offset + 1; line = c.line; column = c.column + 1 }
