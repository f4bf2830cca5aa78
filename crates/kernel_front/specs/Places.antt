-- Lines and columns, counted over the whole text before a place: a line ends with a line feed (byte 10), a column is one byte, and both count from 1.
use Rattle.std.specs.Prelude.{◌≡◌, ℕ, ◌+◌, Bool, not, ◌==◌, List, take, count_by}
use Rattle.std.specs.List.{suffix_len}
use Rattle.el_base.specs.declared.span.Span.{Span}

abbrev pub is_line_feed : ℕ → Bool
is_line_feed b = b == 10

-- one more than the line feeds before byte k
abbrev pub line_at : List ℕ → ℕ → ℕ
line_at bytes k = 1 + count_by is_line_feed (take k bytes)

-- one more than the bytes between the last line feed before byte k, or the text's front, and byte k
abbrev pub column_at : List ℕ → ℕ → ℕ
column_at bytes k = 1 + suffix_len (λ b. not (is_line_feed b)) (take k bytes)

-- a place tells the line and the column of its first byte
pub record IsPlace (bytes : List ℕ) (s : Span) : Type 0 where
  pub line : s.line ≡ line_at bytes s.start
  pub column : s.column ≡ column_at bytes s.start
