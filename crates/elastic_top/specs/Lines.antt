-- Lines in pieces.
use Rattle.std.specs.Prelude.{◌≡◌, ◌++◌, ℕ, List, Option, map, decimal}
use Rattle.std.specs.List.{concat}
use Rattle.std.specs.Io.KnownBytes.{append_known}
use Rattle.el_base.specs.Labels.{printed}
use Rattle.elastic_top.specs.declared.line.Piece.{Piece}
use Rattle.elastic_top.specs.declared.line.Piece.TheVariants.{Text, Bytes, Number, Labelled}

abbrev pub piece_text : Piece → List ℕ
piece_text (Text text) = text.now
piece_text (Bytes bytes) = bytes.now
piece_text (Number n) = decimal n
piece_text (Labelled label) = printed label.number label.word.now

-- the texts of the pieces, one after the other
abbrev pub line_of : List Piece → List ℕ
line_of pieces = concat (map piece_text pieces)

-- a sink grew by a text but for its end, which is gathered and not written yet
abbrev pub AreGathered : Option (List ℕ) → Option (List ℕ) → List ℕ → List ℕ → Type 0
AreGathered before now gathered text = (front : List ℕ) × (now ≡ append_known before front) × (front ++ gathered ≡ text)
