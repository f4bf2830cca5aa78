-- What is written for rows, and what a call adds to it.
use Rattle.std.specs.Prelude.{◌≡◌, ℕ, List, Option, Some, None, IfSome, ◌++◌, if◌then◌else◌}
use Rattle.row_fields.specs.declared.output.Output.{Output}

-- all that was written, where none of it was lost
abbrev pub output_text : Output → Option (List ℕ)
output_text output = if output.is_cut then None else Some output.bytes.items

-- a text stands behind what was written before, unless some of that or of the text is lost
abbrev pub AppendsText : List ℕ → Output → Output → Type 0
AppendsText more old new = IfSome (output_text new) (λ text. (front : List ℕ) × (output_text old ≡ Some front) × (text ≡ front ++ more))
