-- The summary of a bench: three lines.
use Rattle.std.specs.Prelude.{ℕ, List, ◌++◌, codes}
use Rattle.std.specs.Fmt.{decimal}

-- a word, a number and a line feed
abbrev pub summary_line : List ℕ → ℕ → List ℕ
summary_line word n = word ++ decimal n ++ codes "\n"

-- so many firings, so many cycles, and this sum
abbrev pub summary_text : ℕ → ℕ → ℕ → List ℕ
summary_text firings cycles total = summary_line (codes "firings ") firings ++ summary_line (codes "cycles ") cycles ++ summary_line (codes "sum ") total
