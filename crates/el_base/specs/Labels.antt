-- How refusals are printed.
use Rattle.std.specs.Prelude.{ℕ, ◌++◌, List, ◌∷◌, Option, Some, None, codes}
use Rattle.std.specs.Fmt.{decimal}

-- the number, a space (32) and the word; without a number it is want of memory
abbrev pub printed : Option ℕ → List ℕ → List ℕ
printed None word = codes "want of memory"
printed (Some number) word = decimal number ++ 32 ∷ word
