-- The reserved words by their lengths; contracts of private functions alone cite this.
use Rattle.std.specs.Prelude.{ℕ, Bool, not, ◌==◌, ◌||◌, List, length, bytes_eq}
use Rattle.std.specs.List.{list_all, list_any}
use Rattle.c_ast.specs.Pieces.{keys}
use Rattle.c_ast.specs.Texts.{key_text}
use Rattle.c_ast.specs.declared.key.Key.{Key}

-- whether these words spell each word of that length
abbrev pub has_each : ℕ → List Key → Bool
has_each n ks = list_all (λ k. list_any (λ j. bytes_eq (key_text j) (key_text k)) ks || not (length (key_text k) == n)) keys
