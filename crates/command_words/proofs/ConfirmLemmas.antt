-- Words and items of which none is left.
use Rattle.std.proofs.Common.{◌≡◌, List, [], ◌∷◌, length, arith}
use Rattle.std.specs.Prelude.{◌==◌, Bool, IsTrue}
use Rattle.std.specs.declared.string.String.{String}
use Rattle.std.specs.declared.alloc.Global.{Global}
use Rattle.std.proofs.lemmas.List.{nil_from_length}
use Rattle.std.proofs.lemmas.Bool.Decides.{nat_tests}
use Rattle.command_words.specs.declared.verb.Verb.{Verb}
use Rattle.command_words.specs.declared.items.Written.{Written}
use Rattle.command_words.specs.Items.{AreWritten, done, items_of}
use Rattle.command_words.specs.Commands.{texts}

-- what `is_empty` tells
pub is_nothing : {X : Type 0} (xs : List X) (b : Bool) → b ≡ (length xs == 0) → IsTrue b → xs ≡ []
is_nothing xs b e holds = nil_from_length xs (grind (arith, nat_tests, e, holds))

pub none_left : (verb : Verb) (is : List Written) (ws : List (String Global)) → is ≡ [] → ws ≡ [] → AreWritten verb (items_of is) (texts ws)
none_left verb [] [] e f = done
none_left verb [] (w ∷ ws) e f = cc
none_left verb (i ∷ is) ws e f = cc
