use Rattle.std.proofs.Common.{◌≡◌, ℕ, ◌<◌, ◌∷◌, ◌++◌, get_or}
use Rattle.command_words.specs.declared.choice.TheConstants.{CLASSES}
use Rattle.command_words.specs.declared.choice.Class.{Class}
use Rattle.command_words.specs.Tables.{Text, class_word}
use Rattle.command_words.proofs.delays.delay_of.Given as goal

abbrev pub invariant-loop-class : goal.invariant-loop-class
invariant-loop-class l = (k : ℕ) (c : Class) (v : Text) → k < l.class-index → l.part ≡ class_word (get_or CLASSES k c) ++ (61 ∷ v) → ⊥
