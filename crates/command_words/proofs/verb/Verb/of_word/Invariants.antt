use Rattle.std.proofs.Common.{◌≢◌, ℕ, ◌<◌, get_or}
use Rattle.command_words.specs.declared.verb.TheConstants.{VERBS}
use Rattle.command_words.specs.declared.verb.Verb.{Verb}
use Rattle.command_words.specs.Tables.{verb_word}
use Rattle.command_words.proofs.verb.Verb.of_word.Given as goal

abbrev pub invariant-loop-verb : goal.invariant-loop-verb
invariant-loop-verb l = (k : ℕ) (d : Verb) → k < l.verb-index → verb_word (get_or VERBS k d) ≢ l.word
