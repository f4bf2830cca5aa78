use Rattle.std.proofs.Common.{ℕ, ◌<◌, [], get_or}
use Rattle.command_words.specs.declared.verb.PlainKind.TheVariants.{Seed}
use Rattle.command_words.specs.Commands.{IsPlainWord, word_texts}
use Rattle.command_words.proofs.reading.are_plain.Given as goal

abbrev pub invariant-loop-i : goal.invariant-loop-i
invariant-loop-i l = (k : ℕ) → k < l.i → IsPlainWord (get_or l.kinds k Seed) (get_or (word_texts l.words) k [])
