use Rattle.std.proofs.Common.{length}
use Rattle.inputs_text.proofs.NumeralLemmas.{SoFar}
use Rattle.inputs_text.proofs.numerals.read_words.Given as goal

abbrev pub invariant-words : goal.invariant-words
invariant-words l = SoFar l.slot l.text l.rest l.numbers

abbrev pub decreases-words : goal.decreases-words
decreases-words l = length l.rest
