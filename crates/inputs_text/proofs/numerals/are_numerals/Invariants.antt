use Rattle.std.proofs.Common.{◌≡◌, length}
use Rattle.std.specs.List.{list_all}
use Rattle.inputs_text.specs.Lines.{is_numeral, words}
use Rattle.inputs_text.proofs.numerals.are_numerals.Given as goal

abbrev pub invariant-words : goal.invariant-words
invariant-words l = list_all is_numeral (words l.text) ≡ list_all is_numeral (words l.rest)

abbrev pub decreases-words : goal.decreases-words
decreases-words l = length l.rest
