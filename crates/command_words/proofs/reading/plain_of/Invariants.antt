use Rattle.std.proofs.Common.{◌≡◌, take}
use Rattle.command_words.specs.Items.{items_of, plain_words}
use Rattle.command_words.specs.Commands.{word_texts}
use Rattle.command_words.proofs.reading.plain_of.Given as goal

abbrev pub invariant-loop-i : goal.invariant-loop-i
invariant-loop-i l = word_texts l.words.items ≡ plain_words (items_of (take l.i l.items))
