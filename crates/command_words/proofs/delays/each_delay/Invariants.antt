use Rattle.std.proofs.Common.{take}
use Rattle.command_words.specs.Commands.{word_texts}
use Rattle.command_words.specs.Steps.{AreEach}
use Rattle.command_words.proofs.delays.each_delay.Given as goal

abbrev pub invariant-loop-i : goal.invariant-loop-i
invariant-loop-i l = AreEach (word_texts (take l.i l.parts)) l.delays
