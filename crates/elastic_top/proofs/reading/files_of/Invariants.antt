use Rattle.std.proofs.Common.{◌≡◌, map, take}
use Rattle.command_words.specs.Commands.{word_texts}
use Rattle.elastic_top.specs.Files.{wanted}
use Rattle.elastic_top.specs.Reading.{file_of}
use Rattle.elastic_top.proofs.reading.files_of.Given as goal

abbrev pub invariant-loop-i : goal.invariant-loop-i
invariant-loop-i l = map file_of l.plan.items ≡ wanted (take l.i l.kinds) (word_texts (take l.i l.words))
