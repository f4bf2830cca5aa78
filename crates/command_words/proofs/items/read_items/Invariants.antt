use Rattle.std.proofs.Common.{drop}
use Rattle.command_words.specs.Items.{items_of}
use Rattle.command_words.specs.Steps.{Reads}
use Rattle.command_words.specs.Commands.{texts}
use Rattle.command_words.proofs.items.read_items.Given as goal

abbrev pub invariant-loop-word : goal.invariant-loop-word
invariant-loop-word l = Reads l.verb l.state (items_of l.items.items) (texts l.words) (drop l.word-index (texts l.words))
