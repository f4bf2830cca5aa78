use Rattle.std.proofs.Common.{take}
use Rattle.command_words.specs.Items.{given, items_of}
use Rattle.command_words.specs.Steps.{IsGiven}
use Rattle.command_words.proofs.values.values_of.Given as goal

abbrev pub invariant-loop-i : goal.invariant-loop-i
invariant-loop-i l = IsGiven (given l.choice (items_of (take l.i l.items))) l.found
