use Rattle.std.proofs.Common.{◌≡◌, length}
use Rattle.command_words.proofs.candidate.only_items.Given as goal

abbrev pub invariant-loop-i : goal.invariant-loop-i
invariant-loop-i l = length l.items.items ≡ l.i
