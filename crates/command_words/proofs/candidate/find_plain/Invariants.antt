use Rattle.std.proofs.Common.{◌≤◌, ◌+◌, length}
use Rattle.command_words.proofs.candidate.find_plain.Given as goal

abbrev pub invariant-loop-at : goal.invariant-loop-at
invariant-loop-at l = length l.found.items ≤ length l.fn.found.items + l.at
