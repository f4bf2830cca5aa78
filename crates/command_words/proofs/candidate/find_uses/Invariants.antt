use Rattle.std.proofs.Common.{◌≤◌, ◌+◌, length}
use Rattle.command_words.proofs.candidate.find_uses.Given as goal

abbrev pub invariant-loop-choice : goal.invariant-loop-choice
invariant-loop-choice l = length l.found.items ≤ length l.fn.found.items + l.choice-index
