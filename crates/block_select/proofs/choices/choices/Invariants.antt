use Rattle.std.proofs.Common.{◌≡◌, drop, []}
use Rattle.block_select.specs.Choices.{choices}
use Rattle.block_select.proofs.choices.choices.Given as goal

abbrev pub invariant-loop-at : goal.invariant-loop-at
invariant-loop-at l = choices (drop l.at l.widths) (drop l.at l.yes) (drop l.at l.no) l.made.items ≡ choices l.widths l.yes l.no []
