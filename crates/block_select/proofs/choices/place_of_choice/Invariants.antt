use Rattle.std.proofs.Common.{◌≡◌, ◌+◌, drop}
use Rattle.block_select.specs.Choices.{place_of_choice}
use Rattle.block_select.proofs.choices.place_of_choice.Given as goal

abbrev pub invariant-loop-at : goal.invariant-loop-at
invariant-loop-at l = place_of_choice l.choices l.choice ≡ l.at + place_of_choice (drop l.at l.choices) l.choice
