use Rattle.std.proofs.Common.{◌≡◌, ◌++◌, drop}
use Rattle.block_select.specs.Choices.{chosen_values}
use Rattle.block_select.proofs.choices.chosen_values.Given as goal

abbrev pub invariant-loop-at : goal.invariant-loop-at
invariant-loop-at l =
    l.values ++ chosen_values l.first l.choices (drop l.at l.widths) (drop l.at l.yes) (drop l.at l.no) ≡ chosen_values l.first l.choices l.widths l.yes l.no
