use Rattle.std.proofs.Common.{◌≡◌, ◌++◌, drop, map}
use Rattle.block_select.specs.Choices.{select_of}
use Rattle.block_select.proofs.choices.add_selects.Given as goal

abbrev pub invariant-loop-choice : goal.invariant-loop-choice
invariant-loop-choice l = l.all ++ map (select_of l.cond) (drop l.choice-index l.choices) ≡ l.initial.all ++ map (select_of l.cond) l.choices
