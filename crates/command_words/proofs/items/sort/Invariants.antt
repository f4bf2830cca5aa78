use Rattle.std.proofs.Common.{ℕ, ◌<◌, get_or}
use Rattle.command_words.specs.declared.choice.TheConstants.{CHOICES}
use Rattle.command_words.specs.declared.choice.Choice.{Choice}
use Rattle.command_words.specs.Steps.{IsNoUse}
use Rattle.command_words.proofs.items.sort.Given as goal

abbrev pub invariant-loop-choice : goal.invariant-loop-choice
invariant-loop-choice l = (k : ℕ) (d : Choice) → k < l.choice-index → IsNoUse l.word (get_or CHOICES k d)
