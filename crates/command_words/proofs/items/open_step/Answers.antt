use Rattle.command_words.proofs.Moves.{moves_end, moves_plain, unknown_word}
use Rattle.command_words.proofs.items.open_step.Goals as goal

pub returns-in-End-clause-some : goal.returns-in-End-clause-some
returns-in-End-clause-some c = moves_end _ _ c.in-End.ensures

pub returns-in-Plain-clause-some : goal.returns-in-Plain-clause-some
returns-in-Plain-clause-some c = moves_plain _ _ c.in-Plain.ensures

pub returns-in-Unknown-clause-none : goal.returns-in-Unknown-clause-none
returns-in-Unknown-clause-none c = λ none. unknown_word _ _ c.in-Unknown.ensures
