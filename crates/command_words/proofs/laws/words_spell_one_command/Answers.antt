use Rattle.command_words.proofs.CommandLemmas.{command_once}
use Rattle.command_words.proofs.laws.words_spell_one_command.Goals as goal

pub returns : goal.returns
returns c = command_once
