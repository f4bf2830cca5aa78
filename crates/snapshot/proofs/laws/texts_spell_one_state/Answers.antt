use Rattle.snapshot.proofs.TextLemmas.{snapshots_have_one_answer, texts_spell_one_state}
use Rattle.snapshot.proofs.laws.texts_spell_one_state.Goals as goal

pub returns-clause-one : goal.returns-clause-one
returns-clause-one c = texts_spell_one_state

pub returns-clause-answer : goal.returns-clause-answer
returns-clause-answer c = snapshots_have_one_answer
