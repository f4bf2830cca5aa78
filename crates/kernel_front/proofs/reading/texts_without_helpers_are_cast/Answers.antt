use Rattle.kernel_front.proofs.WithoutHelpers.{becomes_cast, texts_are_cast}
use Rattle.kernel_front.proofs.reading.texts_without_helpers_are_cast.Goals as goal

pub returns-clause-trees : goal.returns-clause-trees
returns-clause-trees c = becomes_cast

pub returns-clause-texts : goal.returns-clause-texts
returns-clause-texts c =
    texts_are_cast c.trees_are_checked_as_programs.ensures.kept c.programs_are_typed_in_one_way.ensures.at_most_one c.texts_have_one_reading.ensures c.programs_have_one_answer.ensures
    c.typed_programs_are_lawful.ensures c.programs_of_tokens_are_of_texts.ensures c.inlined_is_lawful.ensures
