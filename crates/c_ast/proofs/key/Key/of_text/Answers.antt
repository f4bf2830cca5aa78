use Rattle.c_ast.proofs.Keys.{none_of_length, exact_by, reserved_iff, key_of_is}
use Rattle.c_ast.proofs.key.Key.of_text.Goals as goal

pub returns-clause-found : goal.returns-clause-found
returns-clause-found c = key_of_is _ _ c.spelled_by.ensures.spelled (λ none. none_of_length _ _ c.of_length.ensures (c.spelled_by.ensures.none none))

pub returns-clause-none : goal.returns-clause-none
returns-clause-none c = λ none. none_of_length _ _ c.of_length.ensures (c.spelled_by.ensures.none none)

pub returns-clause-exact : goal.returns-clause-exact
returns-clause-exact c = exact_by _ _ c.spelled_by.ensures.spelled (λ none. none_of_length _ _ c.of_length.ensures (c.spelled_by.ensures.none none))

pub returns-clause-reserved : goal.returns-clause-reserved
returns-clause-reserved c = reserved_iff _ _ c.spelled_by.ensures.spelled (λ none. none_of_length _ _ c.of_length.ensures (c.spelled_by.ensures.none none))
