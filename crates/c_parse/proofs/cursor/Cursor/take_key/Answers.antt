use Rattle.std.proofs.Common.{refl, sym}
use denote.Enum.Bare.{differs_true, differs_false}
use Rattle.c_ast.specs.contracts.key.Key.{the_type}
use Rattle.c_parse.proofs.Refusing.{no_key}
use Rattle.c_parse.proofs.SameWords.{key_taken, no_key_next}
use Rattle.c_parse.proofs.cursor.Cursor.take_key.Goals as goal

pub returns-in_default : goal.returns-in_default
returns-in_default c = record { some = tt; none = refl; other = no_key_next _ _ _ _ c.in_ok-token.ensures.cases.0 (c.in_default.not-Key _) }

pub returns-then-ne-clause-other : goal.returns-then-ne-clause-other
returns-then-ne-clause-other c = no_key_next _ _ _ _ c.in_ok-token.ensures.cases.0 (no_key _ _ _ c.in-Key.is (differs_true the_type _ _ (sym c.if-ne.ensures)))

pub returns-clause-some : goal.returns-clause-some
returns-clause-some c = key_taken _ _ _ _ _ c.in_ok-token.ensures.cases.0 c.in-Key.is (differs_false the_type tt _ _ (sym c.if-ne.ensures))
