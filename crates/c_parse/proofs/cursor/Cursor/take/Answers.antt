use Rattle.std.proofs.Common.{refl, sym}
use denote.Enum.Bare.{differs_true, differs_false}
use Rattle.c_ast.specs.contracts.mark.Mark.{the_type}
use Rattle.c_parse.proofs.Refusing.{no_mark}
use Rattle.c_parse.proofs.SameWords.{mark_taken, no_mark_next}
use Rattle.c_parse.proofs.cursor.Cursor.take.Goals as goal

pub returns-in_default : goal.returns-in_default
returns-in_default c = record { some = tt; none = refl; other = no_mark_next _ _ _ _ c.in_ok-token.ensures.cases.0 (c.in_default.not-Mark _) }

pub returns-then-ne-clause-other : goal.returns-then-ne-clause-other
returns-then-ne-clause-other c = no_mark_next _ _ _ _ c.in_ok-token.ensures.cases.0 (no_mark _ _ _ c.in-Mark.is (differs_true the_type _ _ (sym c.if-ne.ensures)))

pub returns-clause-some : goal.returns-clause-some
returns-clause-some c = mark_taken _ _ _ _ _ c.in_ok-token.ensures.cases.0 c.in-Mark.is (differs_false the_type tt _ _ (sym c.if-ne.ensures))
