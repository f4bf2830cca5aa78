use Rattle.std.proofs.Common.{true, false, refl}
use Rattle.c_ast.specs.declared.mark.Mark.TheVariants as mark
use Rattle.c_parse.proofs.Exits.{untrue}
use Rattle.c_parse.proofs.Openings.{no_step_next}
use Rattle.c_parse.proofs.JudgedSimple.{step_comes}
use Rattle.c_parse.proofs.cursor.Cursor.simple.Goals as goal

pub returns-then-is_at-clause-judged : goal.returns-then-is_at-clause-judged
returns-then-is_at-clause-judged c = λ n deep. c.step_before.ensures.judged n deep (step_comes mark.Increment true _ refl (c.if-is_at.ensures.0 refl))

pub returns-then-is_at-2-clause-judged : goal.returns-then-is_at-2-clause-judged
returns-then-is_at-2-clause-judged c = λ n deep. c.step_before-then-is_at-2.ensures.judged n deep (step_comes mark.Decrement false _ refl (c.if-is_at-2.ensures.0 refl))

pub returns-clause-judged : goal.returns-clause-judged
returns-clause-judged c = λ n deep. c.after_target.ensures.judged n deep (no_step_next _ (untrue c.if-is_at.ensures.1) (untrue c.if-is_at-2.ensures.1))
