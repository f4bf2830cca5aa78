use Rattle.std.proofs.Common.{◌≡◌, ℕ, ◌<◌, false, get_or}
use Rattle.c_ast.specs.Numerals.{begins}
use Rattle.c_ast.specs.Texts.{mark_text}
use Rattle.c_ast.specs.declared.mark.Mark.{Mark}
use Rattle.c_lex.proofs.piece.first_mark.Given as goal

abbrev pub invariant-loop-mark : goal.invariant-loop-mark
invariant-loop-mark l = (k : ℕ) (e : Mark) → k < l.mark-index → begins (mark_text (get_or l.all k e)) l.text ≡ false
