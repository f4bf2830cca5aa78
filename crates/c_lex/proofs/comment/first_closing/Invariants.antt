use Rattle.std.proofs.Common.{◌≡◌, ℕ, ◌<◌, false, drop}
use Rattle.c_ast.specs.Pieces.{closes}
use Rattle.c_lex.proofs.comment.first_closing.Given as goal

abbrev pub invariant-loop-i : goal.invariant-loop-i
invariant-loop-i l = (k : ℕ) → k < l.i → closes (drop k l.text) ≡ false
