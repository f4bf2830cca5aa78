use Rattle.std.proofs.Common.{◌≡◌}
use Rattle.c_lex.specs.Cursors.{IsAt}
use Rattle.c_lex.proofs.cursor.Cursor.on.Given as goal

abbrev pub invariant-loop-i : goal.invariant-loop-i
invariant-loop-i l = record { at : IsAt l.bytes l.next; here : l.next.offset ≡ l.i }
