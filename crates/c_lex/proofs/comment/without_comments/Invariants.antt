use Rattle.std.proofs.Common.{◌≡◌, ◌-◌, length}
use Rattle.c_lex.specs.Cursors.{IsAt}
use Rattle.c_lex.specs.Refusals.{end_of}
use Rattle.c_lex.proofs.Going.{BlankedSoFar}
use Rattle.c_lex.proofs.comment.without_comments.Given as goal

abbrev pub invariant-pieces : goal.invariant-pieces
invariant-pieces l = record {
  at : IsAt l.bytes l.cursor;
  same : length l.text ≡ l.cursor.offset;
  blanked : BlankedSoFar l.bytes l.cursor.offset l.text (end_of l.broken);
}

abbrev pub decreases-pieces : goal.decreases-pieces
decreases-pieces l = length l.bytes - l.cursor.offset
