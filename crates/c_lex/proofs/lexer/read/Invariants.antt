use Rattle.std.proofs.Common.{◌-◌, length}
use Rattle.c_lex.specs.Cursors.{IsAt}
use Rattle.c_lex.specs.Turns.{defines_of, LexedSoFar}
use Rattle.c_lex.proofs.lexer.read.Given as goal

abbrev pub invariant-pieces : goal.invariant-pieces
invariant-pieces l = record {
  at : IsAt l.bytes l.position.cursor;
  lexed : LexedSoFar l.bytes l.text l.position.cursor.offset l.position.first (defines_of l.defines) l.tokens;
}

abbrev pub decreases-pieces : goal.decreases-pieces
decreases-pieces l = length l.text - l.position.cursor.offset
