use Rattle.std.proofs.Common.{subst}
use Rattle.c_lex.specs.Turns.{defines_of, IsTaken}
use Rattle.c_lex.proofs.Going.{lexed_whole}
use Rattle.c_lex.proofs.lexer.read.Goals as goal

pub pieces-preserved : goal.pieces-preserved
pieces-preserved c =
    let taken = subst (IsTaken c.args.bytes.now c.args.text.now c.pieces.position.cursor.offset (defines_of c.take.new.defines) c.take.new.tokens) c.in-Piece.is c.in_ok-next.ensures in
    record { at = taken.0; lexed = taken.2 }

pub returns-in-Broken : goal.returns-in-Broken
returns-in-Broken c = subst (IsTaken c.args.bytes.now c.args.text.now c.pieces.position.cursor.offset (defines_of c.take.new.defines) c.take.new.tokens) c.in-Broken.is c.in_ok-next.ensures

pub returns : goal.returns
returns c = lexed_whole c.args.bytes.now c.args.text.now c.pieces.position.cursor.offset c.pieces.position.first (defines_of c.pieces.defines) c.pieces.tokens c.pieces.invariant.lexed c.pieces-test.false
