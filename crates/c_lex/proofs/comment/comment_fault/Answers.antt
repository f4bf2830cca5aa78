use Rattle.c_lex.proofs.Marks.{fault_open, fault_splice, fault_none}
use Rattle.c_lex.proofs.comment.comment_fault.Goals as goal
use Rattle.el_base.proofs.DigitLemmas.{rest_is}

pub returns-then-is_open : goal.returns-then-is_open
returns-then-is_open c = fault_open c.args.bytes.now _ _ c.args.cursor.offset c.args.len _ (rest_is c.args.bytes.now c.args.cursor.offset) c.if-is_open.ensures (c.span-opening.ensures c.args.bytes.now c.requires.at)

pub returns-in-Some : goal.returns-in-Some
returns-in-Some c = fault_splice c.args.bytes.now _ _ c.args.cursor.offset c.args.len c.in-Some.n _ _ (rest_is c.args.bytes.now c.args.cursor.offset) c.if-is_open.ensures c.in-Some.ensures.place
    c.on-place.ensures.offset (c.span-backslash.ensures c.args.bytes.now c.on-place.ensures.at)

pub returns-in-None : goal.returns-in-None
returns-in-None c = fault_none c.args.bytes.now _ _ c.args.cursor.offset c.args.len (rest_is c.args.bytes.now c.args.cursor.offset) c.if-is_open.ensures c.in-None.ensures.place
