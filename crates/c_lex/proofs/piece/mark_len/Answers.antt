use Rattle.std.proofs.Common.{ap, arith, length}
use Rattle.c_lex.proofs.Marks.{mark_some}
use Rattle.c_lex.proofs.piece.mark_len.Goals as goal

pub returns-clause-some : goal.returns-clause-some
returns-clause-some c = let some = mark_some c.args.mark in omega (arith, some, ap length c.text.ensures)
