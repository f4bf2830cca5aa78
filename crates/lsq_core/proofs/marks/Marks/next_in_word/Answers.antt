use Rattle.std.proofs.Common.{arith}
use Rattle.lsq_core.proofs.TurnLemmas.{turned_none, turned_next}
use Rattle.lsq_core.proofs.marks.Marks.next_in_word.Goals as goal

pub returns-then-rest-eq0 : goal.returns-then-rest-eq0
returns-then-rest-eq0 c = turned_none c.args.self.now c.args.head c.args.row c.word.result c.args.from c.requires.word c.requires.row c.word.ensures (omega arith) (rw (← c.rotate_right.ensures) c.if-rest-eq0.true)

pub returns : goal.returns
returns c = rw (c.rotate_right.ensures)
    (turned_next c.args.self.now c.args.head c.args.row c.word.result c.args.from c.requires.word c.requires.row (let f = c.if-from-ge-WORD.false in omega arith) c.word.ensures (omega arith) (rw (← c.rotate_right.ensures) c.if-rest-eq0.false))
