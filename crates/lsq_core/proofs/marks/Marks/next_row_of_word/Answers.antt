use Rattle.std.proofs.Common.{arith}
use Rattle.lsq_core.proofs.WaitLemmas.{word_more, words_none, words_next}
use Rattle.lsq_core.proofs.marks.Marks.next_row_of_word.Goals as goal

pub loop-row-preserved : goal.loop-row-preserved
loop-row-preserved c = word_more c.args.self.now.bits c.args.from c.loop-row.row c.word.result c.loop-row.invariant c.word.ensures c.if-word-ne0.false

pub returns-then-word-ne0 : goal.returns-then-word-ne0
returns-then-word-ne0 c =
    words_next c.args.self.now c.args.from c.args.to c.loop-row.row c.word.result c.requires.word c.requires.to c.loop-row.auto.row c.loop-row-test.true c.loop-row.invariant c.word.ensures c.if-word-ne0.true (omega arith)

pub returns : goal.returns
returns c = words_none c.args.self.now c.args.from c.args.to c.loop-row.row c.requires.word c.requires.to (let e = c.loop-row-test.false in omega arith) c.loop-row.invariant
