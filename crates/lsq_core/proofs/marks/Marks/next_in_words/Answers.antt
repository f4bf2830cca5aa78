use Rattle.std.proofs.Common.{◌+◌, ◌*◌, arith}
use Rattle.lsq_core.proofs.RoundLemmas.{round_more, round_next, round_none, round_past}
use Rattle.lsq_core.proofs.marks.Marks.next_in_words.Goals as goal

pub loop-at-preserved : goal.loop-at-preserved
loop-at-preserved c = record {
  lower = (let f = c.loop-at.invariant.lower in omega arith);
  none =
      round_more c.args.self.now c.args.head c.args.row c.args.from c.loop-at.at (c.args.row * c.args.self.now.width + c.place.result) c.word.result c.requires.room.whole c.loop-at-test.true
      (rw (← c.place.ensures) (omega arith)) c.word.ensures c.if-rest-ne0.false c.loop-at.invariant.none;
}

pub returns-then-next-self : goal.returns-then-next-self
returns-then-next-self c =
    round_next c.args.self.now c.args.head c.args.row c.args.from c.loop-at.at (c.args.row * c.args.self.now.width + c.place.result) c.word.result c.requires.room.whole c.requires.row c.loop-at.invariant.lower c.loop-at-test.true
    (rw (← c.place.ensures) (omega arith)) c.word.ensures (omega arith) c.if-rest-ne0.true c.if-next-self.true c.loop-at.invariant.none

pub returns-else-next-self : goal.returns-else-next-self
returns-else-next-self c =
    round_past c.args.self.now c.args.head c.args.row c.args.from c.loop-at.at (c.args.row * c.args.self.now.width + c.place.result) c.word.result c.requires.room.whole c.requires.row c.loop-at-test.true
    (rw (← c.place.ensures) (omega arith)) c.word.ensures (omega arith) c.if-rest-ne0.true c.if-next-self.false c.loop-at.invariant.none

pub returns : goal.returns
returns c = round_none c.args.self.now c.args.head c.args.row c.args.from c.loop-at.at c.requires.row c.loop-at-test.false c.loop-at.invariant.none
