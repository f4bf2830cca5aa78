use Rattle.std.proofs.Common.{◌/◌, ◌%◌, ◌^◌, get_or, arith}
use Rattle.std.proofs.lemmas.Nat.{trailing_le}
use Rattle.lsq_core.proofs.BitLemmas.{next_answer, next_more}
use Rattle.lsq_core.proofs.words.Words.next.Goals as goal

pub overflow_add-at : goal.overflow_add-at
overflow_add-at c =
    let t = trailing_le 64 (get_or c.as_slice-words.result.now (c.loop-at.at / 64) 0 / 2 ^ (c.loop-at.at % 64)) in
    let s = c.requires.small in
    let l = c.loop-at-test.true in
    omega arith

pub returns-then-rest-ne0 : goal.returns-then-rest-ne0
returns-then-rest-ne0 c =
    next_answer c.as_slice-words.result.now c.args.self.now c.args.from c.args.to c.loop-at.at c.min.result c.loop-at.invariant.words c.loop-at.invariant.none c.loop-at.invariant.lower c.loop-at-test.true c.loop-at.invariant.wide
    c.if-rest-ne0.true c.min.ensures

pub loop-at-preserved : goal.loop-at-preserved
loop-at-preserved c = record {
  lower = (let a = c.loop-at.invariant.lower in omega arith);
  none = next_more c.as_slice-words.result.now c.args.self.now c.args.from c.loop-at.at c.loop-at.invariant.words c.loop-at.invariant.none c.if-rest-ne0.false;
  words = c.loop-at.invariant.words;
  wide = c.loop-at.invariant.wide;
}
