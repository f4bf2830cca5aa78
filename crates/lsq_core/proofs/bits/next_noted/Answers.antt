use Rattle.std.proofs.Common.{◌+◌, ◌-◌, ◌/◌, arith}
use Rattle.lsq_core.proofs.CoverLemmas.{noted_more}
use Rattle.lsq_core.proofs.bits.next_noted.Goals as goal

pub next-at-requires-clause-within : goal.next-at-requires-clause-within
next-at-requires-clause-within c = let r = c.requires.covers.room c.requires.noted in let l = c.requires.within in omega arith

pub loop-at-preserved : goal.loop-at-preserved
loop-at-preserved c = record {
  lower = (let l = c.loop-at.invariant.lower in let n = c.next-at.ensures.from_on in omega arith);
  none =
      (let past = c.if-found-end.false in
      noted_more c.args.words.now c.args.filled.now c.args.from c.args.to c.loop-at.at c.next-found.result ((c.args.to + 64 - 1) / 64) c.next-at.result c.requires.covers c.requires.noted c.loop-at.invariant.none c.loop-at-test.true
      (rw (← c.min-end.ensures) c.next-found.ensures) (rw (← c.min-end.ensures) (omega arith)) c.next-at.ensures);
}
