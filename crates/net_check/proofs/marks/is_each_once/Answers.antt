use Rattle.std.proofs.Common.{rules}
use Rattle.net_check.proofs.MarkLemmas.{past-refused, twice-refused, first-marked, all-decided}
use Rattle.net_check.proofs.marks.is_each_once.Goals as goal

pub returns-then-at-count : goal.returns-then-at-count
returns-then-at-count c = past-refused _ c.args.numbers.now c.loop-number.number-index c.loop-number-test.true c.if-at-count.true

pub returns-then-index : goal.returns-then-index
returns-then-index c =
    twice-refused _ c.loop-number.marks.items c.args.numbers.now c.loop-number.number-index _ c.loop-number-test.true c.loop-number.invariant c.if-at-count.false c.index.ensures c.if-index.true

pub loop-number-preserved : goal.loop-number-preserved
loop-number-preserved c =
    first-marked _ c.loop-number.marks.items c.args.numbers.now c.loop-number.number-index _ c.loop-number-test.true c.loop-number.invariant c.if-at-count.false c.index.ensures c.if-index.false

pub returns : goal.returns
returns c = all-decided _ c.loop-number.marks.items c.args.numbers.now c.loop-number.number-index _ c.loop-number-test.false c.loop-number.invariant (search rules)
