use Rattle.std.proofs.Common.{◌<◌, decimal, arith}
use Rattle.net_text.proofs.Lists.{fits_at}
use Rattle.snapshot.specs.private.Words.{IsBelow}
use Rattle.snapshot.proofs.NumberedLemmas.{last_more, rising_more, rising_other}
use Rattle.snapshot.proofs.fields.read_rising.Goals as goal

pub returns-in_default : goal.returns-in_default
returns-in_default c = λ vs f e.
    let at = fits_at (λ w. w.now) (IsBelow c.args.bound) decimal vs c.args.words.now c.loop-word.word-index _ f.within e c.loop-word-test.true in
    let h = c.from.ensures in
    c.in_default.ensures at.0 (omega (arith, h, at.1.0)) at.1.1

pub returns-then-number-least : goal.returns-then-number-least
returns-then-number-least c = λ vs f e.
    let i = c.loop-word.invariant in
    let p : 0 < c.loop-word.least = omega (arith, c.if-number-least.true) in
    rising_other (λ w. w.now) c.args.bound c.loop-word.least c.in-Some.number c.args.words.now c.loop-word.word-index _ (omega (arith, c.ranges.bound.fits)) i.top (i.some p) (i.last p) c.if-number-least.true c.in-Some.ensures.1 c.loop-word-test.true vs f.rising f.within e

pub loop-word-preserved : goal.loop-word-preserved
loop-word-preserved c =
    let i = c.loop-word.invariant in
    let g = c.from.ensures in
    let b = c.in-Some.ensures.0 in
    let low : c.in-Some.number < c.args.bound = omega (arith, g, b) in
    let m = rising_more (λ w. w.now) c.args.bound c.loop-word.least c.in-Some.number c.loop-word.numbers c.push.new.self c.args.words.now c.loop-word.word-index _ c.in_ok-push.ensures.ok i.fits i.same i.rising i.low low c.in-Some.ensures.1 c.loop-word-test.true c.if-number-least.false in
    record {
      fits = m.0.0;
      same = m.0.1;
      rising = m.1.0;
      low = m.1.1;
      top = omega (arith, low);
      some = λ _. omega arith;
      last = λ _. last_more (λ w. w.now) c.in-Some.number c.args.words.now c.loop-word.word-index _ c.in-Some.ensures.1;
    }
