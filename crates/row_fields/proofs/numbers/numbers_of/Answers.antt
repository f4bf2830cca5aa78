use Rattle.std.proofs.Common.{Ok, ◌+◌, take, sym, subst}
use Rattle.row_fields.specs.Numbers.{AreValues}
use Rattle.row_fields.proofs.Values.{values_more}
use Rattle.row_fields.proofs.numbers.numbers_of.Goals as goal

pub loop-word-preserved : goal.loop-word-preserved
loop-word-preserved g c =
    let more = values_more (λ word value. g.T.FromStr.from_str_gives word (Ok value)) c.args.words.now c.loop-word.word-index _ c.loop-word.values.items c.in-Ok.value c.loop-word-test.true c.loop-word.invariant c.in-Ok.ensures.value in
    subst (λ vs. AreValues (λ word value. g.T.FromStr.from_str_gives word (Ok value)) (take (c.loop-word.word-index + 1) c.args.words.now) vs) (sym c.in_ok-push-in-Ok.ensures.items) more
