use Rattle.std.proofs.Common.{ap, ◌∙◌, arith}
use Rattle.block_select.specs.Choices.{place_of_choice}
use Rattle.block_select.proofs.Chosen.{pair_there, pair_new}
use Rattle.block_select.proofs.choices.add_pair.Goals as goal

pub returns-in_ok-push : goal.returns-in_ok-push
returns-in_ok-push c =
    pair_new c.args.choices.now.items c.push.new.self.items c.args.pair c.place_of_choice.result c.len.result c.if-pair.false
    (c.place_of_choice.ensures ∙ ap (λ l. place_of_choice l c.args.pair) c.as_slice.ensures.value) (let e = c.len.ensures in let o = c.args.choices.now.ok.0 in omega (arith, e, o)) c.if-place_of_choice-len.true c.in_ok-push.ensures.items

pub returns-else-place_of_choice-len : goal.returns-else-place_of_choice-len
returns-else-place_of_choice-len c =
    pair_there c.args.choices.now.items c.args.pair c.place_of_choice.result c.len.result c.if-pair.false
    (c.place_of_choice.ensures ∙ ap (λ l. place_of_choice l c.args.pair) c.as_slice.ensures.value) (let e = c.len.ensures in let o = c.args.choices.now.ok.0 in omega (arith, e, o)) c.if-place_of_choice-len.false
