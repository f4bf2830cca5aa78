use Rattle.std.proofs.Common.{◌≡◌, sym, ◌∙◌, subst}
use Rattle.std.specs.Prelude.{IfOk}
use Rattle.block_copy.specs.declared.growing.Turn.{Turn}
use Rattle.block_copy.proofs.Following.{next_within, at_index, turn_takes, turn_refuses, turn_follows}
use Rattle.block_copy.proofs.growing.take_turn.Goals as goal

pub bounds-blocks-number : goal.bounds-blocks-number
bounds-blocks-number c = next_within c.args.blocks.now c.args.growth.row.block c.requires c.args.at c.in-Some.number (sym c.next_of.ensures ∙ c.in-Some.is)

pub take_in-requires-clause-follows : goal.take_in-requires-clause-follows
take_in-requires-clause-follows c =
    let next = sym c.next_of.ensures ∙ c.in-Some.is in
    let lt = next_within c.args.blocks.now c.args.growth.row.block c.requires c.args.at c.in-Some.number next in
    turn_follows c.args.blocks.now c.args.at c.args.limit c.args.growth c.in-Some.number c.index-blocks-number.result next
    (at_index c.args.blocks.now c.in-Some.number c.index-blocks-number.result lt c.index-blocks-number.is) c.requires (sym c.can_take_in.ensures ∙ c.if-can_take_in.true)

pub returns-then-can_take_in : goal.returns-then-can_take_in
returns-then-can_take_in c =
    let next = sym c.next_of.ensures ∙ c.in-Some.is in
    let lt = next_within c.args.blocks.now c.args.growth.row.block c.requires c.args.at c.in-Some.number next in
    let e =
    turn_takes c.args.blocks.now c.args.at c.args.limit c.args.growth c.in-Some.number c.index-blocks-number.result next
    (at_index c.args.blocks.now c.in-Some.number c.index-blocks-number.result lt c.index-blocks-number.is) (sym c.can_take_in.ensures ∙ c.if-can_take_in.true) in
    subst (λ (y : Turn). IfOk c.take_in.result (λ t. t ≡ y)) (sym e) c.take_in.ensures

pub returns-else-can_take_in : goal.returns-else-can_take_in
returns-else-can_take_in c =
    let next = sym c.next_of.ensures ∙ c.in-Some.is in
    let lt = next_within c.args.blocks.now c.args.growth.row.block c.requires c.args.at c.in-Some.number next in
    turn_refuses c.args.blocks.now c.args.at c.args.limit c.args.growth c.in-Some.number c.index-blocks-number.result next
    (at_index c.args.blocks.now c.in-Some.number c.index-blocks-number.result lt c.index-blocks-number.is) (sym c.can_take_in.ensures ∙ c.if-can_take_in.false)
