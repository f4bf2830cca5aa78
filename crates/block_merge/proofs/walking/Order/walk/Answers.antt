use Rattle.std.proofs.Common.{◌-◌, ◌≤◌, length, refl, ap, ◌∙◌, arith}
use Rattle.std.specs.Prelude.{slice_get}
use Rattle.block_merge.proofs.OrderLemmas.{walk_starts, walk_goes, walk_stops, walk_ends}
use Rattle.block_merge.proofs.walking.Order.walk.Goals as goal

pub loop-walks-init : goal.loop-walks-init
loop-walks-init c = walk_starts c.args.blocks.now c.args.self.now c.args.from (length c.args.blocks.now) c.requires.order refl

pub returns-in-None : goal.returns-in-None
returns-in-None c =
    walk_stops c.args.blocks.now c.args.self.now c.loop-walks.self c.args.from c.loop-walks.at (length c.args.blocks.now - c.loop-walks.walks) c.loop-walks.invariant (c.in-None.ensures ∙ ap (λ l. slice_get l c.loop-walks.at) c.as_slice.ensures.value)

pub loop-walks-preserved : goal.loop-walks-preserved
loop-walks-preserved c =
    walk_goes c.args.blocks.now c.args.self.now c.loop-walks.self c.note_onward.new.self c.args.from c.loop-walks.at (length c.args.blocks.now) c.loop-walks.walks c.in-Some.number c.loop-walks-test.true c.loop-walks.invariant
    (c.in-Some.ensures ∙ ap (λ l. slice_get l c.loop-walks.at) c.as_slice.ensures.value) c.in_ok-note_onward-in-Some.ensures

pub returns : goal.returns
returns c =
    let past : length c.args.blocks.now ≤ c.loop-walks.walks = let f = c.loop-walks-test.false in omega arith in
    walk_ends c.args.blocks.now c.args.self.now c.loop-walks.self c.args.from c.loop-walks.at (length c.args.blocks.now) c.loop-walks.walks past c.loop-walks.invariant
