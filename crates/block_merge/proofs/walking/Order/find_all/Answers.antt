use Rattle.std.proofs.Common.{◌≤◌, length, refl, arith}
use Rattle.block_merge.proofs.OrderLemmas.{starts_begin, next_start, starts_end}
use Rattle.block_merge.proofs.walking.Order.find_all.Goals as goal

pub loop-number-init : goal.loop-number-init
loop-number-init c = starts_begin c.args.blocks.now c.args.self.now c.note.new.self c.walk.new.self (length c.args.self.now.stored.items) (length c.args.blocks.now) c.requires.none refl refl c.in_ok-note.ensures c.in_ok-walk.ensures

pub loop-number-preserved : goal.loop-number-preserved
loop-number-preserved c =
    next_start c.args.blocks.now c.loop-number.self c.start.new.self (length c.args.self.now.stored.items) _ c.loop-number.number c.loop-number-test.true c.loop-number.invariant c.in_ok-start.ensures

pub returns : goal.returns
returns c =
    let past : length c.args.blocks.now ≤ c.loop-number.number = let f = c.loop-number-test.false in omega arith in
    starts_end c.args.blocks.now c.loop-number.self (length c.args.self.now.stored.items) _ c.loop-number.number past c.loop-number.invariant
