use Rattle.std.proofs.Common.{◌-◌, sym, ◌∙◌, arith}
use Rattle.block_copy.specs.Searches.{finds, search_of}
use Rattle.block_copy.proofs.Finding.{look_starts, look_finds, look_goes, look_ends}
use Rattle.block_copy.proofs.searching.Near.finds.Goals as goal

pub returns-then-is_in : goal.returns-then-is_in
returns-then-is_in c =
    look_finds c.args.blocks.now c.args.wanted.now c.args.at c.args.looks c.loop-look.look c.loop-look.near.seen.items c.loop-look.near.left.items c.pop.new.self.items c.in-Some.next
    (finds c.args.looks c.args.blocks.now c.args.wanted.now c.args.at (search_of c.args.self)) c.loop-look-test.true c.in-Some.ensures.items c.loop-look.invariant (sym c.is_in.ensures ∙ c.if-is_in.true)

pub returns-in-None : goal.returns-in-None
returns-in-None c =
    look_ends c.args.blocks.now c.args.wanted.now c.args.at (c.args.looks - c.loop-look.look) c.loop-look.near.seen.items c.loop-look.near.left.items
    (finds c.args.looks c.args.blocks.now c.args.wanted.now c.args.at (search_of c.args.self)) (let h = c.in-None.ensures.cases.0 in omega arith) c.loop-look.invariant

pub loop-look-init : goal.loop-look-init
loop-look-init c = look_starts c.args.blocks.now c.args.wanted.now c.args.at c.args.looks (search_of c.args.self)

pub loop-look-preserved : goal.loop-look-preserved
loop-look-preserved c =
    look_goes c.args.blocks.now c.args.wanted.now c.args.at c.args.looks c.loop-look.look c.loop-look.near.seen.items c.loop-look.near.left.items c.pop.new.self.items c.in-Some.next
    (finds c.args.looks c.args.blocks.now c.args.wanted.now c.args.at (search_of c.args.self)) c.loop-look-test.true c.in-Some.ensures.items c.loop-look.invariant (sym c.is_in.ensures ∙ c.if-is_in.false)
    (search_of c.see_behind.new.self) c.in_ok-see_behind-in-Some.ensures
