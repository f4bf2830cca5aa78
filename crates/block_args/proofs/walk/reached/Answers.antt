use Rattle.std.proofs.Common.{rules, arith}
use Rattle.block_args.specs.Tables.{listed_at}
use Rattle.block_args.specs.Walks.{walk}
use Rattle.block_args.proofs.Walking.{walk_begins, walk_goes, walk_ends, walk_done}
use Rattle.block_args.proofs.walk.reached.Goals as goal

pub walk-init : goal.walk-init
walk-init c =
    walk_begins c.args.before.now c.args.closed.now c.args.starts.now c.in_ok-seen.seen.items c.new-ahead.result.items (walk c.visit_all.new.seen.items c.visit_all.new.ahead.items) (search rules) (search rules)
    c.in_ok-visit_all.ensures

pub walk-smaller : goal.walk-smaller
walk-smaller c =
    walk_ends c.args.closed.now (listed_at c.args.before.now c.in-Some.block) c.walk.seen.items c.walk.ahead.items c.pop.new.self.items c.in-Some.block (walk c.visit_before.new.seen.items c.visit_before.new.ahead.items)
    c.in-Some.ensures.items c.in_ok-visit_before.ensures

pub walk-preserved : goal.walk-preserved
walk-preserved c =
    walk_goes c.args.before.now c.args.closed.now c.args.starts.now c.walk.seen.items c.walk.ahead.items c.pop.new.self.items c.in-Some.block (walk c.visit_before.new.seen.items c.visit_before.new.ahead.items)
    c.walk.invariant c.in-Some.ensures.items c.in_ok-visit_before.ensures

pub returns : goal.returns
returns c = walk_done c.args.before.now c.args.closed.now c.args.starts.now c.walk.seen.items c.walk.ahead.items c.walk.invariant (let h = c.in_default.ensures.cases.0 in omega arith)
