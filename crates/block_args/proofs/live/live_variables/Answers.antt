use Rattle.std.proofs.Common.{◌≡◌, ◌∙◌, [], ap, arith, length, replicate}
use Rattle.ir.specs.Variables.{VarGraph}
use Rattle.block_args.proofs.Listing.{lists_none, lists_all}
use Rattle.block_args.proofs.live.live_variables.Goals as goal

pub make_index-requires : goal.make_index-requires
make_index-requires c = c.requires.blocks

pub overflow_sub-count : goal.overflow_sub-count
overflow_sub-count c = c.loop-first.invariant.0

pub loop-first-init : goal.loop-first-init
loop-first-init c = (omega arith, lists_none c.args.cfg.now c.in_ok-table.table (c.in_ok-table.ensures ∙ ap (λ bs. replicate (length bs) []) c.look-blocks.ensures.blocks))

pub list_between-requires-clause-index : goal.list_between-requires-clause-index
list_between-requires-clause-index c = c.in_ok-index.ensures

pub list_between-requires-clause-few : goal.list_between-requires-clause-few
list_between-requires-clause-few c = c.requires.vars

pub list_between-requires-clause-order : goal.list_between-requires-clause-order
list_between-requires-clause-order c = omega arith

pub list_between-requires-clause-within : goal.list_between-requires-clause-within
list_between-requires-clause-within c =
    let e : length c.cfg.inside.vars ≡ length c.args.cfg.now.vars = ap (λ (g : VarGraph). length g.vars) c.cfg.view_is in let f = c.loop-first.invariant.0 in let l = c.len-count.ensures in omega arith

pub list_between-requires-clause-below : goal.list_between-requires-clause-below
list_between-requires-clause-below c = c.loop-first.invariant.1

pub loop-first-preserved : goal.loop-first-preserved
loop-first-preserved c = (omega arith, c.in_ok-list_between.ensures)

pub returns : goal.returns
returns c =
    lists_all c.args.cfg.now c.loop-first.first c.loop-first.table c.look-blocks.ensures.fine c.loop-first.invariant.1
    (let e : length c.cfg.inside.vars ≡ length c.args.cfg.now.vars = ap (λ (g : VarGraph). length g.vars) c.cfg.view_is in let f = c.loop-first-test.false in let l = c.len-count.ensures in omega arith)
