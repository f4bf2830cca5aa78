use Rattle.std.proofs.Common.{arith, sym, ◌∙◌, ap, length, ◌++◌, append-nil}
use Rattle.std.proofs.lemmas.List.{at_drop_all}
use Rattle.ir.specs.Variables.{VarGraph}
use Rattle.block_args.specs.Arguments.{new_block, new_blocks}
use Rattle.block_args.proofs.Making.{renumbers_at, made_next}
use Rattle.block_args.proofs.graph.new_blocks.Goals as goal

pub new_block-requires-clause-fits : goal.new_block-requires-clause-fits
new_block-requires-clause-fits c =
    renumbers_at c.args.cfg.now c.look-blocks.ensures.fine c.args.table.now c.requires.lists c.as_slice-vars.result.now c.look-blocks.result.now c.loop-block.block-index c.loop-block.number c.block-item.result
    (c.as_slice-vars.ensures ∙ ap (λ (g : VarGraph). g.vars) c.cfg.view_is) c.look-blocks.ensures.blocks c.loop-block.invariant.counted c.loop-block-test.true c.block-item.is c.requires.few

pub loop-block-preserved : goal.loop-block-preserved
loop-block-preserved c =
    let g = c.args.cfg.now in
    let n = c.loop-block.number in
    let b = c.block-item.result in
    record {
      counted = omega arith;
      made =
          made_next (length g.scalars) g.vars c.args.table.now c.loop-block.made c.push.new.self n c.loop-block.block-index c.look-blocks.result.now b c.in_ok-new_block.field-0 c.loop-block-test.true c.block-item.is
          c.in_ok-push.ensures.ok
          (c.in_ok-new_block.ensures ∙ ap (λ s. new_block s c.as_slice-vars.result.now c.args.table.now n b) (c.len-scalars.ensures ∙ ap (λ (x : VarGraph). length x.scalars) c.cfg.view_is)
          ∙ ap (λ vs. new_block (length g.scalars) vs c.args.table.now n b) (c.as_slice-vars.ensures ∙ ap (λ (x : VarGraph). x.vars) c.cfg.view_is))
          ∙ c.loop-block.invariant.made;
    }

pub returns : goal.returns
returns c =
    let g = c.args.cfg.now in
    let made = c.loop-block.made in
    sym (append-nil made)
    ∙ sym (ap (λ bs. made ++ bs) (at_drop_all (new_blocks (length g.scalars) g.vars c.args.table.now c.loop-block.number) c.look-blocks.result.now c.loop-block.block-index c.loop-block-test.false))
    ∙ c.loop-block.invariant.made ∙ ap (new_blocks (length g.scalars) g.vars c.args.table.now 0) c.look-blocks.ensures.blocks
