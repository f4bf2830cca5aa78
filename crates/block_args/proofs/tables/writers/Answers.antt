use Rattle.std.proofs.Common.{List, map, arith, sym, ◌∙◌, ap}
use Rattle.std.proofs.lemmas.List.{at_drop_all}
use Rattle.ir.specs.declared.cfg.Write.{Write}
use Rattle.block_args.specs.Walks.{written_vars, put_at_all, with_blocks}
use Rattle.block_args.proofs.Listing.{blocks_next}
use Rattle.block_args.proofs.tables.writers.Goals as goal

pub loop-block-preserved : goal.loop-block-preserved
loop-block-preserved c = record {
  counted = omega arith;
  put =
      blocks_next written_vars c.loop-block.table c.put_at_written.new.table c.loop-block.number c.loop-block.block-index c.args.blocks.now c.block-item.result c.loop-block-test.true c.block-item.is
      (c.in_ok-put_at_written.ensures ∙ ap (λ (ws : List Write). put_at_all c.loop-block.table (map (λ (w : Write). w.var) ws) c.loop-block.number) c.as_slice.ensures)
      ∙ c.loop-block.invariant.put;
}

pub returns : goal.returns
returns c = sym (at_drop_all (with_blocks written_vars c.loop-block.table c.loop-block.number) c.args.blocks.now c.loop-block.block-index c.loop-block-test.false) ∙ c.loop-block.invariant.put
