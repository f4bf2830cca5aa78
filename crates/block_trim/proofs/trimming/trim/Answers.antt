use Rattle.std.proofs.Common.{◌≡◌, ◌+◌, ◌++◌, List, ℕ, length, map, drop, sym, ◌∙◌, ap, arith}
use Rattle.ir.specs.Variables.{VarGraph}
use Rattle.block_trim.specs.Trimming.{trimmed_block}
use Rattle.block_trim.proofs.Marking.{written_over}
use Rattle.block_trim.proofs.Blocks.{writes_named, blocks_more, all_made, graph_fits}
use Rattle.block_trim.proofs.trimming.trim.Goals as goal

pub trim_block-requires : goal.trim_block-requires
trim_block-requires c =
    let l = c.loop-block in
    let long : length c.deref_mut.result.now ≡ length c.args.cfg.vars = ap length c.deref_mut.ensures.value ∙ l.invariant.long in
    writes_named c.args.cfg c.look-block-items.result.now l.block-index (length c.deref_mut.result.now) c.block-item.result c.look-block-items.ensures.fine c.look-block-items.ensures.blocks c.loop-block-test.true c.block-item.is long

pub loop-block-preserved : goal.loop-block-preserved
loop-block-preserved c =
    let l = c.loop-block in
    let new : List ℕ = c.trim_block.new.places in
    let items : List ℕ = l.places.items in
    let first : length items ≡ l.places.len = omega (arith, l.places.ok.0) in
    let long : length new ≡ l.places.len = omega (arith, first, c.trim_block.auto.places, ap length c.deref_mut.ensures.value) in
    record {
      long = ap length (written_over items new l.places.len long first) ∙ long ∙ sym first ∙ l.invariant.long;
      done = ap (λ bs. bs ++ map trimmed_block (drop (l.block-index + 1) c.look-block-items.result.now)) c.in_ok-push.ensures.ok
          ∙ blocks_more c.look-block-items.result.now l.blocks (map trimmed_block c.look-block-items.result.now) l.block-index c.in_ok-trim_block.field-0 c.block-item.result c.loop-block-test.true c.block-item.is c.in_ok-trim_block.ensures l.invariant.done;
    }

pub invariant_of-result : goal.invariant_of-result
invariant_of-result c =
    let l = c.loop-block in
    let items = c.look-block-items.result.now in
    let inside = c.cfg.inside in
    let made : l.blocks ≡ map trimmed_block items = all_made items l.blocks l.block-index c.loop-block-test.false l.invariant.done in
    let same : items ≡ inside.blocks = c.look-block-items.ensures.blocks ∙ ap (λ (g : VarGraph). g.blocks) (sym c.cfg.view_is) in
    graph_fits (record { name = inside.name; scalars = inside.scalars; arrays = inside.arrays; result = inside.result; vars = inside.vars; blocks = inside.blocks }) l.blocks c.cfg.invariant (made ∙ ap (map trimmed_block) same)
