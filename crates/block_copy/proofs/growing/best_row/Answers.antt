use Rattle.std.proofs.Common.{◌≡◌, ◌+◌, ◌≤◌, Option, sym, ◌∙◌, ap, subst}
use Rattle.std.specs.Prelude.{IfOk}
use Rattle.ir.specs.declared.graph.Block.{Block}
use Rattle.ir.specs.Graphs.{block_weight}
use Rattle.block_copy.specs.declared.growing.Row.{Row}
use Rattle.block_copy.specs.declared.growing.Growth.{Growth}
use Rattle.block_copy.specs.Nonconstants.{nonconstants_in}
use Rattle.block_copy.specs.Growing.{first_growth}
use Rattle.block_copy.specs.Fits.{FitsAmong}
use Rattle.block_copy.proofs.Following.{at_index, light_at, first_fits, turns_are, best_row_is}
use Rattle.block_copy.proofs.growing.best_row.Goals as goal

pub first_growth-requires : goal.first_growth-requires
first_growth-requires c =
    let is = at_index c.args.blocks.now c.args.at c.index-blocks-at.result c.requires.within c.index-blocks-at.is in
    subst (λ (x : Block). block_weight x ≤ 8000000) (sym is) (light_at c.args.blocks.now c.args.at c.requires.blocks c.requires.within)

pub grown-requires : goal.grown-requires
grown-requires c =
    let is = at_index c.args.blocks.now c.args.at c.index-blocks-at.result c.requires.within c.index-blocks-at.is in
    subst (λ (s : Growth). FitsAmong c.args.blocks.now s.row.block) (sym (c.in_ok-growth.ensures ∙ ap first_growth is))
    (first_fits c.folded_blocks_keep.ensures c.args.blocks.now c.args.at c.requires.blocks c.requires.within)

pub returns : goal.returns
returns c =
    let is = at_index c.args.blocks.now c.args.at c.index-blocks-at.result c.requires.within c.index-blocks-at.is in
    let l = ap (λ n. n + 192) (c.nonconstants_in.ensures ∙ (ap nonconstants_in c.as_slice.ensures ∙ ap (λ (x : Block). nonconstants_in x.steps) is)) in
    let e = best_row_is c.args.blocks.now c.args.at 4097 (c.nonconstants_in.result + 192) c.in_ok-growth.growth (sym turns_are) l (c.in_ok-growth.ensures ∙ ap first_growth is) in
    subst (λ (y : Option Row). IfOk c.grown.result (λ r. r ≡ y)) e c.grown.ensures
