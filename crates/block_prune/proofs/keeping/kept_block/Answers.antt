use Rattle.std.proofs.Common.{◌∙◌, ap, map}
use Rattle.ir.specs.Renaming.{renamed}
use Rattle.block_prune.specs.Kept.{kept_steps}
use Rattle.block_prune.specs.Code.{number_by, numbering}
use Rattle.block_prune.proofs.Tables.{made_kept}
use Rattle.block_prune.proofs.keeping.kept_block.Goals as goal

pub returns : goal.returns
returns c =
    let b = c.args.block.now in
    let ms = c.args.marks.now in
    let n = c.in_ok-numbers.numbers in
    made_kept ms b n _ (c.in_ok-numbers.ensures ∙ ap (λ k. numbering k ms) c.len.ensures)
    c.in_ok-copy.ensures
    (c.in_ok-kept_steps.ensures ∙ ap (λ l. map (renamed (number_by n)) (kept_steps ms l)) c.as_slice.ensures)
    c.in_ok-jump.ensures
