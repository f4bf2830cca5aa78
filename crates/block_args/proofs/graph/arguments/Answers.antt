use Rattle.std.proofs.Common.{◌∙◌, ap}
use Rattle.ir.specs.Variables.{VarGraph}
use Rattle.block_args.proofs.Making.{all_fields, made_fine, made_live, made_share, made_sizes}
use Rattle.block_args.proofs.graph.arguments.Goals as goal

pub invariant_of-result : goal.invariant_of-result
invariant_of-result c =
    let g = c.args.cfg.now in
    let b = c.in_ok-live_blocks.ensures in
    let v = c.cfg.view_is in
    made_fine g c.look-blocks.ensures.fine b.table b.lists _ (all_fields g b.table _ (c.in_ok-copy.ensures ∙ ap (λ (x : VarGraph). x.name) v) (c.in_ok-copy_scalars.ensures ∙ c.as_slice.ensures ∙ ap (λ (x : VarGraph). x.scalars) v)
    (c.in_ok-copy_arrays.ensures ∙ c.as_slice-2.ensures ∙ ap (λ (x : VarGraph). x.arrays) v) (ap (λ (x : VarGraph). x.result) v) b.are)

pub returns-clause-made : goal.returns-clause-made
returns-clause-made c =
    let g = c.args.cfg.now in
    let b = c.in_ok-live_blocks.ensures in
    let v = c.cfg.view_is in
    record {
      table = b.table;
      lists = b.lists;
      is =
          all_fields g b.table _ (c.in_ok-copy.ensures ∙ ap (λ (x : VarGraph). x.name) v) (c.in_ok-copy_scalars.ensures ∙ c.as_slice.ensures ∙ ap (λ (x : VarGraph). x.scalars) v)
          (c.in_ok-copy_arrays.ensures ∙ c.as_slice-2.ensures ∙ ap (λ (x : VarGraph). x.arrays) v) (ap (λ (x : VarGraph). x.result) v) b.are;
    }

pub returns-clause-live : goal.returns-clause-live
returns-clause-live c =
    let g = c.args.cfg.now in
    let b = c.in_ok-live_blocks.ensures in
    let v = c.cfg.view_is in
    made_live g c.look-blocks.ensures.fine b.table b.lists _ (all_fields g b.table _ (c.in_ok-copy.ensures ∙ ap (λ (x : VarGraph). x.name) v) (c.in_ok-copy_scalars.ensures ∙ c.as_slice.ensures ∙ ap (λ (x : VarGraph). x.scalars) v)
    (c.in_ok-copy_arrays.ensures ∙ c.as_slice-2.ensures ∙ ap (λ (x : VarGraph). x.arrays) v) (ap (λ (x : VarGraph). x.result) v) b.are)

pub returns-clause-share : goal.returns-clause-share
returns-clause-share c =
    let g = c.args.cfg.now in
    let b = c.in_ok-live_blocks.ensures in
    let v = c.cfg.view_is in
    made_share g c.look-blocks.ensures.fine b.table b.lists _ (all_fields g b.table _ (c.in_ok-copy.ensures ∙ ap (λ (x : VarGraph). x.name) v) (c.in_ok-copy_scalars.ensures ∙ c.as_slice.ensures ∙ ap (λ (x : VarGraph). x.scalars) v)
    (c.in_ok-copy_arrays.ensures ∙ c.as_slice-2.ensures ∙ ap (λ (x : VarGraph). x.arrays) v) (ap (λ (x : VarGraph). x.result) v) b.are)

pub returns-clause-sizes : goal.returns-clause-sizes
returns-clause-sizes c =
    let g = c.args.cfg.now in
    let b = c.in_ok-live_blocks.ensures in
    let v = c.cfg.view_is in
    made_sizes g c.look-blocks.ensures.fine b.table b.lists _ (all_fields g b.table _ (c.in_ok-copy.ensures ∙ ap (λ (x : VarGraph). x.name) v) (c.in_ok-copy_scalars.ensures ∙ c.as_slice.ensures ∙ ap (λ (x : VarGraph). x.scalars) v)
    (c.in_ok-copy_arrays.ensures ∙ c.as_slice-2.ensures ∙ ap (λ (x : VarGraph). x.arrays) v) (ap (λ (x : VarGraph). x.result) v) b.are)
