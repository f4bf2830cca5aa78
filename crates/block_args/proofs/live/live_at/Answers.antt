use Rattle.std.proofs.Common.{◌∙◌, ap, List, ℕ, Bool, subst}
use Rattle.block_args.specs.Tables.{listed_at}
use Rattle.block_args.specs.Walks.{AreReached}
use Rattle.block_args.proofs.Listing.{marks_found}
use Rattle.block_args.proofs.live.live_at.Goals as goal

pub returns : goal.returns
returns c =
    let v = c.args.variable in
    marks_found c.args.cfg.now c.look-blocks.ensures.fine c.args.index.now c.requires.index v c.requires.variable c.as_slice-3.result.now c.listed_at-readers.result.now c.listed_at-writers.result.now c.len.result c.in_ok-closed.closed.items
    c.in_ok-live.live.items c.as_slice-3.ensures (c.listed_at-readers.ensures ∙ ap (λ (t : List (List ℕ)). listed_at t v) c.as_slice.ensures)
    (c.listed_at-writers.ensures ∙ ap (λ (t : List (List ℕ)). listed_at t v) c.as_slice-2.ensures) c.len.ensures c.in_ok-closed.ensures
    (subst (λ (xs : List Bool). AreReached c.as_slice-3.result.now xs c.listed_at-readers.result.now c.in_ok-live.live.items) c.as_slice-4.ensures.value c.in_ok-live.ensures)
