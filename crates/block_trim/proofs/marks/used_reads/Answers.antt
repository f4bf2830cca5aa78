use Rattle.std.proofs.Common.{rules, ◌≡◌, length, ◌∙◌, ap}
use Rattle.std.specs.Prelude.{List, Bool, false, replicate, take, drop, ◌++◌}
use Rattle.std.proofs.lemmas.List.{length-replicate}
use Rattle.block_trim.specs.Trimming.{uses}
use Rattle.block_trim.specs.Code.{marked}
use Rattle.block_trim.proofs.Marking.{written_over, length_marked}
use Rattle.block_trim.proofs.marks.used_reads.Goals as goal

pub returns : goal.returns
returns c =
    let new : List Bool = c.mark_all.new.marks in
    let items : List Bool = c.in_ok-marks.marks.items in
    let n = c.args.reads in
    let all = uses c.args.steps.now c.args.writes.now c.args.jump in
    let none : c.in_ok-marks.marks.items ≡ replicate c.args.reads false = search rules in
    let is : new ≡ marked (replicate n false) all = c.mark_all.ensures ∙ ap (λ ms. marked ms all) (c.deref_mut.ensures.value ∙ none) in
    let long : length new ≡ n = ap length is ∙ length_marked (replicate n false) all ∙ length-replicate n false in
    let first : length items ≡ n = ap length none ∙ length-replicate n false in
    let len : c.in_ok-marks.marks.len ≡ n = c.in_ok-marks.ensures.len in
    let whole : take c.in_ok-marks.marks.len (new ++ drop (length new) items) ≡ new = ap (λ k. take k (new ++ drop (length new) items)) len ∙ written_over items new n long first in
    record { many = ap length whole ∙ long; marks = whole ∙ is }
