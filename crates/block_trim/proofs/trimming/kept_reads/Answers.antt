use Rattle.std.proofs.Common.{◌≡◌, ◌+◌, ◌++◌, ◌∷◌, [], get_or, drop, refl, ◌∙◌, ap}
use Rattle.std.specs.Prelude.{true, false}
use Rattle.block_trim.specs.Code.{reads_by}
use Rattle.block_trim.proofs.Marking.{reads_more}
use Rattle.block_trim.proofs.trimming.kept_reads.Goals as goal
use Rattle.block_trim.proofs.trimming.kept_reads.Goals.{then-marks-place+in_ok-push, else-marks-place}

pub loop-place-preserved : goal.loop-place-preserved
loop-place-preserved c =
    let ms = c.args.marks.now in
    let rs = c.args.reads.now in
    let i = c.loop-place.place in
    let old = c.loop-place.kept in
    let x = get_or rs i 0 in
    elim c.if-marks-place.branch [
      | then-marks-place+in_ok-push w ↦
          let e : c.if-marks-place.kept ≡ old ++ x ∷ [] = w.kept-is ∙ w.in_ok-push.ensures.ok in
          ap (λ k. k ++ reads_by (drop (i + 1) ms) (drop (i + 1) rs)) e
          ∙ reads_more ms rs old (reads_by ms rs) i true x c.loop-place-test.true c.requires w.if-marks-place.true refl c.loop-place.invariant
      | else-marks-place w ↦
          ap (λ k. k ++ reads_by (drop (i + 1) ms) (drop (i + 1) rs)) w.kept-is
          ∙ reads_more ms rs old (reads_by ms rs) i false x c.loop-place-test.true c.requires w.if-marks-place.false refl c.loop-place.invariant
    ]
