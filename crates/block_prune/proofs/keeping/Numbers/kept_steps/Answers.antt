use Rattle.std.proofs.Common.{◌≡◌, ◌+◌, ◌++◌, ◌∷◌, [], get_or, drop, map, refl, ◌∙◌, ap}
use Rattle.std.specs.Prelude.{true, false}
use Rattle.ir.specs.declared.instr.Instr.TheVariants.{Const}
use Rattle.ir.specs.Renaming.{renamed}
use Rattle.block_prune.specs.Kept.{kept_steps}
use Rattle.block_prune.specs.Code.{number_by}
use Rattle.block_prune.proofs.Tables.{kept_more}
use Rattle.block_prune.proofs.keeping.Numbers.kept_steps.Goals as goal
use Rattle.block_prune.proofs.keeping.Numbers.kept_steps.Goals.{then-marks-place+in_ok-push, else-marks-place}

pub loop-place-preserved : goal.loop-place-preserved
loop-place-preserved c =
    let ms = c.args.marks.now in
    let is = c.args.steps.now in
    let i = c.loop-place.place in
    let old = c.loop-place.kept in
    let x = get_or is i (Const 0 0) in
    let g = renamed (number_by c.args.self.now) in
    let rest = map g (kept_steps (drop (i + 1) ms) (drop (i + 1) is)) in
    let all = map g (kept_steps ms is) in
    elim c.if-marks-place.branch [
      | then-marks-place+in_ok-push w ↦
          let pushed : c.if-marks-place.kept ≡ old ++ w.step.result ∷ [] = w.kept-is ∙ w.in_ok-push.ensures.ok in
          let e : c.if-marks-place.kept ≡ old ++ g x ∷ [] = pushed ∙ ap (λ y. old ++ y ∷ []) w.step.ensures in
          ap (λ k. k ++ rest) e ∙ kept_more g ms is old all i true x (Const 0 0) c.loop-place-test.true c.requires w.if-marks-place.true refl c.loop-place.invariant
      | else-marks-place w ↦
          ap (λ k. k ++ rest) w.kept-is ∙ kept_more g ms is old all i false x (Const 0 0) c.loop-place-test.true c.requires w.if-marks-place.false refl c.loop-place.invariant
    ]
