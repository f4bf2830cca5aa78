use Rattle.std.proofs.Common.{arith, ◌<◌, ◌++◌, ◌∷◌, [], length, sym, ap, ◌∙◌}
use Rattle.net_core.proofs.RestoreLemmas.{numbers_more, numbers_same}
use Rattle.net_core.proofs.sent.Sent.outs.Goals.{then-is_set+in_ok-push, else-is_set}
use Rattle.net_core.proofs.sent.Sent.outs.Goals as goal

pub loop-at-preserved : goal.loop-at-preserved
loop-at-preserved c =
    let t = c.loop-at-test.true in
    let e = c.count-count.ensures in
    let l : c.loop-at.at < length c.args.self.now = omega arith in
    elim c.if-is_set.branch [
      | then-is_set+in_ok-push w ↦ rw (w.outs-is) (w.in_ok-push.ensures.ok ∙ ap (λ r. r ++ c.loop-at.at ∷ []) c.loop-at.invariant ∙ sym (numbers_more c.args.self.now c.loop-at.at l (sym c.is_set.ensures ∙ w.if-is_set.true)))
      | else-is_set w ↦ rw (w.outs-is) (c.loop-at.invariant ∙ sym (numbers_same c.args.self.now c.loop-at.at l (sym c.is_set.ensures ∙ w.if-is_set.false)))
    ]
