use Rattle.std.proofs.Common.{IfOk, sym, subst, arith, ◌<◌}
use Rattle.block_fold.specs.Puts.{most_values}
use Rattle.block_fold.specs.Code.{values_in, IsPutThere}
use Rattle.block_fold.proofs.TableLemmas.{put_none, put_many, put_step}
use Rattle.block_fold.proofs.Loops.{putting_on}
use Rattle.block_fold.proofs.table.StepTable.+put.Goals as goal

pub put-returns-then-depth-eq0 : goal.put-returns-then-depth-eq0
put-returns-then-depth-eq0 t c =
    let s = c.args.self.now in
    subst (λ q. IfOk c.add.result (λ v. IsPutThere s c.add.new.self v q)) (sym (put_none c.args.depth s.args s.steps c.args.step c.if-depth-eq0.true)) c.add.ensures

pub put-returns-then-values-ge-MOST_VALUES : goal.put-returns-then-values-ge-MOST_VALUES
put-returns-then-values-ge-MOST_VALUES t c =
    let s = c.args.self.now in
    subst (λ q. IfOk c.add-then-values-ge-MOST_VALUES.result (λ v. IsPutThere s c.add-then-values-ge-MOST_VALUES.new.self v q)) (sym (put_many c.args.depth s.args s.steps c.args.step (omega arith))) c.add-then-values-ge-MOST_VALUES.ensures

pub put-returns : goal.put-returns
put-returns t c =
    let s = c.args.self.now in
    let few : values_in s < most_values = omega arith in
    subst (λ q. IfOk c.put_as.result (λ v. IsPutThere s c.put_as.new.self v q)) (sym (put_step c.args.depth s.args s.steps c.as_slice.result.now c.args.step c.in_ok-made.made c.if-depth-eq0.false few c.as_slice.ensures c.in_ok-made.ensures)) c.put_as.ensures

pub put_all-loop-step-preserved : goal.put_all-loop-step-preserved
put_all-loop-step-preserved t c =
    putting_on c.args.depth c.args.self.now c.args.steps.now c.loop-step.step-index c.loop-step.self c.put.new.self c.loop-step.numbers c.as_slice.result.now c.push.new.self c.loop-step.last c.in_ok-last.last c.values-first.result _ c.renamed.result
    c.loop-step.invariant (omega arith) c.values-first.ensures c.as_slice.ensures c.renamed.ensures c.in_ok-last.ensures c.in_ok-push.ensures.ok
