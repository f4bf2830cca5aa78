use Rattle.std.proofs.Common.{refl}
use Rattle.std.proofs.lemmas.Result.{IfOk-weaker, IfErr-weaker}
use Rattle.net_runs.proofs.RunLemmas.{gathered, workers_refused, workers_limited, workers_stuck, workers_stray, stray_within}
use Rattle.net_runs.proofs.runs.run_by_workers.Goals as goal

pub returns-in-Ok-clause-ok : goal.returns-in-Ok-clause-ok
returns-in-Ok-clause-ok g c =
    IfOk-weaker c.report_text.result _ _
    (λ text is. gathered c.completion.ensures c.args.net.now c.args.inputs.now c.args.options c.net.ensures.checked c.args.workers _ _ _ _ _ _ c.in-Ok.ensures.report
    c.requires.workers text.items is) c.report_text.ensures.ok

pub returns-in-Ok-clause-err : goal.returns-in-Ok-clause-err
returns-in-Ok-clause-err g c =
    IfErr-weaker c.report_text.result _ _
    (λ r is. workers_refused c.completion.ensures c.args.net.now c.args.inputs.now c.args.options c.net.ensures.checked c.args.workers _ _ _ _ _ _ c.in-Ok.ensures.report r is)
    c.report_text.ensures.err

pub returns-in-Err-Limit-clause-err : goal.returns-in-Err-Limit-clause-err
returns-in-Err-Limit-clause-err g c = (
  refl,
  workers_limited c.completion.ensures c.args.net.now c.args.inputs.now c.args.options c.net.ensures.checked c.in-Err-Limit.field-0 c.in-Err-Limit.ensures.fault _
      c.in-Err-Limit.field-0-is,
)

pub returns-in-Err-Stuck-clause-err : goal.returns-in-Err-Stuck-clause-err
returns-in-Err-Stuck-clause-err g c =
    workers_stuck c.completion.ensures c.args.net.now c.args.inputs.now c.args.options c.net.ensures.checked c.in-Err-Stuck.field-0 c.in-Err-Stuck.ensures.fault
    c.in-Err-Stuck.field-0-is

pub stray-requires : goal.stray-requires
stray-requires g c =
    rw c.in-Err-Stray.field-0-is
    (stray_within c.completion.ensures c.args.net.now c.args.inputs.now c.args.options c.net.ensures.checked c.in-Err-Stray.field-0 c.in-Err-Stray.ensures.fault
    c.in-Err-Stray.array c.in-Err-Stray.field-0-is)

pub returns-in-Err-Stray-clause-err : goal.returns-in-Err-Stray-clause-err
returns-in-Err-Stray-clause-err g c =
    workers_stray c.completion.ensures c.args.net.now c.args.inputs.now c.args.options c.net.ensures.checked c.in-Err-Stray.field-0 c.in-Err-Stray.ensures.fault
    c.in-Err-Stray.array c.stray.result c.in-Err-Stray.field-0-is (rw c.in-Err-Stray.field-0-is at c.stray.ensures)
