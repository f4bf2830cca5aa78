use Rattle.std.proofs.lemmas.Result.{IfOk-weaker, IfErr-weaker}
use Rattle.net_runs.specs.Resumes.{ResumesTo}
use Rattle.net_runs.proofs.ResumeLemmas.{from_snapshot, resume_refused, snapshot_refused}
use Rattle.net_runs.proofs.resumes.resume_text.Goals as goal

pub returns-in-Err-clause-err : goal.returns-in-Err-clause-err
returns-in-Err-clause-err c =
    snapshot_refused c.args.net.now c.args.snapshot.now c.args.limit c.args.count c.snapshot_fault.result (c.snapshot_fault.ensures c.args.net.now c.args.snapshot.now c.in-Err.ensures.says)

pub returns-in-Ok-clause-ok : goal.returns-in-Ok-clause-ok
returns-in-Ok-clause-ok c =
    IfOk-weaker c.resume_from.result _ _
    (λ text is. from_snapshot c.args.net.now c.args.snapshot.now c.args.limit c.args.count c.in-Ok.saved c.in-Ok.ensures.says.0 c.in-Ok.ensures.says.1
    (ResumesTo c.args.net.now c.args.limit c.args.count text.items) is) c.resume_from.ensures.ok

pub returns-in-Ok-clause-err : goal.returns-in-Ok-clause-err
returns-in-Ok-clause-err c =
    IfErr-weaker c.resume_from.result _ _
    (λ r is. resume_refused c.args.net.now c.args.snapshot.now c.args.limit c.args.count c.in-Ok.saved c.in-Ok.ensures.says.0 c.in-Ok.ensures.says.1 r is) c.resume_from.ensures.err
