use Rattle.std.proofs.lemmas.Result.{IfOk-weaker, IfErr-weaker}
use Rattle.net_runs.proofs.RunLemmas.{inputs_refused, run_refused}
use Rattle.net_runs.proofs.runs.run_text.Goals as goal

pub returns-in-Err-clause-err : goal.returns-in-Err-clause-err
returns-in-Err-clause-err g c = inputs_refused c.args.net.now c.args.inputs.now c.args.options c.in-Err.refused c.in-Err.ensures.err

pub returns-in-Ok-clause-ok : goal.returns-in-Ok-clause-ok
returns-in-Ok-clause-ok g c =
    IfOk-weaker c.run_on.result _ _ (λ text is. record { inputs = c.in-Ok.inputs; given = c.in-Ok.ensures.given; fit = c.in-Ok.ensures.fit; holds = is }) c.run_on.ensures.ok

pub returns-in-Ok-clause-err : goal.returns-in-Ok-clause-err
returns-in-Ok-clause-err g c =
    IfErr-weaker c.run_on.result _ _ (λ r is. run_refused c.args.net.now c.args.inputs.now c.in-Ok.inputs c.args.options r c.in-Ok.ensures.given c.in-Ok.ensures.fit is)
    c.run_on.ensures.err
