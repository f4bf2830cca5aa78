use Rattle.std.proofs.Common.{refl}
use Rattle.std.proofs.lemmas.Result.{IfOk-weaker, IfErr-weaker}
use Rattle.net_runs.proofs.RunLemmas.{limited, rested, cycles_refused}
use Rattle.net_runs.proofs.runs.run_by_cycles.Goals as goal

pub returns-in-Err-Limit-clause-err : goal.returns-in-Err-Limit-clause-err
returns-in-Err-Limit-clause-err c = (
  refl,
  limited c.cycles_are_runs.ensures.long c.args.net.now c.args.inputs.now c.args.options.limit c.in-Err-Limit.field-0 _ c.in-Err-Limit.field-0-is c.in-Err-Limit.ensures.timed,
)

pub returns-in-Ok-clause-ok : goal.returns-in-Ok-clause-ok
returns-in-Ok-clause-ok c =
    IfOk-weaker c.run_text_of.result _ _
    (λ text is. rested c.completion.ensures c.cycles_are_runs.ensures.runs c.args.net.now c.args.inputs.now c.args.options c.net.ensures.checked c.in-Ok.timed c.in-Ok.ensures.timed
    c.in-Ok.ensures.few c.requires.none text.items is) (rw c.as_slice.ensures at c.run_text_of.ensures.ok)

pub returns-in-Ok-clause-err : goal.returns-in-Ok-clause-err
returns-in-Ok-clause-err c =
    IfErr-weaker c.run_text_of.result _ _
    (λ r is. cycles_refused c.completion.ensures c.cycles_are_runs.ensures.runs c.args.net.now c.args.inputs.now c.args.options c.net.ensures.checked c.in-Ok.timed c.in-Ok.ensures.timed r is)
    c.run_text_of.ensures.err
