use Rattle.std.proofs.lemmas.Result.{IfOk-weaker, IfErr-weaker}
use Rattle.net_runs.proofs.ReplayLemmas.{few_firings, inputs_refused, schedule_refused, replay_refused}
use Rattle.net_runs.proofs.replays.replay_text.Goals as goal

pub returns-in-Err-clause-err : goal.returns-in-Err-clause-err
returns-in-Err-clause-err c = inputs_refused c.args.net.now c.args.inputs.now c.args.schedule.now c.in-Err.refused c.in-Err.ensures.err

pub returns-clause-err : goal.returns-clause-err
returns-clause-err c =
    schedule_refused c.args.net.now c.args.inputs.now c.args.schedule.now c.in-Ok.inputs c.in-Ok.ensures.given c.in-Ok.ensures.fit c.in-Err-firings_of.refused c.in-Err-firings_of.ensures.err

pub replay_on-requires-clause-few : goal.replay_on-requires-clause-few
replay_on-requires-clause-few c = rw c.as_slice.ensures (few_firings c.args.schedule.now c.in-Ok-firings_of.firings c.requires.few c.in-Ok-firings_of.ensures.given)

pub returns-in-Ok-firings_of-clause-ok : goal.returns-in-Ok-firings_of-clause-ok
returns-in-Ok-firings_of-clause-ok c =
    IfOk-weaker c.replay_on.result _ _ (λ text is. record {
      firings = c.in-Ok-firings_of.firings;
      given = c.in-Ok-firings_of.ensures.given;
      on = record { inputs = c.in-Ok.inputs; given = c.in-Ok.ensures.given; fit = c.in-Ok.ensures.fit; holds = is };
    }) (rw c.as_slice.ensures at c.replay_on.ensures.ok)

pub returns-in-Ok-firings_of-clause-err : goal.returns-in-Ok-firings_of-clause-err
returns-in-Ok-firings_of-clause-err c =
    IfErr-weaker c.replay_on.result _ _
    (λ r is. replay_refused c.args.net.now c.args.inputs.now c.args.schedule.now c.in-Ok.inputs c.in-Ok-firings_of.firings c.in-Ok.ensures.given c.in-Ok.ensures.fit
    c.in-Ok-firings_of.ensures.given r is) (rw c.as_slice.ensures at c.replay_on.ensures.err)
