use Rattle.std.proofs.Common.{refl}
use Rattle.std.proofs.lemmas.Result.{IfOk-weaker, IfErr-weaker}
use Rattle.net_core.specs.States.{state_of}
use Rattle.net_runs.specs.Resumes.{TellsRest}
use Rattle.net_runs.proofs.ResumeLemmas.{few_counts, goes_past, later_refused, rests_later}
use Rattle.net_runs.proofs.resumes.resume_from.Goals as goal

pub finish-requires-clause-counts : goal.finish-requires-clause-counts
finish-requires-clause-counts c = few_counts c.saved_counts_fit.ensures c.args.net.now c.args.saved.now _ c.requires.may c.in_ok-state.ensures.state

pub returns-clause-err : goal.returns-clause-err
returns-clause-err c =
    let f = c.in-Limit.ensures.finished in (
      refl,
      goes_past c.args.net.now c.args.saved.now c.args.limit f.firings _ (state_of c.finish.new.state) c.in_ok-state.ensures.state f.finishes.leads f.finishes.ends,
    )

pub returns-in-Rest-clause-ok : goal.returns-in-Rest-clause-ok
returns-in-Rest-clause-ok c =
    let f = c.in-Rest.ensures.finished in
    IfOk-weaker c.rest_text.result _ _
    (λ text is. rests_later c.args.net.now c.args.saved.now c.args.limit f.firings _ (state_of c.finish.new.state) c.in_ok-state.ensures.state f.finishes.leads
    (TellsRest c.args.net.now c.args.count text.items) c.in-Rest.made f.finishes.ends is) c.rest_text.ensures.ok

pub returns-in-Rest-clause-err : goal.returns-in-Rest-clause-err
returns-in-Rest-clause-err c =
    let f = c.in-Rest.ensures.finished in
    IfErr-weaker c.rest_text.result _ _
    (λ r is. later_refused c.args.net.now c.args.saved.now c.args.limit f.firings _ (state_of c.finish.new.state) c.in_ok-state.ensures.state f.finishes.leads
    c.in-Rest.made f.finishes.ends r is) c.rest_text.ensures.err
