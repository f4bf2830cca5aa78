use Rattle.std.proofs.Common.{◌<◌, ◌≤◌, ◌++◌, length, get_or, length-append, refl, ap, ◌∙◌, sym, subst, arith}
use Rattle.net_worker.specs.Views.{inputs_of}
use Rattle.net_core.specs.Runs.{Run, opening}
use Rattle.net_core.specs.States.{state_of}
use Rattle.net_replay.proofs.PathLemmas.{leads_on}
use Rattle.net_worker.specs.Merged.{entries_of}
use Rattle.worker_run.specs.Crews.{AllWhole, merged_of}
use Rattle.worker_run.specs.Gathers.{RestsIn}
use Rattle.worker_run.specs.Reports.{IsCrewOf, IsRunFault, HasEnded}
use Rattle.worker_run.proofs.RunLemmas.{made_swept, whole_swept, crew_swept, crew_same, swept_within, all_ended, longer, kept_log, judged_fault, err_by}
use Rattle.worker_run.proofs.running.run_workers.Goals as goal

pub gather-made-requires-clause-whole : goal.gather-made-requires-clause-whole
gather-made-requires-clause-whole g c =
    let t = c.in_ok-crew.crew.tables in
    let a = c.in_ok-crew.crew.workers.items in
    let y = c.sweep_crew.new.crew.workers.items in
    let swept = c.sweep_crew.ensures.swept.swept in
    subst (λ u. AllWhole u y) (sym c.sweep_crew.ensures.tables) (whole_swept t a y swept c.in_ok-crew.ensures.whole)

pub add_merged-requires-clause-room : goal.add_merged-requires-clause-room
add_merged-requires-clause-room g c keep =
    let few = swept_within _ _ _ _ _ _ _ _ c.requires.some c.in_ok-crew.ensures.crew c.in_ok-crew.ensures.made.0 c.sweep_crew.ensures.swept in
    let logs = ap entries_of c.gather-made.ensures.logs in
    omega (arith, few, logs, c.in_ok-log.ensures.room, c.room_for.ensures keep)

pub finish_gathered-requires-clause-made : goal.finish_gathered-requires-clause-made
finish_gathered-requires-clause-made g c =
    let few = swept_within _ _ _ _ _ _ _ _ c.requires.some c.in_ok-crew.ensures.crew c.in_ok-crew.ensures.made.0 c.sweep_crew.ensures.swept in
    let logs = ap entries_of c.gather-made.ensures.logs in
    omega (arith, few, logs, c.gather-made.ensures.all)

pub returns-in_err-judge-in-Rest-clause-fault : goal.returns-in_err-judge-in-Rest-clause-fault
returns-in_err-judge-in-Rest-clause-fault g c =
    let x = c.gather-made.new.crew.workers.items in
    let net = c.args.net.now in
    let inputs = c.args.inputs.now in
    let gathered = state_of c.gather-made.new.into in
    let run : Run net inputs (merged_of x) gathered = subst (λ i. Run net i (merged_of x) gathered) (ap inputs_of c.sweep_crew.ensures.tables ∙ c.in_ok-crew.ensures.crew.inputs_are) c.gather-made.ensures.run in
    let f = c.in-Rest.ensures.finished in
    let whole = leads_on net (opening net inputs) (merged_of x) f.firings gathered (state_of c.finish_gathered.new.state) run f.finishes.leads in
    let within : length (merged_of x ++ f.firings) ≤ c.args.limit = omega (arith, length-append (merged_of x) f.firings, c.gather-made.ensures.count, f.finishes.ends.counted, f.finishes.ends.within) in
    let judged = judged_fault net inputs c.args.limit (merged_of x ++ f.firings) (state_of c.finish_gathered.new.state) c.in_err-judge-in-Rest.field-0.0 whole within f.finishes.ends.rest c.in_err-judge-in-Rest.ensures in
    err_by c.from_residual-in_err-judge-in-Rest.result _ (IsRunFault net inputs c.args.limit) c.from_residual-in_err-judge-in-Rest.ensures.1 (λ e p. subst (IsRunFault net inputs c.args.limit) (sym p) judged)

pub returns-in-Limit-clause-fault : goal.returns-in-Limit-clause-fault
returns-in-Limit-clause-fault g c =
    let x = c.gather-made.new.crew.workers.items in
    let net = c.args.net.now in
    let inputs = c.args.inputs.now in
    let gathered = state_of c.gather-made.new.into in
    let run : Run net inputs (merged_of x) gathered = subst (λ i. Run net i (merged_of x) gathered) (ap inputs_of c.sweep_crew.ensures.tables ∙ c.in_ok-crew.ensures.crew.inputs_are) c.gather-made.ensures.run in
    let f = c.in-Limit.ensures.finished in (
      refl,
      longer net inputs c.args.limit c.gather-made.result (merged_of x) f.firings gathered (state_of c.finish_gathered.new.state) f.finishes.ends.next run f.finishes.leads f.finishes.ends.goes
          (sym c.gather-made.ensures.count) f.finishes.ends.reached,
    )

pub returns-clause-report : goal.returns-clause-report
returns-clause-report g c =
    let t = c.in_ok-crew.crew.tables in
    let a = c.in_ok-crew.crew.workers.items in
    let y = c.sweep_crew.new.crew.workers.items in
    let swept = c.sweep_crew.ensures.swept.swept in
    let made = made_swept t a y swept c.in_ok-crew.ensures.made.0 in
    let x = c.gather-made.new.crew.workers.items in
    let net = c.args.net.now in
    let inputs = c.args.inputs.now in
    let crew = crew_swept net inputs c.args.count c.args.limit t a y swept c.in_ok-crew.ensures.crew in
    let gathered = state_of c.gather-made.new.into in
    let run : Run net inputs (merged_of x) gathered = subst (λ i. Run net i (merged_of x) gathered) (ap inputs_of c.sweep_crew.ensures.tables ∙ crew.inputs_are) c.gather-made.ensures.run in
    let f = c.in-Rest.ensures.finished in
    let same = c.gather-made.ensures.same in
    let rests = subst (λ u. RestsIn u y gathered) c.sweep_crew.ensures.tables c.gather-made.ensures.rests in
    let kept = c.gather-made.ensures.tables ∙ c.sweep_crew.ensures.tables in
    let crew_now = crew_same net inputs c.args.count c.args.limit t y x same crew in
    record {
      crew = subst (λ u. IsCrewOf net inputs c.args.count c.args.limit u x) (sym kept) crew_now;
      closed = c.gather-made.ensures.closed;
      gathered = gathered;
      merged_run = run;
      rest = f.firings;
      finished = f.finishes.leads;
      at_rest = f.finishes.ends.rest;
      sound = c.in_ok-judge-in-Rest.ensures;
      firings_are = omega (arith, f.finishes.ends.counted, c.gather-made.ensures.count);
      within = f.finishes.ends.within;
      kept = kept_log c.args.keep c.add_merged.new.log.items c.finish_gathered.new.log.items (merged_of x) f.firings c.add_merged.ensures.items f.logged.items;
      ended = λ opened j d l. (
          let in_y : j < length y = subst (λ n. j < n) (sym crew.count_is) l in
          subst (λ u. HasEnded u gathered (get_or x j d)) (sym kept)
          (all_ended t gathered y x made same (λ i e h. rests i e h) (c.sweep_crew.ensures.swept.stopped opened) j d in_y));
    }
