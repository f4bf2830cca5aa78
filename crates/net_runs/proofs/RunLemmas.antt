-- From how a run by cycles or by workers ends, and from the refusals of a state at rest, to what a run answers.
use Rattle.std.proofs.Common.{◌≡◌, All, ℕ, ◌+◌, ◌*◌, ◌≤◌, ◌<◌, List, [], ◌++◌, length, length-append, refl, sym, ◌∙◌, ap, subst, arith}
use Rattle.std.specs.Prelude.{Bool, true, false, cond, Some, None, Err}
use Rattle.net_types.specs.declared.net.Net.{Net}
use Rattle.net_types.specs.declared.firing.Firing.{Firing}
use Rattle.net_types.specs.declared.firing.Inputs.{Inputs}
use Rattle.net_types.specs.Inputs.{InputsFit}
use Rattle.net_types.specs.Nets.{chan_at}
use Rattle.net_check.specs.Checks.{IsChecked}
use Rattle.net_core.specs.Fire.{State}
use Rattle.net_core.specs.Runs.{Run, AtRest, HasExited, Long, opening}
use Rattle.net_core.specs.States.{state_of}
use Rattle.net_core.specs.Laws.{Completion}
use Rattle.net_replay.specs.Replays.{RestsIn}
use Rattle.net_replay.specs.Schedules.{FiringFits}
use Rattle.net_replay.proofs.PathLemmas.{leads_on}
use Rattle.net_replay.specs.declared.fault.RunFault.{RunFault}
use Rattle.net_replay.specs.declared.fault.RunFault.TheVariants as fault
use Rattle.cycle_engine.specs.declared.runs.Timed.{Timed}
use Rattle.cycle_engine.specs.Cuts.{joined}
use Rattle.cycle_engine.specs.Joins.{CyclesAreRuns, CutsAreLong}
use Rattle.cycle_engine.specs.Timings.{IsTimed, HasFewCycles, IsTimingFault}
use Rattle.net_worker.specs.declared.tables.Tables.{Tables}
use Rattle.net_worker.specs.declared.worker.Worker.{Worker}
use Rattle.worker_run.specs.Crews.{merged_of}
use Rattle.worker_run.specs.Reports.{EndsFaulty, IsReport, IsRunFault as IsFaultOfWorkers}
use Rattle.net_runs.specs.declared.options.RunOptions.{RunOptions}
use Rattle.net_runs.specs.declared.refusal.RunRefusal.{RunRefusal}
use Rattle.net_runs.specs.declared.refusal.RunRefusal.TheVariants as refusal
use Rattle.net_runs.specs.Given.{Bytes, Gives, IsInputsFault}
use Rattle.net_runs.specs.Results.{IsRestFault, IsRunText, IsStrayFault, IsStrayIn, log_lines, count_line, cycles_line}
use Rattle.net_runs.specs.Runs.{IsOneRest, RestsWithin, HasCycles, AreMadeIn, TellsRun, RunsTo, IsRunRefusal, Runs}

pub one_rest : Completion → (net : Net) (inputs : Inputs) (firings : List Firing) (s : State) → IsChecked net → RestsIn net inputs firings s → IsOneRest net inputs firings s
one_rest law net inputs firings s checked rests = record { run = rests; all = law net inputs firings s checked rests.run rests.rest }

logged_lines : (b : Bool) (firings : List Firing) → log_lines b (cond b firings []) ≡ log_lines b firings
logged_lines true firings = refl
logged_lines false firings = refl

-- the text of what is counted and logged is that of the firings and the cycles
text_of_run : (net : Net) (s : State) (o : RunOptions) (made number n k : ℕ) (firings items : List Firing) (text : List ℕ) → made ≡ n → number ≡ k → items ≡ cond o.log firings []
    → IsRunText net s o made number items text → IsRunText net s o n k firings text
text_of_run net s o made number n k firings items text counted numbered are is = record {
  results = is.results;
  are = is.are;
  whole =
      is.whole
      ∙ ap (λ l. is.results ++ count_line o.count made ++ cycles_line o.cycles number ++ l) (ap (log_lines o.log) are ∙ logged_lines o.log firings)
      ∙ ap (λ m. is.results ++ count_line o.count made ++ cycles_line o.cycles m ++ log_lines o.log firings) numbered
      ∙ ap (λ m. is.results ++ count_line o.count m ++ cycles_line o.cycles k ++ log_lines o.log firings) counted;
  fit = λ logged. subst (All FiringFits) (are ∙ ap (λ b. cond b firings []) logged) (is.fit logged);
}

-- ---- a run within the limit to a state at rest

module _ (completion : Completion) (net : Net) (inputs : Inputs) (o : RunOptions) (checked : IsChecked net) (firings : List Firing) (s : State)
    (run : Run net inputs firings s) (rest : AtRest net s) (within : length firings ≤ o.limit) where
  one : IsOneRest net inputs firings s
  one = one_rest completion net inputs firings s checked (record { run = run; rest = rest })

  pub rests : (Holds : List Firing → State → Type 0) → Holds firings s → RestsWithin net inputs o.limit Holds
  rests Holds holds = record { firings = firings; state = s; one = one; within = within; holds = holds }

  pub refused : (r : RunRefusal) → IsRestFault net s r → IsRunRefusal net inputs o r
  refused (refusal.Inputs r) is = absurd is
  refused (refusal.Schedule r) is = absurd is
  refused (refusal.NotEnabled i) is = absurd is
  refused (refusal.Limit n) is = absurd is
  refused refusal.Stuck is = rests (λ firings s. HasExited net s → ⊥) is
  refused (refusal.Stray array name) is = rests (λ firings s. IsStrayIn net s array name) is
  refused refusal.Memory is = tt

-- ---- by cycles

module _ (completion : Completion) (runs : CyclesAreRuns) (net : Net) (inputs : Inputs) (o : RunOptions) (checked : IsChecked net) (run : Timed)
    (timed : IsTimed net inputs o.limit o.log run) where
  made : run.firings ≡ length (joined timed.cycles)
  made = timed.firings ∙ sym (runs net inputs timed.cycles timed.to timed.runs).count

  leads : Run net inputs (joined timed.cycles) (state_of run.state)
  leads = subst (Run net inputs (joined timed.cycles)) (sym timed.state) (runs net inputs timed.cycles timed.to timed.runs).run

  within : length (joined timed.cycles) ≤ o.limit
  within = omega (arith, made, timed.within)

  few : HasFewCycles net run → (most : ℕ) → ((d : ℕ) → (chan_at net d).delay ≤ most) → length timed.cycles ≤ length (joined timed.cycles) * (most + 1)
  few bound most below =
      let P : ℕ → Type 0 = λ n. n ≤ length (joined timed.cycles) * (most + 1) in
      let Q : ℕ → Type 0 = λ n. run.cycles ≤ n * (most + 1) in
      subst P timed.number (subst Q made (bound most below))

  has_cycles : HasFewCycles net run → HasCycles net inputs (joined timed.cycles) (state_of run.state) (length timed.cycles)
  has_cycles bound = record {
    cycles = timed.cycles;
    are = record { to = timed.to; run = timed.runs; state = sym timed.state; ends = timed.ends; together = refl; few = few bound };
    counted = refl;
  }

  pub rested : HasFewCycles net run → o.workers ≡ None → (text : List ℕ) → IsRunText net (state_of run.state) o run.firings run.cycles run.log.items text → RunsTo net o text inputs
  rested bound none text is =
      rests completion net inputs o checked (joined timed.cycles) (state_of run.state) leads timed.rest within (λ firings s. TellsRun net inputs o firings s text) (record {
        number = length timed.cycles;
        made = subst (λ w. AreMadeIn w net inputs (joined timed.cycles) (state_of run.state) (length timed.cycles)) (sym none) (has_cycles bound);
        told = text_of_run net (state_of run.state) o run.firings run.cycles (length (joined timed.cycles)) (length timed.cycles) (joined timed.cycles) run.log.items text made
            timed.number timed.log is;
      })

  pub cycles_refused : (r : RunRefusal) → IsRestFault net (state_of run.state) r → IsRunRefusal net inputs o r
  cycles_refused = refused completion net inputs o checked (joined timed.cycles) (state_of run.state) leads timed.rest within

-- ---- by workers

module _ (completion : Completion) (net : Net) (inputs : Inputs) (o : RunOptions) (checked : IsChecked net) (count : ℕ) (Opened : Type 0) (t : Tables) (ws : List Worker)
    (s : State) (number : ℕ) (log : List Firing) (report : IsReport net inputs count o.limit o.log Opened t ws s number log) where
  abbrev all_made : List Firing
  all_made = merged_of ws ++ report.rest

  counted : number ≡ length all_made
  counted = omega (arith, report.firings_are, length-append (merged_of ws) report.rest)

  all_leads : Run net inputs all_made s
  all_leads = leads_on net (opening net inputs) (merged_of ws) report.rest report.gathered s report.merged_run report.finished

  all_within : length all_made ≤ o.limit
  all_within = omega (arith, counted, report.within)

  pub gathered : o.workers ≡ Some count → (text : List ℕ) → IsRunText net s o number 0 log text → RunsTo net o text inputs
  gathered some text is =
      rests completion net inputs o checked all_made s all_leads report.at_rest all_within (λ firings s. TellsRun net inputs o firings s text) (record {
        number = 0;
        made = subst (λ w. AreMadeIn w net inputs all_made s 0) (sym some) refl;
        told = text_of_run net s o number 0 (length all_made) 0 all_made log text counted refl report.kept is;
      })

  pub workers_refused : (r : RunRefusal) → IsRestFault net s r → IsRunRefusal net inputs o r
  workers_refused = refused completion net inputs o checked all_made s all_leads report.at_rest all_within

-- the faults of a run by workers
module _ (completion : Completion) (net : Net) (inputs : Inputs) (o : RunOptions) (checked : IsChecked net) (e : RunFault) (is : IsFaultOfWorkers net inputs o.limit e) where
  ended : (f : RunFault) (r : RunRefusal) → (ends : EndsFaulty net inputs o.limit f) → IsRestFault net ends.to r → IsRunRefusal net inputs o r
  ended f r ends fault = refused completion net inputs o checked ends.firings ends.to ends.run ends.at_rest ends.within r fault

  pub workers_limited : (n : ℕ) → e ≡ fault.Limit n → Long net inputs o.limit
  workers_limited n same = (subst (IsFaultOfWorkers net inputs o.limit) same is).1

  pub workers_stuck : e ≡ fault.Stuck → IsRunRefusal net inputs o refusal.Stuck
  workers_stuck same =
      let ends : EndsFaulty net inputs o.limit fault.Stuck = subst (IsFaultOfWorkers net inputs o.limit) same is in
      ended fault.Stuck refusal.Stuck ends ends.fault

  pub stray_within : (a : ℕ) → e ≡ fault.Stray a → a < length net.arrays
  stray_within a same =
      let ends : EndsFaulty net inputs o.limit (fault.Stray a) = subst (IsFaultOfWorkers net inputs o.limit) same is in
      ends.fault.1.within

  pub workers_stray : (a : ℕ) (r : RunRefusal) → e ≡ fault.Stray a → IsStrayFault net a r → IsRunRefusal net inputs o r
  workers_stray a r same named =
      let ends : EndsFaulty net inputs o.limit (fault.Stray a) = subst (IsFaultOfWorkers net inputs o.limit) same is in
      ended (fault.Stray a) r ends (named ends.to ends.fault.0 ends.fault.1)

pub limited : CutsAreLong → (net : Net) (inputs : Inputs) (limit : ℕ) (e : RunFault) (n : ℕ) → e ≡ fault.Limit n → IsTimingFault net inputs limit e
    → Long net inputs limit
limited law net inputs limit e n is says =
    let cut : IsTimingFault net inputs limit (fault.Limit n) = subst (IsTimingFault net inputs limit) is says in
    law net inputs limit cut.1

-- a refusal of the inputs, and one of a run on them
pub inputs_refused : (net : Net) (bytes : Bytes) (o : RunOptions) (r : RunRefusal) → IsInputsFault net bytes r → Runs net bytes o (Err r)
inputs_refused net bytes o (refusal.Inputs r) is = is
inputs_refused net bytes o (refusal.Schedule r) is = absurd is
inputs_refused net bytes o (refusal.NotEnabled i) is = absurd is
inputs_refused net bytes o (refusal.Limit n) is = absurd is
inputs_refused net bytes o refusal.Stuck is = absurd is
inputs_refused net bytes o (refusal.Stray array name) is = absurd is
inputs_refused net bytes o refusal.Memory is = tt

pub run_refused : (net : Net) (bytes : Bytes) (inputs : Inputs) (o : RunOptions) (r : RunRefusal) → Gives net bytes inputs → InputsFit net inputs
    → IsRunRefusal net inputs o r → Runs net bytes o (Err r)
run_refused net bytes inputs o (refusal.Inputs r) given fit is = absurd is
run_refused net bytes inputs o (refusal.Schedule r) given fit is = absurd is
run_refused net bytes inputs o (refusal.NotEnabled i) given fit is = absurd is
run_refused net bytes inputs o (refusal.Limit n) given fit is = (is.0, record { inputs = inputs; given = given; fit = fit; holds = is.1 })
run_refused net bytes inputs o refusal.Stuck given fit is = record { inputs = inputs; given = given; fit = fit; holds = is }
run_refused net bytes inputs o (refusal.Stray array name) given fit is = record { inputs = inputs; given = given; fit = fit; holds = is }
run_refused net bytes inputs o refusal.Memory given fit is = tt
