-- The schedule that a text of a run tells is replayed to its results.
use Rattle.std.proofs.Common.{◌≡◌, ◌≢◌, ◌⊎◌, inl, inr, List, All, true, refl, sym, ap, subst, ◌∙◌, arith}
use Rattle.std.specs.Prelude.{Result, Ok, Err}
use Rattle.net_types.specs.declared.net.Net.{Net}
use Rattle.net_types.specs.declared.firing.Firing.{Firing}
use Rattle.net_types.specs.declared.firing.Inputs.{Inputs}
use Rattle.net_check.specs.Checks.{IsChecked}
use Rattle.net_core.specs.Fire.{State, enabled}
use Rattle.net_core.specs.Runs.{opening, Run, HasExited}
use Rattle.net_core.specs.States.{strays_at}
use Rattle.inputs_text.specs.Texts.{IsOfOneInputs}
use Rattle.net_replay.specs.declared.schedule_refusal.ScheduleRefusal.{ScheduleRefusal}
use Rattle.net_replay.specs.declared.schedule_refusal.ScheduleRefusal.TheVariants as wrong
use Rattle.net_replay.specs.Laws.{OneAnswer}
use Rattle.net_replay.specs.Readings.{Says as SaysFirings, ReadsBack}
use Rattle.net_replay.specs.Schedules.{FiringFits, schedule_text}
use Rattle.net_replay.proofs.PathLemmas.{leads_one}
use Rattle.net_replay.proofs.ScheduleLemmas.{reads_back}
use Rattle.net_runs.specs.declared.options.RunOptions.{RunOptions}
use Rattle.net_runs.specs.declared.refusal.RunRefusal.{RunRefusal}
use Rattle.net_runs.specs.declared.refusal.RunRefusal.TheVariants as refusal
use Rattle.net_runs.specs.Given.{Bytes, Gives}
use Rattle.net_runs.specs.Results.{IsStrayIn}
use Rattle.net_runs.specs.Runs.{Runs}
use Rattle.net_runs.specs.Replays.{By, GoesOnWith, Replays, RestsSo}
use Rattle.net_runs.specs.Laws.{ToldSchedulesReplay}
use Rattle.net_runs.proofs.LawLemmas.{given_not_refused}
use Rattle.net_runs.proofs.OneRuns.{results_one}

abbrev Read : Type 0
Read = Result (List Firing) ScheduleRefusal

abbrev firings_or : List Firing → Read → List Firing
firings_or fs (Ok gs) = gs
firings_or fs (Err e) = fs

abbrev wrong_or : ScheduleRefusal → Read → ScheduleRefusal
wrong_or e (Ok gs) = e
wrong_or e (Err x) = x

abbrev is_read : Read → Type 0
is_read (Ok gs) = Unit {0}
is_read (Err e) = ⊥

module _ (one : IsOfOneInputs) (fails : OneAnswer) (net : Net) (bytes text : Bytes) (o : RunOptions) (checked : IsChecked net) (logged : o.log ≡ true)
    (run : Runs net bytes o (Ok text)) where
  abbrev firings : List Firing
  firings = run.holds.firings

  abbrev schedule : Bytes
  schedule = schedule_text firings

  abbrev s : State
  s = run.holds.state

  back : ReadsBack schedule firings
  back = reads_back schedule firings (run.holds.holds.told.fit logged) refl

  same_list : (gs : List Firing) → SaysFirings schedule (Ok gs) → gs ≡ firings
  same_list gs says = elim (back (Ok gs) says) [
    | inl e ↦ ap (firings_or gs) e
    | inr e ↦ absurd (subst is_read e tt)
  ]

  not_wrong : (e : ScheduleRefusal) → e ≢ wrong.Memory → SaysFirings schedule (Err e) → ⊥
  not_wrong e some says = elim (back (Err e) says) [
    | inl is ↦ subst is_read (sym is) tt
    | inr is ↦ some (ap (wrong_or e) is)
  ]

  same_given : (i : Inputs) → Gives net bytes i → i ≡ run.inputs
  same_given i given = one net.scalars net.arrays i run.inputs bytes given run.given

  -- the firings of a replay lead to the state of the run
  same_state : (i : Inputs) (gs : List Firing) (t : State) → Gives net bytes i → SaysFirings schedule (Ok gs) → Run net i gs t → t ≡ s
  same_state i gs t given says leads =
      let there : Run net run.inputs firings t = subst (λ fs. Run net run.inputs fs t) (same_list gs says) (subst (λ j. Run net j gs t) (same_given i given) leads) in
      leads_one net (opening net run.inputs) firings t s there run.holds.one.run.run

  rested : (i : Inputs) (gs : List Firing) (Holds : State → Type 0) → Gives net bytes i → SaysFirings schedule (Ok gs) → RestsSo net i gs Holds → Holds s
  rested i gs Holds given says so = subst Holds (same_state i gs so.state given says so.one.run.run) so.holds

  not_on : (i : Inputs) (gs : List Firing) (told : Bytes) → Gives net bytes i → SaysFirings schedule (Ok gs) → GoesOnWith net i gs told → ⊥
  not_on i gs told given says on =
      let fires : enabled net s on.next = subst (λ (t : State). enabled net t on.next) (same_state i gs on.state given says on.goes.run) on.goes.least.fires in
      run.holds.one.run.rest on.next fires

  replayed : (a : Result Bytes RunRefusal) → a ≢ Err refusal.Memory → Replays net bytes schedule a → a ≡ Ok run.holds.holds.told.results
  replayed (Ok told) some is = elim is.on.holds [
    | inl so ↦ ap Ok (results_one net checked s told run.holds.holds.told.results (rested is.on.inputs is.firings _ is.on.given is.given so).shown run.holds.holds.told.are.shown)
    | inr on ↦ absurd (not_on is.on.inputs is.firings told is.on.given is.given on)
  ]
  replayed (Err (refusal.Inputs e)) some is = absurd (given_not_refused net bytes run.inputs e run.given is)
  replayed (Err (refusal.Schedule e)) some is = absurd (not_wrong e is.holds.cause is.holds.says)
  replayed (Err (refusal.NotEnabled i)) some is =
      let leads : Run net is.on.inputs is.firings s =
      subst (λ fs. Run net is.on.inputs fs s) (sym (same_list is.firings is.given)) (subst (λ j. Run net j firings s) (sym (same_given is.on.inputs is.on.given)) run.holds.one.run.run) in
      absurd ((fails net is.on.inputs is.firings i is.on.holds).no_run s leads)
  replayed (Err (refusal.Limit n)) some is = absurd is
  replayed (Err refusal.Stuck) some is =
      absurd (rested is.on.inputs is.firings (λ t. HasExited net t → ⊥) is.on.given is.given is.on.holds run.holds.holds.told.are.exited)
  replayed (Err (refusal.Stray array name)) some is =
      let stray : IsStrayIn net s array name = rested is.on.inputs is.firings (λ t. IsStrayIn net t array name) is.on.given is.given is.on.holds in
      let none : strays_at s array ≡ 0 = run.holds.holds.told.are.clean array stray.first.within in
      absurd (omega (arith, stray.first.has, none))
  replayed (Err refusal.Memory) some is = absurd (some refl)

pub told_replays : IsOfOneInputs → OneAnswer → ToldSchedulesReplay
told_replays one fails net bytes text o a checked logged some run is = replayed one fails net bytes text o checked logged run a some is
