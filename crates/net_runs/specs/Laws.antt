-- The laws of runs: those that are not refused, that the number of workers changes no answer, that schedules that are told are replayed, and that saved states
-- of runs go on as the runs.
use Rattle.std.specs.Prelude.{◌≡◌, ◌≢◌, ℕ, true, false, length, List, Option, Result, Ok, Err}
use Rattle.net_types.specs.declared.net.Net.{Net}
use Rattle.net_types.specs.declared.firing.Firing.{Firing}
use Rattle.net_types.specs.declared.firing.Inputs.{Inputs}
use Rattle.net_check.specs.Checks.{IsChecked}
use Rattle.net_core.specs.Fire.{State}
use Rattle.net_core.specs.Runs.{Long}
use Rattle.net_text.specs.Fits.{HeaderFits}
use Rattle.snapshot.specs.Resumes.{IsOfRun}
use Rattle.net_replay.specs.Judgements.{IsSound}
use Rattle.net_replay.specs.Replays.{RestsIn}
use Rattle.net_replay.specs.Schedules.{schedule_text}
use Rattle.net_runs.specs.declared.options.RunOptions.{RunOptions}
use Rattle.net_runs.specs.declared.refusal.RunRefusal.{RunRefusal}
use Rattle.net_runs.specs.declared.refusal.RunRefusal.TheVariants as refusal
use Rattle.net_runs.specs.declared.resume_refusal.ResumeRefusal.{ResumeRefusal}
use Rattle.net_runs.specs.declared.resume_refusal.ResumeRefusal.TheVariants as resume
use Rattle.net_runs.specs.Given.{Bytes, Gives}
use Rattle.net_runs.specs.Replays.{Replays}
use Rattle.net_runs.specs.Resumes.{FromSnapshot, Resumes}
use Rattle.net_runs.specs.Runs.{Runs}
use Rattle.net_runs.specs.Saves.{Saves}

-- the bytes give inputs on which no run is longer than the limit, and some run rests where the exit has fired and nothing strayed
pub record IsSoundRun (net : Net) (bytes : Bytes) (o : RunOptions) : Type 0 where
  pub inputs : Inputs
  pub given : Gives net bytes inputs
  pub short : Long net inputs o.limit → ⊥
  pub firings : List Firing
  pub state : State
  pub rests : RestsIn net inputs firings state
  pub sound : IsSound net state

-- then nothing but want of memory is refused
abbrev pub RunsAreComplete : Type 0
RunsAreComplete = (net : Net) (bytes : Bytes) (o : RunOptions) (r : RunRefusal) → IsChecked net → IsSoundRun net bytes o → r ≢ refusal.Memory
    → Runs net bytes o (Err r) → ⊥

-- ---- the number of workers

-- neither are the cycles counted nor their firings written
pub record AsksForNoCycles (o : RunOptions) : Type 0 where
  pub cycles : o.cycles ≡ false
  pub log : o.log ≡ false

-- the same options by so many workers, or by cycles
abbrev pub with_workers : RunOptions → Option ℕ → RunOptions
with_workers o workers = record o { workers = workers }

-- two answers for the same bytes, want of memory aside, are equal by however many workers, where neither cycles nor firings are told
abbrev pub RunsAreOne : Type 0
RunsAreOne = (net : Net) (bytes : Bytes) (o : RunOptions) (workers : Option ℕ) (a b : Result Bytes RunRefusal) → IsChecked net → AsksForNoCycles o
    → a ≢ Err refusal.Memory → b ≢ Err refusal.Memory → Runs net bytes o a → Runs net bytes (with_workers o workers) b → a ≡ b

-- whatever is told, what is refused once is refused by however many workers and in the same way
abbrev pub RefusedRunsAreOne : Type 0
RefusedRunsAreOne = (net : Net) (bytes : Bytes) (o : RunOptions) (workers : Option ℕ) (e : RunRefusal) (b : Result Bytes RunRefusal) → IsChecked net
    → e ≢ refusal.Memory → b ≢ Err refusal.Memory → Runs net bytes o (Err e) → Runs net bytes (with_workers o workers) b → b ≡ Err e

-- and two texts show the same results and as many firings
abbrev pub RunTextsAreOne : Type 0
RunTextsAreOne = (net : Net) (bytes s t : Bytes) (o : RunOptions) (workers : Option ℕ) → IsChecked net
    → (a : Runs net bytes o (Ok s)) (b : Runs net bytes (with_workers o workers) (Ok t))
    → (a.holds.holds.told.results ≡ b.holds.holds.told.results) × (length a.holds.firings ≡ length b.holds.firings)

-- ---- schedules

-- where firings are told, the replay of their schedule has the results that the text has, want of memory aside
abbrev pub ToldSchedulesReplay : Type 0
ToldSchedulesReplay = (net : Net) (bytes text : Bytes) (o : RunOptions) (a : Result Bytes RunRefusal) → IsChecked net → o.log ≡ true → a ≢ Err refusal.Memory
    → (run : Runs net bytes o (Ok text)) → Replays net bytes (schedule_text run.holds.firings) a → a ≡ Ok run.holds.holds.told.results

-- ---- saved states

-- what is answered of a saved state is what a run answers, which refuses no snapshot
abbrev pub IsAnswerOfRun : Result Bytes ResumeRefusal → Result Bytes RunRefusal → Type 0
IsAnswerOfRun (Ok text) b = b ≡ Ok text
IsAnswerOfRun (Err (resume.Snapshot r)) b = ⊥
IsAnswerOfRun (Err (resume.Limit n)) b = b ≡ Err (refusal.Limit n)
IsAnswerOfRun (Err resume.Stuck) b = b ≡ Err refusal.Stuck
IsAnswerOfRun (Err (resume.Stray array name)) b = b ≡ Err (refusal.Stray array name)
IsAnswerOfRun (Err resume.Memory) b = b ≡ Err refusal.Memory

-- What goes on from a state of a run on the inputs that bytes give, and a run on them with the same limit and count, by however many workers, which tells
-- neither cycles nor firings, have one answer, want of memory aside.
abbrev pub ResumesShowRuns : Type 0
ResumesShowRuns = (net : Net) (inputs : Inputs) (bytes snapshot : Bytes) (o : RunOptions) (a : Result Bytes ResumeRefusal) (b : Result Bytes RunRefusal)
    → IsChecked net → HeaderFits net → Gives net bytes inputs → FromSnapshot net snapshot (IsOfRun net inputs) → AsksForNoCycles o
    → a ≢ Err resume.Memory → b ≢ Err refusal.Memory → Resumes net snapshot o.limit o.count a → Runs net bytes o b → IsAnswerOfRun a b

-- so it is of what is saved of a run on the bytes
abbrev pub SavedRunsResume : Type 0
SavedRunsResume = (net : Net) (bytes snapshot : Bytes) (at : ℕ) (o : RunOptions) (a : Result Bytes ResumeRefusal) (b : Result Bytes RunRefusal)
    → IsChecked net → HeaderFits net → Saves net bytes at (Ok snapshot) → AsksForNoCycles o → a ≢ Err resume.Memory → b ≢ Err refusal.Memory
    → Resumes net snapshot o.limit o.count a → Runs net bytes o b → IsAnswerOfRun a b
