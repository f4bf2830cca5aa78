-- What goes on from a state of a run answers as the run.
use Rattle.std.proofs.Common.{◌≡◌, ◌≢◌, ◌⊎◌, inl, inr, ℕ, List, [], refl, sym, ap, subst, ◌∙◌, ◌++◌, arith}
use Rattle.std.specs.Prelude.{Bool, true, false, Result, Ok, Err}
use Rattle.std.proofs.lemmas.Bool.{false≢true}
use Rattle.std.proofs.lemmas.List.{append-nil}
use Rattle.net_types.specs.declared.net.Net.{Net}
use Rattle.net_types.specs.declared.firing.Inputs.{Inputs}
use Rattle.net_check.specs.Checks.{IsChecked}
use Rattle.net_text.specs.Fits.{HeaderFits}
use Rattle.net_core.specs.Fire.{State}
use Rattle.net_core.specs.Laws.{Completion}
use Rattle.net_core.specs.Runs.{HasExited}
use Rattle.inputs_text.specs.Texts.{IsOfOneInputs}
use Rattle.snapshot.specs.declared.refusal.SnapRefusal.{SnapRefusal}
use Rattle.snapshot.specs.declared.refusal.SnapRefusal.TheVariants as snap
use Rattle.snapshot.specs.declared.saved.Saved.{Saved}
use Rattle.snapshot.specs.Laws.{GoesAsRun, ResumesAsRun, SnapshotsHaveOneAnswer, TextsSpellOneState}
use Rattle.snapshot.specs.Resumes.{IsOfRun, IsPast}
use Rattle.net_runs.specs.declared.options.RunOptions.{RunOptions}
use Rattle.net_runs.specs.declared.refusal.RunRefusal.{RunRefusal}
use Rattle.net_runs.specs.declared.refusal.RunRefusal.TheVariants as run
use Rattle.net_runs.specs.declared.resume_refusal.ResumeRefusal.{ResumeRefusal}
use Rattle.net_runs.specs.declared.resume_refusal.ResumeRefusal.TheVariants as resume
use Rattle.net_runs.specs.Given.{Bytes, Gives}
use Rattle.net_runs.specs.Laws.{AsksForNoCycles, IsAnswerOfRun, ResumesShowRuns, SavedRunsResume}
use Rattle.net_runs.specs.Results.{IsStrayIn, count_line}
use Rattle.net_runs.specs.Resumes.{FromSnapshot, IsNoSnapshot, Resumes, RestsLater, SticksLater, StraysLater, ResumesTo, TellsRest}
use Rattle.net_runs.specs.Runs.{Runs}
use Rattle.net_runs.proofs.OneRuns.{Answer, Ends, Kind, kind_of_answer, kinds_one}
use Rattle.net_runs.proofs.RunLemmas.{one_rest}

abbrev Later : Type 0
Later = Result Bytes ResumeRefusal

-- the answer of a run that an answer is, where the snapshot is read
abbrev as_run : Later → Answer
as_run (Ok text) = Ok text
as_run (Err (resume.Snapshot r)) = Err run.Memory
as_run (Err (resume.Limit n)) = Err (run.Limit n)
as_run (Err resume.Stuck) = Err run.Stuck
as_run (Err (resume.Stray array name)) = Err (run.Stray array name)
as_run (Err resume.Memory) = Err run.Memory

abbrev wants_memory : Answer → Bool
wants_memory (Ok text) = false
wants_memory (Err (run.Inputs r)) = false
wants_memory (Err (run.Schedule r)) = false
wants_memory (Err (run.NotEnabled i)) = false
wants_memory (Err (run.Limit n)) = false
wants_memory (Err run.Stuck) = false
wants_memory (Err (run.Stray array name)) = false
wants_memory (Err run.Memory) = true

not_memory : (r : Answer) → wants_memory r ≡ false → r ≢ Err run.Memory
not_memory r other e = false≢true (sym other ∙ ap wants_memory e)

abbrev is_read : Result Saved SnapRefusal → Bool
is_read (Ok s) = true
is_read (Err e) = false

abbrev error_or : SnapRefusal → Result Saved SnapRefusal → SnapRefusal
error_or r (Ok s) = r
error_or r (Err e) = e

module _ (one : IsOfOneInputs) (complete : Completion) (goes : ResumesAsRun) (spell : TextsSpellOneState) (answers : SnapshotsHaveOneAnswer) (net : Net) (checked : IsChecked net)
    (header : HeaderFits net) (inputs : Inputs) (bytes snapshot : Bytes) (o : RunOptions) (given : Gives net bytes inputs) (from : FromSnapshot net snapshot (IsOfRun net inputs)) where
  goes_on : GoesAsRun net inputs from.saved
  goes_on = goes net inputs from.saved checked from.holds

  -- the state of the snapshot is the one of the run
  held : (P : Saved → Type 0) → FromSnapshot net snapshot P → P from.saved
  held P f = subst P (spell net f.saved from.saved snapshot checked header f.may from.may f.told from.told) f.holds

  -- and no refusal holds of the snapshot
  not_refused : (r : SnapRefusal) → IsNoSnapshot net snapshot r → ⊥
  not_refused r never = by (answers net snapshot (Err r) checked header never.says (Ok from.saved) (λ e. false≢true (sym (ap is_read e))) (from.may, from.told))
    where
      by : ◌≡◌ {A = Result Saved SnapRefusal} (Err r) (Ok from.saved) ⊎ ◌≡◌ {A = Result Saved SnapRefusal} (Err r) (Err snap.Memory) → ⊥
      by (inl e) = false≢true (ap is_read e)
      by (inr e) = never.cause (ap (error_or r) e)

  -- what is come to at rest is what runs come to
  rested : (r : Answer) (Holds : ℕ → State → Type 0) → ((made : ℕ) (s : State) → Holds made s → Ends net o r made s)
      → RestsLater net o.limit Holds from.saved → Kind net bytes o r
  rested r Holds ends later =
      let way = goes_on.rests o.limit later.made later.state later.rests in
      let within = later.rests.within in
      Kind.rests inputs given (record {
        firings = way.0;
        state = later.state;
        one = one_rest complete net inputs way.0 later.state checked (record { run = way.1; rest = later.rests.rest });
        within = omega (arith, way.2, within);
        holds = subst (λ n. Ends net o r n later.state) (sym way.2) (ends later.made later.state later.holds);
      })

  shown : (text : Bytes) (made : ℕ) (s : State) → TellsRest net o.count text made s → Ends net o (Ok text) made s
  shown text made s told = Ends.shows text told.results [] refl told.are (told.whole ∙ sym (append-nil (told.results ++ count_line o.count made))) (λ plain. refl)

  kind_of : (a : Later) → a ≢ Err resume.Memory → Resumes net snapshot o.limit o.count a → Kind net bytes o (as_run a) × (wants_memory (as_run a) ≡ false)
  kind_of (Ok text) some is = (rested (Ok text) (TellsRest net o.count text) (shown text) (held (ResumesTo net o.limit o.count text) is), refl)
  kind_of (Err (resume.Snapshot r)) some is = absurd (not_refused r is)
  kind_of (Err (resume.Limit n)) some is =
      (Kind.longer inputs (ap (λ k. Err (run.Limit k)) is.0) given (goes_on.past o.limit (held (λ s. IsPast net s o.limit) is.1)), refl)
  kind_of (Err resume.Stuck) some is = (rested (Err run.Stuck) (λ made s. HasExited net s → ⊥) (λ made s not. Ends.sticks refl not) (held (SticksLater net o.limit) is), refl)
  kind_of (Err (resume.Stray array name)) some is =
      (rested (Err (run.Stray array name)) (λ made s. IsStrayIn net s array name) (λ made s stray. Ends.strays array name refl stray) (held (StraysLater net o.limit array name) is), refl)
  kind_of (Err resume.Memory) some is = absurd (some refl)

  same_answer : (a : Later) (b : Answer) → AsksForNoCycles o → a ≢ Err resume.Memory → b ≢ Err run.Memory → Resumes net snapshot o.limit o.count a
      → Runs net bytes o b → as_run a ≡ b
  same_answer a b plain m n x y =
      let kind = kind_of a m x in
      kinds_one one net checked bytes o (as_run a) b (λ p q. plain) (not_memory (as_run a) kind.1) n kind.0 (kind_of_answer net bytes o b y)

  told : (a : Later) (b : Answer) → Resumes net snapshot o.limit o.count a → as_run a ≡ b → IsAnswerOfRun a b
  told (Ok text) b x e = sym e
  told (Err (resume.Snapshot r)) b x e = not_refused r x
  told (Err (resume.Limit n)) b x e = sym e
  told (Err resume.Stuck) b x e = sym e
  told (Err (resume.Stray array name)) b x e = sym e
  told (Err resume.Memory) b x e = sym e

  pub shows_run : (a : Later) (b : Answer) → AsksForNoCycles o → a ≢ Err resume.Memory → b ≢ Err run.Memory → Resumes net snapshot o.limit o.count a
      → Runs net bytes o b → IsAnswerOfRun a b
  shows_run a b plain m n x y = told a b x (same_answer a b plain m n x y)

module _ (one : IsOfOneInputs) (complete : Completion) (goes : ResumesAsRun) (spell : TextsSpellOneState) (answers : SnapshotsHaveOneAnswer) where
  pub resumes_show_runs : ResumesShowRuns
  resumes_show_runs net inputs bytes snapshot o a b checked header given from plain m n x y = shows_run one complete goes spell answers net checked header inputs bytes snapshot o given from a b plain m n x y

  pub saved_runs_resume : SavedRunsResume
  saved_runs_resume net bytes snapshot at o a b checked header saves plain m n x y =
      let s = saves.holds in
      shows_run one complete goes spell answers net checked header saves.inputs bytes snapshot o saves.given (record { saved = s.saved; may = s.may; told = s.told; holds = s.of }) a b plain m n x y
