-- What going on from a saved state answers.
use Rattle.std.specs.Prelude.{◌≡◌, ◌≢◌, ◌++◌, ℕ, Bool, Result, Ok, Err}
use Rattle.net_types.specs.declared.net.Net.{Net}
use Rattle.net_core.specs.Fire.{State}
use Rattle.net_core.specs.Runs.{HasExited}
use Rattle.snapshot.specs.declared.refusal.SnapRefusal.{SnapRefusal}
use Rattle.snapshot.specs.declared.refusal.SnapRefusal.TheVariants as snapshot
use Rattle.snapshot.specs.declared.saved.Saved.{Saved}
use Rattle.snapshot.specs.Refusals.{MaySave, Says as SaysState}
use Rattle.snapshot.specs.Resumes.{RestsFrom, IsPast}
use Rattle.snapshot.specs.Texts.{StateText}
use Rattle.net_runs.specs.declared.resume_refusal.ResumeRefusal.{ResumeRefusal}
use Rattle.net_runs.specs.declared.resume_refusal.ResumeRefusal.TheVariants as refusal
use Rattle.net_runs.specs.Given.{Bytes}
use Rattle.net_runs.specs.Results.{AreResultsOf, IsStrayIn, count_line}

-- the bytes are the text of a state of the net that may be saved, of which that holds
pub record FromSnapshot (net : Net) (bytes : Bytes) (Holds : Saved → Type 0) : Type 0 where
  pub saved : Saved
  pub may : MaySave net saved
  pub told : StateText net saved.made saved.parts bytes
  pub holds : Holds saved

-- the bytes are no text of a state of the net that may be saved, as the refusal says
pub record IsNoSnapshot (net : Net) (bytes : Bytes) (r : SnapRefusal) : Type 0 where
  pub cause : r ≢ snapshot.Memory
  pub says : SaysState net bytes (Err r)

-- a refusal of a snapshot, or want of memory
abbrev pub IsSnapshotFault : Net → Bytes → ResumeRefusal → Type 0
IsSnapshotFault net bytes (refusal.Snapshot r) = IsNoSnapshot net bytes r
IsSnapshotFault net bytes (refusal.Limit n) = ⊥
IsSnapshotFault net bytes refusal.Stuck = ⊥
IsSnapshotFault net bytes (refusal.Stray array name) = ⊥
IsSnapshotFault net bytes refusal.Memory = Unit {0}

-- firings lead from the saved state, within the limit, to one at rest, of which, with the number of all firings, that holds
pub record RestsLater (net : Net) (limit : ℕ) (Holds : ℕ → State → Type 0) (s : Saved) : Type 0 where
  pub made : ℕ
  pub state : State
  pub rests : RestsFrom net s limit made state
  pub holds : Holds made state

-- the text tells the state, and the number of all firings where it is asked for
pub record TellsRest (net : Net) (count : Bool) (text : Bytes) (made : ℕ) (s : State) : Type 0 where
  pub results : Bytes
  pub are : AreResultsOf net s results
  pub whole : text ≡ results ++ count_line count made

-- the text of what the saved state comes to
abbrev pub ResumesTo : Net → ℕ → Bool → Bytes → Saved → Type 0
ResumesTo net limit count text = RestsLater net limit (TellsRest net count text)

-- at rest the exit has not fired
abbrev pub SticksLater : Net → ℕ → Saved → Type 0
SticksLater net limit = RestsLater net limit (λ made s. HasExited net s → ⊥)

-- at rest the exit has fired, and this is the first array of the header with strays, which has this name
abbrev pub StraysLater : Net → ℕ → ℕ → Bytes → Saved → Type 0
StraysLater net limit array name = RestsLater net limit (λ made s. IsStrayIn net s array name)

-- why a state at rest has no results, or want of memory
abbrev pub IsLaterFault : Net → State → ResumeRefusal → Type 0
IsLaterFault net s (refusal.Snapshot r) = ⊥
IsLaterFault net s (refusal.Limit n) = ⊥
IsLaterFault net s refusal.Stuck = HasExited net s → ⊥
IsLaterFault net s (refusal.Stray array name) = IsStrayIn net s array name
IsLaterFault net s refusal.Memory = Unit {0}

-- why what a saved state comes to has no text, or want of memory
abbrev pub IsResumeFault : Net → Saved → ℕ → ResumeRefusal → Type 0
IsResumeFault net s limit (refusal.Snapshot r) = ⊥
IsResumeFault net s limit (refusal.Limit n) = (n ≡ limit) × IsPast net s limit
IsResumeFault net s limit refusal.Stuck = SticksLater net limit s
IsResumeFault net s limit (refusal.Stray array name) = StraysLater net limit array name s
IsResumeFault net s limit refusal.Memory = Unit {0}

-- what is answered for the bytes of a snapshot; want of memory says nothing
abbrev pub Resumes : Net → Bytes → ℕ → Bool → Result Bytes ResumeRefusal → Type 0
Resumes net bytes limit count (Ok text) = FromSnapshot net bytes (ResumesTo net limit count text)
Resumes net bytes limit count (Err (refusal.Snapshot r)) = IsNoSnapshot net bytes r
Resumes net bytes limit count (Err (refusal.Limit n)) = (n ≡ limit) × FromSnapshot net bytes (λ s. IsPast net s limit)
Resumes net bytes limit count (Err refusal.Stuck) = FromSnapshot net bytes (SticksLater net limit)
Resumes net bytes limit count (Err (refusal.Stray array name)) = FromSnapshot net bytes (StraysLater net limit array name)
Resumes net bytes limit count (Err refusal.Memory) = Unit {0}
