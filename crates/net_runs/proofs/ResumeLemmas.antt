-- From where the plain runner ends that goes on from a saved state to what is answered.
use Rattle.std.proofs.Common.{◌≡◌, inr, ℕ, ◌+◌, ◌^◌, List, length, sym, subst, arith}
use Rattle.std.specs.Prelude.{Bool, Err}
use Rattle.net_types.specs.declared.net.Net.{Net}
use Rattle.net_types.specs.declared.firing.Firing.{Firing}
use Rattle.net_core.specs.Fire.{State}
use Rattle.net_core.specs.Parts.{state_from}
use Rattle.net_core.specs.Runs.{HasExited, Leads}
use Rattle.net_core.specs.States.{CountsWithin}
use Rattle.net_replay.specs.Finishes.{IsLimited, IsRested}
use Rattle.snapshot.specs.declared.saved.Saved.{Saved}
use Rattle.snapshot.specs.Laws.{SavedCountsFit}
use Rattle.snapshot.specs.Refusals.{MaySave}
use Rattle.snapshot.specs.Resumes.{IsPast, RestsFrom}
use Rattle.snapshot.specs.Texts.{StateText}
use Rattle.net_runs.specs.declared.resume_refusal.ResumeRefusal.{ResumeRefusal}
use Rattle.net_runs.specs.declared.resume_refusal.ResumeRefusal.TheVariants as refusal
use Rattle.net_runs.specs.Given.{Bytes}
use Rattle.net_runs.specs.Results.{IsStrayIn}
use Rattle.net_runs.specs.Resumes.{FromSnapshot, IsLaterFault, IsResumeFault, IsSnapshotFault, RestsLater, Resumes}

pub few_counts : SavedCountsFit → (net : Net) (s : Saved) (t : State) → MaySave net s → t ≡ state_from net s.parts → CountsWithin (2 ^ 60) t
few_counts law net s t may is =
    let counts = law net s.parts may.fits in
    subst (CountsWithin (2 ^ 60)) (sym is) (record { serials = λ u. (let c = counts.serials u in omega arith); strays = λ a. (let c = counts.strays a in omega arith) })

-- ---- from a saved state

module _ (net : Net) (s : Saved) (limit : ℕ) (firings : List Firing) (old to : State) (is : old ≡ state_from net s.parts) (leads : Leads net old firings to) where
  from_saved : Leads net (state_from net s.parts) firings to
  from_saved = subst (λ x. Leads net x firings to) is leads

  rests_from : (made : ℕ) → IsRested net to (s.made + length firings) limit made → RestsFrom net s limit made to
  rests_from made rested = record { firings = firings; leads = from_saved; rest = rested.rest; counted = rested.counted; within = rested.within }

  pub rests_later : (Holds : ℕ → State → Type 0) (made : ℕ) → IsRested net to (s.made + length firings) limit made → Holds made to
      → RestsLater net limit Holds s
  rests_later Holds made rested holds = record { made = made; state = to; rests = rests_from made rested; holds = holds }

  pub goes_past : IsLimited net to (s.made + length firings) limit → IsPast net s limit
  goes_past limited = inr (record { firings = firings; to = to; leads = from_saved; counted = limited.reached; next = limited.next; goes = limited.goes })

  -- the refusals of the state at rest
  pub later_refused : (made : ℕ) → IsRested net to (s.made + length firings) limit made → (r : ResumeRefusal) → IsLaterFault net to r
      → IsResumeFault net s limit r
  later_refused made rested (refusal.Snapshot r) fault = absurd fault
  later_refused made rested (refusal.Limit n) fault = absurd fault
  later_refused made rested refusal.Stuck fault = rests_later (λ made t. HasExited net t → ⊥) made rested fault
  later_refused made rested (refusal.Stray array name) fault = rests_later (λ made t. IsStrayIn net t array name) made rested fault
  later_refused made rested refusal.Memory fault = tt

-- ---- from text to text

pub snapshot_refused : (net : Net) (bytes : Bytes) (limit : ℕ) (count : Bool) (r : ResumeRefusal) → IsSnapshotFault net bytes r
    → Resumes net bytes limit count (Err r)
snapshot_refused net bytes limit count (refusal.Snapshot r) is = is
snapshot_refused net bytes limit count (refusal.Limit n) is = absurd is
snapshot_refused net bytes limit count refusal.Stuck is = absurd is
snapshot_refused net bytes limit count (refusal.Stray array name) is = absurd is
snapshot_refused net bytes limit count refusal.Memory is = tt

module _ (net : Net) (bytes : Bytes) (limit : ℕ) (count : Bool) (s : Saved) (may : MaySave net s) (told : StateText net s.made s.parts bytes) where
  pub from_snapshot : (Holds : Saved → Type 0) → Holds s → FromSnapshot net bytes Holds
  from_snapshot Holds holds = record { saved = s; may = may; told = told; holds = holds }

  pub resume_refused : (r : ResumeRefusal) → IsResumeFault net s limit r → Resumes net bytes limit count (Err r)
  resume_refused (refusal.Snapshot r) is = absurd is
  resume_refused (refusal.Limit n) is = (is.0, from_snapshot (λ s. IsPast net s limit) is.1)
  resume_refused refusal.Stuck is = from_snapshot (RestsLater net limit (λ made t. HasExited net t → ⊥)) is
  resume_refused (refusal.Stray array name) is = from_snapshot (RestsLater net limit (λ made t. IsStrayIn net t array name)) is
  resume_refused refusal.Memory is = tt
