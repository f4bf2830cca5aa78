-- Runs that go on from a saved state of a run.
use Rattle.std.proofs.Common.{◌≡◌, ℕ, zero, suc, ◌+◌, ◌<◌, ◌≤◌, List, [], ◌∷◌, ◌++◌, length, refl, sym, ap, subst, ◌∙◌, inl, inr, arith}
use Rattle.std.proofs.lemmas.List.{length-append}
use Rattle.net_types.specs.declared.net.Net.{Net}
use Rattle.net_types.specs.declared.firing.Firing.{Firing}
use Rattle.net_types.specs.declared.firing.Inputs.{Inputs}
use Rattle.net_core.specs.Fire.{State, enabled, after}
use Rattle.net_core.specs.Runs.{opening, Leads, Run, AtRest, Long}
use Rattle.net_core.specs.Laws.{Completion, LimitIsLong}
use Rattle.net_core.proofs.PathLemmas.{run-append}
use Rattle.snapshot.specs.declared.saved.Saved.{Saved}
use Rattle.net_core.specs.Parts.{state_from}
use Rattle.snapshot.specs.Resumes.{IsOfRun, RestsFrom, IsPast}
use Rattle.snapshot.specs.Laws.{ResumesAsRun}

-- firings from the saved state, after those of its run
run_on : (net : Net) (inputs : Inputs) (s : Saved) → IsOfRun net inputs s → (gs : List Firing) (t : State) → Leads net (state_from net s.parts) gs t
    → (fs : List Firing) × Run net inputs fs t × (length fs ≡ s.made + length gs)
run_on net inputs s o gs t l =
    (o.firings ++ gs, run-append State Firing (enabled net) (after net) (opening net inputs) o.firings gs (state_from net s.parts) t o.run l, (let a = length-append o.firings gs in let b = o.counted in omega arith))

-- the first k firings
cut : (net : Net) (s : State) (fs : List Firing) (t : State) (k : ℕ) → Leads net s fs t → k ≤ length fs → (hs : List Firing) × (u : State) × Leads net s hs u × (length hs ≡ k)
cut net s fs t zero l h = ([], s, refl, refl)
cut net s [] t (suc k) l h = absurd (omega arith)
cut net s (f ∷ fs) t (suc k) l h = let w = cut net (after net s f) fs t k l.1 (omega arith) in (f ∷ w.0, w.1, (l.0, w.2), ap suc w.3)

longer : (net : Net) (inputs : Inputs) (fs : List Firing) (t : State) (k : ℕ) → Run net inputs fs t → k < length fs → Long net inputs k
longer net inputs fs t k r h = let w = cut net (opening net inputs) fs t (suc k) r (omega arith) in record { firings = w.0; to = w.1; run = w.2; more = w.3 }

pub resumes_as_run : Completion → LimitIsLong → ResumesAsRun
resumes_as_run complete limited net inputs s checked o = record { rests = rests; one = one; past = past }
  where
    rests : (limit made : ℕ) (to : State) → RestsFrom net s limit made to → (fs : List Firing) × Run net inputs fs to × (length fs ≡ made)
    rests limit made to r = let w = run_on net inputs s o r.firings to r.leads in (w.0, w.1, w.2 ∙ sym r.counted)

    one : (fs : List Firing) (t : State) → Run net inputs fs t → AtRest net t → (limit made : ℕ) (to : State) → RestsFrom net s limit made to → (t ≡ to) × (length fs ≡ made)
    one fs t run rest limit made to r =
        let w = rests limit made to r in
        let c = (complete net inputs w.0 to checked w.1 r.rest).at_rest fs t run rest in
        (c.0, c.1 ∙ w.2)

    past : (limit : ℕ) → IsPast net s limit → Long net inputs limit
    past limit (inl l) = longer net inputs o.firings (state_from net s.parts) limit o.run (let b = o.counted in omega arith)
    past limit (inr g) =
        let w = run_on net inputs s o g.firings g.to g.leads in
        subst (Long net inputs) (w.2 ∙ g.counted) (limited net inputs w.0 g.to g.next w.1 g.goes)
