-- Each state of a run has data that may be saved.
use Rattle.std.proofs.Common.{ℕ, ◌+◌, ◌*◌, ◌≤◌, List, [], ◌∷◌, length, subst, arith}
use Rattle.el_base.specs.Limits.{max_depth}
use Rattle.net_types.specs.declared.net.Net.{Net}
use Rattle.net_types.specs.declared.firing.Firing.{Firing}
use Rattle.net_check.specs.Checks.{IsChecked}
use Rattle.word_ops.specs.Laws.{BelowWidth1, BelowWidth2}
use Rattle.lsq_core.specs.Laws.{StaysInOrder, StaysInPorts}
use Rattle.net_core.specs.Fire.{State, after}
use Rattle.net_core.specs.Runs.{opening, Leads}
use Rattle.net_core.specs.States.{CountsWithin}
use Rattle.net_core.proofs.GoesLemmas.{goes}
use Rattle.net_core.proofs.OpenLemmas.{opening_counts}
use Rattle.net_core.proofs.RaiseLemmas.{counts_after}
use Rattle.snapshot.specs.Fits.{max_count}
use Rattle.snapshot.specs.Laws.{HasData, RunsFit}
use Rattle.snapshot.proofs.FitLemmas.{fits_stay, opening_fits}

counts_less : (m n : ℕ) (s : State) → m ≤ n → CountsWithin m s → CountsWithin n s
counts_less m n s l h = record { serials = λ u. (let k = h.serials u in omega arith); strays = λ a. (let k = h.strays a in omega arith) }

module _ (one : BelowWidth1) (two : BelowWidth2) (order : StaysInOrder) (ports : StaysInPorts) (net : Net) (checked : IsChecked net) where
  -- what firings lead to has data, where the counts have room for them
  led : (s t : State) (fs : List Firing) (n : ℕ) → HasData net s → CountsWithin n s → Leads net s fs t → n + length fs * max_depth ≤ max_count → HasData net t
  led s t [] n h c r l = subst (HasData net) r h
  led s t (f ∷ fs) n h c r l =
      let w = goes net s f r.0 in
      let m : CountsWithin (n + max_depth) (after net s f) = counts_after net s f w.0 checked w.1.is n c in
      let g = fits_stay one two order ports net s f checked h r.0 (counts_less (n + max_depth) max_count (after net s f) (omega arith) m) in
      led (after net s f) t fs (n + max_depth) g m r.1 (omega arith)

pub runs_fit : BelowWidth1 → BelowWidth2 → StaysInOrder → StaysInPorts → RunsFit
runs_fit one two order ports net inputs fs s checked fit run few =
    led one two order ports net checked (opening net inputs) s fs 0 (opening_fits net inputs checked fit) (opening_counts net inputs) run (omega arith)
