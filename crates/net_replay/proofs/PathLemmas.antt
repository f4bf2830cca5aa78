-- Lists of firings with one more, and counts that firings raise.
use Rattle.std.proofs.Common.{◌≡◌, ℕ, zero, suc, ◌+◌, ◌≤◌, List, [], ◌∷◌, ◌++◌, get_or, map, refl, sym, subst, arith}
use Rattle.net_types.specs.declared.net.Net.{Net}
use Rattle.net_types.specs.declared.net.Unit.{Unit as Kind}
use Rattle.net_types.specs.declared.firing.Firing.{Firing}
use Rattle.net_types.specs.declared.firing.Inputs.{Inputs}
use Rattle.net_core.specs.Fire.{State, idle, opened, enabled, after}
use Rattle.net_core.specs.Runs.{opening, Leads}
use Rattle.net_core.specs.States.{CountsWithin, CountsRise}
use Rattle.net_core.proofs.PathLemmas.{run-append}

pub leads_on : (net : Net) (s : State) (fs gs : List Firing) (t u : State) → Leads net s fs t → Leads net t gs u → Leads net s (fs ++ gs) u
leads_on net s fs gs t u a b = run-append State Firing (enabled net) (after net) s fs gs t u a b

pub leads_more : (net : Net) (s : State) (fs : List Firing) (t : State) (f : Firing) (u : State) → Leads net s fs t → enabled net t f → u ≡ after net t f
    → Leads net s (fs ++ f ∷ []) u
leads_more net s fs t f u l e is = leads_on net s fs (f ∷ []) t u l (e, sym is)

-- a list leads to one state
pub leads_one : (net : Net) (s : State) (fs : List Firing) (t u : State) → Leads net s fs t → Leads net s fs u → t ≡ u
leads_one net s [] t u a b = let e : t ≡ s = sym a in subst (λ x. x ≡ u) a b
leads_one net s (f ∷ fs) t u a b = leads_one net (after net s f) fs t u a.1 b.1

-- ---- counts

pub counts_less : (m n : ℕ) (s : State) → m ≤ n → CountsWithin m s → CountsWithin n s
counts_less m n s l h = record {
  serials = λ u. omega (arith, h.serials u);
  strays = λ a. omega (arith, h.strays a);
}

pub counts_more : (m n k : ℕ) (s t : State) → m + k ≡ n → CountsWithin m s → CountsRise k s t → CountsWithin n t
counts_more m n k s t e h rise = subst (λ i. CountsWithin i t) e (rise m h)
