-- Given lists of firings, one firing after another.
use Rattle.std.proofs.Common.{◌≡◌, ℕ, suc, ◌+◌, ◌*◌, ◌^◌, ◌<◌, ◌≤◌, ◌∙◌, List, ◌∷◌, ◌++◌, length, get_or, take, drop, sym, ap, subst, arith, drop-cons}
use Rattle.std.proofs.lemmas.List.{take_more, take-append-drop, length-take-le}
use Rattle.std.proofs.Math.Seq.{take-length}
use Rattle.el_base.specs.Limits.{max_depth}
use Rattle.net_types.specs.declared.net.Net.{Net}
use Rattle.net_types.specs.declared.firing.Firing.{Firing}
use Rattle.net_core.specs.declared.state.State.{State as Stored}
use Rattle.net_core.specs.Fire.{State, enabled, after}
use Rattle.net_core.specs.Runs.{Leads}
use Rattle.net_core.specs.States.{CountsWithin, CountsRise, IsOf, state_of}
use Rattle.net_replay.specs.Replays.{FailsAt}
use Rattle.net_replay.proofs.PathLemmas.{leads_more, counts_less, counts_more}

-- the first i firings are made
pub record IsFollowed (net : Net) (start : State) (firings : List Firing) (i : ℕ) (s : Stored) : Type 0 where
  pub of : IsOf net s
  pub leads : Leads net start (take i firings) (state_of s)
  pub counts : CountsWithin (i * max_depth) (state_of s)

pub follow_more : (net : Net) (start : State) (firings : List Firing) (i : ℕ) (s t : Stored) (d : Firing) → i < length firings
    → IsFollowed net start firings i s → enabled net (state_of s) (get_or firings i d) → IsOf net t → state_of t ≡ after net (state_of s) (get_or firings i d)
    → CountsRise max_depth (state_of s) (state_of t) → IsFollowed net start firings (i + 1) t
follow_more net start firings i s t d l h e of is rise = record {
  of = of;
  leads =
      let P : List Firing → Type 0 = λ fs. Leads net start fs (state_of t) in
      subst P (sym (take_more firings i d l)) (leads_more net start (take i firings) (state_of s) (get_or firings i d) (state_of t) h.leads e is);
  counts = counts_more (i * max_depth) ((i + 1) * max_depth) max_depth (state_of s) (state_of t) (omega arith) h.counts rise;
}

pub follow_counts : (net : Net) (start : State) (firings : List Firing) (i : ℕ) (s : Stored) → i < length firings → length firings ≤ 2 ^ 32
    → IsFollowed net start firings i s → CountsWithin (2 ^ 62) (state_of s)
follow_counts net start firings i s l few h = counts_less (i * max_depth) (2 ^ 62) (state_of s) (omega arith) h.counts

pub follow_fails : (net : Net) (start : State) (firings : List Firing) (i : ℕ) (s : Stored) (d : Firing) → i < length firings
    → IsFollowed net start firings i s → (enabled net (state_of s) (get_or firings i d) → ⊥) → FailsAt net start firings i
follow_fails net start firings i s d l h held = record {
  before = take i firings;
  next = get_or firings i d;
  more = drop (suc i) firings;
  whole =
      let cut : drop i firings ≡ get_or firings i d ∷ drop (suc i) firings = drop-cons firings i d l in
      sym (take-append-drop i firings) ∙ ap (λ x. take i firings ++ x) cut;
  counted = let le : i ≤ length firings = omega arith in sym (length-take-le i firings le);
  to = state_of s;
  leads = h.leads;
  held = held;
}

pub follow_all : (net : Net) (start : State) (firings : List Firing) (s : Stored) → IsFollowed net start firings (length firings) s
    → Leads net start firings (state_of s)
follow_all net start firings s h = let P : List Firing → Type 0 = λ fs. Leads net start fs (state_of s) in subst P (take-length firings) h.leads
