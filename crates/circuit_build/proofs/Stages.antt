-- Tokens listed by the places that hold them: one token at each listed place, and none elsewhere. Where a list has no place, its value is no token.
use Rattle.std.specs.Prelude.{◌≡◌, ◌≢◌, ℕ, ◌<◌, ◌≤◌, ◌⊎◌, cond, Bool, Option, Some, None, List, [], ◌∷◌, length}
use Rattle.net_types.specs.declared.net.Place.{Place}
use Rattle.net_types.specs.declared.net.Net.{Net}
use Rattle.net_types.specs.declared.firing.Firing.{Firing}
use Rattle.net_types.specs.Nets.{is_at}
use Rattle.net_core.specs.Fire.{State}
use Rattle.net_core.specs.Runs.{Leads}
use Rattle.circuit_build.proofs.Marks.{Marks, Aside, Shows}

abbrev pub is_place : Place → Place → Bool
is_place r p = is_at r p.unit p.place

abbrev pub spread : List (Option Place) → List ℕ → Marks
spread [] vs r = []
spread (p ∷ ps) [] r = []
spread (None ∷ ps) (v ∷ vs) r = spread ps vs r
spread (Some p ∷ ps) (v ∷ vs) r = cond (is_place r p) (v ∷ []) (spread ps vs r)

abbrev pub NotIn : Place → List (Option Place) → Type 0
NotIn p [] = Unit {0}
NotIn p (None ∷ qs) = NotIn p qs
NotIn p (Some q ∷ qs) = (p ≢ q) × NotIn p qs

abbrev pub Apart : List (Option Place) → Type 0
Apart [] = Unit {0}
Apart (None ∷ ps) = Apart ps
Apart (Some p ∷ ps) = NotIn p ps × Apart ps

-- the places are of units from low on, and below n or from m on
abbrev pub Outside : (low n m : ℕ) → List (Option Place) → Type 0
Outside low n m [] = Unit {0}
Outside low n m (None ∷ ps) = Outside low n m ps
Outside low n m (Some p ∷ ps) = (low ≤ p.unit) × ((p.unit < n) ⊎ (m ≤ p.unit)) × Outside low n m ps

-- one token of each value at each place and no other; units from low on and below n are laid, and those from m on
pub record Stage (net : Net) (scalars : List ℕ) (s : State) (a : Aside) (low n m : ℕ) (ps : List (Option Place)) (vs : List ℕ) : Type 0 where
  pub shows : Shows net scalars s (spread ps vs) a
  pub apart : Apart ps
  pub outside : Outside low n m ps
  pub same : length ps ≡ length vs

-- at most k firings lead to a stage
pub record Reaches (net : Net) (scalars : List ℕ) (s : State) (k : ℕ) (a : Aside) (low n m : ℕ) (ps : List (Option Place)) (vs : List ℕ) : Type 0 where
  pub firings : List Firing
  pub to : State
  pub run : Leads net s firings to
  pub few : length firings ≤ k
  pub stage : Stage net scalars to a low n m ps vs
