-- Tokens seen by the places where their channels begin, and what a state holds beside its tokens.
use Rattle.std.specs.Prelude.{◌≡◌, ℕ, ◌+◌, ◌<◌, ◌≤◌, ◌==◌, true, false, cond, Option, Some, None, List, [], ◌∷◌, ◌++◌, length, get_or}
use Rattle.net_types.specs.declared.net.Place.{Place}
use Rattle.net_types.specs.declared.net.Port.{Port}
use Rattle.net_types.specs.declared.net.Net.{Net}
use Rattle.net_types.specs.declared.firing.Firing.{Firing}
use Rattle.net_types.specs.Nets.{is_at, into, out_of, nowhere, at}
use Rattle.lsq_core.specs.Acts.{QueueState, fresh}
use Rattle.net_core.specs.declared.plan.Put.{Put}
use Rattle.net_core.specs.Fire.{State, Own, idle, tokens_at, taken}
use Rattle.net_core.specs.Runs.{Leads}

abbrev pub Marks : Type 0
Marks = Place → List ℕ

-- a channel with a slot leads from the one place to the other
pub record Wired (net : Net) (p q : Place) : Type 0 where
  pub joined : into q.unit q.place net.chans ≡ out_of p.unit p.place net.chans
  pub within : out_of p.unit p.place net.chans < length net.chans
  pub slot : 0 < (get_or net.chans (out_of p.unit p.place net.chans) nowhere).slots

abbrev pub popped : Place → Marks → Marks
popped p m r = cond (is_at r p.unit p.place) (taken true (m r)) (m r)

abbrev pub pushed : Place → ℕ → Marks → Marks
pushed p v m r = cond (is_at r p.unit p.place) (m r ++ v ∷ []) (m r)

abbrev pub popped_all : List Place → Marks → Marks
popped_all [] m = m
popped_all (p ∷ ps) m = popped_all ps (popped p m)

abbrev pub put_mark : ℕ → Option Put → Marks → Marks
put_mark u None m = m
put_mark u (Some w) m = pushed (at u w.place) w.value m

-- what each unit keeps, the arrays, and how many strays there are at most of any array
pub record Aside : Type 0 where
  pub own : ℕ → Own
  pub arrays : List (List ℕ)
  pub strays : ℕ

-- one unit keeps something else
abbrev pub own_set : ℕ → Own → (ℕ → Own) → ℕ → Own
own_set u o own v = cond (v == u) o (own v)

abbrev pub with_own : ℕ → Own → Aside → Aside
with_own u o a = record a { own = own_set u o a.own }

-- the state has these scalars and these tokens, and holds this beside them
pub record Shows (net : Net) (scalars : List ℕ) (s : State) (m : Marks) (a : Aside) : Type 0 where
  pub given : s.scalars ≡ scalars
  pub sees : (r : Place) → tokens_at s (out_of r.unit r.place net.chans) ≡ m r
  pub own : (u : ℕ) → get_or s.own u idle ≡ a.own u
  pub same : s.arrays ≡ a.arrays
  pub few : (b : ℕ) → get_or s.strays b 0 ≤ a.strays
  pub long : length s.tokens ≡ length net.chans
  pub owned : length s.own ≡ length net.units

-- a list of firings leads to a state with these tokens, which holds this beside them
pub record Goes (net : Net) (scalars : List ℕ) (s : State) (fs : List Firing) (m : Marks) (a : Aside) : Type 0 where
  pub to : State
  pub run : Leads net s fs to
  pub shows : Shows net scalars to m a

-- each of a unit's places is fed by a place that holds one token
abbrev pub Fed : Net → ℕ → Marks → List ℕ → List Place → Type 0
Fed net u m [] [] = Unit {0}
Fed net u m [] (p ∷ ps) = ⊥
Fed net u m (q ∷ qs) [] = ⊥
Fed net u m (q ∷ qs) (p ∷ ps) = Wired net p (at u q) × ((v : ℕ) × (m p ≡ v ∷ [])) × Fed net u m qs ps

-- a put has a channel that is empty
abbrev pub Free : Net → ℕ → Marks → Option Put → Type 0
Free net u m None = Unit {0}
Free net u m (Some w) = ((r : Place) × Wired net (at u w.place) r) × (m (at u w.place) ≡ [])

-- a queue whose entries are new ones of these ports, the first with serial number n, none with an address, data or a mark
abbrev pub awaiting : List Port → ℕ → List ℕ → QueueState
awaiting ports n left = record { forward = false; next = n + length left; items = fresh n ports left }

abbrev pub awaits : List Port → ℕ → List ℕ → Own
awaits ports n left = record idle { queue = awaiting ports n left }
