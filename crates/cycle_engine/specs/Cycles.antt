-- Cycles: which firings are made together, and what tokens have to be old enough for.
use Rattle.std.specs.Prelude.{◌≡◌, ◌≢◌, ℕ, suc, ◌+◌, ◌<◌, ◌≤◌, Option, Some, None, List, [], ◌∷◌, map, length, get_or, IsSomeAnd}
use Rattle.lsq_core.specs.Laws.{act_place, phase}
use Rattle.std.specs.List.{AllByRecursion}
use Rattle.net_types.specs.declared.net.Net.{Net}
use Rattle.net_types.specs.declared.net.Unit.{Unit as Kind}
use Rattle.net_types.specs.declared.net.Unit.TheVariants.{Entry, Param, Const, Op1, Op2, Select, Fork, Mux, Cmerge, Branch, Sink, Read, Lsq, Exit}
use Rattle.net_types.specs.declared.firing.Act.{Act}
use Rattle.net_types.specs.declared.firing.Act.TheVariants.{Go, From, Send, Alloc, Addr, Data, Exec, Reply, Retire, End}
use Rattle.net_types.specs.declared.firing.Firing.{Firing}
use Rattle.net_types.specs.declared.firing.Inputs.{Inputs}
use Rattle.net_types.specs.Nets.{into, kind_of, chan_at, firing}
use Rattle.net_core.specs.Fire.{State, Own, Effect, idle, tokens_at, first, effect, has_room, enabled, moved, applied, changed_from, put_at}
use Rattle.net_core.specs.declared.plan.Put.{Put}
use Rattle.net_core.specs.Uses.{used}
use Rattle.net_core.specs.Runs.{opening}

-- a state, and beside the tokens of each channel the cycles in which they were put
pub record Dated : Type 0 where
  pub state : State
  pub dates : List (List ℕ)

abbrev pub dated_opening : Net → Inputs → Dated
dated_opening net inputs = record { state = opening net inputs; dates = map (λ c. []) net.chans }

-- ---- a firing in a cycle

-- the date is put where the token is put
abbrev pub dated : ℕ → Option Put → Option Put
dated c None = None
dated c (Some w) = put_at w.place c

-- dates are moved as tokens are
abbrev pub after_by : Net → ℕ → Dated → ℕ → Option Effect → Dated
after_by net c s u None = s
after_by net c s u (Some e) = record { state = applied net u e s.state; dates = changed_from (moved net u (record e { put = dated c e.put })) 0 s.dates }

-- after a firing in the cycle c: the state after it, in which its token has the date c
abbrev pub after_in : Net → ℕ → Dated → Firing → Dated
after_in net c s f = after_by net c s f.unit (effect net s.state f)

-- the head of the channel d was put in a cycle of at most c less the channel's delay
abbrev pub IsRipe : Net → ℕ → Dated → ℕ → Type 0
IsRipe net c s d = IsSomeAnd (first (get_or s.dates d [])) (λ date. date + (chan_at net d).delay ≤ c)

-- a queue of this depth has room for the entries of a group that is allocated
abbrev pub AllocHasDepth : ℕ → List (List ℕ) → Own → Act → Type 0
AllocHasDepth depth groups o Go = Unit {0}
AllocHasDepth depth groups o (From j) = Unit {0}
AllocHasDepth depth groups o (Send j) = Unit {0}
AllocHasDepth depth groups o (Alloc g) = length o.queue.items + length (get_or groups g []) ≤ depth
AllocHasDepth depth groups o (Addr p) = Unit {0}
AllocHasDepth depth groups o (Data p) = Unit {0}
AllocHasDepth depth groups o (Exec e) = Unit {0}
AllocHasDepth depth groups o (Reply p) = Unit {0}
AllocHasDepth depth groups o Retire = Unit {0}
AllocHasDepth depth groups o End = Unit {0}

abbrev pub HasDepth : Kind → Own → Act → Type 0
HasDepth Entry o act = Unit {0}
HasDepth (Param j) o act = Unit {0}
HasDepth (Const w n) o act = Unit {0}
HasDepth (Op1 op) o act = Unit {0}
HasDepth (Op2 op) o act = Unit {0}
HasDepth (Select w) o act = Unit {0}
HasDepth (Fork w outs) o act = Unit {0}
HasDepth (Mux w ins) o act = Unit {0}
HasDepth (Cmerge ins) o act = Unit {0}
HasDepth (Branch w) o act = Unit {0}
HasDepth (Sink w) o act = Unit {0}
HasDepth (Read a) o act = Unit {0}
HasDepth (Lsq a depth ports groups forward) o act = AllocHasDepth depth groups o act
HasDepth Exit o act = Unit {0}

-- a firing is enabled at its turn in the state s, each head that it uses is ripe, and there was room for its token and for its entries
-- when the cycle began
pub record May (net : Net) (c : ℕ) (start s : Dated) (f : Firing) : Type 0 where
  pub turn : enabled net s.state f
  pub ripe : AllByRecursion (λ p. IsRipe net c s (into f.unit p net.chans)) (used net s.state f)
  pub room : IsSomeAnd (effect net s.state f) (λ e. has_room net start.state f.unit e.put)
  pub depth : HasDepth (kind_of net f.unit) (get_or start.state.own f.unit idle) f.act

-- no older entry of the queue may execute
abbrev pub IsOldest : Net → State → ℕ → Act → Type 0
IsOldest net s u Go = Unit {0}
IsOldest net s u (From j) = Unit {0}
IsOldest net s u (Send j) = Unit {0}
IsOldest net s u (Alloc g) = Unit {0}
IsOldest net s u (Addr p) = Unit {0}
IsOldest net s u (Data p) = Unit {0}
IsOldest net s u (Exec e) = (older : ℕ) → older < e → enabled net s (firing u (Exec older)) → ⊥
IsOldest net s u (Reply p) = Unit {0}
IsOldest net s u Retire = Unit {0}
IsOldest net s u End = Unit {0}

-- the firings may be made in turn in the cycle c, which began with start, and lead from s to t
abbrev pub Makes : Net → ℕ → Dated → Dated → List Firing → Dated → Type 0
Makes net c start s [] t = s ≡ t
Makes net c start s (f ∷ fs) t = May net c start s f × IsOldest net s.state f.unit f.act × Makes net c start (after_in net c s f) fs t

-- ---- a cycle

abbrev pub place_of : Firing → Firing
place_of f = firing f.unit (act_place f.act)

-- no firing of the list is at the firing's place
abbrev pub IsUnused : List Firing → Firing → Type 0
IsUnused fs f = AllByRecursion (λ g. place_of g ≢ place_of f) fs

-- each place fires at most once
abbrev pub Once : List Firing → Type 0
Once [] = Unit {0}
Once (f ∷ fs) = IsUnused fs f × Once fs

-- no act of a unit comes after one of a later phase of that unit
abbrev pub InOrder : List Firing → Type 0
InOrder [] = Unit {0}
InOrder (f ∷ fs) = AllByRecursion (λ g. g.unit ≡ f.unit → phase f.act ≤ phase g.act) fs × InOrder fs

-- the cycle c leads from s to t by these firings, and no firing at another place may be made besides, order and age left aside
pub record Cycle (net : Net) (c : ℕ) (s : Dated) (fs : List Firing) (t : Dated) : Type 0 where
  pub makes : Makes net c s s fs t
  pub once : Once fs
  pub order : InOrder fs
  pub full : (f : Firing) → IsUnused fs f → May net c s t f → ⊥

-- one cycle after the other, the first of number c; the lists may be empty
abbrev pub Cycles : Net → ℕ → Dated → List (List Firing) → Dated → Type 0
Cycles net c s [] t = s ≡ t
Cycles net c s (fs ∷ fss) t = (m : Dated) × Cycle net c s fs m × Cycles net (suc c) m fss t

-- for each token there is a date
pub record AreDated (net : Net) (s : Dated) : Type 0 where
  pub chans : length s.state.tokens ≡ length net.chans
  pub lists : length s.dates ≡ length net.chans
  pub each : (d : ℕ) → length (get_or s.dates d []) ≡ length (tokens_at s.state d)
