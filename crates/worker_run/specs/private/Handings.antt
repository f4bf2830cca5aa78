-- Private: only contracts of this crate cite it. Workers that hand over what they hold to one state.
use Rattle.std.specs.Prelude.{◌≡◌, ◌≢◌, ℕ, ◌<◌, ◌≤◌, ◌^◌, true, Some, List, [], length, get_or, IsSome}
use Rattle.std.specs.List.{sum_by}
use Rattle.net_types.specs.declared.net.Net.{Net}
use Rattle.net_types.specs.Nets.{chan_at, kind_of, owns}
use Rattle.net_core.specs.Fire.{State, idle, tokens_at}
use Rattle.net_core.specs.States.{strays_at, with_tokens}
use Rattle.net_worker.specs.Handed.{SameLogged, HoldsOf, HoldsUnit, HoldsChan, FewLeft, IsLeft, SameButChan, SameButEndsAt}
use Rattle.net_worker.specs.Plays.{putter, taker}
use Rattle.net_worker.specs.Views.{net_of, owner_in, is_closed, held_state, put_end, take_end}
use Rattle.net_worker.specs.Workers.{AreLinkedAt}
use Rattle.net_worker.specs.declared.tables.Tables.{Tables}
use Rattle.net_worker.specs.declared.worker.Worker.{Worker}
use Rattle.worker_run.specs.Crews.{AreLinked}
use Rattle.worker_run.specs.Gathers.{IsAssembled}

-- each worker's state was made of this net
abbrev pub AllHold : Net → List Worker → Type 0
AllHold net ws = (j : ℕ) (d : Worker) → j < length ws → HoldsOf net (get_or ws j d)

-- each worker holds what its own units keep, and the tokens of the channels to them
pub record AllHoldOwn (t : Tables) (ws : List Worker) : Type 0 where
  pub units : (u : ℕ) (d : Worker) → u < length (net_of t).units → owner_in t u < length ws → HoldsUnit (get_or ws (owner_in t u) d) u
  pub chans : (c : ℕ) (d : Worker) → c < length (net_of t).chans → taker (net_of t) (owner_in t) c < length ws
      → HoldsChan (get_or ws (taker (net_of t) (owner_in t) c) d) c

-- ---- strays

-- of 64 workers' counts of strays no sum wraps
abbrev pub StraysAreFew : List Worker → Type 0
StraysAreFew ws = (j : ℕ) (d : Worker) → j < length ws → (a : ℕ) → strays_at (held_state (get_or ws j d)) a ≤ 2 ^ 50

-- r is the state s, but that its strays are those of all workers
pub record AreStraysOf (ws : List Worker) (s r : State) : Type 0 where
  pub rest : r ≡ record s { strays = r.strays }
  pub long : length r.strays ≡ length s.strays
  pub each : (a : ℕ) → a < length s.strays → strays_at r a ≡ sum_by (λ (w : Worker). strays_at (held_state w) a) ws

-- ---- units

-- all but what the units keep, and their arrays, is the same
pub record IsSameButUnits (a b : Worker) : Type 0 where
  pub logged : SameLogged a b
  pub closed : is_closed b ≡ is_closed a
  pub puts : (c : ℕ) → put_end b c ≡ put_end a c
  pub takes : (c : ℕ) → take_end b c ≡ take_end a c
  pub tokens : (held_state b).tokens ≡ (held_state a).tokens

-- what the units below n keep has gone from their owners into the state, and their arrays; what the others keep is where it was
pub record AreUnitsHanded (net : Net) (owner : ℕ → ℕ) (ws xs : List Worker) (s r : State) (n : ℕ) : Type 0 where
  pub long : length xs ≡ length ws
  pub each : (j : ℕ) (d : Worker) → j < length ws → IsSameButUnits (get_or ws j d) (get_or xs j d)
  pub left : (u : ℕ) (d : Worker) → n ≤ u → get_or (held_state (get_or xs (owner u) d)).own u idle ≡ get_or (held_state (get_or ws (owner u) d)).own u idle
  pub arrays_left : (u a : ℕ) (d : Worker) → n ≤ u → owns (kind_of net u) ≡ Some a
      → get_or (held_state (get_or xs (owner u) d)).arrays a [] ≡ get_or (held_state (get_or ws (owner u) d)).arrays a []
  pub own : (u : ℕ) (d : Worker) → u < n → get_or r.own u idle ≡ get_or (held_state (get_or ws (owner u) d)).own u idle
  pub arrays : (u a : ℕ) (d : Worker) → u < n → owns (kind_of net u) ≡ Some a → get_or r.arrays a [] ≡ get_or (held_state (get_or ws (owner u) d)).arrays a []
  pub others : (a : ℕ) → ((u : ℕ) → u < n → owns (kind_of net u) ≡ Some a → ⊥) → get_or r.arrays a [] ≡ get_or s.arrays a []
  pub rest : r ≡ record s { own = r.own; arrays = r.arrays }
  pub own_long : length r.own ≡ length s.own
  pub arrays_long : length r.arrays ≡ length s.arrays

-- ---- channels

-- where the channel goes from one worker to another, both have their ends, and no more tokens are left than it has slots
pub record CanDrain (net : Net) (owner : ℕ → ℕ) (ws : List Worker) (c : ℕ) : Type 0 where
  pub from : putter net owner c < length ws
  pub to : taker net owner c < length ws
  pub put : putter net owner c ≢ taker net owner c → (d : Worker) → IsSome (put_end (get_or ws (putter net owner c) d) c)
  pub take : putter net owner c ≢ taker net owner c → (d : Worker) → IsSome (take_end (get_or ws (taker net owner c) d) c)
  pub few : putter net owner c ≢ taker net owner c → (d e : Worker)
      → FewLeft (chan_at net c).slots c (get_or ws (putter net owner c) d) (get_or ws (taker net owner c) e)

-- the tokens that were left of the channel c from one worker to another have gone into the state
pub record IsDrained (from to c : ℕ) (ws xs : List Worker) (s r : State) : Type 0 where
  pub long : length xs ≡ length ws
  pub each : (j : ℕ) (d : Worker) → j < length ws → SameButEndsAt c (get_or ws j d) (get_or xs j d)
  pub state : SameButChan c s r
  pub left : (d e : Worker) → IsLeft c (get_or ws from d) (get_or ws to e) (tokens_at r c)
  pub link : (d e : Worker) → AreLinkedAt c (get_or xs from d) (get_or xs to e)

-- all but the channel c is the same
pub record IsSameButAt (c : ℕ) (a b : Worker) : Type 0 where
  pub logged : SameLogged a b
  pub closed : is_closed b ≡ is_closed a
  pub puts : (d : ℕ) → d ≢ c → put_end b d ≡ put_end a d
  pub takes : (d : ℕ) → d ≢ c → take_end b d ≡ take_end a d
  pub tokens : (d : ℕ) → d ≢ c → tokens_at (held_state b) d ≡ tokens_at (held_state a) d

-- the tokens of the channel c have gone into the state
pub record IsChanHanded (net : Net) (owner : ℕ → ℕ) (c : ℕ) (ws xs : List Worker) (s r : State) : Type 0 where
  pub long : length xs ≡ length ws
  pub each : (j : ℕ) (d : Worker) → j < length ws → IsSameButAt c (get_or ws j d) (get_or xs j d)
  pub state : SameButChan c s r
  pub inner : putter net owner c ≡ taker net owner c → (d : Worker) → tokens_at r c ≡ tokens_at (held_state (get_or ws (taker net owner c) d)) c
  pub between : putter net owner c ≢ taker net owner c → (d e : Worker) → IsLeft c (get_or ws (putter net owner c) d) (get_or ws (taker net owner c) e) (tokens_at r c)

-- all but the channels below n is the same
pub record IsSameFrom (n : ℕ) (a b : Worker) : Type 0 where
  pub logged : SameLogged a b
  pub closed : is_closed b ≡ is_closed a
  pub puts : (c : ℕ) → n ≤ c → put_end b c ≡ put_end a c
  pub takes : (c : ℕ) → n ≤ c → take_end b c ≡ take_end a c
  pub tokens : (c : ℕ) → n ≤ c → tokens_at (held_state b) c ≡ tokens_at (held_state a) c

-- the tokens of the channels below n have gone into the state, which has none on the others
pub record AreChansHanded (net : Net) (owner : ℕ → ℕ) (ws xs : List Worker) (s r : State) (n : ℕ) : Type 0 where
  pub long : length xs ≡ length ws
  pub each : (j : ℕ) (d : Worker) → j < length ws → IsSameFrom n (get_or ws j d) (get_or xs j d)
  pub rest : r ≡ with_tokens r.tokens s
  pub tokens_long : length r.tokens ≡ length s.tokens
  pub inner : (c : ℕ) → c < n → putter net owner c ≡ taker net owner c → (d : Worker) → tokens_at r c ≡ tokens_at (held_state (get_or ws (taker net owner c) d)) c
  pub between : (c : ℕ) → c < n → putter net owner c ≢ taker net owner c → (d e : Worker)
      → IsLeft c (get_or ws (putter net owner c) d) (get_or ws (taker net owner c) e) (tokens_at r c)
  pub none : (c : ℕ) → n ≤ c → tokens_at r c ≡ []

-- ---- all

-- the workers have handed over what they hold to the state, and are closed
pub record AreHandedOver (t : Tables) (ws xs : List Worker) (r : State) : Type 0 where
  pub long : length xs ≡ length ws
  pub each : (j : ℕ) (d : Worker) → j < length ws → SameLogged (get_or ws j d) (get_or xs j d)
  pub closed : (j : ℕ) (d : Worker) → j < length xs → is_closed (get_or xs j d) ≡ true
  pub linked : AreLinked t xs
  pub assembled : (d : Worker) → IsAssembled t ws d r
