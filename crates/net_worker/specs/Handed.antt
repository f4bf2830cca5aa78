-- What a worker hands over to a state, and what handing over leaves of it.
use Rattle.std.specs.Prelude.{◌≡◌, ◌≢◌, ℕ, ◌+◌, ◌<◌, ◌≤◌, Some, List, ◌++◌, length}
use Rattle.elastic_link.specs.declared.put_end.PutEnd.{PutEnd}
use Rattle.elastic_link.specs.declared.take_end.TakeEnd.{TakeEnd}
use Rattle.elastic_link.specs.Ends.{tokens_put, tokens_taken}
use Rattle.net_types.specs.declared.net.Net.{Net}
use Rattle.net_core.specs.Fire.{State, tokens_at}
use Rattle.net_core.specs.States.{IsOf, with_tokens}
use Rattle.net_worker.specs.Local.{values}
use Rattle.net_worker.specs.Plays.{taker}
use Rattle.net_worker.specs.Portions.{IsInHere, IsUnitHere}
use Rattle.net_worker.specs.Views.{net_of, owner_in, number_of, log_share, log_of, log_room, clock_of, is_closed, held_state, put_end, take_end}
use Rattle.net_worker.specs.Workers.{IsMadeOf}
use Rattle.net_worker.specs.declared.tables.Tables.{Tables}
use Rattle.net_worker.specs.declared.worker.Worker.{Worker}

-- the state that the worker holds was made of this net
abbrev pub HoldsOf : Net → Worker → Type 0
HoldsOf net w = IsOf net w.portion.state

-- the worker holds what the unit keeps, and the tokens of the channel
abbrev pub HoldsUnit : Worker → ℕ → Type 0
HoldsUnit w u = IsUnitHere w.portion u

abbrev pub HoldsChan : Worker → ℕ → Type 0
HoldsChan w c = IsInHere w.portion c

-- what the worker a holds, the worker b does
pub record HoldsToo (a b : Worker) : Type 0 where
  pub units : (u : ℕ) → HoldsUnit a u → HoldsUnit b u
  pub chans : (c : ℕ) → HoldsChan a c → HoldsChan b c

-- a worker holds what its own units keep, and the tokens of the channels to them
pub record MadeHolds : Type 0 where
  pub units : (t : Tables) (w : Worker) (u : ℕ) → IsMadeOf t w → u < length (net_of t).units
      → owner_in t u ≡ number_of w → HoldsUnit w u
  pub chans : (t : Tables) (w : Worker) (c : ℕ) → IsMadeOf t w → c < length (net_of t).chans
      → taker (net_of t) (owner_in t) c ≡ number_of w → HoldsChan w c

-- number, share, log and clock are the same
pub record SameLogged (a b : Worker) : Type 0 where
  pub number : number_of b ≡ number_of a
  pub share : log_share b ≡ log_share a
  pub log : log_of b ≡ log_of a
  pub room : log_room b ≡ log_room a
  pub clock : clock_of b ≡ clock_of a

-- all but the state that it holds is the same
pub record SameButState (a b : Worker) : Type 0 where
  pub logged : SameLogged a b
  pub holds : HoldsToo a b
  pub closed : is_closed b ≡ is_closed a
  pub puts : (c : ℕ) → put_end b c ≡ put_end a c
  pub takes : (c : ℕ) → take_end b c ≡ take_end a c

-- all but the ends for the channel c is the same
pub record SameButEndsAt (c : ℕ) (a b : Worker) : Type 0 where
  pub logged : SameLogged a b
  pub closed : is_closed b ≡ is_closed a
  pub held : held_state b ≡ held_state a
  pub of : (net : Net) → HoldsOf net a → HoldsOf net b
  pub holds : HoldsToo a b
  pub puts : (d : ℕ) → d ≢ c → put_end b d ≡ put_end a d
  pub takes : (d : ℕ) → d ≢ c → take_end b d ≡ take_end a d

-- of the channel c from worker a to worker b the tokens that were put and not taken are no more than its slots
abbrev pub FewLeft : ℕ → ℕ → Worker → Worker → Type 0
FewLeft slots c a b = (p : PutEnd) (e : TakeEnd) → put_end a c ≡ Some p → take_end b c ≡ Some e → length (tokens_put p) ≤ slots + length (tokens_taken e)

-- the values xs stand on the channel c: they are those of the tokens that were put there and not taken
abbrev pub IsLeft : ℕ → Worker → Worker → List ℕ → Type 0
IsLeft c a b xs = (p : PutEnd) (e : TakeEnd) → put_end a c ≡ Some p → take_end b c ≡ Some e → values (tokens_taken e) ++ xs ≡ values (tokens_put p)

-- the state t is the state s but for the tokens of the channel c
pub record SameButChan (c : ℕ) (s t : State) : Type 0 where
  pub rest : t ≡ with_tokens t.tokens s
  pub long : length t.tokens ≡ length s.tokens
  pub others : (d : ℕ) → d ≢ c → tokens_at t d ≡ tokens_at s d
