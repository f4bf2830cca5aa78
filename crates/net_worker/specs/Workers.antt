-- A worker as the definitions see it: what holds of it, whatever the others do.
use Rattle.std.specs.Prelude.{◌≡◌, ◌≢◌, ◌⊎◌, ◌↔◌, ℕ, ◌+◌, ◌*◌, ◌^◌, ◌<◌, ◌≤◌, true, false, Option, Some, None, IsSome, List, [], ◌++◌, length, get_or}
use Rattle.std.specs.List.{All, Any, Contains}
use mathlib.Core.List.{IsPrefix}
use Rattle.el_base.specs.Limits.{max_depth}
use Rattle.elastic_link.specs.declared.message.Token.{Token}
use Rattle.elastic_link.specs.declared.message.Credit.{Credit}
use Rattle.elastic_link.specs.declared.put_end.PutEnd.{PutEnd}
use Rattle.elastic_link.specs.declared.take_end.TakeEnd.{TakeEnd}
use Rattle.elastic_link.specs.Held.{tokens_of}
use Rattle.elastic_link.specs.Ends.{tokens_put, messages_received, slots_of, tokens_taken, token_held, messages_repaid, repaid_stamp, credits_repaid, SamePutEnd, SameTakeEnd, IsLink, IsSound}
use Rattle.net_types.specs.declared.net.Net.{Net}
use Rattle.net_types.specs.declared.net.Unit.TheVariants.{Exit}
use Rattle.net_types.specs.declared.firing.Firing.{Firing}
use Rattle.net_types.specs.Nets.{chan_at, out_of, kind_of, uses}
use Rattle.net_core.specs.declared.plan.Put.{Put}
use Rattle.net_core.specs.Fire.{State, Effect, effect, enabled, idle, at_array, tokens_at}
use Rattle.net_core.specs.Runs.{HasExited}
use Rattle.net_core.specs.States.{IsOf, CountsWithin, state_of}
pub use Rattle.net_worker.specs.Views.{owner_in, put_end, take_end}
use Rattle.net_worker.specs.Stamped.{Stamped, stamps_at}
use Rattle.net_worker.specs.Plays.{putter, taker}
use Rattle.net_worker.specs.Local.{values, stamps_of, Shown, IsLocal}
use Rattle.net_worker.specs.Merged.{IsRested}
use Rattle.net_worker.specs.Portions.{PortionView, IsUnitHere, IsOutHere, IsInHere}
use Rattle.net_worker.specs.Steps.{last_stamp}
use Rattle.firing_log.specs.declared.entry.Entry.{Entry}
use Rattle.net_worker.specs.declared.tables.Tables.{Tables}
use Rattle.net_worker.specs.declared.worker.Worker.{Worker}

-- the channel goes from a unit of worker j to one of another worker, or the other way
abbrev pub IsOutOf : Tables → ℕ → ℕ → Type 0
IsOutOf t j c = (c < length t.net.now.chans) × (putter t.net.now (owner_in t) c ≡ j) × (taker t.net.now (owner_in t) c ≢ j)

abbrev pub IsInto : Tables → ℕ → ℕ → Type 0
IsInto t j c = (c < length t.net.now.chans) × (taker t.net.now (owner_in t) c ≡ j) × (putter t.net.now (owner_in t) c ≢ j)

-- ---- ends

abbrev pub held_by : Option TakeEnd → List Token
held_by None = []
held_by (Some t) = tokens_of (token_held t)

abbrev pub handed_by : Option TakeEnd → List Token
handed_by None = []
handed_by (Some t) = tokens_taken t ++ tokens_of (token_held t)

abbrev pub put_by : Option PutEnd → List Token
put_by None = []
put_by (Some p) = tokens_put p

abbrev pub received_by : Option PutEnd → List Credit
received_by None = []
received_by (Some p) = messages_received p

abbrev pub repaid_by : Option TakeEnd → List Credit
repaid_by None = []
repaid_by (Some t) = messages_repaid t

-- what the worker shows, with this state after its log
abbrev pub shown : Worker → Stamped → Shown
shown w after = record {
  log = w.log.items;
  after = after;
  handed = λ c. handed_by (take_end w c);
  put = λ c. put_by (put_end w c);
  received = λ c. received_by (put_end w c);
  repaid = λ c. repaid_by (take_end w c);
}

-- ---- the worker's own state

-- The state s that worker j holds is the state t after its log: in its units, on the channels into them, and in the counts of strays.
-- On channels to other workers s has no token, for their tokens are in the links.
pub record Sees (net : Net) (owner : ℕ → ℕ) (j : ℕ) (s t : State) : Type 0 where
  pub scalars : t.scalars ≡ s.scalars
  pub own : (u : ℕ) → owner u ≡ j → get_or t.own u idle ≡ get_or s.own u idle
  pub arrays : (u : ℕ) → owner u ≡ j → at_array t.arrays (uses (kind_of net u)) ≡ at_array s.arrays (uses (kind_of net u))
  pub into : (c : ℕ) → taker net owner c ≡ j → tokens_at t c ≡ tokens_at s c
  pub out : (c : ℕ) → c < length net.chans → taker net owner c ≢ j → tokens_at s c ≡ []
  pub arrays_long : length t.arrays ≡ length s.arrays
  pub strays : t.strays ≡ s.strays

-- ---- firings that wait for credits

-- a firing of the worker waits for a credit of the channel
abbrev pub IsAwaited : Worker → ℕ → Type 0
IsAwaited w c = IsSome (get_or w.waits.items c None)

-- each channel that was waited for is waited for still
abbrev pub WaitsStay : Worker → Worker → Type 0
WaitsStay a b = (c : ℕ) → IsAwaited a c → IsAwaited b c

-- this token of the unit u goes to another worker, and its credit is waited for
abbrev pub PutWaits : Tables → Worker → ℕ → Option Put → Type 0
PutWaits t w u None = ⊥
PutWaits t w u (Some p) = IsOutOf t w.number (out_of u p.place t.net.now.chans) × IsAwaited w (out_of u p.place t.net.now.chans)

-- so does the token of the firing, where it has an effect
abbrev pub IsWaiting : Tables → Worker → Firing → Type 0
IsWaiting t w f = (x : Effect) → effect t.net.now (state_of w.portion.state) f ≡ Some x → PutWaits t w f.unit x.put

-- so of each firing of the worker's units that is enabled in the state that it holds
abbrev pub AllWait : Tables → Worker → Type 0
AllWait t w = (f : Firing) → owner_in t f.unit ≡ w.number → enabled t.net.now (state_of w.portion.state) f → IsWaiting t w f

-- ---- the exit

-- an entry of the list is a firing of the exit
abbrev pub HasExitAmong : Net → List Entry → Type 0
HasExitAmong net es = Any (λ (e : Entry). kind_of net e.firing.unit ≡ Exit) es

-- an entry of the worker's log is a firing of the exit
abbrev pub HasLoggedExit : Tables → Worker → Type 0
HasLoggedExit t w = HasExitAmong t.net.now w.log.items

-- ---- what is here

-- each of the worker's own units is in the portion, with all channels at it
pub record HoldsOwn (t : Tables) (j : ℕ) (p : PortionView) : Type 0 where
  pub unit : (u : ℕ) → u < length t.net.now.units → owner_in t u ≡ j → IsUnitHere p u
  pub out : (c : ℕ) → c < length t.net.now.chans → putter t.net.now (owner_in t) c ≡ j → IsOutHere p c
  pub into : (c : ℕ) → c < length t.net.now.chans → taker t.net.now (owner_in t) c ≡ j → IsInHere p c

-- the worker was made of these tables, and all that holds of it locally
pub record IsMadeOf (t : Tables) (w : Worker) : Type 0 where
  pub of : IsOf t.net.now w.portion.state
  pub counts : CountsWithin (max_depth * length w.log.items) (state_of w.portion.state)
  pub own : HoldsOwn t w.number w.portion
  pub room : length w.log.items + w.log.room ≡ w.share
  pub ends : length w.puts.items ≡ length t.net.now.chans
  pub ends_too : length w.takes.items ≡ length t.net.now.chans
  pub clock : w.clock ≡ last_stamp 0 w.log.items
  -- the state after the log, and what the log and the ends show
  pub after : Stamped
  pub local : IsLocal t.net.now t.inputs (owner_in t) w.number (shown w after)
  pub sees : Sees t.net.now (owner_in t) w.number (state_of w.portion.state) after.state
  -- in the state that the worker holds the exit has fired exactly where its log says so, whoever owns the exit
  pub exit : HasExited t.net.now (state_of w.portion.state) ↔ HasLoggedExit t w
  -- of a channel from another worker the state has the token that the end holds
  pub held : (c : ℕ) → IsInto t w.number c → tokens_at after.state c ≡ values (held_by (take_end w c))
  pub held_stamps : (c : ℕ) → IsInto t w.number c → stamps_at after c ≡ stamps_of (held_by (take_end w c))
  -- ends are those of channels to and from others, with the channels' slots
  pub puts_out : (c : ℕ) (p : PutEnd) → put_end w c ≡ Some p → IsOutOf t w.number c × (slots_of p ≡ (chan_at t.net.now c).slots)
  pub takes_in : (c : ℕ) (e : TakeEnd) → take_end w c ≡ Some e → IsInto t w.number c × (e.slots ≡ (chan_at t.net.now c).slots)
  -- the worker knows its channels to and from others
  pub outs : (c : ℕ) → IsOutOf t w.number c → Contains w.outs.items c
  pub outs_only : All (IsOutOf t w.number) w.outs.items
  pub ins : (c : ℕ) → IsInto t w.number c → Contains w.ins.items c
  pub ins_only : All (IsInto t w.number) w.ins.items
  -- each take was repaid, with a stamp of the log
  pub repaid : (c : ℕ) (e : TakeEnd) → take_end w c ≡ Some e → (credits_repaid e ≡ length (tokens_taken e)) × (repaid_stamp e ≤ w.clock)
  -- where it rests all enabled firings wait for credits
  pub rests : w.resting ≡ true → AllWait t w

-- ---- whole, full

-- each channel to or from another worker has its end, and the worker was not gathered
pub record IsWhole (t : Tables) (w : Worker) : Type 0 where
  pub puts : (c : ℕ) → IsOutOf t w.number c → IsSome (put_end w c)
  pub takes : (c : ℕ) → IsInto t w.number c → IsSome (take_end w c)
  pub not_closed : w.closed ≡ false

abbrev pub IsFull : Worker → Type 0
IsFull w = (w.log.room ≡ 0) ⊎ (w.clock + 1 ≡ 2 ^ 62)

-- no firing of the worker's inner units is enabled in its own units
abbrev pub HasRested : Tables → Worker → Type 0
HasRested t w = IsRested t.net.now (owner_in t) w.number (state_of w.portion.state)

-- ---- the same worker later

abbrev pub SamePut : Option PutEnd → Option PutEnd → Type 0
SamePut None None = Unit {0}
SamePut None (Some q) = ⊥
SamePut (Some p) None = ⊥
SamePut (Some p) (Some q) = SamePutEnd p q × IsPrefix (messages_received p) (messages_received q)

abbrev pub SameTake : Option TakeEnd → Option TakeEnd → Type 0
SameTake None None = Unit {0}
SameTake None (Some q) = ⊥
SameTake (Some p) None = ⊥
SameTake (Some p) (Some q) = SameTakeEnd p q

-- number, share and ends are the same, and the log has grown at its end
pub record SameWorker (a b : Worker) : Type 0 where
  pub number : b.number ≡ a.number
  pub share : b.share ≡ a.share
  pub closed : b.closed ≡ a.closed
  pub log : IsPrefix a.log.items b.log.items
  pub puts : (c : ℕ) → SamePut (put_end a c) (put_end b c)
  pub takes : (c : ℕ) → SameTake (take_end a c) (take_end b c)

-- ---- two workers

-- the ends of both for the channel are the ends of one link
abbrev pub AreLinkedAt : ℕ → Worker → Worker → Type 0
AreLinkedAt c a b = (p : PutEnd) (e : TakeEnd) → put_end a c ≡ Some p → take_end b c ≡ Some e → IsLink p e

abbrev pub IsSoundAt : ℕ → Worker → Worker → Type 0
IsSoundAt c a b = (p : PutEnd) (e : TakeEnd) → put_end a c ≡ Some p → take_end b c ≡ Some e → IsSound p e
