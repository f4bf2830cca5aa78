-- A firing that a worker made.
use Rattle.std.specs.Prelude.{◌≡◌, ℕ, ◌+◌, ◌<◌, Bool, true, false, Option, Some, None, [], ◌∷◌, ◌++◌, length}
use mathlib.Core.List.{IsPrefix}
use Rattle.el_base.specs.Limits.{max_depth}
use Rattle.elastic_link.specs.declared.message.Token.{Token}
use Rattle.elastic_link.specs.declared.put_end.PutEnd.{PutEnd}
use Rattle.elastic_link.specs.declared.take_end.TakeEnd.{TakeEnd}
use Rattle.elastic_link.specs.Credits.{newest_stamp, credits_in}
use Rattle.elastic_link.specs.Ends.{tokens_put, messages_received, slots_of, tokens_taken, token_held, messages_repaid, credits_repaid, repaid_stamp, SamePutEnd, SameTakeEnd}
use Rattle.net_types.specs.declared.firing.Firing.{Firing}
use Rattle.net_core.specs.Fire.{Effect, takes_from, puts_on}
use Rattle.net_core.specs.States.{IsOf, CountsRise, state_of}
use Rattle.net_worker.specs.Locally.{token_put, Repays}
use Rattle.net_worker.specs.Mays.{MayBeMade}
use Rattle.net_worker.specs.Portions.{SameHere}
use Rattle.net_worker.specs.Sights.{IsMadeHere}
use Rattle.net_worker.specs.Workers.{owner_in, IsWhole, IsMadeOf, put_end, take_end}
use Rattle.net_worker.specs.declared.tables.Tables.{Tables}
use Rattle.net_worker.specs.declared.worker.Worker.{Worker}

-- this token is put, or none, with the stamp n
pub record Puts (n : ℕ) (o : Option ℕ) (p q : PutEnd) : Type 0 where
  pub same : SamePutEnd p q
  pub received : IsPrefix (messages_received p) (messages_received q)
  pub put : tokens_put q ≡ tokens_put p ++ token_put o n
  pub newer : (v : ℕ) → o ≡ Some v → newest_stamp (messages_received q) < n
  pub room : (v : ℕ) → o ≡ Some v → length (tokens_put p) < slots_of p + credits_in (messages_received q)

abbrev pub PutStep : ℕ → Option ℕ → Option PutEnd → Option PutEnd → Type 0
PutStep n o None None = Unit {0}
PutStep n o None (Some q) = ⊥
PutStep n o (Some p) None = ⊥
PutStep n o (Some p) (Some q) = Puts n o p q

-- nothing is taken
pub record Keeps (e e' : TakeEnd) : Type 0 where
  pub same : SameTakeEnd e e'
  pub taken : tokens_taken e' ≡ tokens_taken e
  pub held : token_held e' ≡ token_held e
  pub messages : messages_repaid e' ≡ messages_repaid e
  pub repaid : credits_repaid e' ≡ credits_repaid e
  pub stamp : repaid_stamp e' ≡ repaid_stamp e

-- the token held is taken and repaid with the stamp n
pub record Takes (n : ℕ) (e e' : TakeEnd) : Type 0 where
  pub same : SameTakeEnd e e'
  pub token : Token
  pub was : token_held e ≡ Some token
  pub taken : tokens_taken e' ≡ tokens_taken e ++ token ∷ []
  pub held : token_held e' ≡ None
  pub messages : Repays n (messages_repaid e) (messages_repaid e')
  pub repaid : credits_repaid e' ≡ length (tokens_taken e')
  pub stamp : repaid_stamp e' ≡ n

abbrev pub TakesIf : Bool → ℕ → TakeEnd → TakeEnd → Type 0
TakesIf true n e e' = Takes n e e'
TakesIf false n e e' = Keeps e e'

abbrev pub TakeStep : Bool → ℕ → Option TakeEnd → Option TakeEnd → Type 0
TakeStep g n None None = Unit {0}
TakeStep g n None (Some q) = ⊥
TakeStep g n (Some p) None = ⊥
TakeStep g n (Some p) (Some q) = TakesIf g n p q

pub record IsFired (t : Tables) (a b : Worker) (f : Firing) (x : Effect) (n : ℕ) : Type 0 where
  pub may : MayBeMade t a f x n
  pub number : b.number ≡ a.number
  pub share : b.share ≡ a.share
  pub items : b.log.items ≡ a.log.items ++ (record { stamp = n; firing = f }) ∷ []
  pub log_room : b.log.room + 1 ≡ a.log.room
  pub clock : b.clock ≡ n
  pub of : IsOf t.net.now b.portion.state
  pub counts : CountsRise max_depth (state_of a.portion.state) (state_of b.portion.state)
  pub here : SameHere a.portion b.portion
  pub state : IsMadeHere t.net.now (owner_in t) a.number f.unit x (state_of a.portion.state) (state_of b.portion.state)
  pub ends : length b.puts.items ≡ length a.puts.items
  pub ends_too : length b.takes.items ≡ length a.takes.items
  pub outs : b.outs ≡ a.outs
  pub ins : b.ins ≡ a.ins
  pub closed : b.closed ≡ a.closed
  pub resting : b.resting ≡ false
  pub puts : (c : ℕ) → PutStep n (puts_on t.net.now f.unit x.put c) (put_end a c) (put_end b c)
  pub takes : (c : ℕ) → TakeStep (takes_from t.net.now f.unit x c) n (take_end a c) (take_end b c)

abbrev pub MadeFires : Type 0
MadeFires = (t : Tables) (a b : Worker) (f : Firing) (x : Effect) (n : ℕ) → IsMadeOf t a → IsWhole t a → IsFired t a b f x n → IsMadeOf t b
