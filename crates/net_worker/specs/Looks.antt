-- A token that is handed to a worker and laid into its state.
use Rattle.std.specs.Prelude.{◌≡◌, ℕ, false, Some, None, set}
use Rattle.elastic_link.specs.declared.message.Token.{Token}
use Rattle.elastic_link.specs.declared.take_end.TakeEnd.{TakeEnd}
use Rattle.elastic_link.specs.Ends.{tokens_taken, token_held, SameTakeEnd, SameCredits}
use Rattle.net_core.specs.Held.{put_at_end}
use Rattle.net_core.specs.States.{IsOf, state_of, with_tokens}
use Rattle.net_worker.specs.Portions.{SameHere}
use Rattle.net_worker.specs.Workers.{IsInto, IsMadeOf, take_end}
use Rattle.net_worker.specs.declared.tables.Tables.{Tables}
use Rattle.net_worker.specs.declared.worker.Worker.{Worker}

-- nothing but the state and one take end has changed
pub record IsLaid (t : Tables) (a b : Worker) (c : ℕ) (e e' : TakeEnd) (x : Token) : Type 0 where
  pub into : IsInto t a.number c
  pub old : take_end a c ≡ Some e
  pub none : token_held e ≡ None
  pub taken : tokens_taken e' ≡ tokens_taken e
  pub held : token_held e' ≡ Some x
  pub same : SameTakeEnd e e'
  pub credits : SameCredits e e'
  pub takes : b.takes.items ≡ set a.takes.items c (Some e')
  pub number : b.number ≡ a.number
  pub share : b.share ≡ a.share
  pub log : b.log ≡ a.log
  pub clock : b.clock ≡ a.clock
  pub puts : b.puts.items ≡ a.puts.items
  pub outs : b.outs ≡ a.outs
  pub ins : b.ins ≡ a.ins
  pub closed : b.closed ≡ a.closed
  pub resting : b.resting ≡ false
  pub of : IsOf t.net.now b.portion.state
  pub here : SameHere a.portion b.portion
  pub state : state_of b.portion.state ≡ with_tokens (put_at_end c x.value (state_of a.portion.state).tokens) (state_of a.portion.state)

abbrev pub MadeLooks : Type 0
MadeLooks = (t : Tables) (a b : Worker) (c : ℕ) (e e' : TakeEnd) (x : Token) → IsMadeOf t a → IsLaid t a b c e e' x → IsMadeOf t b
