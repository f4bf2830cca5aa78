-- Ends that were asked: they may have taken in messages, sent what they owed, or shown nothing; no token was put, handed out or taken.
use Rattle.std.specs.Prelude.{◌≡◌, ℕ, ◌≤◌, Option, Some, None, List, length, get_or}
use mathlib.Core.List.{IsPrefix}
use Rattle.elastic_link.specs.declared.put_end.PutEnd.{PutEnd}
use Rattle.elastic_link.specs.declared.take_end.TakeEnd.{TakeEnd}
use Rattle.elastic_link.specs.Ends.{tokens_put, messages_received, tokens_taken, token_held, messages_repaid, credits_repaid, repaid_stamp, SamePutEnd, SameTakeEnd, no_slot_count, no_message_count, no_token_count}
use Rattle.net_worker.specs.Ends.{IsUnspent}
use Rattle.net_worker.specs.Workers.{WaitsStay}
use Rattle.net_worker.specs.declared.worker.Worker.{Worker}

pub record AskedPut (p q : PutEnd) : Type 0 where
  pub same : SamePutEnd p q
  pub received : IsPrefix (messages_received p) (messages_received q)
  pub put : tokens_put q ≡ tokens_put p
  pub slots_shown : no_slot_count p ≤ no_slot_count q
  pub messages_shown : no_message_count p ≤ no_message_count q
  pub hand : IsUnspent p q

abbrev pub PutAsked : Option PutEnd → Option PutEnd → Type 0
PutAsked None None = Unit {0}
PutAsked None (Some q) = ⊥
PutAsked (Some p) None = ⊥
PutAsked (Some p) (Some q) = AskedPut p q

pub record AskedTake (p q : TakeEnd) : Type 0 where
  pub same : SameTakeEnd p q
  pub taken : tokens_taken q ≡ tokens_taken p
  pub held : token_held q ≡ token_held p
  pub messages : messages_repaid q ≡ messages_repaid p
  pub repaid : credits_repaid q ≡ credits_repaid p
  pub stamp : repaid_stamp q ≡ repaid_stamp p
  pub tokens_shown : no_token_count p ≤ no_token_count q

abbrev pub TakeAsked : Option TakeEnd → Option TakeEnd → Type 0
TakeAsked None None = Unit {0}
TakeAsked None (Some q) = ⊥
TakeAsked (Some p) None = ⊥
TakeAsked (Some p) (Some q) = AskedTake p q

-- so of each end of a list
pub record PutsAsked (ps qs : List (Option PutEnd)) : Type 0 where
  pub long : length qs ≡ length ps
  pub each : (c : ℕ) → PutAsked (get_or ps c None) (get_or qs c None)

pub record TakesAsked (ps qs : List (Option TakeEnd)) : Type 0 where
  pub long : length qs ≡ length ps
  pub each : (c : ℕ) → TakeAsked (get_or ps c None) (get_or qs c None)

-- the worker's ends were asked, and else it is the same
pub record IsAsked (a b : Worker) : Type 0 where
  pub number : b.number ≡ a.number
  pub share : b.share ≡ a.share
  pub log : b.log ≡ a.log
  pub clock : b.clock ≡ a.clock
  pub portion : b.portion ≡ a.portion
  pub outs : b.outs ≡ a.outs
  pub ins : b.ins ≡ a.ins
  pub closed : b.closed ≡ a.closed
  pub resting : b.resting ≡ a.resting
  pub waits : WaitsStay a b
  pub puts : PutsAsked a.puts.items b.puts.items
  pub takes : TakesAsked a.takes.items b.takes.items
