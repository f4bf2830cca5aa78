-- What looking at channels from other workers leaves: tokens that were handed out lie in the worker's state.
use Rattle.std.specs.Prelude.{◌≡◌, ℕ, ◌≤◌, Option, Some, None, IfSome, List, length, get_or, set}
use mathlib.Core.List.{IsPrefix}
use Rattle.el_base.specs.Rises.{Rose}
use Rattle.elastic_link.specs.declared.message.Token.{Token}
use Rattle.elastic_link.specs.declared.put_end.PutEnd.{PutEnd}
use Rattle.elastic_link.specs.declared.take_end.TakeEnd.{TakeEnd}
use Rattle.elastic_link.specs.Ends.{tokens_put, messages_received, SamePutEnd, no_slot_count, no_message_count, tokens_taken, token_held, messages_repaid, credits_repaid, repaid_stamp, SameTakeEnd, SameCredits, no_token_count}
use Rattle.net_worker.specs.Views.{take_end}
use Rattle.net_worker.specs.declared.worker.Worker.{Worker}

-- ---- one end

-- no token was held there, and the ring showed none
abbrev pub NoTokenAt : Option TakeEnd → Option TakeEnd → Type 0
NoTokenAt None q = ⊥
NoTokenAt (Some p) None = ⊥
NoTokenAt (Some p) (Some q) = (token_held p ≡ None) × Rose (no_token_count p) (no_token_count q)

abbrev pub HoldsNone : Option TakeEnd → Type 0
HoldsNone None = Unit {0}
HoldsNone (Some e) = token_held e ≡ None

-- the end of the channel c handed out a token
pub record IsHanded (c : ℕ) (x : Token) (es es' : List (Option TakeEnd)) : Type 0 where
  pub before : TakeEnd
  pub after : TakeEnd
  pub was : get_or es c None ≡ Some before
  pub is : es' ≡ set es c (Some after)
  pub none : token_held before ≡ None
  pub held : token_held after ≡ Some x
  pub taken : tokens_taken after ≡ tokens_taken before
  pub same : SameTakeEnd before after
  pub credits : SameCredits before after
  pub tokens_shown : no_token_count before ≤ no_token_count after

-- no token was taken; one that was held is held
pub record LookedTake (p q : TakeEnd) : Type 0 where
  pub same : SameTakeEnd p q
  pub taken : tokens_taken q ≡ tokens_taken p
  pub messages : messages_repaid q ≡ messages_repaid p
  pub repaid : credits_repaid q ≡ credits_repaid p
  pub stamp : repaid_stamp q ≡ repaid_stamp p
  pub tokens_shown : no_token_count p ≤ no_token_count q
  pub kept : IfSome (token_held p) (λ x. token_held q ≡ Some x)

abbrev pub TakeLooked : Option TakeEnd → Option TakeEnd → Type 0
TakeLooked None None = Unit {0}
TakeLooked None (Some q) = ⊥
TakeLooked (Some p) None = ⊥
TakeLooked (Some p) (Some q) = LookedTake p q

pub record TakesLooked (ps qs : List (Option TakeEnd)) : Type 0 where
  pub long : length qs ≡ length ps
  pub each : (c : ℕ) → TakeLooked (get_or ps c None) (get_or qs c None)

-- no token was put; credits may have come
pub record LookedPut (p q : PutEnd) : Type 0 where
  pub same : SamePutEnd p q
  pub received : IsPrefix (messages_received p) (messages_received q)
  pub put : tokens_put q ≡ tokens_put p
  pub slots_shown : no_slot_count p ≤ no_slot_count q
  pub messages_shown : no_message_count p ≤ no_message_count q

abbrev pub PutLooked : Option PutEnd → Option PutEnd → Type 0
PutLooked None None = Unit {0}
PutLooked None (Some q) = ⊥
PutLooked (Some p) None = ⊥
PutLooked (Some p) (Some q) = LookedPut p q

pub record PutsLooked (ps qs : List (Option PutEnd)) : Type 0 where
  pub long : length qs ≡ length ps
  pub each : (c : ℕ) → PutLooked (get_or ps c None) (get_or qs c None)

-- ---- the worker

-- tokens may have been handed out, and else nothing has changed but ends that were asked
pub record IsLooked (a b : Worker) : Type 0 where
  pub number : b.number ≡ a.number
  pub share : b.share ≡ a.share
  pub log : b.log ≡ a.log
  pub clock : b.clock ≡ a.clock
  pub outs : b.outs ≡ a.outs
  pub ins : b.ins ≡ a.ins
  pub closed : b.closed ≡ a.closed
  pub puts : PutsLooked a.puts.items b.puts.items
  pub takes : TakesLooked a.takes.items b.takes.items

-- where the channel's end holds no token now, it held none before, and its ring showed none
abbrev pub IsSeen : ℕ → Worker → Worker → Type 0
IsSeen c a b = HoldsNone (take_end b c) → NoTokenAt (take_end a c) (take_end b c)
