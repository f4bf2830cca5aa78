-- What a contract sees of the two ends of a link.
use Rattle.std.specs.Prelude.{◌≡◌, ℕ, ◌+◌, ◌≤◌, true, ◌⊎◌, List, [], ◌++◌, length, Option, None}
use mathlib.Core.List.{IsPrefix}
use Rattle.elastic_link.specs.declared.message.Token.{Token}
use Rattle.elastic_link.specs.declared.message.Credit.{Credit}
use Rattle.elastic_link.specs.declared.put_end.PutEnd.{PutEnd}
use Rattle.elastic_link.specs.declared.take_end.TakeEnd.{TakeEnd}
use Rattle.el_base.specs.Rises.{Rose}
use Rattle.elastic_link.specs.Rings.{room_out, items_out, items_in, items_known, full_count, empty_count, SameOut, SameIn, IsRing}
use Rattle.elastic_link.specs.Held.{without_held, tokens_of}
use Rattle.elastic_link.specs.Credits.{credits_in, owed_message, never_falls}

-- ---- the end that puts

-- the tokens put so far, oldest first
abbrev pub tokens_put : PutEnd → List Token
tokens_put p = items_out p.tokens

-- the credit messages received so far, oldest first
abbrev pub messages_received : PutEnd → List Credit
messages_received p = items_in p.credits

abbrev pub credits_in_hand : PutEnd → ℕ
credits_in_hand p = p.in_hand

abbrev pub slots_of : PutEnd → ℕ
slots_of p = p.slots

-- how often the ring of tokens showed no free slot
abbrev pub no_slot_count : PutEnd → ℕ
no_slot_count p = full_count p.tokens

-- how often the ring of credits showed no message
abbrev pub no_message_count : PutEnd → ℕ
no_message_count p = empty_count p.credits

-- how many free slots the ring of tokens is known to have
abbrev pub token_room : PutEnd → ℕ
token_room p = room_out p.tokens

-- the put end of the same link
pub record SamePutEnd (a b : PutEnd) : Type 0 where
  pub tokens : SameOut a.tokens b.tokens
  pub credits : SameIn a.credits b.credits
  pub slots : slots_of b ≡ slots_of a

-- the same, with its tokens, messages and credits
pub record KeptPutEnd (a b : PutEnd) : Type 0 where
  pub same : SamePutEnd a b
  pub put : tokens_put b ≡ tokens_put a
  pub received : messages_received b ≡ messages_received a
  pub in_hand : credits_in_hand b ≡ credits_in_hand a
  pub slots_shown : no_slot_count b ≡ no_slot_count a
  pub messages_shown : no_message_count b ≡ no_message_count a

-- nothing was put or received, and there is a credit for each slot
pub record IsNewPut (n : ℕ) (p : PutEnd) : Type 0 where
  pub put : tokens_put p ≡ []
  pub received : messages_received p ≡ []
  pub in_hand : credits_in_hand p ≡ n
  pub slots : slots_of p ≡ n

-- ---- the end that takes

-- the token that was peeked and not taken
abbrev pub token_held : TakeEnd → Option Token
token_held t = t.held

-- the tokens that the ring is known to have, oldest first
abbrev pub tokens_known : TakeEnd → List Token
tokens_known t = items_known t.tokens

-- the tokens taken so far, oldest first
abbrev pub tokens_taken : TakeEnd → List Token
tokens_taken t = without_held t.held (items_in t.tokens)

-- the credit messages sent so far, oldest first
abbrev pub messages_sent : TakeEnd → List Credit
messages_sent t = items_out t.credits

abbrev pub credits_owed : TakeEnd → ℕ
credits_owed t = t.owed

-- the stamp of the credit that was repaid last, and 0 before the first
abbrev pub repaid_stamp : TakeEnd → ℕ
repaid_stamp t = t.newest

abbrev pub credits_repaid : TakeEnd → ℕ
credits_repaid t = credits_in (messages_sent t) + t.owed

-- the messages sent, and then the one that stands for the credits owed
abbrev pub messages_repaid : TakeEnd → List Credit
messages_repaid t = messages_sent t ++ owed_message t.owed t.newest

-- how often the ring of tokens showed no token
abbrev pub no_token_count : TakeEnd → ℕ
no_token_count t = empty_count t.tokens

-- how often the ring of credits showed no free slot
abbrev pub no_credit_slot_count : TakeEnd → ℕ
no_credit_slot_count t = full_count t.credits

-- how many free slots the ring of credits is known to have
abbrev pub credit_room : TakeEnd → ℕ
credit_room t = room_out t.credits

-- the take end of the same link
pub record SameTakeEnd (a b : TakeEnd) : Type 0 where
  pub tokens : SameIn a.tokens b.tokens
  pub credits : SameOut a.credits b.credits
  pub slots : b.slots ≡ a.slots

-- the tokens taken and the token held are the same
abbrev pub SameTokens : TakeEnd → TakeEnd → Type 0
SameTokens a b = (tokens_taken b ≡ tokens_taken a) × (token_held b ≡ token_held a) × (no_token_count b ≡ no_token_count a)

-- the credits sent and owed are the same
abbrev pub SameCredits : TakeEnd → TakeEnd → Type 0
SameCredits a b = (messages_sent b ≡ messages_sent a) × (credits_owed b ≡ credits_owed a) × (repaid_stamp b ≡ repaid_stamp a) × (no_credit_slot_count b ≡ no_credit_slot_count a)

-- nothing is owed, or as much as before and the ring of credits showed no free slot
abbrev pub SentOrFull : ℕ → TakeEnd → TakeEnd → Type 0
SentOrFull owed a b = (credits_owed b ≡ 0) ⊎ ((credits_owed b ≡ owed) × Rose (no_credit_slot_count a) (no_credit_slot_count b))

-- the same, with its tokens, messages and credits
pub record KeptTakeEnd (a b : TakeEnd) : Type 0 where
  pub same : SameTakeEnd a b
  pub tokens : SameTokens a b
  pub credits : SameCredits a b

-- nothing was taken, is held or was repaid
pub record IsNewTake (t : TakeEnd) : Type 0 where
  pub taken : tokens_taken t ≡ []
  pub held : token_held t ≡ None
  pub sent : messages_sent t ≡ []
  pub owed : credits_owed t ≡ 0
  pub stamp : repaid_stamp t ≡ 0

-- ---- both

-- the two ends of one link
abbrev pub IsLink : PutEnd → TakeEnd → Type 0
IsLink p t = IsRing p.tokens t.tokens × IsRing t.credits p.credits × (t.slots ≡ p.slots)

-- The link is sound: the tokens taken, with the one that is held, are the first ones put; the messages received are the first
-- ones sent; no more was repaid than taken; no more is on the way than there are slots; and stamps of credits never fall.
pub record IsSound (p : PutEnd) (t : TakeEnd) : Type 0 where
  pub tokens_in_order : IsPrefix (tokens_taken t ++ tokens_of (token_held t)) (tokens_put p)
  pub messages_in_order : IsPrefix (messages_received p) (messages_sent t)
  pub repaid_were_taken : credits_repaid t ≤ length (tokens_taken t)
  pub room : length (tokens_put p) ≤ slots_of p + credits_in (messages_received p)
  pub stamps_never_fall : never_falls 0 (messages_sent t) (repaid_stamp t) ≡ true
