-- Ends that were asked, and what that leaves of a worker.
use Rattle.std.proofs.Common.{◌≡◌, ℕ, ◌≤◌, Bool, true, false, Option, Some, None, IsSome, List, [], ◌∷◌, ◌++◌, get_or, refl, ap, ◌∙◌, sym, subst, arith, append-nil, append_assoc}
use mathlib.Core.List.{IsPrefix}
use Rattle.elastic_link.specs.declared.put_end.PutEnd.{PutEnd}
use Rattle.elastic_link.specs.declared.take_end.TakeEnd.{TakeEnd}
use Rattle.elastic_link.specs.declared.message.Credit.{Credit}
use Rattle.elastic_link.specs.Credits.{newest_stamp}
use Rattle.elastic_link.specs.Ends.{SamePutEnd, SameTakeEnd, messages_received, no_slot_count}
use Rattle.net_worker.specs.Asking.{PutAsked, TakeAsked, PutsAsked, TakesAsked, IsAsked}
use Rattle.net_worker.specs.Ends.{IsUnspent}
use Rattle.net_worker.specs.Ends as ends
use Rattle.net_worker.specs.Fires.{PutStep, TakeStep}
use Rattle.net_worker.specs.Keeps.{IsKept}
use Rattle.net_worker.specs.Workers.{IsMadeOf, put_end, take_end, held_by}
use Rattle.net_worker.specs.declared.tables.Tables.{Tables}
use Rattle.net_worker.specs.declared.worker.Worker.{Worker}
use Rattle.net_worker.proofs.Keeping.{made_keeps}

pub prefix_self : {X : Type 0} (xs : List X) → IsPrefix xs xs
prefix_self xs = ([], append-nil xs)

pub prefix_trans : {X : Type 0} (xs ys zs : List X) → IsPrefix xs ys → IsPrefix ys zs → IsPrefix xs zs
prefix_trans xs ys zs (r, p) (q, k) = (r ++ q, sym (append_assoc xs r q) ∙ (ap (λ l. l ++ q) p ∙ k))

pub none_some : (X : Type 0) → IsSome {T = X} None → ⊥
none_some X h = cc

-- ---- one end

pub same_put : (p : PutEnd) → SamePutEnd p p
same_put p = record { tokens = ((refl, refl, refl, refl), refl); credits = ((refl, refl, refl, refl), refl); slots = refl }

pub same_put_trans : (p q r : PutEnd) → SamePutEnd p q → SamePutEnd q r → SamePutEnd p r
same_put_trans p q r h k = record {
  tokens = ((k.tokens.0.0 ∙ h.tokens.0.0, k.tokens.0.1 ∙ h.tokens.0.1, k.tokens.0.2 ∙ h.tokens.0.2, k.tokens.0.3 ∙ h.tokens.0.3), k.tokens.1 ∙ h.tokens.1);
  credits = ((k.credits.0.0 ∙ h.credits.0.0, k.credits.0.1 ∙ h.credits.0.1, k.credits.0.2 ∙ h.credits.0.2, k.credits.0.3 ∙ h.credits.0.3), k.credits.1 ∙ h.credits.1);
  slots = k.slots ∙ h.slots;
}

pub same_take : (p : TakeEnd) → SameTakeEnd p p
same_take p = record { tokens = ((refl, refl, refl, refl), refl); credits = ((refl, refl, refl, refl), refl); slots = refl }

pub same_take_trans : (p q r : TakeEnd) → SameTakeEnd p q → SameTakeEnd q r → SameTakeEnd p r
same_take_trans p q r h k = record {
  tokens = ((k.tokens.0.0 ∙ h.tokens.0.0, k.tokens.0.1 ∙ h.tokens.0.1, k.tokens.0.2 ∙ h.tokens.0.2, k.tokens.0.3 ∙ h.tokens.0.3), k.tokens.1 ∙ h.tokens.1);
  credits = ((k.credits.0.0 ∙ h.credits.0.0, k.credits.0.1 ∙ h.credits.0.1, k.credits.0.2 ∙ h.credits.0.2, k.credits.0.3 ∙ h.credits.0.3), k.credits.1 ∙ h.credits.1);
  slots = k.slots ∙ h.slots;
}

newest_grows : (ms ns : List Credit) → newest_stamp ms ≤ newest_stamp (ms ++ ns)
newest_grows [] ns = omega arith
newest_grows (m ∷ ms) ns = (let r = newest_grows ms ns in omega arith)

newest_later : (ms ns : List Credit) → IsPrefix ms ns → newest_stamp ms ≤ newest_stamp ns
newest_later ms ns (rest, is) = subst (λ l. newest_stamp ms ≤ newest_stamp l) is (newest_grows ms rest)

unspent_then : (p q r : PutEnd) → no_slot_count p ≤ no_slot_count q → IsPrefix (messages_received q) (messages_received r) → no_slot_count q ≤ no_slot_count r → IsUnspent p q → IsUnspent q r → IsUnspent p r
unspent_then p q r a b c h (ends.spent z) = ends.spent z
unspent_then p q r a b c h (ends.slotless z) = ends.slotless (omega arith)
unspent_then p q r a b c h (ends.stampless z) = ends.stampless z
unspent_then p q r a b c (ends.as_before y) (ends.as_before z) = ends.as_before (z ∙ y)
unspent_then p q r a b c (ends.spent y) (ends.as_before z) = ends.spent (z ∙ y)
unspent_then p q r a b c (ends.slotless y) (ends.as_before z) = ends.slotless (omega arith)
unspent_then p q r a b c (ends.stampless y) (ends.as_before z) = ends.stampless (let n = newest_later (messages_received q) (messages_received r) b in omega arith)

pub put_asked_self : (o : Option PutEnd) → PutAsked o o
put_asked_self None = tt
put_asked_self (Some p) = record { same = same_put p; received = prefix_self _; put = refl; slots_shown = omega arith; messages_shown = omega arith; hand = ends.as_before refl }

pub put_asked_trans : (o q r : Option PutEnd) → PutAsked o q → PutAsked q r → PutAsked o r
put_asked_trans None None r h k = k
put_asked_trans None (Some q) r h k = absurd h
put_asked_trans (Some p) None r h k = absurd h
put_asked_trans (Some p) (Some q) None h k = absurd k
put_asked_trans (Some p) (Some q) (Some r) h k = record {
  same = same_put_trans p q r h.same k.same;
  received = prefix_trans _ _ _ h.received k.received;
  put = k.put ∙ h.put;
  slots_shown = omega (arith, h.slots_shown, k.slots_shown);
  messages_shown = omega (arith, h.messages_shown, k.messages_shown);
  hand = unspent_then p q r h.slots_shown k.received k.slots_shown h.hand k.hand;
}

pub take_asked_self : (o : Option TakeEnd) → TakeAsked o o
take_asked_self None = tt
take_asked_self (Some p) = record { same = same_take p; taken = refl; held = refl; messages = refl; repaid = refl; stamp = refl; tokens_shown = omega arith }

pub take_asked_trans : (o q r : Option TakeEnd) → TakeAsked o q → TakeAsked q r → TakeAsked o r
take_asked_trans None None r h k = k
take_asked_trans None (Some q) r h k = absurd h
take_asked_trans (Some p) None r h k = absurd h
take_asked_trans (Some p) (Some q) None h k = absurd k
take_asked_trans (Some p) (Some q) (Some r) h k = record {
  same = same_take_trans p q r h.same k.same;
  taken = k.taken ∙ h.taken;
  held = k.held ∙ h.held;
  messages = k.messages ∙ h.messages;
  repaid = k.repaid ∙ h.repaid;
  stamp = k.stamp ∙ h.stamp;
  tokens_shown = omega (arith, h.tokens_shown, k.tokens_shown);
}

-- ---- lists of ends

pub puts_asked_self : (ps : List (Option PutEnd)) → PutsAsked ps ps
puts_asked_self ps = record { long = refl; each = λ c. put_asked_self (get_or ps c None) }

pub puts_asked_trans : (ps qs rs : List (Option PutEnd)) → PutsAsked ps qs → PutsAsked qs rs → PutsAsked ps rs
puts_asked_trans ps qs rs h k = record { long = k.long ∙ h.long; each = λ c. put_asked_trans (get_or ps c None) (get_or qs c None) (get_or rs c None) (h.each c) (k.each c) }

pub takes_asked_self : (ps : List (Option TakeEnd)) → TakesAsked ps ps
takes_asked_self ps = record { long = refl; each = λ c. take_asked_self (get_or ps c None) }

pub takes_asked_trans : (ps qs rs : List (Option TakeEnd)) → TakesAsked ps qs → TakesAsked qs rs → TakesAsked ps rs
takes_asked_trans ps qs rs h k = record { long = k.long ∙ h.long; each = λ c. take_asked_trans (get_or ps c None) (get_or qs c None) (get_or rs c None) (h.each c) (k.each c) }

-- ---- workers

pub asked_self : (a : Worker) → IsAsked a a
asked_self a = record {
  number = refl;
  share = refl;
  log = refl;
  clock = refl;
  portion = refl;
  outs = refl;
  ins = refl;
  closed = refl;
  resting = refl;
  waits = λ _ h. h;
  puts = puts_asked_self a.puts.items;
  takes = takes_asked_self a.takes.items;
}

pub asked_trans : (a b c : Worker) → IsAsked a b → IsAsked b c → IsAsked a c
asked_trans a b c h k = record {
  number = k.number ∙ h.number;
  share = k.share ∙ h.share;
  log = k.log ∙ h.log;
  clock = k.clock ∙ h.clock;
  portion = k.portion ∙ h.portion;
  outs = k.outs ∙ h.outs;
  ins = k.ins ∙ h.ins;
  closed = k.closed ∙ h.closed;
  resting = k.resting ∙ h.resting;
  waits = λ d w. k.waits d (h.waits d w);
  puts = puts_asked_trans a.puts.items b.puts.items c.puts.items h.puts k.puts;
  takes = takes_asked_trans a.takes.items b.takes.items c.takes.items h.takes k.takes;
}

-- nothing is put or taken
pub put_asked_step : (n : ℕ) (o q : Option PutEnd) → PutAsked o q → PutStep n None o q
put_asked_step n None None h = tt
put_asked_step n None (Some q) h = h
put_asked_step n (Some p) None h = h
put_asked_step n (Some p) (Some q) h = record { same = h.same; received = h.received; put = h.put ∙ sym (append-nil _); newer = λ v z. absurd (cc); room = λ v z. absurd (cc) }

pub take_asked_step : (n : ℕ) (o q : Option TakeEnd) → TakeAsked o q → TakeStep false n o q
take_asked_step n None None h = tt
take_asked_step n None (Some q) h = h
take_asked_step n (Some p) None h = h
take_asked_step n (Some p) (Some q) h = record { same = h.same; taken = h.taken; held = h.held; messages = h.messages; repaid = h.repaid; stamp = h.stamp }

-- a firing after its ends were asked
pub take_step_later : (g : Bool) (n : ℕ) (o q r : Option TakeEnd) → TakeAsked o q → TakeStep g n q r → TakeStep g n o r
take_step_later g n None None r h k = k
take_step_later g n None (Some q) r h k = absurd h
take_step_later g n (Some p) None r h k = absurd h
take_step_later g n (Some p) (Some q) None h k = absurd k
take_step_later true n (Some p) (Some q) (Some r) h k = record {
  same = same_take_trans p q r h.same k.same;
  token = k.token;
  was = sym h.held ∙ k.was;
  taken = k.taken ∙ ap (λ l. l ++ k.token ∷ []) h.taken;
  held = k.held;
  messages = record { sent = k.messages.sent; owed = k.messages.owed; last = k.messages.last; was = sym h.messages ∙ k.messages.was; is = k.messages.is };
  repaid = k.repaid;
  stamp = k.stamp;
}
take_step_later false n (Some p) (Some q) (Some r) h k = record {
  same = same_take_trans p q r h.same k.same;
  taken = k.taken ∙ h.taken;
  held = k.held ∙ h.held;
  messages = k.messages ∙ h.messages;
  repaid = k.repaid ∙ h.repaid;
  stamp = k.stamp ∙ h.stamp;
}

pub held_asked : (o q : Option TakeEnd) → TakeAsked o q → held_by q ≡ held_by o
held_asked None None h = refl
held_asked None (Some q) h = absurd h
held_asked (Some p) None h = absurd h
held_asked (Some p) (Some q) h = ap Rattle.elastic_link.specs.Held.tokens_of h.held

pub asked_keeps : (t : Tables) (a b : Worker) → IsAsked a b → IsKept t a b
asked_keeps t a b h = record {
  number = h.number;
  share = h.share;
  log = h.log;
  clock = h.clock;
  portion = h.portion;
  ends = h.puts.long;
  ends_too = h.takes.long;
  outs = h.outs;
  ins = h.ins;
  closed = h.closed;
  rests = λ r. (sym h.resting ∙ r, h.waits);
  puts = λ c. put_asked_step 0 (put_end a c) (put_end b c) (h.puts.each c);
  takes = λ c. take_asked_step 0 (take_end a c) (take_end b c) (h.takes.each c);
}

pub asked_made : (t : Tables) (a b : Worker) → IsMadeOf t a → IsAsked a b → IsMadeOf t b
asked_made t a b m h = made_keeps t a b m (asked_keeps t a b h)

-- two steps, the later one first
pub asked_back : (a m w b : Worker) → IsAsked w b → IsAsked m w → IsAsked a m → IsAsked a b
asked_back a m w b k h g = asked_trans a m b g (asked_trans m w b h k)
