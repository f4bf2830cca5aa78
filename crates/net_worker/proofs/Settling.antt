-- Two workers whose link was settled, and what keeps a link sound.
use Rattle.std.proofs.Common.{rules, ◌≡◌, ◌⊎◌, inl, inr, ℕ, ◌<◌, ◌≤◌, Option, Some, None, IsSome, List, [], ◌++◌, length, get_or, set, refl, ap, ◌∙◌, sym, subst, arith, append-nil, false}
use Rattle.std.proofs.lemmas.Bool.{cases_eq, cases_lt}
use Rattle.std.proofs.lemmas.Grind.{get_or-set_at}
use Rattle.std.proofs.lemmas.List.{get_or-set_other, get_or_past}
use Rattle.std.proofs.Math.ListN.{length-set}
use mathlib.Core.List.{IsPrefix}
use Rattle.elastic_link.specs.declared.put_end.PutEnd.{PutEnd}
use Rattle.elastic_link.specs.declared.take_end.TakeEnd.{TakeEnd}
use Rattle.elastic_link.specs.Held.{tokens_of}
use Rattle.elastic_link.specs.Credits.{credits_in, never_falls}
use Rattle.elastic_link.specs.Ends.{SamePutEnd, SameTakeEnd, KeptPutEnd, KeptTakeEnd, IsSound, IsLink, tokens_put, messages_received, messages_sent, repaid_stamp, tokens_taken, token_held}
use Rattle.net_worker.specs.Fires.{Puts, PutStep, Keeps, TakeStep}
use Rattle.net_worker.specs.Keeps.{IsKept}
use Rattle.net_worker.specs.Settles.{KeptPut, KeptTake, IsKeptWith}
use Rattle.net_worker.specs.Views.{put_end, take_end}
use Rattle.net_worker.specs.Workers.{IsSoundAt, AreLinkedAt}
use Rattle.net_worker.specs.declared.tables.Tables.{Tables}
use Rattle.net_worker.specs.declared.worker.Worker.{Worker}
use Rattle.net_worker.proofs.Keeping.{made_keeps}

-- ---- ends

pub same_put : (p : PutEnd) → SamePutEnd p p
same_put p = record { tokens = search rules; credits = search rules; slots = refl }

pub same_take : (e : TakeEnd) → SameTakeEnd e e
same_take e = record { tokens = search rules; credits = search rules; slots = refl }

put_kept : (p : PutEnd) → KeptPutEnd p p
put_kept p = record { same = same_put p; put = refl; received = refl; in_hand = refl; slots_shown = refl; messages_shown = refl }

take_kept : (e : TakeEnd) → KeptTakeEnd e e
take_kept e = record { same = same_take e; tokens = (refl, refl, refl); credits = (refl, refl, refl, refl) }

pub same_put_then : (p q r : PutEnd) → SamePutEnd p q → SamePutEnd q r → SamePutEnd p r
same_put_then p q r a b = record { tokens = search (a, b); credits = search (a, b); slots = b.slots ∙ a.slots }

pub same_take_then : (p q r : TakeEnd) → SameTakeEnd p q → SameTakeEnd q r → SameTakeEnd p r
same_take_then p q r a b = record { tokens = search (a, b); credits = search (a, b); slots = b.slots ∙ a.slots }

put_kept_then : (p q r : PutEnd) → KeptPutEnd p q → KeptPutEnd q r → KeptPutEnd p r
put_kept_then p q r a b = record {
  same = same_put_then p q r a.same b.same;
  put = b.put ∙ a.put;
  received = b.received ∙ a.received;
  in_hand = b.in_hand ∙ a.in_hand;
  slots_shown = b.slots_shown ∙ a.slots_shown;
  messages_shown = b.messages_shown ∙ a.messages_shown;
}

take_kept_then : (p q r : TakeEnd) → KeptTakeEnd p q → KeptTakeEnd q r → KeptTakeEnd p r
take_kept_then p q r a b = record {
  same = same_take_then p q r a.same b.same;
  tokens = (b.tokens.0 ∙ a.tokens.0, b.tokens.1 ∙ a.tokens.1, b.tokens.2 ∙ a.tokens.2);
  credits = (b.credits.0 ∙ a.credits.0, b.credits.1 ∙ a.credits.1, b.credits.2 ∙ a.credits.2, b.credits.3 ∙ a.credits.3);
}

-- ---- ends, or none

kept_put_same : (o : Option PutEnd) → KeptPut o o
kept_put_same None = tt
kept_put_same (Some p) = put_kept p

kept_take_same : (o : Option TakeEnd) → KeptTake o o
kept_take_same None = tt
kept_take_same (Some e) = take_kept e

kept_put_then : (o p q : Option PutEnd) → KeptPut o p → KeptPut p q → KeptPut o q
kept_put_then None None q a b = b
kept_put_then None (Some y) q a b = absurd a
kept_put_then (Some x) None q a b = absurd a
kept_put_then (Some x) (Some y) None a b = absurd b
kept_put_then (Some x) (Some y) (Some z) a b = put_kept_then x y z a b

kept_take_then : (o p q : Option TakeEnd) → KeptTake o p → KeptTake p q → KeptTake o q
kept_take_then None None q a b = b
kept_take_then None (Some y) q a b = absurd a
kept_take_then (Some x) None q a b = absurd a
kept_take_then (Some x) (Some y) None a b = absurd b
kept_take_then (Some x) (Some y) (Some z) a b = take_kept_then x y z a b

pub kept_with_same : (a : Worker) → IsKeptWith a a
kept_with_same a = record {
  work = record { number = refl; share = refl; log = refl; room = refl; clock = refl; state = refl };
  closed = refl;
  made = λ t m. m;
  puts = λ c. kept_put_same (put_end a c);
  takes = λ c. kept_take_same (take_end a c);
}

pub kept_with_then : (a b c : Worker) → IsKeptWith a b → IsKeptWith b c → IsKeptWith a c
kept_with_then a b c k l = record {
  work = record {
    number = l.work.number ∙ k.work.number;
    share = l.work.share ∙ k.work.share;
    log = l.work.log ∙ k.work.log;
    room = l.work.room ∙ k.work.room;
    clock = l.work.clock ∙ k.work.clock;
    state = l.work.state ∙ k.work.state;
  };
  closed = l.closed ∙ k.closed;
  made = λ t m. l.made t (k.made t m);
  puts = λ x. kept_put_then (put_end a x) (put_end b x) (put_end c x) (k.puts x) (l.puts x);
  takes = λ x. kept_take_then (take_end a x) (take_end b x) (take_end c x) (k.takes x) (l.takes x);
}

-- ---- links

-- the end before
pub put_was : (o : Option PutEnd) (q : PutEnd) → KeptPut o (Some q) → (p : PutEnd) × (o ≡ Some p) × KeptPutEnd p q
put_was None q k = absurd k
put_was (Some p) q k = (p, refl, k)

pub take_was : (o : Option TakeEnd) (e : TakeEnd) → KeptTake o (Some e) → (d : TakeEnd) × (o ≡ Some d) × KeptTakeEnd d e
take_was None e k = absurd k
take_was (Some d) e k = (d, refl, k)

prefix_cast : {X : Type 0} (xs ys xs' ys' : List X) → xs' ≡ xs → ys' ≡ ys → IsPrefix xs ys → IsPrefix xs' ys'
prefix_cast xs ys xs' ys' p q h = subst (λ l. IsPrefix l ys') (sym p) (subst (IsPrefix xs) (sym q) h)

sound_ends : (p q : PutEnd) (d e : TakeEnd) → IsSound p d → KeptPutEnd p q → KeptTakeEnd d e → IsSound q e
sound_ends p q d e s k l =
    let put = k.put in
    let received = k.received in
    let slots = k.same.slots in
    let taken = l.tokens.0 in
    let held = l.tokens.1 in
    let sent = l.credits.0 in
    let owed = l.credits.1 in
    let stamp = l.credits.2 in
    record {
      tokens_in_order = prefix_cast _ _ _ _ (ap (λ l. l ++ tokens_of (token_held e)) taken ∙ ap (λ h. tokens_taken d ++ tokens_of h) held) put s.tokens_in_order;
      messages_in_order = prefix_cast _ _ _ _ received sent s.messages_in_order;
      repaid_were_taken = omega (arith, s.repaid_were_taken, ap credits_in sent, owed, ap length taken);
      room = omega (arith, s.room, ap length put, slots, ap credits_in received);
      stamps_never_fall = ap (λ l. never_falls 0 l (repaid_stamp e)) sent ∙ (ap (never_falls 0 (messages_sent d)) stamp ∙ s.stamps_never_fall);
    }

-- a link stays sound while nothing of its workers moves
pub sound_kept : (c : ℕ) (a b x y : Worker) → IsSoundAt c a b → IsKeptWith a x → IsKeptWith b y → IsSoundAt c x y
sound_kept c a b x y s k l q e is_put is_take =
    let p = put_was (put_end a c) q (subst (KeptPut (put_end a c)) is_put (k.puts c)) in
    let d = take_was (take_end b c) e (subst (KeptTake (take_end b c)) is_take (l.takes c)) in
    sound_ends p.0 q d.0 e (s p.0 d.0 p.1 d.1) p.2 d.2

pub link_ends : (p q : PutEnd) (d e : TakeEnd) → IsLink p d → SamePutEnd p q → SameTakeEnd d e → IsLink q e
link_ends p q d e h a b = search (rules, h, a, b)

-- the ends of one link stay so
pub linked_kept : (c : ℕ) (a b x y : Worker) → AreLinkedAt c a b → IsKeptWith a x → IsKeptWith b y → AreLinkedAt c x y
linked_kept c a b x y s k l q e is_put is_take =
    let p = put_was (put_end a c) q (subst (KeptPut (put_end a c)) is_put (k.puts c)) in
    let d = take_was (take_end b c) e (subst (KeptTake (take_end b c)) is_take (l.takes c)) in
    link_ends p.0 q d.0 e (s p.0 d.0 p.1 d.1) p.2.same d.2.same

some_kept_put : (o q : Option PutEnd) → KeptPut o q → IsSome o → IsSome q
some_kept_put None q k h = cc
some_kept_put (Some x) None k h = absurd k
some_kept_put (Some x) (Some y) k h = refl

some_kept_take : (o q : Option TakeEnd) → KeptTake o q → IsSome o → IsSome q
some_kept_take None q k h = cc
some_kept_take (Some x) None k h = absurd k
some_kept_take (Some x) (Some y) k h = refl

pub put_stays : (c : ℕ) (a b : Worker) → IsKeptWith a b → IsSome (put_end a c) → IsSome (put_end b c)
put_stays c a b k h = some_kept_put (put_end a c) (put_end b c) (k.puts c) h

pub take_stays : (c : ℕ) (a b : Worker) → IsKeptWith a b → IsSome (take_end a c) → IsSome (take_end b c)
take_stays c a b k h = some_kept_take (take_end a c) (take_end b c) (k.takes c) h

-- ---- a worker with one end settled

puts_of : (p q : PutEnd) → KeptPutEnd p q → Puts 0 None p q
puts_of p q k = record {
  same = k.same;
  received = ([], append-nil (messages_received p) ∙ sym k.received);
  put = k.put ∙ sym (append-nil (tokens_put p));
  newer = λ v e. cc;
  room = λ v e. cc;
}

keeps_of : (d e : TakeEnd) → KeptTakeEnd d e → Keeps d e
keeps_of d e k =
    let sent = k.credits.0 in
    let owed = k.credits.1 in
    let stamp = k.credits.2 in
    record {
      same = k.same;
      taken = k.tokens.0;
      held = k.tokens.1;
      messages = rw (sent, owed, stamp);
      repaid = rw (sent, owed);
      stamp = stamp;
    }

put_step : (o q : Option PutEnd) → KeptPut o q → PutStep 0 None o q
put_step None None k = tt
put_step None (Some y) k = absurd k
put_step (Some x) None k = absurd k
put_step (Some x) (Some y) k = puts_of x y k

take_step : (o q : Option TakeEnd) → KeptTake o q → TakeStep false 0 o q
take_step None None k = tt
take_step None (Some y) k = absurd k
take_step (Some x) None k = absurd k
take_step (Some x) (Some y) k = keeps_of x y k

none_there : {X : Type 0} (o : Option X) → o ≡ None → IsSome o → ⊥
none_there None e h = cc
none_there (Some x) e h = cc

within_some : {X : Type 0} (xs : List (Option X)) (at : ℕ) → IsSome (get_or xs at None) → (at < length xs) ⊎ (length xs ≤ at) → at < length xs
within_some xs at h (inl l) = l
within_some xs at h (inr l) = absurd (none_there (get_or xs at None) (get_or_past xs at None l) h)

pub put_within : (w : Worker) (c : ℕ) → IsSome (put_end w c) → c < length w.puts.items
put_within w c h = within_some w.puts.items c h (cases_lt c (length w.puts.items))

pub take_within : (w : Worker) (c : ℕ) → IsSome (take_end w c) → c < length w.takes.items
take_within w c h = within_some w.takes.items c h (cases_lt c (length w.takes.items))

puts_set : (xs : List (Option PutEnd)) (at : ℕ) (p q : PutEnd) → at < length xs → get_or xs at None ≡ Some p → KeptPutEnd p q
    → (c : ℕ) → KeptPut (get_or xs c None) (get_or (set xs at (Some q)) c None)
puts_set xs at p q l is k c = by (cases_eq c at)
  where
    by : (c ≡ at) ⊎ (c ≡ at → ⊥) → KeptPut (get_or xs c None) (get_or (set xs at (Some q)) c None)
    by (inl e) =
        subst (λ o. KeptPut o (get_or (set xs at (Some q)) c None)) (sym (ap (λ i. get_or xs i None) e ∙ is))
        (subst (KeptPut (Some p)) (sym (get_or-set_at xs at c (Some q) None e l)) k)
    by (inr n) = subst (KeptPut (get_or xs c None)) (sym (get_or-set_other xs at c (Some q) None n)) (kept_put_same (get_or xs c None))

takes_set : (xs : List (Option TakeEnd)) (at : ℕ) (p q : TakeEnd) → at < length xs → get_or xs at None ≡ Some p → KeptTakeEnd p q
    → (c : ℕ) → KeptTake (get_or xs c None) (get_or (set xs at (Some q)) c None)
takes_set xs at p q l is k c = by (cases_eq c at)
  where
    by : (c ≡ at) ⊎ (c ≡ at → ⊥) → KeptTake (get_or xs c None) (get_or (set xs at (Some q)) c None)
    by (inl e) =
        subst (λ o. KeptTake o (get_or (set xs at (Some q)) c None)) (sym (ap (λ i. get_or xs i None) e ∙ is))
        (subst (KeptTake (Some p)) (sym (get_or-set_at xs at c (Some q) None e l)) k)
    by (inr n) = subst (KeptTake (get_or xs c None)) (sym (get_or-set_other xs at c (Some q) None n)) (kept_take_same (get_or xs c None))

-- nothing but ends has changed, and these are kept
pub record IsMended (a b : Worker) : Type 0 where
  pub number : b.number ≡ a.number
  pub share : b.share ≡ a.share
  pub log : b.log ≡ a.log
  pub clock : b.clock ≡ a.clock
  pub portion : b.portion ≡ a.portion
  pub ends : length b.puts.items ≡ length a.puts.items
  pub ends_too : length b.takes.items ≡ length a.takes.items
  pub outs : b.outs ≡ a.outs
  pub ins : b.ins ≡ a.ins
  pub closed : b.closed ≡ a.closed
  pub resting : b.resting ≡ a.resting
  pub waits : b.waits ≡ a.waits
  pub puts : (c : ℕ) → KeptPut (put_end a c) (put_end b c)
  pub takes : (c : ℕ) → KeptTake (take_end a c) (take_end b c)

mended_kept : (t : Tables) (a b : Worker) → IsMended a b → IsKept t a b
mended_kept t a b m = record {
  number = m.number;
  share = m.share;
  log = m.log;
  clock = m.clock;
  portion = m.portion;
  ends = m.ends;
  ends_too = m.ends_too;
  outs = m.outs;
  ins = m.ins;
  closed = m.closed;
  rests = λ r. (sym m.resting ∙ r, λ c w. subst (λ v. IsSome (get_or v.items c None)) (sym m.waits) w);
  puts = λ c. put_step (put_end a c) (put_end b c) (m.puts c);
  takes = λ c. take_step (take_end a c) (take_end b c) (m.takes c);
}

pub mended : (a b : Worker) → IsMended a b → IsKeptWith a b
mended a b m = record {
  work = record {
    number = m.number;
    share = m.share;
    log = ap (λ g. g.items) m.log;
    room = ap (λ g. g.room) m.log;
    clock = m.clock;
    state = ap (λ p. Rattle.net_core.specs.States.state_of p.state) m.portion;
  };
  closed = m.closed;
  made = λ t made. made_keeps t a b made (mended_kept t a b m);
  puts = m.puts;
  takes = m.takes;
}

-- ---- one end

-- nothing but one end has changed, and this is kept
pub mended_put : (a b : Worker) (c : ℕ) (p q : PutEnd) → IsSome (put_end a c) → put_end a c ≡ Some p → KeptPutEnd p q
    → b.number ≡ a.number → b.share ≡ a.share → b.log ≡ a.log → b.clock ≡ a.clock → b.portion ≡ a.portion → b.outs ≡ a.outs → b.ins ≡ a.ins → b.closed ≡ a.closed → b.resting ≡ a.resting → b.waits ≡ a.waits
    → b.puts.items ≡ set a.puts.items c (Some q) → b.takes.items ≡ a.takes.items → IsKeptWith a b
mended_put a b c p q some is k number share log clock portion outs ins closed resting waits puts takes = mended a b (record {
  number = number;
  share = share;
  log = log;
  clock = clock;
  portion = portion;
  ends = ap length puts ∙ length-set a.puts.items c (Some q);
  ends_too = ap length takes;
  outs = outs;
  ins = ins;
  closed = closed;
  resting = resting;
  waits = waits;
  puts = λ i. subst (λ xs. KeptPut (put_end a i) (get_or xs i None)) (sym puts) (puts_set a.puts.items c p q (put_within a c some) is k i);
  takes = λ i. subst (λ xs. KeptTake (take_end a i) (get_or xs i None)) (sym takes) (kept_take_same (take_end a i));
})

pub mended_take : (a b : Worker) (c : ℕ) (p q : TakeEnd) → IsSome (take_end a c) → take_end a c ≡ Some p → KeptTakeEnd p q
    → b.number ≡ a.number → b.share ≡ a.share → b.log ≡ a.log → b.clock ≡ a.clock → b.portion ≡ a.portion → b.outs ≡ a.outs → b.ins ≡ a.ins → b.closed ≡ a.closed → b.resting ≡ a.resting → b.waits ≡ a.waits
    → b.puts.items ≡ a.puts.items → b.takes.items ≡ set a.takes.items c (Some q) → IsKeptWith a b
mended_take a b c p q some is k number share log clock portion outs ins closed resting waits puts takes = mended a b (record {
  number = number;
  share = share;
  log = log;
  clock = clock;
  portion = portion;
  ends = ap length puts;
  ends_too = ap length takes ∙ length-set a.takes.items c (Some q);
  outs = outs;
  ins = ins;
  closed = closed;
  resting = resting;
  waits = waits;
  puts = λ i. subst (λ xs. KeptPut (put_end a i) (get_or xs i None)) (sym puts) (kept_put_same (put_end a i));
  takes = λ i. subst (λ xs. KeptTake (take_end a i) (get_or xs i None)) (sym takes) (takes_set a.takes.items c p q (take_within a c some) is k i);
})
