-- Looking at channels from other workers.
use Rattle.std.proofs.Common.{◌≡◌, ◌⊎◌, inl, inr, ℕ, ◌+◌, ◌<◌, ◌≤◌, set, length-set, get_or-set_same, get_or-set_other, Option, Some, None, IsSome, IfSome, List, [], ◌∷◌, ◌++◌, length, get_or, refl, ap, ◌∙◌, sym, subst, arith, append-nil, append_assoc}
use Rattle.std.proofs.lemmas.Bool.{cases_lt, cases_eq}
use Rattle.std.proofs.lemmas.List.{get_or_past}
use mathlib.Core.List.{IsPrefix}
use Rattle.elastic_link.specs.declared.message.Token.{Token}
use Rattle.elastic_link.specs.declared.put_end.PutEnd.{PutEnd}
use Rattle.elastic_link.specs.declared.take_end.TakeEnd.{TakeEnd}
use Rattle.elastic_link.specs.Held.{tokens_of}
use Rattle.elastic_link.specs.Ends.{tokens_taken, token_held, SameTakeEnd, SameCredits}
use Rattle.net_worker.specs.Asking.{PutAsked, TakeAsked, PutsAsked, IsAsked}
use Rattle.net_worker.specs.Fires.{PutStep, TakeStep}
use Rattle.net_worker.specs.Glances.{NoTokenAt, HoldsNone, IsSeen, IsHanded, TakeLooked, TakesLooked, PutLooked, PutsLooked, IsLooked}
use Rattle.net_worker.specs.Workers.{IsWhole, SamePut, SameTake, SameWorker, put_end, take_end, handed_by, received_by}
use Rattle.net_worker.specs.declared.tables.Tables.{Tables}
use Rattle.net_worker.specs.declared.worker.Worker.{Worker}
use Rattle.net_worker.proofs.Asking.{prefix_self, prefix_trans, same_put, same_put_trans, same_take, same_take_trans, take_asked_self}

kept_trans : (o q r : Option Token) → IfSome o (λ x. q ≡ Some x) → IfSome q (λ x. r ≡ Some x) → IfSome o (λ x. r ≡ Some x)
kept_trans None q r h k = tt
kept_trans (Some x) q r h k = subst (λ o. IfSome o (λ y. r ≡ Some y)) h k

kept_same : (o q : Option Token) → q ≡ o → IfSome o (λ x. q ≡ Some x)
kept_same None q h = tt
kept_same (Some x) q h = h

pub take_looked_trans : (o q r : Option TakeEnd) → TakeLooked o q → TakeLooked q r → TakeLooked o r
take_looked_trans None None r h k = k
take_looked_trans None (Some q) r h k = absurd h
take_looked_trans (Some p) None r h k = absurd h
take_looked_trans (Some p) (Some q) None h k = absurd k
take_looked_trans (Some p) (Some q) (Some r) h k = record {
  same = same_take_trans p q r h.same k.same;
  taken = k.taken ∙ h.taken;
  messages = k.messages ∙ h.messages;
  repaid = k.repaid ∙ h.repaid;
  stamp = k.stamp ∙ h.stamp;
  tokens_shown = omega (arith, h.tokens_shown, k.tokens_shown);
  kept = kept_trans (token_held p) (token_held q) (token_held r) h.kept k.kept;
}

pub take_asked_looked : (o q : Option TakeEnd) → TakeAsked o q → TakeLooked o q
take_asked_looked None None h = tt
take_asked_looked None (Some q) h = h
take_asked_looked (Some p) None h = h
take_asked_looked (Some p) (Some q) h = record { same = h.same; taken = h.taken; messages = h.messages; repaid = h.repaid; stamp = h.stamp; tokens_shown = h.tokens_shown; kept = kept_same (token_held p) (token_held q) h.held }

pub put_looked_self : (o : Option PutEnd) → PutLooked o o
put_looked_self None = tt
put_looked_self (Some p) = record { same = same_put p; received = prefix_self _; put = refl; slots_shown = omega arith; messages_shown = omega arith }

put_asked_looked : (o q : Option PutEnd) → PutAsked o q → PutLooked o q
put_asked_looked None None h = tt
put_asked_looked None (Some q) h = h
put_asked_looked (Some p) None h = h
put_asked_looked (Some p) (Some q) h = record { same = h.same; received = h.received; put = h.put; slots_shown = h.slots_shown; messages_shown = h.messages_shown }

put_looked_trans : (o q r : Option PutEnd) → PutLooked o q → PutLooked q r → PutLooked o r
put_looked_trans None None r h k = k
put_looked_trans None (Some q) r h k = absurd h
put_looked_trans (Some p) None r h k = absurd h
put_looked_trans (Some p) (Some q) None h k = absurd k
put_looked_trans (Some p) (Some q) (Some r) h k = record {
  same = same_put_trans p q r h.same k.same;
  received = prefix_trans _ _ _ h.received k.received;
  put = k.put ∙ h.put;
  slots_shown = omega (arith, h.slots_shown, k.slots_shown);
  messages_shown = omega (arith, h.messages_shown, k.messages_shown);
}

pub puts_looked_self : (ps : List (Option PutEnd)) → PutsLooked ps ps
puts_looked_self ps = record { long = refl; each = λ c. put_looked_self (get_or ps c None) }

pub puts_asked_looked : (ps qs : List (Option PutEnd)) → PutsAsked ps qs → PutsLooked ps qs
puts_asked_looked ps qs h = record { long = h.long; each = λ c. put_asked_looked (get_or ps c None) (get_or qs c None) (h.each c) }

pub puts_looked_trans : (ps qs rs : List (Option PutEnd)) → PutsLooked ps qs → PutsLooked qs rs → PutsLooked ps rs
puts_looked_trans ps qs rs h k = record { long = k.long ∙ h.long; each = λ c. put_looked_trans (get_or ps c None) (get_or qs c None) (get_or rs c None) (h.each c) (k.each c) }

pub takes_looked_self : (ps : List (Option TakeEnd)) → TakesLooked ps ps
takes_looked_self ps = record { long = refl; each = λ c. take_asked_looked (get_or ps c None) (get_or ps c None) (take_asked_self (get_or ps c None)) }

pub asked_looked : (a b : Worker) → IsAsked a b → IsLooked a b
asked_looked a b h = record {
  number = h.number;
  share = h.share;
  log = h.log;
  clock = h.clock;
  outs = h.outs;
  ins = h.ins;
  closed = h.closed;
  puts = puts_asked_looked a.puts.items b.puts.items h.puts;
  takes = record { long = h.takes.long; each = λ c. take_asked_looked (take_end a c) (take_end b c) (h.takes.each c) };
}

pub looked_trans : (a b c : Worker) → IsLooked a b → IsLooked b c → IsLooked a c
looked_trans a b c h k = record {
  number = k.number ∙ h.number;
  share = k.share ∙ h.share;
  log = k.log ∙ h.log;
  clock = k.clock ∙ h.clock;
  outs = k.outs ∙ h.outs;
  ins = k.ins ∙ h.ins;
  closed = k.closed ∙ h.closed;
  puts = puts_looked_trans a.puts.items b.puts.items c.puts.items h.puts k.puts;
  takes = record { long = k.takes.long ∙ h.takes.long; each = λ d. take_looked_trans (take_end a d) (take_end b d) (take_end c d) (h.takes.each d) (k.takes.each d) };
}

messages_same : (p q : TakeEnd) → Rattle.elastic_link.specs.Ends.SameCredits p q → Rattle.elastic_link.specs.Ends.messages_repaid q ≡ Rattle.elastic_link.specs.Ends.messages_repaid p
messages_same p q h = (let a = h.0 in let b = h.1 in let d = h.2 in cc)

repaid_same : (p q : TakeEnd) → Rattle.elastic_link.specs.Ends.SameCredits p q → Rattle.elastic_link.specs.Ends.credits_repaid q ≡ Rattle.elastic_link.specs.Ends.credits_repaid p
repaid_same p q h = (let a = ap Rattle.elastic_link.specs.Credits.credits_in h.0 in let b = h.1 in omega arith)

kept_none : (o q : Option Token) → o ≡ None → IfSome o (λ x. q ≡ Some x)
kept_none None q h = tt
kept_none (Some x) q h = cc

pub handed_takes : (c : ℕ) (x : Token) (es es' : List (Option TakeEnd)) → IsHanded c x es es' → TakesLooked es es'
handed_takes c x es es' h = record { long = ap length h.is ∙ length-set es c (Some h.after); each = λ d. each d (cases_eq d c) }
  where
    within : (c < length es) ⊎ (length es ≤ c) → c < length es
    within (inl l) = l
    within (inr l) = (let z : None ≡ Some h.before = sym (get_or_past es c None l) ∙ h.was in cc)

    new : get_or es' c None ≡ Some h.after
    new = ap (λ l. get_or l c None) h.is ∙ get_or-set_same es c (Some h.after) None (within (cases_lt c (length es)))

    each : (d : ℕ) → (d ≡ c) ⊎ (d ≡ c → ⊥) → TakeLooked (get_or es d None) (get_or es' d None)
    each d (inl q) =
        subst (λ k. TakeLooked (get_or es k None) (get_or es' k None)) (sym q)
        (subst (λ o. TakeLooked o (get_or es' c None)) (sym h.was)
        (subst (λ o. TakeLooked (Some h.before) o) (sym new)
        (record { same = h.same; taken = h.taken; messages = messages_same h.before h.after h.credits; repaid = repaid_same h.before h.after h.credits; stamp = h.credits.2; tokens_shown = h.tokens_shown; kept = kept_none (token_held h.before) (token_held h.after) h.none })))
    each d (inr n) = subst (λ o. TakeLooked (get_or es d None) o) (sym (ap (λ l. get_or l d None) h.is ∙ get_or-set_other es c d (Some h.after) None n)) (take_asked_looked (get_or es d None) (get_or es d None) (take_asked_self (get_or es d None)))

pub peeked : (c : ℕ) (es : List (Option TakeEnd)) (p q : TakeEnd) → get_or es c None ≡ Some p → HoldsNone (get_or es c None) → SameTakeEnd p q → SameCredits p q → tokens_taken q ≡ tokens_taken p
    → Rattle.elastic_link.specs.Ends.no_token_count p ≤ Rattle.elastic_link.specs.Ends.no_token_count q
    → (o : Option Token) → o ≡ token_held q → IfSome o (λ x. IsHanded c x es (set es c (Some q)))
peeked c es p q old none same credits taken shown None is = tt
peeked c es p q old none same credits taken shown (Some x) is = record {
  before = p;
  after = q;
  was = old;
  is = refl;
  none = subst HoldsNone old none;
  held = sym is;
  taken = taken;
  same = same;
  credits = credits;
  tokens_shown = shown;
}

-- tokens handed out stay the first
pub handed_looked : (o q : Option TakeEnd) → TakeLooked o q → IsPrefix (handed_by o) (handed_by q)
handed_looked None None h = ([], refl)
handed_looked None (Some q) h = absurd h
handed_looked (Some p) None h = absurd h
handed_looked (Some p) (Some q) h = subst (λ ts. IsPrefix (handed_by (Some p)) (ts ++ tokens_of (token_held q))) (sym h.taken) (by (token_held p) (token_held q) h.kept)
  where
    by : (o r : Option Token) → IfSome o (λ x. r ≡ Some x) → IsPrefix (tokens_taken p ++ tokens_of o) (tokens_taken p ++ tokens_of r)
    by None r k = (tokens_of r, ap (λ l. l ++ tokens_of r) (append-nil (tokens_taken p)))
    by (Some x) r k = subst (λ o. IsPrefix (tokens_taken p ++ x ∷ []) (tokens_taken p ++ tokens_of o)) (sym k) (prefix_self (tokens_taken p ++ x ∷ []))

-- ---- the same worker

put_looked_same : (o q : Option PutEnd) → PutLooked o q → SamePut o q
put_looked_same None None h = tt
put_looked_same None (Some q) h = h
put_looked_same (Some p) None h = h
put_looked_same (Some p) (Some q) h = (h.same, h.received)

put_step_same : (n : ℕ) (v : Option ℕ) (o q : Option PutEnd) → PutStep n v o q → SamePut o q
put_step_same n v None None h = tt
put_step_same n v None (Some q) h = h
put_step_same n v (Some p) None h = h
put_step_same n v (Some p) (Some q) h = (h.same, h.received)

take_looked_same : (o q : Option TakeEnd) → TakeLooked o q → SameTake o q
take_looked_same None None h = tt
take_looked_same None (Some q) h = h
take_looked_same (Some p) None h = h
take_looked_same (Some p) (Some q) h = h.same

take_step_same : (g : Rattle.std.proofs.Common.Bool) (n : ℕ) (o q : Option TakeEnd) → TakeStep g n o q → SameTake o q
take_step_same g n None None h = tt
take_step_same g n None (Some q) h = h
take_step_same g n (Some p) None h = h
take_step_same Rattle.std.proofs.Common.true n (Some p) (Some q) h = h.same
take_step_same Rattle.std.proofs.Common.false n (Some p) (Some q) h = h.same

pub same_put_self : (o : Option PutEnd) → SamePut o o
same_put_self None = tt
same_put_self (Some p) = (same_put p, prefix_self _)

pub same_put_ends_trans : (o q r : Option PutEnd) → SamePut o q → SamePut q r → SamePut o r
same_put_ends_trans None None r h k = k
same_put_ends_trans None (Some q) r h k = absurd h
same_put_ends_trans (Some p) None r h k = absurd h
same_put_ends_trans (Some p) (Some q) None h k = absurd k
same_put_ends_trans (Some p) (Some q) (Some r) h k = (same_put_trans p q r h.0 k.0, prefix_trans _ _ _ h.1 k.1)

same_take_self : (o : Option TakeEnd) → SameTake o o
same_take_self None = tt
same_take_self (Some p) = same_take p

same_take_ends_trans : (o q r : Option TakeEnd) → SameTake o q → SameTake q r → SameTake o r
same_take_ends_trans None None r h k = k
same_take_ends_trans None (Some q) r h k = absurd h
same_take_ends_trans (Some p) None r h k = absurd h
same_take_ends_trans (Some p) (Some q) None h k = absurd k
same_take_ends_trans (Some p) (Some q) (Some r) h k = same_take_trans p q r h k

pub same_worker_self : (a : Worker) → SameWorker a a
same_worker_self a = record { number = refl; share = refl; closed = refl; log = prefix_self _; puts = λ c. same_put_self (put_end a c); takes = λ c. same_take_self (take_end a c) }

pub same_worker_trans : (a b c : Worker) → SameWorker a b → SameWorker b c → SameWorker a c
same_worker_trans a b c h k = record {
  number = k.number ∙ h.number;
  share = k.share ∙ h.share;
  closed = k.closed ∙ h.closed;
  log = prefix_trans _ _ _ h.log k.log;
  puts = λ d. same_put_ends_trans (put_end a d) (put_end b d) (put_end c d) (h.puts d) (k.puts d);
  takes = λ d. same_take_ends_trans (take_end a d) (take_end b d) (take_end c d) (h.takes d) (k.takes d);
}

pub looked_same : (a b : Worker) → IsLooked a b → SameWorker a b
looked_same a b h = record {
  number = h.number;
  share = h.share;
  closed = h.closed;
  log = ([], append-nil _ ∙ ap (λ g. g.items) (sym h.log));
  puts = λ c. put_looked_same (put_end a c) (put_end b c) (h.puts.each c);
  takes = λ c. take_looked_same (take_end a c) (take_end b c) (h.takes.each c);
}

pub fired_same : (t : Tables) (a b : Worker) (f : Rattle.net_types.specs.declared.firing.Firing.Firing) (x : Rattle.net_core.specs.Fire.Effect) (n : ℕ) → Rattle.net_worker.specs.Fires.IsFired t a b f x n → SameWorker a b
fired_same t a b f x n h = record {
  number = h.number;
  share = h.share;
  closed = h.closed;
  log = (_, sym h.items);
  puts = λ c. put_step_same n (Rattle.net_core.specs.Fire.puts_on t.net.now f.unit x.put c) (put_end a c) (put_end b c) (h.puts c);
  takes = λ c. take_step_same (Rattle.net_core.specs.Fire.takes_from t.net.now f.unit x c) n (take_end a c) (take_end b c) (h.takes c);
}

-- ---- whole workers stay whole

put_there : (o q : Option PutEnd) → SamePut o q → IsSome o → IsSome q
put_there None q h k = cc
put_there (Some p) None h k = absurd h
put_there (Some p) (Some q) h k = refl

take_there : (o q : Option TakeEnd) → SameTake o q → IsSome o → IsSome q
take_there None q h k = cc
take_there (Some p) None h k = absurd h
take_there (Some p) (Some q) h k = refl

pub same_whole : (t : Tables) (a b : Worker) → SameWorker a b → IsWhole t a → IsWhole t b
same_whole t a b h w = record {
  puts = λ c o. put_there (put_end a c) (put_end b c) (h.puts c) (w.puts c (subst (λ n. Rattle.net_worker.specs.Workers.IsOutOf t n c) h.number o));
  takes = λ c o. take_there (take_end a c) (take_end b c) (h.takes c) (w.takes c (subst (λ n. Rattle.net_worker.specs.Workers.IsInto t n c) h.number o));
  not_closed = h.closed ∙ w.not_closed;
}

-- ---- seen

none_kept : (o q : Option Token) → IfSome o (λ x. q ≡ Some x) → q ≡ None → o ≡ None
none_kept None q h k = refl
none_kept (Some x) q h k = cc

none_before : (o q : Option TakeEnd) → TakeLooked o q → HoldsNone q → HoldsNone o
none_before None q h k = tt
none_before (Some o) None h k = absurd h
none_before (Some o) (Some q) h k = none_kept (token_held o) (token_held q) h.kept k

no_token_later : (z o q : Option TakeEnd) → TakeLooked o q → NoTokenAt z o → NoTokenAt z q
no_token_later None o q h k = absurd k
no_token_later (Some z) None q h k = absurd k
no_token_later (Some z) (Some o) None h k = absurd h
no_token_later (Some z) (Some o) (Some q) h k = (k.0, omega (arith, k.1, h.tokens_shown))

no_token_before : (z o q : Option TakeEnd) → TakeLooked z o → NoTokenAt o q → NoTokenAt z q
no_token_before None None q h k = absurd k
no_token_before None (Some o) q h k = absurd h
no_token_before (Some z) None q h k = absurd h
no_token_before (Some z) (Some o) None h k = absurd k
no_token_before (Some z) (Some o) (Some q) h k = (none_kept (token_held z) (token_held o) h.kept k.0, omega (arith, k.1, h.tokens_shown))

pub seen_later : (c : ℕ) (a m b : Worker) → IsSeen c a m → IsLooked m b → IsSeen c a b
seen_later c a m b s l h = no_token_later (take_end a c) (take_end m c) (take_end b c) (l.takes.each c) (s (none_before (take_end m c) (take_end b c) (l.takes.each c) h))

pub seen_since : (c : ℕ) (a m b : Worker) → IsLooked a m → IsSeen c m b → IsSeen c a b
seen_since c a m b l s h = no_token_before (take_end a c) (take_end m c) (take_end b c) (l.takes.each c) (s h)

-- a channel with an end that takes comes from another worker
pub into_end : (t : Tables) (a : Worker) → Rattle.net_worker.specs.Workers.IsMadeOf t a → (c : ℕ) → IsSome (take_end a c) → Rattle.net_worker.specs.Workers.IsInto t a.number c
into_end t a m c some = by (take_end a c) refl some
  where
    by : (o : Option TakeEnd) → take_end a c ≡ o → IsSome o → Rattle.net_worker.specs.Workers.IsInto t a.number c
    by None is h = cc
    by (Some e) is h = (m.takes_in c e is).0
