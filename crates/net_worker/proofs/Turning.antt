-- Credits that were denied, and looks at all channels from and to others.
use Rattle.std.proofs.Common.{◌≡◌, ◌⊎◌, inl, inr, ℕ, true, false, ◌<◌, Option, Some, None, IsSome, List, length, get_or, set, refl, ap, ◌∙◌, sym, subst, append-nil, length-set, get_or-set_same, get_or-set_other}
use Rattle.std.proofs.lemmas.Bool.{cases_eq, false≢true}
use Rattle.elastic_link.specs.declared.put_end.PutEnd.{PutEnd}
use Rattle.net_types.specs.Nets.{out_of}
use Rattle.net_core.specs.declared.plan.Put.{Put}
use Rattle.net_core.specs.Fire.{Effect}
use Rattle.net_worker.specs.Asking.{IsAsked}
use Rattle.net_worker.specs.Fires.{PutStep}
use Rattle.net_worker.specs.Glances.{LookedPut, PutLooked, PutsLooked, IsLooked, IsSeen}
use Rattle.net_worker.specs.Keeps.{IsKept}
use Rattle.net_worker.specs.Offers.{NoCreditAt}
use Rattle.net_worker.specs.Waits.{IsDenied, AllDenied, IsLookedAll}
use Rattle.net_worker.specs.Workers.{IsMadeOf, IsOutOf, IsInto, IsAwaited, PutWaits, WaitsStay, put_end, take_end}
use Rattle.net_worker.specs.declared.tables.Tables.{Tables}
use Rattle.net_worker.specs.declared.worker.Worker.{Worker}
use Rattle.net_worker.proofs.Asking.{take_asked_self, take_asked_step}
use Rattle.net_worker.proofs.Glancing.{asked_looked, looked_trans, seen_later, seen_since, put_looked_self, takes_looked_self}
use Rattle.net_worker.proofs.HeldBack.{no_credit_since}
use Rattle.net_worker.proofs.Keeping.{made_keeps}

-- a channel with an end that puts goes to another worker
pub out_end : (t : Tables) (a : Worker) → IsMadeOf t a → (c : ℕ) → IsSome (put_end a c) → IsOutOf t a.number c
out_end t a m c some = by (put_end a c) refl some
  where
    by : (o : Option PutEnd) → put_end a c ≡ o → IsSome o → IsOutOf t a.number c
    by None is h = cc
    by (Some p) is h = (m.puts_out c p is).0

put_looked_step : (o q : Option PutEnd) → PutLooked o q → PutStep 0 None o q
put_looked_step None None h = tt
put_looked_step None (Some q) h = h
put_looked_step (Some p) None h = h
put_looked_step (Some p) (Some q) h = record { same = h.same; received = h.received; put = h.put ∙ sym (append-nil _); newer = λ v z. absurd (cc); room = λ v z. absurd (cc) }

-- but for ends that put, for notes and for marks the worker is the same
pub record IsCredited (a b : Worker) : Type 0 where
  pub number : b.number ≡ a.number
  pub share : b.share ≡ a.share
  pub log : b.log ≡ a.log
  pub clock : b.clock ≡ a.clock
  pub portion : b.portion ≡ a.portion
  pub outs : b.outs ≡ a.outs
  pub ins : b.ins ≡ a.ins
  pub closed : b.closed ≡ a.closed
  pub takes : b.takes ≡ a.takes
  pub puts : PutsLooked a.puts.items b.puts.items
  pub rests : b.resting ≡ true → (a.resting ≡ true) × WaitsStay a b

module _ (a b : Worker) (h : IsCredited a b) where
  pub credited_looked : IsLooked a b
  credited_looked = record {
    number = h.number;
    share = h.share;
    log = h.log;
    clock = h.clock;
    outs = h.outs;
    ins = h.ins;
    closed = h.closed;
    puts = h.puts;
    takes = subst (λ v. Rattle.net_worker.specs.Glances.TakesLooked a.takes.items v.items) (sym h.takes) (takes_looked_self a.takes.items);
  }

  credited_kept : (t : Tables) → IsKept t a b
  credited_kept t = record {
    number = h.number;
    share = h.share;
    log = h.log;
    clock = h.clock;
    portion = h.portion;
    ends = h.puts.long;
    ends_too = ap (λ v. length v.items) h.takes;
    outs = h.outs;
    ins = h.ins;
    closed = h.closed;
    rests = h.rests;
    puts = λ c. put_looked_step (put_end a c) (put_end b c) (h.puts.each c);
    takes = λ c. subst (λ v. Rattle.net_worker.specs.Fires.TakeStep false 0 (take_end a c) (get_or v.items c None)) (sym h.takes) (take_asked_step 0 (take_end a c) (take_end a c) (take_asked_self (take_end a c)));
  }

  pub credited_made : (t : Tables) → IsMadeOf t a → IsMadeOf t b
  credited_made t m = made_keeps t a b m (credited_kept t)

-- one channel more was asked
pub denied_more : (a m b : Worker) (c d : ℕ) → IsLooked a m → IsDenied c m b → (IsAwaited m d → (d ≡ c → ⊥) → NoCreditAt (put_end a d) (put_end m d)) → IsAwaited b d → NoCreditAt (put_end a d) (put_end b d)
denied_more a m b c d l h sofar w = by (cases_eq d c)
  where
    waited : IsAwaited m d
    waited = subst (λ v. IsSome (get_or v.items d None)) h.waits w

    by : (d ≡ c) ⊎ (d ≡ c → ⊥) → NoCreditAt (put_end a d) (put_end b d)
    by (inl q) = no_credit_since (put_end a d) (put_end m d) (put_end b d) (l.puts.each d) (subst (λ k. NoCreditAt (put_end m k) (put_end b k)) (sym q) (h.none (subst (IsAwaited m) q waited)))
    by (inr n) = subst (NoCreditAt (put_end a d)) (sym (h.others d n)) (sofar waited n)

-- ---- looks at all channels

-- it looked, then asked
pub looked_then : (t : Tables) (a m b : Worker) → IsLooked a m → ((c : ℕ) → IsInto t a.number c → IsSeen c a m) → IsLooked m b → (b.resting ≡ true → AllDenied t m b) → IsLookedAll t a b
looked_then t a m b l seen k denied = record {
  looked = looked_trans a m b l k;
  seen = λ c i. seen_later c a m b (seen c i) k;
  denied = λ r c o w. no_credit_since (put_end a c) (put_end m c) (put_end b c) (l.puts.each c) (denied r c (subst (λ n. IsOutOf t n c) (sym l.number) o) w);
}

-- then it asked while it did not rest
pub looked_asked : (t : Tables) (a m b : Worker) → IsLookedAll t a m → m.resting ≡ false → IsAsked m b → IsLookedAll t a b
looked_asked t a m b l rests h = record {
  looked = looked_trans a m b l.looked (asked_looked m b h);
  seen = λ c i. seen_later c a m b (l.seen c i) (asked_looked m b h);
  denied = λ r. absurd (false≢true (sym rests ∙ (sym h.resting ∙ r)));
}

-- then it looked again
pub looked_again : (t : Tables) (a m b : Worker) → IsLookedAll t a m → IsLookedAll t m b → IsLookedAll t a b
looked_again t a m b l k = record {
  looked = looked_trans a m b l.looked k.looked;
  seen = λ c i. seen_since c a m b l.looked (k.seen c (subst (λ n. IsInto t n c) (sym l.looked.number) i));
  denied = λ r c o w. no_credit_since (put_end a c) (put_end m c) (put_end b c) (l.looked.puts.each c) (k.denied r c (subst (λ n. IsOutOf t n c) (sym l.looked.number) o) w);
}

-- the channel of an effect's token is noted
pub put_noted : (t : Tables) (b : Worker) (u : ℕ) (x e : Effect) (p : Put) (c : ℕ) → e ≡ x → e.put ≡ Some p → c ≡ out_of u p.place t.net.now.chans → IsOutOf t b.number c → IsAwaited b c → PutWaits t b u x.put
put_noted t b u x e p c same is at out waits = subst (λ (y : Effect). PutWaits t b u y.put) same (subst (PutWaits t b u) (sym is) (subst (λ k. IsOutOf t b.number k × IsAwaited b k) at (out, waits)))

-- one end was asked
pub put_asked_one : (ps : List (Option PutEnd)) (c : ℕ) (p q : PutEnd) → c < length ps → get_or ps c None ≡ Some p → LookedPut p q → PutsLooked ps (set ps c (Some q))
put_asked_one ps c p q l is h = record { long = length-set ps c (Some q); each = λ d. by d (cases_eq d c) }
  where
    by : (d : ℕ) → (d ≡ c) ⊎ (d ≡ c → ⊥) → PutLooked (get_or ps d None) (get_or (set ps c (Some q)) d None)
    by d (inl e) =
        subst (λ o. PutLooked o (get_or (set ps c (Some q)) d None)) (sym (ap (λ i. get_or ps i None) e ∙ is))
        (subst (PutLooked (Some p)) (sym (ap (λ i. get_or (set ps c (Some q)) i None) e ∙ get_or-set_same ps c (Some q) None l)) h)
    by d (inr n) = subst (PutLooked (get_or ps d None)) (sym (get_or-set_other ps c d (Some q) None n)) (put_looked_self (get_or ps d None))
