-- Exact stamps over a sweep.
use Rattle.std.proofs.Common.{◌≡◌, ◌≢◌, ◌⊎◌, inl, inr, ℕ, suc, ◌+◌, ◌<◌, ◌≤◌, max, Option, Some, None, IsSomeAnd, List, [], ◌∷◌, ◌++◌, length, get_or, drop, refl, ap, ◌∙◌, sym, subst, arith, append-nil, append_assoc}
use Rattle.std.specs.List.{AllByRecursion}
use Rattle.std.proofs.lemmas.Bool.{cases_lt}
use Rattle.elastic_link.specs.declared.message.Token.{Token}
use Rattle.elastic_link.specs.declared.put_end.PutEnd.{PutEnd}
use Rattle.elastic_link.specs.declared.take_end.TakeEnd.{TakeEnd}
use Rattle.net_types.specs.declared.net.Net.{Net}
use Rattle.net_types.specs.declared.firing.Inputs.{Inputs}
use Rattle.net_types.specs.declared.firing.Firing.{Firing}
use Rattle.net_types.specs.Nets.{into, out_of}
use Rattle.net_core.specs.declared.plan.Put.{Put}
use Rattle.net_core.specs.Fire.{Effect, effect, first, tokens_at}
use Rattle.net_core.specs.Uses.{used}
use Rattle.net_worker.specs.Stamped.{Stamped, stamps_at, after_at}
use Rattle.net_worker.specs.Plays.{putter, MayIn, Plays}
use Rattle.net_worker.specs.Local.{values, stamps_of, fed_opening}
use Rattle.net_worker.specs.Steps.{last_stamp, IsFuller, FromOthers}
use Rattle.net_worker.specs.Offers.{ToldAt}
use Rattle.net_worker.specs.Sweeps.{greatest, stamp_or_0, ToldBy, AreExact, SweptExactly}
use Rattle.net_worker.specs.Workers.{owner_in, IsMadeOf, SamePut, SameWorker, put_end, take_end, handed_by, received_by}
use Rattle.firing_log.specs.declared.entry.Entry.{Entry}
use Rattle.net_worker.specs.declared.tables.Tables.{Tables}
use Rattle.net_worker.specs.declared.worker.Worker.{Worker}
use Rattle.net_worker.proofs.Asking.{prefix_trans}
use Rattle.net_worker.proofs.Glancing.{handed_looked, looked_same}
use Rattle.net_worker.proofs.Merging.{some_of}
use Rattle.net_worker.proofs.Opening.{map_append, fed_tokens, fed_stamps, fed_past, fed_stamps_past, fed_measures, fed_stamps_long, fed_paired}
use Rattle.net_worker.proofs.More as more

-- ---- what ends told, by more messages

told_later : (o q r : Option PutEnd) (n : ℕ) → SamePut q r → ToldAt o q n → ToldAt o r n
told_later None q r n h k = k
told_later (Some p) None None n h k = k
told_later (Some p) None (Some r) n h k = absurd h
told_later (Some p) (Some q) None n h k = absurd h
told_later (Some p) (Some q) (Some r) n h (ms, a, b, is) = (ms, a, prefix_trans ms _ _ b h.1, is)

told_sooner : (o q r : Option PutEnd) (n : ℕ) → SamePut o q → ToldAt q r n → ToldAt o r n
told_sooner None None r n h k = k
told_sooner None (Some q) r n h k = absurd h
told_sooner (Some p) None r n h k = absurd h
told_sooner (Some p) (Some q) r n h (ms, a, b, is) = (ms, prefix_trans _ _ ms h.1 a, b, is)

pub told_on : (t : Tables) (z a b : Worker) (u : ℕ) (put : Option Put) (n : ℕ) → SameWorker a b → ToldBy t z a u put n → ToldBy t z b u put n
told_on t z a b u None n h k = k
told_on t z a b u (Some w) n h k = told_later (put_end z (out_of u w.place t.net.now.chans)) (put_end a (out_of u w.place t.net.now.chans)) (put_end b (out_of u w.place t.net.now.chans)) n (h.puts (out_of u w.place t.net.now.chans)) k

pub told_since : (t : Tables) (z a b : Worker) (u : ℕ) (put : Option Put) (n : ℕ) → SameWorker z a → ToldBy t a b u put n → ToldBy t z b u put n
told_since t z a b u None n h k = k
told_since t z a b u (Some w) n h k = told_sooner (put_end z (out_of u w.place t.net.now.chans)) (put_end a (out_of u w.place t.net.now.chans)) (put_end b (out_of u w.place t.net.now.chans)) n (h.puts (out_of u w.place t.net.now.chans)) k

pub exact_on : (t : Tables) (z a b : Worker) (k : ℕ) (s : Stamped) (es : List Entry) → SameWorker a b → AreExact t z a k s es → AreExact t z b k s es
exact_on t z a b k s [] h e = tt
exact_on t z a b k s (x ∷ es) h e =
    ((e.0.0, e.0.1, e.0.2, told_on t z a b x.firing.unit e.0.0.put e.0.2 h e.0.3, e.0.4), exact_on t z a b x.stamp (after_at t.net.now x.stamp s x.firing) es h e.1)

-- ---- plays in parts

pub plays_rest : (net : Net) (owner : ℕ → ℕ) (j k : ℕ) (s : Stamped) (es fs : List Entry) (u t : Stamped) → Plays net owner j k s (es ++ fs) t → Plays net owner j k s es u → Plays net owner j (last_stamp k es) u fs t
plays_rest net owner j k s [] fs u t p q = subst (λ x. Plays net owner j k x fs t) q p
plays_rest net owner j k s (e ∷ es) fs u t p q = plays_rest net owner j e.stamp (after_at net e.stamp s e.firing) es fs u t p.2 q.2

pub last_more : (k : ℕ) (es fs : List Entry) → last_stamp k (es ++ fs) ≡ last_stamp (last_stamp k es) fs
last_more k [] fs = refl
last_more k (e ∷ es) fs = last_more e.stamp es fs

-- ---- more tokens handed out

module _ (net : Net) (owner : ℕ → ℕ) (j : ℕ) (xs ns : ℕ → List ℕ) (from : FromOthers net owner j xs ns) (n : ℕ) (s t : Stamped) (f : Firing) (m : MayIn net owner j n s f) (w : IsFuller net owner j xs ns s t) where
  abbrev Seen : ℕ → Type 0
  Seen p = IsSomeAnd (first (stamps_at s (into f.unit p net.chans))) (λ k. k < n)

  first_same : (p : ℕ) → Seen p → first (stamps_at t (into f.unit p net.chans)) ≡ first (stamps_at s (into f.unit p net.chans))
  first_same p h =
      let c = into f.unit p net.chans in
      let k = some_of (first (stamps_at s c)) n h in
      ap first (w.stamps c) ∙ (more.first_more (stamps_at s c) (ns c) k.0 k.1 ∙ sym k.1)

  greatest_all : (ps : List ℕ) → AllByRecursion Seen ps → greatest net t f.unit ps ≡ greatest net s f.unit ps
  greatest_all [] a = refl
  greatest_all (p ∷ ps) a =
      ap (λ o. max (stamp_or_0 o) (greatest net t f.unit ps)) (first_same p a.0) ∙ ap (λ k. max (stamp_or_0 (first (stamps_at s (into f.unit p net.chans)))) k) (greatest_all ps a.1)

  greatest_same : greatest net t f.unit (used net t.state f) ≡ greatest net s f.unit (used net s.state f)
  greatest_same = ap (greatest net t f.unit) (more.uses_same net owner j xs ns from n s t f m w) ∙ greatest_all (used net s.state f) m.above

exact_fuller : (t : Tables) (z a : Worker) (j : ℕ) (xs ns : ℕ → List ℕ) (k c : ℕ) (s s' : Stamped) (es : List Entry) (u : Stamped) → FromOthers t.net.now (owner_in t) j xs ns → IsFuller t.net.now (owner_in t) j xs ns s s'
    → Plays t.net.now (owner_in t) j c s es u → AreExact t z a k s es → AreExact t z a k s' es
exact_fuller t z a j xs ns k c s s' [] u from w p e = tt
exact_fuller t z a j xs ns k c s s' (x ∷ es) u from w p e =
    let d = more.does t.net.now (owner_in t) j xs ns from x.stamp s s' x.firing p.1 w in
    let same : d.0 ≡ e.0.0 = (let q : Some d.0 ≡ Some e.0.0 = sym d.1 ∙ e.0.1 in cc) in
    let too : effect t.net.now s'.state x.firing ≡ Some e.0.0 = more.does_too t.net.now (owner_in t) j xs ns from x.stamp s s' x.firing p.1 w ∙ ap Some same in
    let g = greatest_same t.net.now (owner_in t) j xs ns from x.stamp s s' x.firing p.1 w in (
      (e.0.0, too, e.0.2, e.0.3, e.0.4 ∙ ap (λ y. suc (max k (max y e.0.2))) (sym g)),
      exact_fuller t z a j xs ns x.stamp x.stamp (after_at t.net.now x.stamp s x.firing) (after_at t.net.now x.stamp s' x.firing) es u from (more.fuller_after t.net.now (owner_in t) j xs ns from x.stamp s s' x.firing p.1 w) p.2 e.1,
    )

-- the opening states with tokens handed out, and with more of them
module _ (net : Net) (inputs : Inputs) (owner : ℕ → ℕ) (j : ℕ) (h g m : ℕ → List Token) (is : (c : ℕ) → h c ++ m c ≡ g c) (none : (c : ℕ) → length net.chans ≤ c → m c ≡ []) where
  listed : (f : Token → ℕ) (c : ℕ) → Rattle.std.proofs.Common.map f (g c) ≡ Rattle.std.proofs.Common.map f (h c) ++ Rattle.std.proofs.Common.map f (m c)
  listed f c = ap (Rattle.std.proofs.Common.map f) (sym (is c)) ∙ map_append f (h c) (m c)

  fed_fuller : IsFuller net owner j (λ c. values (m c)) (λ c. stamps_of (m c)) (fed_opening net inputs h) (fed_opening net inputs g)
  fed_fuller = record {
    scalars = refl;
    own = refl;
    arrays = refl;
    strays = refl;
    tokens = λ c. tokens c (cases_lt c (length net.chans));
    stamps = λ c. stamps c (cases_lt c (length net.chans));
    long = (fed_measures net inputs h).tokens;
    long_too = (fed_measures net inputs g).tokens;
    longs = fed_stamps_long net inputs h;
    longs_too = fed_stamps_long net inputs g;
    paired = fed_paired net inputs h;
  }
    where
      tokens : (c : ℕ) → (c < length net.chans) ⊎ (length net.chans ≤ c) → tokens_at (fed_opening net inputs g).state c ≡ tokens_at (fed_opening net inputs h).state c ++ values (m c)
      tokens c (inl b) = fed_tokens net inputs g c b ∙ (listed (λ (t : Token). t.value) c ∙ ap (λ l. l ++ values (m c)) (sym (fed_tokens net inputs h c b)))
      tokens c (inr b) = fed_past net inputs g c b ∙ (sym (ap values (none c b)) ∙ ap (λ l. l ++ values (m c)) (sym (fed_past net inputs h c b)))

      stamps : (c : ℕ) → (c < length net.chans) ⊎ (length net.chans ≤ c) → stamps_at (fed_opening net inputs g) c ≡ stamps_at (fed_opening net inputs h) c ++ stamps_of (m c)
      stamps c (inl b) = fed_stamps net inputs g c b ∙ (listed (λ (t : Token). t.stamp) c ∙ ap (λ l. l ++ stamps_of (m c)) (sym (fed_stamps net inputs h c b)))
      stamps c (inr b) = fed_stamps_past net inputs g c b ∙ (sym (ap stamps_of (none c b)) ∙ ap (λ l. l ++ stamps_of (m c)) (sym (fed_stamps_past net inputs h c b)))

-- ---- a worker in a sweep

no_take : (o : Option TakeEnd) → ((e : TakeEnd) → o ≡ Some e → ⊥) → handed_by o ≡ []
no_take None f = refl
no_take (Some e) f = absurd (f e refl)

all_none : (xs ys zs : List Token) → xs ++ ys ≡ zs → zs ≡ [] → ys ≡ []
all_none [] ys zs p q = p ∙ q
all_none (x ∷ xs) ys zs p q = cc

pub swept_self : (t : Tables) (a : Worker) → IsMadeOf t a → SweptExactly t a a
swept_self t a m = record { added = []; log = sym (append-nil a.log.items); from = m.after; plays = m.local.plays; exact = tt }

-- the worker a was swept so far; then it looked
module _ (t : Tables) (z a b : Worker) (m : IsMadeOf t a) (k : IsMadeOf t b) (same : SameWorker z a) (l : Rattle.net_worker.specs.Glances.IsLooked a b) (s : SweptExactly t z a) where
  abbrev owner : ℕ → ℕ
  owner = owner_in t

  abbrev j : ℕ
  j = a.number

  abbrev given : ℕ → List Token
  given c = handed_by (take_end a c)

  abbrev now_given : ℕ → List Token
  now_given c = handed_by (take_end b c)

  abbrev more_given : ℕ → List Token
  more_given c = (handed_looked (take_end a c) (take_end b c) (l.takes.each c)).0

  joined : (c : ℕ) → given c ++ more_given c ≡ now_given c
  joined c = (handed_looked (take_end a c) (take_end b c) (l.takes.each c)).1

  none_given : (c : ℕ) → (Rattle.net_worker.specs.Workers.IsInto t b.number c → ⊥) → more_given c ≡ []
  none_given c f = all_none (given c) (more_given c) (now_given c) (joined c) (no_take (take_end b c) (λ e q. f (k.takes_in c e q).0))

  mine_not : (c : ℕ) → putter t.net.now owner c ≡ j → more_given c ≡ []
  mine_not c q = none_given c (λ i. i.2 (q ∙ sym l.number))

  from_others : FromOthers t.net.now owner j (λ c. values (more_given c)) (λ c. stamps_of (more_given c))
  from_others = record { tokens = λ c q. ap values (mine_not c q); stamps = λ c q. ap stamps_of (mine_not c q) }

  fuller : IsFuller t.net.now owner j (λ c. values (more_given c)) (λ c. stamps_of (more_given c)) (fed_opening t.net.now t.inputs given) (fed_opening t.net.now t.inputs now_given)
  fuller = fed_fuller t.net.now t.inputs owner j given now_given more_given joined (λ c b. none_given c (λ i. absurd (omega (arith, i.0))))

  plays_all : Plays t.net.now owner j 0 (fed_opening t.net.now t.inputs given) (z.log.items ++ s.added) m.after
  plays_all = subst (λ es. Plays t.net.now owner j 0 (fed_opening t.net.now t.inputs given) es m.after) s.log m.local.plays

  plays_first : Plays t.net.now owner j 0 (fed_opening t.net.now t.inputs given) z.log.items s.from
  plays_first = subst (λ i. Plays t.net.now owner i 0 (fed_opening t.net.now t.inputs given) z.log.items s.from) (sym same.number) s.plays

  too : Rattle.net_worker.specs.Steps.PlaysToo t.net.now owner j 0 (λ c. values (more_given c)) (λ c. stamps_of (more_given c)) (fed_opening t.net.now t.inputs now_given) (fed_opening t.net.now t.inputs given) z.log.items s.from
  too = more.more_handed_out t.net.now owner j 0 (λ c. values (more_given c)) (λ c. stamps_of (more_given c)) (fed_opening t.net.now t.inputs given) (fed_opening t.net.now t.inputs now_given) z.log.items s.from from_others fuller plays_first

  swept_then : SweptExactly t z b
  swept_then = record {
    added = s.added;
    log = ap (λ g. g.items) l.log ∙ s.log;
    from = too.to;
    plays = subst (λ i. Plays t.net.now owner i 0 (fed_opening t.net.now t.inputs now_given) z.log.items too.to) same.number too.plays;
    exact = exact_on t z a b z.clock too.to s.added (looked_same a b l)
        (exact_fuller t z a j (λ c. values (more_given c)) (λ c. stamps_of (more_given c)) z.clock (last_stamp 0 z.log.items) s.from too.to s.added m.after from_others too.fuller
        (plays_rest t.net.now owner j 0 (fed_opening t.net.now t.inputs given) z.log.items s.added s.from m.after plays_all plays_first) s.exact);
  }

pub swept_looked : (t : Tables) (z a b : Worker) → IsMadeOf t a → IsMadeOf t b → SameWorker z a → Rattle.net_worker.specs.Glances.IsLooked a b → SweptExactly t z a → SweptExactly t z b
swept_looked t z a b m k same l s = swept_then t z a b m k same l s

-- ---- then it made a firing

pub exact_snoc : (t : Tables) (z b : Worker) (j k c : ℕ) (s : Stamped) (es : List Entry) (u : Stamped) (e : Entry) (x : Effect) (r : ℕ) → Plays t.net.now (owner_in t) j c s es u → AreExact t z b k s es
    → effect t.net.now u.state e.firing ≡ Some x → ToldBy t z b e.firing.unit x.put r
    → e.stamp ≡ suc (max (last_stamp k es) (max (greatest t.net.now u e.firing.unit (used t.net.now u.state e.firing)) r))
    → AreExact t z b k s (es ++ e ∷ [])
exact_snoc t z b j k c s [] u e x r p a does told is =
    subst (λ y. AreExact t z b k y (e ∷ [])) (sym p) ((x, does, r, told, is), tt)
exact_snoc t z b j k c s (f ∷ es) u e x r p a does told is =
    (a.0, exact_snoc t z b j f.stamp f.stamp (after_at t.net.now f.stamp s f.firing) es u e x r p.2 a.1 does told is)
