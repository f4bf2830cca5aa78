-- Workers that get the ends of links.
use Rattle.std.proofs.Common.{◌≡◌, ◌≢◌, ◌⊎◌, inl, inr, ℕ, zero, suc, ◌+◌, ◌<◌, ◌≤◌, Option, Some, None, IsSome, List, [], ◌∷◌, ◌++◌, length, get_or, set, refl, ap, ◌∙◌, sym, subst, arith}
use Rattle.std.specs.List.{All}
use Rattle.std.proofs.Math.ListN.{length-set}
use Rattle.std.proofs.lemmas.Bool.{cases_eq}
use Rattle.std.proofs.lemmas.Grind.{get_or-set_at}
use Rattle.std.proofs.lemmas.List.{get_or-set_other, get_or_append_left, get_or-append_right, get_or_default}
use Rattle.elastic_link.specs.declared.put_end.PutEnd.{PutEnd}
use Rattle.elastic_link.specs.declared.take_end.TakeEnd.{TakeEnd}
use Rattle.elastic_link.specs.Ends.{IsLink, IsNewPut, IsNewTake}
use Rattle.net_worker.specs.Ends.{slots_for}
use Rattle.net_types.specs.Nets.{chan_at}
use Rattle.net_check.specs.Checks.{IsChecked}
use Rattle.net_worker.specs.declared.tables.Tables.{Tables}
use Rattle.net_worker.specs.declared.worker.Worker.{Worker}
use Rattle.net_worker.specs.Given.{SameWork, SameButPuts, SameButTakes, IsFresh}
use Rattle.net_worker.specs.Plays.{putter, taker}
use Rattle.net_worker.specs.Views.{net_of, inputs_of, unit_owners, owner_in, number_of, log_of, put_end, take_end}
use Rattle.net_worker.specs.Workers.{IsMadeOf, IsWhole, IsOutOf, IsInto, AreLinkedAt}
use Rattle.worker_run.specs.Crews.{AreMade, AreLinked, AllWhole, share_of}
use Rattle.worker_run.specs.private.Makings.{IsNewWorker, AreNew, IsJoined, AreJoined, AreJoinedTo, AreTablesFor}
use Rattle.worker_run.proofs.Places.{each_set, related_set}

-- ---- new workers

snoc_each : {X : Type 0} (P : ℕ → X → Type 0) (xs : List X) (y : X) → ((j : ℕ) (d : X) → j < length xs → P j (get_or xs j d)) → P (length xs) y
    → (j : ℕ) (d : X) → j < length (xs ++ y ∷ []) → P j (get_or (xs ++ y ∷ []) j d)
snoc_each P xs y each last j d l = by (Rattle.std.proofs.lemmas.Bool.cases_lt j (length xs))
  where
    by : (j < length xs) ⊎ (length xs ≤ j) → P j (get_or (xs ++ y ∷ []) j d)
    by (inl h) = subst (P j) (sym (get_or_append_left xs (y ∷ []) d j h)) (each j d h)
    by (inr h) =
        let e : length xs ≡ j = omega (arith, h, l, Rattle.std.proofs.Common.length-append xs (y ∷ [])) in
        let z : j ≡ length xs = sym e in
        let at : get_or (xs ++ y ∷ []) j d ≡ y = ap (λ i. get_or (xs ++ y ∷ []) i d) z ∙ (get_or-append_right xs (y ∷ []) (length xs) (length xs) d refl (omega arith) ∙ ap (λ i. get_or (y ∷ []) i d) (let w : Rattle.std.proofs.Common.◌-◌ (length xs) (length xs) ≡ 0 = omega arith in w)) in
        subst (P j) (sym at) (subst (λ i. P i y) e last)

pub new_one : (t : Tables) (count limit j : ℕ) (w : Worker) → IsMadeOf t w → IsFresh j (share_of limit count j) w → ((c : ℕ) → put_end w c ≡ None) → ((c : ℕ) → take_end w c ≡ None)
    → IsNewWorker t count limit 0 j w
new_one t count limit j w made fresh puts takes = record { made = made; fresh = fresh; puts = λ c l. puts c; takes = λ c l. takes c }

pub new_more : (t : Tables) (count limit : ℕ) (ws : List Worker) (w : Worker) (j : ℕ) → length ws ≡ j → AreNew t count limit 0 ws → IsNewWorker t count limit 0 j w → AreNew t count limit 0 (ws ++ w ∷ [])
new_more t count limit ws w j long each one = snoc_each (λ i x. IsNewWorker t count limit 0 i x) ws w each (subst (λ i. IsNewWorker t count limit 0 i w) (sym long) one)

pub joined_none : (t : Tables) (ws : List Worker) → AreJoined t 0 ws
joined_none t ws c d e l ne = absurd (omega arith)

-- ---- one channel

-- what giving ends leaves
pub record GivenPut (c : ℕ) (p : PutEnd) (a b : Worker) : Type 0 where
  pub made : (t : Tables) → IsMadeOf t a → IsMadeOf t b
  pub given : put_end b c ≡ Some p
  pub others : (i : ℕ) → i ≢ c → put_end b i ≡ put_end a i
  pub rest : SameButPuts a b

pub record GivenTake (c : ℕ) (e : TakeEnd) (a b : Worker) : Type 0 where
  pub made : (t : Tables) → IsMadeOf t a → IsMadeOf t b
  pub given : take_end b c ≡ Some e
  pub others : (i : ℕ) → i ≢ c → take_end b i ≡ take_end a i
  pub rest : SameButTakes a b

-- on other channels the ends are the same
record SameElsewhere (c : ℕ) (a b : Worker) : Type 0 where
  puts : (i : ℕ) → i ≢ c → put_end b i ≡ put_end a i
  takes : (i : ℕ) → i ≢ c → take_end b i ≡ take_end a i

elsewhere_same : (c : ℕ) (a : Worker) → SameElsewhere c a a
elsewhere_same c a = record { puts = λ i n. refl; takes = λ i n. refl }

elsewhere_then : (c : ℕ) (a b x : Worker) → SameElsewhere c a b → SameElsewhere c b x → SameElsewhere c a x
elsewhere_then c a b x p q = record { puts = λ i n. q.puts i n ∙ p.puts i n; takes = λ i n. q.takes i n ∙ p.takes i n }

elsewhere_put : (c : ℕ) (p : PutEnd) (a b : Worker) → GivenPut c p a b → SameElsewhere c a b
elsewhere_put c p a b g = record { puts = g.others; takes = λ i n. g.rest.takes i }

elsewhere_take : (c : ℕ) (e : TakeEnd) (a b : Worker) → GivenTake c e a b → SameElsewhere c a b
elsewhere_take c e a b g = record { puts = λ i n. g.rest.puts i; takes = g.others }

past : (n c : ℕ) → suc n ≤ c → c ≢ n
past n c l q = absurd (omega (arith, l, q))

fresh_same : (j share : ℕ) (a b : Worker) → SameWork a b → Rattle.net_worker.specs.Views.is_closed b ≡ Rattle.net_worker.specs.Views.is_closed a → IsFresh j share a → IsFresh j share b
fresh_same j share a b s c f = record { number_is = s.number ∙ f.number_is; share_is = s.share ∙ f.share_is; log = s.log ∙ f.log; closed = c ∙ f.closed }

new_later : (t : Tables) (count limit n j : ℕ) (w : Worker) → IsNewWorker t count limit n j w → IsNewWorker t count limit (suc n) j w
new_later t count limit n j w h = record { made = h.made; fresh = h.fresh; puts = λ c l. h.puts c (omega (arith, l)); takes = λ c l. h.takes c (omega (arith, l)) }

new_put : (t : Tables) (count limit n j : ℕ) (p : PutEnd) (a b : Worker) → IsNewWorker t count limit n j a → GivenPut n p a b → IsNewWorker t count limit (suc n) j b
new_put t count limit n j p a b h g = record {
  made = g.made t h.made;
  fresh = fresh_same j (share_of limit count j) a b g.rest.work g.rest.closed h.fresh;
  puts = λ c l. g.others c (past n c l) ∙ h.puts c (omega (arith, l));
  takes = λ c l. g.rest.takes c ∙ h.takes c (omega (arith, l));
}

new_take : (t : Tables) (count limit n j : ℕ) (e : TakeEnd) (a b : Worker) → IsNewWorker t count limit (suc n) j a → GivenTake n e a b → IsNewWorker t count limit (suc n) j b
new_take t count limit n j e a b h g = record {
  made = g.made t h.made;
  fresh = fresh_same j (share_of limit count j) a b g.rest.work g.rest.closed h.fresh;
  puts = λ c l. g.rest.puts c ∙ h.puts c l;
  takes = λ c l. g.others c (past n c l) ∙ h.takes c l;
}

put_some : (o : Option PutEnd) (p : PutEnd) → o ≡ Some p → IsSome o
put_some o p is = subst IsSome (sym is) refl

take_some : (o : Option TakeEnd) (e : TakeEnd) → o ≡ Some e → IsSome o
take_some o e is = subst IsSome (sym is) refl

joined_here : (c : ℕ) (p : PutEnd) (e : TakeEnd) (a b : Worker) → IsLink p e → put_end a c ≡ Some p → take_end b c ≡ Some e → IsJoined c a b
joined_here c p e a b link put take = record {
  put = put_some (put_end a c) p put;
  take = take_some (take_end b c) e take;
  link = λ q f is_put is_take. (
      let x : Some p ≡ Some q = sym put ∙ is_put in
      let y : Some e ≡ Some f = sym take ∙ is_take in
      let p' : p ≡ q = cc in
      let e' : e ≡ f = cc in
      subst (λ z. IsLink z f) p' (subst (IsLink p) e' link));
}

joined_there : (c n : ℕ) (a b x y : Worker) → c ≢ n → SameElsewhere n a x → SameElsewhere n b y → IsJoined c a b → IsJoined c x y
joined_there c n a b x y ne s r j = record {
  put = subst IsSome (sym (s.puts c ne)) j.put;
  take = subst IsSome (sym (r.takes c ne)) j.take;
  link = λ q f is_put is_take. j.link q f (sym (s.puts c ne) ∙ is_put) (sym (r.takes c ne) ∙ is_take);
}

module _ (t : Tables) (count limit n : ℕ) (ws : List Worker) (checked : IsChecked (net_of t)) (tables : AreTablesFor t count) (h : AreJoinedTo t count limit n ws) where
  pub from_below : (c : ℕ) → c < length (net_of t).chans → putter (net_of t) (owner_in t) c < length ws
  from_below c l = let b = tables.below (chan_at (net_of t) c).from.unit 0 (omega (arith, checked.within.from c l, t.owned)) in omega (arith, b, h.long)

  pub to_below : (c : ℕ) → c < length (net_of t).chans → taker (net_of t) (owner_in t) c < length ws
  to_below c l = let b = tables.below (chan_at (net_of t) c).to.unit 0 (omega (arith, checked.within.to c l, t.owned)) in omega (arith, b, h.long)

  -- a channel that stays within one worker
  pub joined_inside : putter (net_of t) (owner_in t) n ≡ taker (net_of t) (owner_in t) n → AreJoinedTo t count limit (suc n) ws
  joined_inside same = record {
    long = h.long;
    each = λ j d l. new_later t count limit n j (get_or ws j d) (h.each j d l);
    joined = λ c d e l ne. by c d e l ne (cases_eq c n);
  }
    where
      by : (c : ℕ) (d e : Worker) → c < suc n → putter (net_of t) (owner_in t) c ≢ taker (net_of t) (owner_in t) c → (c ≡ n) ⊎ (c ≡ n → ⊥)
          → IsJoined c (get_or ws (putter (net_of t) (owner_in t) c) d) (get_or ws (taker (net_of t) (owner_in t) c) e)
      by c d e l ne (inl q) = absurd (ne (ap (λ i. putter (net_of t) (owner_in t) i) q ∙ (same ∙ ap (λ i. taker (net_of t) (owner_in t) i) (sym q))))
      by c d e l ne (inr q) = h.joined c d e (omega (arith, l, q)) ne

  -- a channel from one worker to another
  module _ (from to : ℕ) (p : PutEnd) (e : TakeEnd) (a a' b b' : Worker) (x y : Worker)
      (inside : n < length (net_of t).chans) (is_from : from ≡ putter (net_of t) (owner_in t) n) (is_to : to ≡ taker (net_of t) (owner_in t) n) (ne : from ≢ to)
      (a_is : a ≡ get_or ws from x) (b_is : b ≡ get_or (set ws from a') to y) (link : IsLink p e) (put : GivenPut n p a a') (take : GivenTake n e b b') where
    abbrev mid : List Worker
    mid = set ws from a'

    abbrev new : List Worker
    new = set mid to b'

    from_in : from < length ws
    from_in = subst (λ i. i < length ws) (sym is_from) (from_below n inside)

    to_in : to < length ws
    to_in = subst (λ i. i < length ws) (sym is_to) (to_below n inside)

    mid_long : length mid ≡ length ws
    mid_long = length-set ws from a'

    new_long : length new ≡ length ws
    new_long = length-set mid to b' ∙ mid_long

    was_new : IsNewWorker t count limit n from a
    was_new = subst (IsNewWorker t count limit n from) (sym a_is) (h.each from x from_in)

    mid_new : AreNew t count limit (suc n) mid
    mid_new j d l =
        each_set (λ i w. IsNewWorker t count limit (suc n) i w) ws from a' (λ i f k q. new_later t count limit n i (get_or ws i f) (h.each i f k)) (new_put t count limit n from p a a' was_new put) j d l

    mid_to : IsNewWorker t count limit (suc n) to b
    mid_to = subst (IsNewWorker t count limit (suc n) to) (sym b_is) (mid_new to y (omega (arith, to_in, mid_long)))

    new_new : AreNew t count limit (suc n) new
    new_new j d l =
        each_set (λ i w. IsNewWorker t count limit (suc n) i w) mid to b' (λ i f k q. mid_new i f k) (new_take t count limit n to e b b' mid_to take) j d l

    elsewhere : (j : ℕ) (d : Worker) → j < length ws → SameElsewhere n (get_or ws j d) (get_or new j d)
    elsewhere j d l =
        let one = related_set (SameElsewhere n) ws from a' x (elsewhere_same n) (subst (λ w. SameElsewhere n w a') a_is (elsewhere_put n p a a' put)) j d l in
        let two = related_set (SameElsewhere n) mid to b' y (elsewhere_same n) (subst (λ w. SameElsewhere n w b') b_is (elsewhere_take n e b b' take)) j d (omega (arith, l, mid_long)) in
        elsewhere_then n (get_or ws j d) (get_or mid j d) (get_or new j d) one two

    at_from : (d : Worker) → get_or new from d ≡ a'
    at_from d = get_or-set_other mid to from b' d ne ∙ get_or-set_at ws from from a' d refl from_in

    at_to : (d : Worker) → get_or new to d ≡ b'
    at_to d = get_or-set_at mid to to b' d refl (omega (arith, to_in, mid_long))

    put_kept : put_end a' n ≡ Some p
    put_kept = put.given

    joined_by : (c : ℕ) (d f : Worker) → c < suc n → putter (net_of t) (owner_in t) c ≢ taker (net_of t) (owner_in t) c → (c ≡ n) ⊎ (c ≡ n → ⊥)
        → IsJoined c (get_or new (putter (net_of t) (owner_in t) c) d) (get_or new (taker (net_of t) (owner_in t) c) f)
    joined_by c d f l apart (inl q) =
        let v : putter (net_of t) (owner_in t) c ≡ from = ap (λ i. putter (net_of t) (owner_in t) i) q ∙ sym is_from in
        let w : taker (net_of t) (owner_in t) c ≡ to = ap (λ i. taker (net_of t) (owner_in t) i) q ∙ sym is_to in
        let one : get_or new (putter (net_of t) (owner_in t) c) d ≡ a' = ap (λ i. get_or new i d) v ∙ at_from d in
        let two : get_or new (taker (net_of t) (owner_in t) c) f ≡ b' = ap (λ i. get_or new i f) w ∙ at_to f in
        let here : IsJoined c a' b' = subst (λ i. IsJoined i a' b') (sym q) (joined_here n p e a' b' link put.given take.given) in
        subst (λ z. IsJoined c z (get_or new (taker (net_of t) (owner_in t) c) f)) (sym one) (subst (IsJoined c a') (sym two) here)
    joined_by c d f l apart (inr q) =
        let v = putter (net_of t) (owner_in t) c in
        let w = taker (net_of t) (owner_in t) c in
        let in_net : c < length (net_of t).chans = omega (arith, l, q, inside) in
        joined_there c n (get_or ws v d) (get_or ws w f) (get_or new v d) (get_or new w f) q (elsewhere v d (from_below c in_net)) (elsewhere w f (to_below c in_net)) (h.joined c d f (omega (arith, l, q)) apart)

    pub joined_next : AreJoinedTo t count limit (suc n) new
    joined_next = record {
      long = new_long ∙ h.long;
      each = new_new;
      joined = λ c d f l apart. joined_by c d f l apart (cases_eq c n);
    }

-- what is asked of the two workers
pub new_at : (t : Tables) (count limit n : ℕ) (ws : List Worker) (at : ℕ) (a x : Worker) → AreNew t count limit n ws → at < length ws → a ≡ get_or ws at x → IsNewWorker t count limit n at a
new_at t count limit n ws at a x each l is = subst (IsNewWorker t count limit n at) (sym is) (each at x l)

pub out_of_worker : (t : Tables) (count limit n from to : ℕ) (a : Worker) → IsNewWorker t count limit n from a → n < length (net_of t).chans
    → from ≡ putter (net_of t) (owner_in t) n → to ≡ taker (net_of t) (owner_in t) n → from ≢ to → IsOutOf t (number_of a) n
out_of_worker t count limit n from to a new inside is_from is_to ne =
    let num = new.fresh.number_is in
    (inside, sym is_from ∙ sym num, λ q. ne (sym (is_to ∙ (q ∙ num))))

pub into_worker : (t : Tables) (count limit n from to : ℕ) (b : Worker) → IsNewWorker t count limit n to b → n < length (net_of t).chans
    → from ≡ putter (net_of t) (owner_in t) n → to ≡ taker (net_of t) (owner_in t) n → from ≢ to → IsInto t (number_of b) n
into_worker t count limit n from to b new inside is_from is_to ne =
    let num = new.fresh.number_is in
    (inside, sym is_to ∙ sym num, λ q. ne (is_from ∙ (q ∙ num)))

pub put_asked : (t : Tables) (count limit n from to : ℕ) (ws : List Worker) (x : Worker) (p : PutEnd) → IsChecked (net_of t) → AreTablesFor t count → AreJoinedTo t count limit n ws
    → n < length (net_of t).chans → from ≡ putter (net_of t) (owner_in t) n → to ≡ taker (net_of t) (owner_in t) n → from ≢ to → IsNewPut (chan_at (net_of t) n).slots p
    → (s : Tables) × IsMadeOf s (get_or ws from x) × IsOutOf s (number_of (get_or ws from x)) n × IsNewPut (chan_at (net_of s) n).slots p
put_asked t count limit n from to ws x p checked tables h inside is_from is_to ne new =
    let l : from < length ws = subst (λ i. i < length ws) (sym is_from) (from_below t count limit n ws checked tables h n inside) in
    let w = h.each from x l in
    (t, w.made, out_of_worker t count limit n from to (get_or ws from x) w inside is_from is_to ne, new)

pub put_none : (t : Tables) (count limit n from : ℕ) (ws : List Worker) (x : Worker) → IsChecked (net_of t) → AreTablesFor t count → AreJoinedTo t count limit n ws
    → n < length (net_of t).chans → from ≡ putter (net_of t) (owner_in t) n → put_end (get_or ws from x) n ≡ None
put_none t count limit n from ws x checked tables h inside is_from =
    let l : from < length ws = subst (λ i. i < length ws) (sym is_from) (from_below t count limit n ws checked tables h n inside) in
    (h.each from x l).puts n (omega arith)

-- the worker that takes, after the other got its end
taker_there : (t : Tables) (count limit n from to : ℕ) (ws : List Worker) (a' y : Worker) → IsChecked (net_of t) → AreTablesFor t count → AreJoinedTo t count limit n ws
    → n < length (net_of t).chans → to ≡ taker (net_of t) (owner_in t) n → from ≢ to → IsNewWorker t count limit n to (get_or (set ws from a') to y)
taker_there t count limit n from to ws a' y checked tables h inside is_to ne =
    let l : to < length ws = subst (λ i. i < length ws) (sym is_to) (to_below t count limit n ws checked tables h n inside) in
    subst (IsNewWorker t count limit n to) (sym (get_or-set_other ws from to a' y (λ q. ne (sym q)))) (h.each to y l)

pub take_asked : (t : Tables) (count limit n from to : ℕ) (ws : List Worker) (a' y : Worker) (e : TakeEnd) → IsChecked (net_of t) → AreTablesFor t count → AreJoinedTo t count limit n ws
    → n < length (net_of t).chans → from ≡ putter (net_of t) (owner_in t) n → to ≡ taker (net_of t) (owner_in t) n → from ≢ to → IsNewTake e → slots_for e ≡ (chan_at (net_of t) n).slots
    → (s : Tables) × IsMadeOf s (get_or (set ws from a') to y) × IsInto s (number_of (get_or (set ws from a') to y)) n × IsNewTake e × (slots_for e ≡ (chan_at (net_of s) n).slots)
take_asked t count limit n from to ws a' y e checked tables h inside is_from is_to ne new slots =
    let w = taker_there t count limit n from to ws a' y checked tables h inside is_to ne in
    (t, w.made, into_worker t count limit n from to (get_or (set ws from a') to y) w inside is_from is_to ne, new, slots)

pub take_none : (t : Tables) (count limit n from to : ℕ) (ws : List Worker) (a' y : Worker) → IsChecked (net_of t) → AreTablesFor t count → AreJoinedTo t count limit n ws
    → n < length (net_of t).chans → to ≡ taker (net_of t) (owner_in t) n → from ≢ to → take_end (get_or (set ws from a') to y) n ≡ None
take_none t count limit n from to ws a' y checked tables h inside is_to ne = (taker_there t count limit n from to ws a' y checked tables h inside is_to ne).takes n (omega arith)

-- ---- all channels

pub made_of : (t : Tables) (count limit n : ℕ) (ws : List Worker) → AreTablesFor t count → AreJoinedTo t count limit n ws → AreMade t ws
made_of t count limit n ws tables h = record {
  few = omega (arith, h.long, tables.most);
  fit = tables.fit;
  below = λ i d l. (let b = tables.below i d l in omega (arith, b, h.long));
  numbered = λ j d l. (h.each j d l).fresh.number_is;
  made = λ j d l nc. (h.each j d l).made;
}

pub linked_of : (t : Tables) (count limit : ℕ) (ws : List Worker) → AreJoinedTo t count limit (length (net_of t).chans) ws → AreLinked t ws
linked_of t count limit ws h c d e l ne p q = (h.joined c d e l ne).link

pub whole_of : (t : Tables) (count limit : ℕ) (ws : List Worker) → AreJoinedTo t count limit (length (net_of t).chans) ws → AllWhole t ws
whole_of t count limit ws h j d l =
    let w = h.each j d l in
    let num = w.fresh.number_is in
    record {
      puts = λ c o. (
          let v : putter (net_of t) (owner_in t) c ≡ j = o.1 ∙ num in
          let s = (h.joined c d d o.0 (λ q. o.2 (sym q ∙ o.1))).put in
          subst (λ i. IsSome (put_end (get_or ws i d) c)) v s);
      takes = λ c o. (
          let v : taker (net_of t) (owner_in t) c ≡ j = o.1 ∙ num in
          let s = (h.joined c d d o.0 (λ q. o.2 (q ∙ o.1))).take in
          subst (λ i. IsSome (take_end (get_or ws i d) c)) v s);
      not_closed = w.fresh.closed;
    }
