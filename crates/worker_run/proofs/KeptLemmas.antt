-- Workers of which nothing has moved.
use Rattle.std.proofs.Common.{◌≡◌, ◌≢◌, ◌⊎◌, inl, inr, ℕ, suc, ◌+◌, ◌<◌, ◌≤◌, true, false, Option, Some, None, IsSome, List, [], ◌∷◌, length, get_or, set, refl, ap, ◌∙◌, sym, subst, arith}
use Rattle.std.proofs.Math.Logic.{∥∥₁_elim}
use Rattle.std.proofs.Math.Bridge.{le_prop}
use Rattle.std.proofs.lemmas.Bool.{cases_eq}
use Rattle.std.proofs.lemmas.Grind.{get_or-set_at}
use Rattle.std.proofs.lemmas.List.{get_or-set_other, get_or_default, length-set}
use Rattle.net_types.specs.Nets.{chan_at}
use Rattle.net_check.specs.Checks.{IsChecked}
use Rattle.firing_log.specs.declared.entry.Entry.{Entry}
use Rattle.net_worker.specs.declared.tables.Tables.{Tables}
use Rattle.net_worker.specs.declared.worker.Worker.{Worker}
use Rattle.net_worker.specs.Handed.{SameLogged}
use Rattle.net_worker.specs.Plays.{putter, taker}
use Rattle.net_worker.specs.Settles.{IsKeptWith}
use Rattle.net_worker.specs.Views.{net_of, owner_in, log_of, is_closed, put_end, take_end}
use Rattle.net_worker.specs.Workers.{IsWhole, IsOutOf, IsInto, AreLinkedAt, IsSoundAt}
use Rattle.net_worker.proofs.Settling.{kept_with_same, kept_with_then, sound_kept, linked_kept, put_stays, take_stays}
use Rattle.worker_run.specs.Crews.{AreMade, AreLinked, AllWhole, logs_of}
use Rattle.worker_run.specs.private.Settlings.{AreKept, IsSettled, AreSettled, AreClosed, IsClosedFrom}
use Rattle.worker_run.proofs.TruthLemmas.{from_hidden, hidden_map}

pub are_kept_same : (ws : List Worker) → AreKept ws ws
are_kept_same ws = record { long = refl; each = λ j d l. kept_with_same (get_or ws j d) }

pub are_kept_then : (a b c : List Worker) → AreKept a b → AreKept b c → AreKept a c
are_kept_then a b c k l = record {
  long = l.long ∙ k.long;
  each = λ j d h. kept_with_then (get_or a j d) (get_or b j d) (get_or c j d) (k.each j d h) (l.each j d (omega (arith, h, k.long)));
}

-- ---- owners

pub putter_below : (t : Tables) (ws : List Worker) → IsChecked (net_of t) → AreMade t ws → (c : ℕ) → c < length (net_of t).chans → putter (net_of t) (owner_in t) c < length ws
putter_below t ws checked made c l = made.below (chan_at (net_of t) c).from.unit 0 (omega (arith, checked.within.from c l, t.owned))

pub taker_below : (t : Tables) (ws : List Worker) → IsChecked (net_of t) → AreMade t ws → (c : ℕ) → c < length (net_of t).chans → taker (net_of t) (owner_in t) c < length ws
taker_below t ws checked made c l = made.below (chan_at (net_of t) c).to.unit 0 (omega (arith, checked.within.to c l, t.owned))

pub putter_hidden : (t : Tables) (ws : List Worker) → IsChecked (net_of t) → ∥ AreMade t ws ∥₁ → (c : ℕ) → c < length (net_of t).chans → putter (net_of t) (owner_in t) c < length ws
putter_hidden t ws checked made c l = ∥∥₁_elim made le_prop (λ m. putter_below t ws checked m c l)

pub taker_hidden : (t : Tables) (ws : List Worker) → IsChecked (net_of t) → ∥ AreMade t ws ∥₁ → (c : ℕ) → c < length (net_of t).chans → taker (net_of t) (owner_in t) c < length ws
taker_hidden t ws checked made c l = ∥∥₁_elim made le_prop (λ m. taker_below t ws checked m c l)

-- ---- what stays true

pub made_kept : (t : Tables) (a b : List Worker) → AreKept a b → AreMade t a → AreMade t b
made_kept t a b k m = record {
  few = omega (arith, k.long, m.few);
  fit = m.fit;
  below = λ i d l. (let h = m.below i d l in omega (arith, h, k.long));
  numbered = λ j d l. (let h : j < length a = omega (arith, l, k.long) in (k.each j d h).work.number ∙ m.numbered j d h);
  made = λ j d l nc. (let h : j < length a = omega (arith, l, k.long) in (k.each j d h).made t (m.made j d h (sym (k.each j d h).closed ∙ nc)));
}

pub made_hidden : (t : Tables) (a b : List Worker) → AreKept a b → ∥ AreMade t a ∥₁ → ∥ AreMade t b ∥₁
made_hidden t a b k m = hidden_map m (made_kept t a b k)

pub are_linked_kept : (t : Tables) (a b : List Worker) → AreKept a b → AreLinked t a → AreLinked t b
are_linked_kept t a b k linked c d e l ne p q =
    let v = putter (net_of t) (owner_in t) c in
    let w = taker (net_of t) (owner_in t) c in
    let hv : v < length a = omega (arith, p, k.long) in
    let hw : w < length a = omega (arith, q, k.long) in
    linked_kept c (get_or a v d) (get_or a w e) (get_or b v d) (get_or b w e) (linked c d e l ne hv hw) (k.each v d hv) (k.each w e hw)

whole_worker : (t : Tables) (a b : Worker) → IsKeptWith a b → IsWhole t a → IsWhole t b
whole_worker t a b k h = record {
  puts = λ c o. put_stays c a b k (h.puts c (subst (λ n. IsOutOf t n c) k.work.number o));
  takes = λ c o. take_stays c a b k (h.takes c (subst (λ n. IsInto t n c) k.work.number o));
  not_closed = k.closed ∙ h.not_closed;
}

pub whole_kept : (t : Tables) (a b : List Worker) → AreKept a b → AllWhole t a → AllWhole t b
whole_kept t a b k whole j d l = let h : j < length a = omega (arith, l, k.long) in whole_worker t (get_or a j d) (get_or b j d) (k.each j d h) (whole j d h)

pub settled_kept : (t : Tables) (a b : List Worker) (n : ℕ) → IsChecked (net_of t) → ∥ AreMade t a ∥₁ → n ≤ length (net_of t).chans → AreKept a b → AreSettled t a n → AreSettled t b n
settled_kept t a b n checked made most k s c l d ne =
    let v = putter (net_of t) (owner_in t) c in
    let w = taker (net_of t) (owner_in t) c in
    let h : c < length (net_of t).chans = omega (arith, l, most) in
    sound_kept c (get_or a v d) (get_or a w d) (get_or b v d) (get_or b w d) (s c l d ne)
    (k.each v d (putter_hidden t a checked made c h)) (k.each w d (taker_hidden t a checked made c h))

pub settled_next : (t : Tables) (ws : List Worker) (n : ℕ) → AreSettled t ws n → IsSettled t ws n → AreSettled t ws (suc n)
settled_next t ws n all one c l = by (cases_eq c n)
  where
    by : (c ≡ n) ⊎ (c ≡ n → ⊥) → IsSettled t ws c
    by (inl e) = subst (IsSettled t ws) (sym e) one
    by (inr ne) = all c (omega (arith, l, ne))

-- ---- the ends of a channel are there

some_or_not : {X : Type 0} (o : Option X) → IsSome o ⊎ (IsSome o → ⊥)
some_or_not None = inr (λ h. cc)
some_or_not (Some x) = inl refl

pub put_there : (t : Tables) (ws : List Worker) → IsChecked (net_of t) → ∥ AreMade t ws ∥₁ → AllWhole t ws → (c : ℕ) → c < length (net_of t).chans
    → putter (net_of t) (owner_in t) c ≢ taker (net_of t) (owner_in t) c → (d : Worker) → IsSome (put_end (get_or ws (putter (net_of t) (owner_in t) c) d) c)
put_there t ws checked made whole c l ne d =
    let v = putter (net_of t) (owner_in t) c in
    from_hidden made (some_or_not (put_end (get_or ws v d) c)) (λ m. (
    let b = putter_below t ws checked m c l in
    let n = m.numbered v d b in
    (whole v d b).puts c (l, sym n, λ q. ne (sym (q ∙ n)))))

pub take_there : (t : Tables) (ws : List Worker) → IsChecked (net_of t) → ∥ AreMade t ws ∥₁ → AllWhole t ws → (c : ℕ) → c < length (net_of t).chans
    → putter (net_of t) (owner_in t) c ≢ taker (net_of t) (owner_in t) c → (d : Worker) → IsSome (take_end (get_or ws (taker (net_of t) (owner_in t) c) d) c)
take_there t ws checked made whole c l ne d =
    let w = taker (net_of t) (owner_in t) c in
    from_hidden made (some_or_not (take_end (get_or ws w d) c)) (λ m. (
    let b = taker_below t ws checked m c l in
    let n = m.numbered w d b in
    (whole w d b).takes c (l, sym n, λ q. ne (q ∙ n))))

-- ---- logs

both_heads : (x y : List Entry) (xs ys : List (List Entry)) → x ≡ y → xs ≡ ys → x ∷ xs ≡ y ∷ ys
both_heads x y xs ys p q = ap (λ z. z ∷ xs) p ∙ ap (λ zs. y ∷ zs) q

pub logs_by : (a b : List Worker) → length b ≡ length a → ((j : ℕ) (d : Worker) → j < length a → log_of (get_or b j d) ≡ log_of (get_or a j d)) → logs_of b ≡ logs_of a
logs_by [] [] long same = refl
logs_by [] (y ∷ ys) long same = absurd (omega (arith, long))
logs_by (x ∷ xs) [] long same = absurd (omega (arith, long))
logs_by (x ∷ xs) (y ∷ ys) long same =
    both_heads (log_of y) (log_of x) (logs_of ys) (logs_of xs) (same 0 x (omega arith)) (logs_by xs ys (omega (arith, long)) (λ j d l. same (suc j) d (omega (arith, l))))

-- ---- closed workers

closed_linked : (c : ℕ) (a b x y : Worker) → AreLinkedAt c a b → IsClosedFrom a x → IsClosedFrom b y → AreLinkedAt c x y
closed_linked c a b x y linked k l p e is_put is_take = linked p e (sym (k.rest.puts c) ∙ is_put) (sym (l.rest.takes c) ∙ is_take)

pub linked_closed : (t : Tables) (a b : List Worker) → AreClosed a b → AreLinked t a → AreLinked t b
linked_closed t a b k linked c d e l ne p q =
    let v = putter (net_of t) (owner_in t) c in
    let w = taker (net_of t) (owner_in t) c in
    let hv : v < length a = omega (arith, p, k.long) in
    let hw : w < length a = omega (arith, q, k.long) in
    closed_linked c (get_or a v d) (get_or a w e) (get_or b v d) (get_or b w e) (linked c d e l ne hv hw) (k.each v d hv) (k.each w e hw)

-- workers that are all closed are still a crew
pub made_logged : (t : Tables) (a b : List Worker) → length b ≡ length a → ((j : ℕ) (d : Worker) → j < length a → SameLogged (get_or a j d) (get_or b j d))
    → ((j : ℕ) (d : Worker) → j < length b → is_closed (get_or b j d) ≡ true) → AreMade t a → AreMade t b
made_logged t a b long same closed m = record {
  few = omega (arith, long, m.few);
  fit = m.fit;
  below = λ i d l. (let h = m.below i d l in omega (arith, h, long));
  numbered = λ j d l. (let h : j < length a = omega (arith, l, long) in (same j d h).number ∙ m.numbered j d h);
  made = λ j d l nc. (let e : true ≡ false = sym (closed j d l) ∙ nc in absurd (cc));
}

-- ---- a channel whose workers are found

module _ (t : Tables) (ws : List Worker) (checked : IsChecked (net_of t)) (made : ∥ AreMade t ws ∥₁) (c from to : ℕ) (l : c < length (net_of t).chans)
    (is_from : from ≡ putter (net_of t) (owner_in t) c) (is_to : to ≡ taker (net_of t) (owner_in t) c) where
  pub from_within : from < length ws
  from_within = subst (λ i. i < length ws) (sym is_from) (putter_hidden t ws checked made c l)

  pub to_within : to < length ws
  to_within = subst (λ i. i < length ws) (sym is_to) (taker_hidden t ws checked made c l)

  apart : from ≢ to → putter (net_of t) (owner_in t) c ≢ taker (net_of t) (owner_in t) c
  apart ne q = ne (is_from ∙ (q ∙ sym is_to))

  pub from_put : AllWhole t ws → from ≢ to → (d : Worker) → IsSome (put_end (get_or ws from d) c)
  from_put whole ne d = subst (λ i. IsSome (put_end (get_or ws i d) c)) (sym is_from) (put_there t ws checked made whole c l (apart ne) d)

  pub to_take : AllWhole t ws → from ≢ to → (d : Worker) → IsSome (take_end (get_or ws to d) c)
  to_take whole ne d = subst (λ i. IsSome (take_end (get_or ws i d) c)) (sym is_to) (take_there t ws checked made whole c l (apart ne) d)

  pub from_to_link : AreLinked t ws → from ≢ to → (d e : Worker) → AreLinkedAt c (get_or ws from d) (get_or ws to e)
  from_to_link linked ne d e =
      subst (λ i. AreLinkedAt c (get_or ws i d) (get_or ws to e)) (sym is_from)
      (subst (λ i. AreLinkedAt c (get_or ws (putter (net_of t) (owner_in t) c) d) (get_or ws i e)) (sym is_to)
      (linked c d e l (apart ne) (putter_hidden t ws checked made c l) (taker_hidden t ws checked made c l)))

-- so settled
pub settled_by : (t : Tables) (ws : List Worker) (c from to : ℕ) → from ≡ putter (net_of t) (owner_in t) c → to ≡ taker (net_of t) (owner_in t) c
    → ((d e : Worker) → IsSoundAt c (get_or ws from d) (get_or ws to e)) → IsSettled t ws c
settled_by t ws c from to is_from is_to sound d ne =
    subst (λ i. IsSoundAt c (get_or ws i d) (get_or ws (taker (net_of t) (owner_in t) c) d)) is_from
    (subst (λ i. IsSoundAt c (get_or ws from d) (get_or ws i d)) is_to (sound d d))

pub settled_inside : (t : Tables) (ws : List Worker) (c : ℕ) → putter (net_of t) (owner_in t) c ≡ taker (net_of t) (owner_in t) c → IsSettled t ws c
settled_inside t ws c same d ne = absurd (ne same)

pub sound_cast : (c : ℕ) (a a' b b' : Worker) → a' ≡ a → b' ≡ b → IsSoundAt c a b → IsSoundAt c a' b'
sound_cast c a a' b b' p q h = subst (λ (w : Worker). IsSoundAt c w b') (sym p) (subst (IsSoundAt c a) (sym q) h)

pub settled_more : (t : Tables) (a b x : List Worker) (n : ℕ) → IsChecked (net_of t) → ∥ AreMade t a ∥₁ → n ≤ length (net_of t).chans → AreKept a b → AreKept b x → AreSettled t b n → IsSettled t x n → AreSettled t x (n + 1)
settled_more t a b x n checked made most k l s one =
    let e : suc n ≡ n + 1 = omega arith in
    subst (AreSettled t x) e (settled_next t x n (settled_kept t b x n checked (made_hidden t a b k made) most l s) one)

-- ---- workers that are closed one after another

-- the first i are closed, and the others as they were
pub record AreClosedTo (a b : List Worker) (i : ℕ) : Type 0 where
  pub long : length b ≡ length a
  pub done : (j : ℕ) (d : Worker) → j < i → j < length a → IsClosedFrom (get_or a j d) (get_or b j d)
  pub rest : (j : ℕ) (d : Worker) → i ≤ j → get_or b j d ≡ get_or a j d

pub closed_none : (a : List Worker) → AreClosedTo a a 0
closed_none a = record { long = refl; done = λ j d l k. absurd (omega (arith, l)); rest = λ j d l. refl }

pub closed_next : (a b : List Worker) (i : ℕ) (w e : Worker) → i < length a → AreClosedTo a b i → IsClosedFrom (get_or b i e) w → AreClosedTo a (set b i w) (i + 1)
closed_next a b i w e within h closed = record {
  long = length-set b i w ∙ h.long;
  done = λ j d l k. done j d l k (cases_eq j i);
  rest = λ j d l. get_or-set_other b i j w d (λ q. absurd (omega (arith, l, q))) ∙ h.rest j d (omega (arith, l));
}
  where
    done : (j : ℕ) (d : Worker) → j < i + 1 → j < length a → (j ≡ i) ⊎ (j ≡ i → ⊥) → IsClosedFrom (get_or a j d) (get_or (set b i w) j d)
    done j d l k (inl q) =
        let in_b : i < length b = omega (arith, within, h.long) in
        let new : get_or (set b i w) j d ≡ w = get_or-set_at b i j w d q in_b in
        let old : get_or b i e ≡ get_or a j d = get_or_default b i e d in_b ∙ (h.rest i d (omega arith) ∙ ap (λ n. get_or a n d) (sym q)) in
        subst (IsClosedFrom (get_or a j d)) (sym new) (subst (λ x. IsClosedFrom x w) old closed)
    done j d l k (inr n) = subst (IsClosedFrom (get_or a j d)) (sym (get_or-set_other b i j w d n)) (h.done j d (omega (arith, l, n)) k)

pub closed_all : (a b : List Worker) (i : ℕ) → length a ≤ i → AreClosedTo a b i → AreClosed a b
closed_all a b i all h = record { long = h.long; each = λ j d l. h.done j d (omega (arith, l, all)) l }
