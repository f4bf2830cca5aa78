-- Workers that were swept, once and again.
use Rattle.std.proofs.Common.{◌≡◌, ◌⊎◌, inl, inr, ℕ, suc, ◌+◌, ◌<◌, ◌≤◌, List, [], ◌∷◌, ◌++◌, length, get_or, set, refl, ap, ◌∙◌, sym, subst, arith, length-append}
use Rattle.std.specs.List.{All}
use Rattle.std.proofs.Math.ListN.{length-set}
use Rattle.std.proofs.lemmas.Bool.{cases_eq}
use Rattle.std.proofs.lemmas.Grind.{get_or-set_at}
use Rattle.std.proofs.lemmas.List.{get_or-set_other, get_or_default}
use Rattle.std.proofs.lemmas.List.Sums.{sum_by-set, sum_by-cons}
use Rattle.net_worker.specs.declared.tables.Tables.{Tables}
use Rattle.net_worker.specs.declared.worker.Worker.{Worker}
use Rattle.net_worker.specs.Views.{log_room, log_of, log_share}
use Rattle.net_worker.specs.Steps.{last_stamp}
use Rattle.net_worker.specs.Workers.{IsFull, IsMadeOf, IsWhole, SameWorker}
use Rattle.worker_run.specs.private.Sweepings.{IsSweptFrom, AreSwept, AreSweptBy, AllStopped, HasStopped, AreTurnsAsked, AreTurnsOf, IsTurnAsked, rooms_of}
use Rattle.worker_run.proofs.RunLemmas.{same_worker, same_worker_then, whole_later}

-- ---- one worker

pub swept_self : (t : Tables) (a : Worker) → IsMadeOf t a → IsSweptFrom t a a
swept_self t a m = record { made = m; same = same_worker a }

pub swept_then : (t : Tables) (a b c : Worker) → IsSweptFrom t a b → IsSweptFrom t b c → IsSweptFrom t a c
swept_then t a b c p q = record { made = q.made; same = same_worker_then a b c p.same q.same }

-- no log has more room later
pub room_later : (t : Tables) (a b : Worker) → IsMadeOf t a → IsSweptFrom t a b → log_room b ≤ log_room a
room_later t a b m s =
    let more = ap length s.same.log.1 in
    let long = length-append (log_of a) s.same.log.0 in
    omega (arith, m.room, s.made.room, s.same.share, more, long)

-- where no entry was added a full log is full
pub full_still : (t : Tables) (a b : Worker) → IsMadeOf t a → IsMadeOf t b → b.log ≡ a.log → IsFull a → IsFull b
full_still t a b m k log (inl none) = inl (ap (λ l. l.room) log ∙ none)
full_still t a b m k log (inr last) = inr (let same : b.clock ≡ a.clock = k.clock ∙ (ap (λ l. last_stamp 0 l.items) log ∙ sym m.clock) in omega (arith, last, same))

-- ---- all workers

pub all_swept_self : (t : Tables) (ws : List Worker) → All (IsMadeOf t) ws → AreSwept t ws ws
all_swept_self t ws m = record { long = refl; each = λ j d l. swept_self t (get_or ws j d) (m j d l) }

pub all_swept_then : (t : Tables) (a b c : List Worker) → AreSwept t a b → AreSwept t b c → AreSwept t a c
all_swept_then t a b c p q = record {
  long = q.long ∙ p.long;
  each = λ j d l. swept_then t (get_or a j d) (get_or b j d) (get_or c j d) (p.each j d l) (q.each j d (omega (arith, l, p.long)));
}

pub swept_by_then : (t : Tables) (Opened : Type 0) (a b c : List Worker) → AreSwept t a b → AreSweptBy t Opened b c → AreSweptBy t Opened a c
swept_by_then t Opened a b c p q = record { swept = all_swept_then t a b c p q.swept; stopped = q.stopped }

pub all_made : (t : Tables) (a b : List Worker) → AreSwept t a b → All (IsMadeOf t) b
all_made t a b s j d l = (s.each j d (omega (arith, l, s.long))).made

pub all_whole : (t : Tables) (a b : List Worker) → AreSwept t a b → All (IsWhole t) a → All (IsWhole t) b
all_whole t a b s w j d l = let k : j < length a = omega (arith, l, s.long) in whole_later t (get_or a j d) (get_or b j d) (s.each j d k).same (w j d k)

rooms_below : (a b : List Worker) → length b ≡ length a → ((j : ℕ) (d : Worker) → j < length a → log_room (get_or b j d) ≤ log_room (get_or a j d)) → rooms_of b ≤ rooms_of a
rooms_below [] [] l h = omega arith
rooms_below [] (y ∷ b) l h = absurd (omega (arith, l))
rooms_below (x ∷ a) [] l h = absurd (omega (arith, l))
rooms_below (x ∷ a) (y ∷ b) l h =
    let rest = rooms_below a b (omega (arith, l)) (λ j d k. h (suc j) d (omega (arith, k))) in
    let first : log_room y ≤ log_room x = h 0 x (omega arith) in
    omega (arith, rest, first, sum_by-cons log_room x a, sum_by-cons log_room y b)

pub rooms_later : (t : Tables) (a b : List Worker) → All (IsMadeOf t) a → AreSwept t a b → rooms_of b ≤ rooms_of a
rooms_later t a b m s = rooms_below a b s.long (λ j d l. room_later t (get_or a j d) (get_or b j d) (m j d l) (s.each j d l))

-- ---- a round, worker by worker

-- the first i workers were swept once, where they were asked, and made n firings
pub record AreSweptTo (Asked : Type 0) (t : Tables) (a b : List Worker) (n i : ℕ) : Type 0 where
  pub swept : AreSwept t a b
  pub rest : (j : ℕ) (d : Worker) → i ≤ j → get_or b j d ≡ get_or a j d
  pub none : Asked → n ≡ 0 → (j : ℕ) (d : Worker) → j < i → j < length a → HasStopped t (get_or b j d)
  pub some : 0 < n → rooms_of b < rooms_of a

pub swept_to_none : (Asked : Type 0) (t : Tables) (ws : List Worker) → All (IsMadeOf t) ws → AreSweptTo Asked t ws ws 0 0
swept_to_none Asked t ws m = record {
  swept = all_swept_self t ws m;
  rest = λ j d l. refl;
  none = λ asked q j d l k. absurd (omega (arith, l));
  some = λ q. absurd (omega (arith, q));
}

-- one more is swept, whether or not it takes its turn
module _ (t : Tables) (a b : List Worker) (i : ℕ) (w e : Worker) (within : i < length a) (made : All (IsMadeOf t) b) (h : AreSwept t a b) (one : IsSweptFrom t (get_or b i e) w) where
  in_b : i < length b
  in_b = omega (arith, within, h.long)

  there : (j : ℕ) (d : Worker) → j ≡ i → get_or (set b i w) j d ≡ w
  there j d q = get_or-set_at b i j w d q in_b

  each_next : (j : ℕ) (d : Worker) → j < length a → (j ≡ i) ⊎ (j ≡ i → ⊥) → IsSweptFrom t (get_or a j d) (get_or (set b i w) j d)
  each_next j d l (inl q) =
      let old : get_or b i e ≡ get_or b j d = get_or_default b i e d in_b ∙ ap (λ n. get_or b n d) (sym q) in
      swept_then t (get_or a j d) (get_or b j d) (get_or (set b i w) j d) (h.each j d l) (subst (IsSweptFrom t (get_or b j d)) (sym (there j d q)) (subst (λ x. IsSweptFrom t x w) old one))
  each_next j d l (inr n) = subst (IsSweptFrom t (get_or a j d)) (sym (get_or-set_other b i j w d n)) (h.each j d l)

  pub swept_next : AreSwept t a (set b i w)
  swept_next = record { long = length-set b i w ∙ h.long; each = λ j d l. each_next j d l (cases_eq j i) }

  rooms_set : rooms_of (set b i w) + log_room (get_or b i e) ≡ rooms_of b + log_room w
  rooms_set = sum_by-set log_room b i w e in_b

  pub rooms_next : rooms_of (set b i w) ≤ rooms_of b
  rooms_next = let less = room_later t (get_or b i e) w (made i e in_b) one in omega (arith, less, rooms_set)

  pub rooms_less : log_room w < log_room (get_or b i e) → rooms_of (set b i w) < rooms_of b
  rooms_less less = omega (arith, less, rooms_set)

pub swept_to_next : (Asked : Type 0) (t : Tables) (a b : List Worker) (n i m k : ℕ) (w e : Worker) → i < length a → All (IsMadeOf t) a → AreSweptTo Asked t a b n i → IsSweptFrom t (get_or b i e) w
    → IsTurnAsked Asked t m (get_or b i e) w → (k ≡ 0 → (n ≡ 0) × (m ≡ 0)) → ((n ≡ 0) × (m ≡ 0) → k ≡ 0) → AreSweptTo Asked t a (set b i w) k (i + 1)
swept_to_next Asked t a b n i m k w e within first h one turn zero zeros = record {
  swept = swept_next t a b i w e within made h.swept one;
  rest = λ j d l. get_or-set_other b i j w d (λ q. absurd (omega (arith, l, q))) ∙ h.rest j d (omega (arith, l));
  none = λ asked q j d l u. none_next asked (zero q) j d l u (cases_eq j i);
  some = λ q. some_next q (cases_eq m 0) (cases_eq n 0);
}
  where
    made : All (IsMadeOf t) b
    made = all_made t a b h.swept

    none_next : Asked → (n ≡ 0) × (m ≡ 0) → (j : ℕ) (d : Worker) → j < i + 1 → j < length a → (j ≡ i) ⊎ (j ≡ i → ⊥) → HasStopped t (get_or (set b i w) j d)
    none_next asked q j d l u (inl p) = subst (HasStopped t) (sym (there t a b i w e within made h.swept one j d p)) (turn.none asked q.1)
    none_next asked q j d l u (inr p) = subst (HasStopped t) (sym (get_or-set_other b i j w d p)) (h.none asked q.0 j d (omega (arith, l, p)) u)

    before : rooms_of b ≤ rooms_of a
    before = rooms_later t a b first h.swept

    after : rooms_of (set b i w) ≤ rooms_of b
    after = rooms_next t a b i w e within made h.swept one

    some_next : 0 < k → (m ≡ 0) ⊎ (m ≡ 0 → ⊥) → (n ≡ 0) ⊎ (n ≡ 0 → ⊥) → rooms_of (set b i w) < rooms_of a
    some_next q (inl p) (inl r) = absurd (let z = zeros (r, p) in omega (arith, q, z))
    some_next q (inl p) (inr r) = let some = h.some (omega (arith, r)) in omega (arith, after, some)
    some_next q (inr p) c = let less = rooms_less t a b i w e within made h.swept one (turn.some (omega (arith, p))) in omega (arith, less, before)

pub swept_to_all : (Asked : Type 0) (t : Tables) (a b : List Worker) (n i : ℕ) → length a ≤ i → AreSweptTo Asked t a b n i → AreTurnsAsked Asked t n a b
swept_to_all Asked t a b n i all h = record {
  none = λ asked q j d l. h.none asked q j d (omega (arith, l, h.swept.long, all)) (omega (arith, l, h.swept.long));
  some = h.some;
}

-- ---- a round of those that are awake, and then one of all

pub turns_asked : (Asked : Type 0) (t : Tables) (n : ℕ) (a b c : List Worker) → All (IsMadeOf t) a → AreSwept t a b → Asked → AreTurnsAsked Asked t n b c → AreTurnsOf t n a c
turns_asked Asked t n a b c m s asked h = record {
  none = h.none asked;
  some = λ q. (let less = h.some q in let before = rooms_later t a b m s in omega (arith, less, before));
}
