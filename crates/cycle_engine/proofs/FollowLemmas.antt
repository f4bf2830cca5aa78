-- What is known of a channel since the cycle began stays known as firings move its tokens.
use Rattle.std.proofs.Common.{◌≡◌, ℕ, suc, zero, ◌+◌, ◌-◌, ◌<◌, ◌≤◌, ◌⊎◌, ◌==◌, ◌||◌, inl, inr, Bool, true, false, cond, Option, Some, None, List, [], ◌∷◌, ◌++◌, length, map, get_or, refl, sym, ap, subst, ◌∙◌, arith, IsSomeAnd, eq-eqb, eqb-true}
use Rattle.std.specs.List.{AllByRecursion}
use Rattle.std.specs.Prelude.{slice_get}
use Rattle.std.proofs.lemmas.Bool.{cases_lt, false≢true}
use Rattle.std.proofs.lemmas.List.{get_or_past}
use Rattle.circular_buffer.specs.Buffer.{last_item}
use Rattle.net_types.specs.declared.net.Net.{Net}
use Rattle.net_types.specs.declared.firing.Firing.{Firing}
use Rattle.net_types.specs.Nets.{into, out_of, chan_at}
use Rattle.net_core.specs.Fire.{State, added, among, first, has_room, head_at, moved, puts_on, taken, takes_from, tokens_at}
use Rattle.net_core.specs.declared.state.State.{State as Stored}
use Rattle.net_core.specs.declared.plan.Put.{Put}
use Rattle.net_core.specs.declared.plan.Plan.{Plan}
use Rattle.net_core.specs.Plans.{chans_of, places_of, taken_of}
use Rattle.net_core.specs.States.{state_of, dates_of, IsPlanOf}
use Rattle.net_core.proofs.ApartLemmas.{puts-inv}
use Rattle.net_core.proofs.GoesLemmas.{heads}
use Rattle.net_core.proofs.MoveLemmas.{chans_are}
use Rattle.net_core.proofs.RowLemmas.{Each, Has, get-changed, length-changed}
use Rattle.cycle_engine.specs.declared.engine.Engine.{Engine}
use Rattle.cycle_engine.specs.Cycles.{Dated, dated}
use Rattle.cycle_engine.specs.private.Trials.{dated_of, IsEngine, IsFollowed}
use Rattle.cycle_engine.specs.declared.freed.Freed.{Freed}
use Rattle.cycle_engine.specs.private.Marking.{Holds, IsFreed, IsLongFull}
use Rattle.cycle_engine.proofs.BeforeLemmas.{after_of}
use Rattle.cycle_engine.proofs.NoteLemmas.{effect_in, taken_all}

-- ---- the last of a list

last_cons : (x y : ℕ) (xs : List ℕ) → last_item (x ∷ y ∷ xs) ≡ last_item (y ∷ xs)
last_cons x y xs =
    let a : length (x ∷ y ∷ xs) - 1 ≡ suc (length xs) = omega arith in
    let b : length (y ∷ xs) - 1 ≡ length xs = omega arith in
    ap (slice_get (x ∷ y ∷ xs)) a ∙ sym (ap (slice_get (y ∷ xs)) b)

pub last_snoc : (xs : List ℕ) (c : ℕ) → last_item (xs ++ c ∷ []) ≡ Some c
last_snoc [] c = refl
last_snoc (x ∷ []) c = refl
last_snoc (x ∷ y ∷ xs) c = last_cons x y (xs ++ c ∷ []) ∙ last_snoc (y ∷ xs) c

last_rest : (x : ℕ) (xs : List ℕ) → 0 < length xs → last_item xs ≡ last_item (x ∷ xs)
last_rest x [] h = absurd (omega arith)
last_rest x (y ∷ xs) h = sym (last_cons x y xs)

all_last : (P : ℕ → Type 0) (xs : List ℕ) → 0 < length xs → AllByRecursion P xs → IsSomeAnd (last_item xs) P
all_last P [] h a = absurd (omega arith)
all_last P (x ∷ []) h a = a.0
all_last P (x ∷ y ∷ xs) h a = (let Q : Option ℕ → Type 0 = λ o. IsSomeAnd o P in subst Q (sym (last_cons x y xs)) (all_last P (y ∷ xs) (omega arith) a.1))

-- full of so many, the last of which is before c
abbrev pub IsLong : ℕ → ℕ → List ℕ → Type 0
IsLong slots c ds = (slots ≤ length ds) × IsSomeAnd (last_item ds) (λ x. x < c)

long_or : (slots c : ℕ) (ds : List ℕ) → IsLong slots c ds ⊎ (IsLong slots c ds → ⊥)
long_or slots c ds = by (cases_lt (length ds) slots) (last_item ds) refl
  where
    by : (length ds < slots) ⊎ (slots ≤ length ds) → (o : Option ℕ) → last_item ds ≡ o → IsLong slots c ds ⊎ (IsLong slots c ds → ⊥)
    by (inl l) o e = inr (λ h. (let k = h.0 in omega arith))
    by (inr l) None e = inr (λ h. (let P : Option ℕ → Type 0 = λ o. IsSomeAnd o (λ x. x < c) in subst P e h.1))
    by (inr l) (Some x) e = at (cases_lt x c)
      where
        P : Option ℕ → Type 0
        P o = IsSomeAnd o (λ x. x < c)

        at : (x < c) ⊎ (c ≤ x) → IsLong slots c ds ⊎ (IsLong slots c ds → ⊥)
        at (inl k) = inl (l, subst P (sym e) k)
        at (inr k) = inr (λ h. (let z : x < c = subst P e h.1 in omega arith))

-- ---- one channel

-- what is known of the tokens ys of a channel of so many slots, with the dates ds, in the cycle c, before which it had n: the mark m tells
-- whether it was full then and tokens were taken from it since
pub record IsKnown (slots c n : ℕ) (ys ds : List ℕ) (m : Bool) : Type 0 where
  pub marked : m ≡ true → slots ≤ n
  pub clear : m ≡ false → (n < slots) ⊎ ((slots ≤ length ys) × AllByRecursion (λ x. x < c) ds)
  pub newest : (length ys ≤ n) ⊎ (last_item ds ≡ Some c)

long_last : (slots c : ℕ) (ds : List ℕ) → IsLong slots c ds → last_item ds ≡ Some c → ⊥
long_last slots c ds l e = (let P : Option ℕ → Type 0 = λ o. IsSomeAnd o (λ x. x < c) in let z : c < c = subst P e l.1 in omega arith)

length_taken : (xs : List ℕ) → 0 < length xs → length (taken true xs) + 1 ≡ length xs
length_taken [] h = absurd (omega arith)
length_taken (x ∷ xs) h = omega arith

last_taken : (xs : List ℕ) → 0 < length (taken true xs) → last_item (taken true xs) ≡ last_item xs
last_taken [] h = absurd (omega arith)
last_taken (x ∷ xs) h = last_rest x xs h

module _ (slots c n : ℕ) (ys ds : List ℕ) (m m' : Bool) (same : length ds ≡ length ys) (k : IsKnown slots c n ys ds m) where
  pub known_put : (v : ℕ) → length ys < slots → m' ≡ m → IsKnown slots c n (added (Some v) ys) (added (Some c) ds) m'
  known_put v room e = record {
    marked = λ t. k.marked (sym e ∙ t);
    clear = λ f. by (k.clear (sym e ∙ f));
    newest = inr (last_snoc ds c);
  }
    where
      by : (n < slots) ⊎ ((slots ≤ length ys) × AllByRecursion (λ x. x < c) ds) → (n < slots) ⊎ ((slots ≤ length (ys ++ v ∷ [])) × AllByRecursion (λ x. x < c) (ds ++ c ∷ []))
      by (inl l) = inl l
      by (inr h) = absurd (let l = h.0 in omega arith)

  module _ (some : 0 < length ys) (long : IsLong slots c ds → m' ≡ true) (other : (IsLong slots c ds → ⊥) → m' ≡ m) where
    marked_taken : m' ≡ true → slots ≤ n
    marked_taken t = by (long_or slots c ds) k.newest
      where
        by : IsLong slots c ds ⊎ (IsLong slots c ds → ⊥) → (length ys ≤ n) ⊎ (last_item ds ≡ Some c) → slots ≤ n
        by (inl l) (inl h) = (let z = l.0 in omega arith)
        by (inl l) (inr h) = absurd (long_last slots c ds l h)
        by (inr l) h = k.marked (sym (other l) ∙ t)

    clear_taken : m' ≡ false → n < slots
    clear_taken f = by (long_or slots c ds)
      where
        at : (IsLong slots c ds → ⊥) → (n < slots) ⊎ ((slots ≤ length ys) × AllByRecursion (λ x. x < c) ds) → n < slots
        at l (inl h) = h
        at l (inr h) = absurd (l ((let z = h.0 in omega arith), all_last (λ x. x < c) ds (omega arith) h.1))

        by : IsLong slots c ds ⊎ (IsLong slots c ds → ⊥) → n < slots
        by (inl l) = absurd (false≢true (sym f ∙ long l))
        by (inr l) = at l (k.clear (sym (other l) ∙ f))

    newest_taken : (length (taken true ys) ≤ n) ⊎ (last_item (taken true ds) ≡ Some c)
    newest_taken = by k.newest (cases_lt 0 (length (taken true ds)))
      where
        by : (length ys ≤ n) ⊎ (last_item ds ≡ Some c) → (0 < length (taken true ds)) ⊎ (length (taken true ds) ≤ 0) → (length (taken true ys) ≤ n) ⊎ (last_item (taken true ds) ≡ Some c)
        by (inl h) p = inl (let z = length_taken ys some in omega arith)
        by (inr h) (inl p) = inr (last_taken ds p ∙ h)
        by (inr h) (inr p) = inl (let z = length_taken ys some in let w = length_taken ds (omega arith) in omega arith)

    pub known_taken : IsKnown slots c n (added None (taken true ys)) (added None (taken true ds)) m'
    known_taken = record { marked = marked_taken; clear = λ f. inl (clear_taken f); newest = newest_taken }

    pub known_moved : (v : ℕ) → IsKnown slots c n (added (Some v) (taken true ys)) (added (Some c) (taken true ds)) m'
    known_moved v = record { marked = marked_taken; clear = λ f. inl (clear_taken f); newest = inr (last_snoc (taken true ds) c) }

-- ---- the channels of the engine

among_holds : (d : ℕ) (cs : List ℕ) → among d cs ≡ true → Holds d cs
among_holds d [] e = cc
among_holds d (c ∷ cs) e = by (d == c) refl e (λ k. among_holds d cs k)
  where
    by : (b : Bool) → (d == c) ≡ b → (b || among d cs) ≡ true → (among d cs ≡ true → Holds d cs) → Holds d (c ∷ cs)
    by true i k rest = record { at = 0; within = omega arith; is = sym (eqb-true d c i) }
    by false i k rest = (let h = rest k in record { at = suc h.at; within = (let w = h.within in omega arith); is = h.is })

holds_among : (d : ℕ) (cs : List ℕ) → Holds d cs → among d cs ≡ true
holds_among d [] h = absurd (let w = h.within in omega arith)
holds_among d (c ∷ cs) h = by (d == c) refl h.at h.within h.is (λ k. holds_among d cs k)
  where
    by : (b : Bool) → (d == c) ≡ b → (i : ℕ) → i < length (c ∷ cs) → get_or (c ∷ cs) i 0 ≡ d → (Holds d cs → among d cs ≡ true) → (b || among d cs) ≡ true
    by true e i l k rest = refl
    by false e zero l k rest = (let z : (d == c) ≡ true = eq-eqb d c (sym k) in cc)
    by false e (suc i) l k rest = rest (record { at = i; within = omega arith; is = k })

-- ---- marks at channels that were full

-- one channel, and then others
pub freed_then : (net : Net) (s : Stored) (c x : ℕ) (ds : List ℕ) (a b f : Freed) → IsFreed net s c (x ∷ []) a b → IsFreed net s c ds b f → IsFreed net s c (x ∷ ds) a f
freed_then net s c x ds a b f p q = record {
  long = q.long ∙ p.long;
  listed = λ h. q.listed (p.listed h);
  marked = λ d h l w. in_list d h.at h.within h.is l w;
  others = λ d n. (q.others d (λ h. n (later d h)) ∙ p.others d (λ h. n (one d h.at h.within h.is)));
  kept = λ d n. q.kept d n ∙ p.kept d n;
}
  where
    later : (d : ℕ) → Holds d ds → Holds d (x ∷ ds)
    later d h = record { at = suc h.at; within = (let w = h.within in omega arith); is = h.is }

    one : (d i : ℕ) → i < length (x ∷ []) → get_or (x ∷ []) i 0 ≡ d → Holds d (x ∷ ds)
    one d zero l e = record { at = 0; within = omega arith; is = e }
    one d (suc i) l e = absurd (omega arith)

    still : (d : ℕ) → IsLongFull net s c d → d < length b.marked.items → get_or b.marked.items d false ≡ true → (y : Bool) → among d ds ≡ y → get_or f.marked.items d false ≡ true
    still d l w m true e = q.marked d (among_holds d ds e) l w
    still d l w m false e = q.others d (λ h. (let z : false ≡ true = sym e ∙ holds_among d ds h in cc)) ∙ m

    in_list : (d i : ℕ) → i < length (x ∷ ds) → get_or (x ∷ ds) i 0 ≡ d → IsLongFull net s c d → d < length a.marked.items → get_or f.marked.items d false ≡ true
    in_list d zero l e full w = (let n = p.long in still d full (omega arith) (p.marked d (record { at = 0; within = omega arith; is = e }) full w) (among d ds) refl)
    in_list d (suc i) l e full w = (let n = p.long in q.marked d (record { at = i; within = omega arith; is = e }) full (omega arith))

first_some : (xs : List ℕ) (v : ℕ) → first xs ≡ Some v → 0 < length xs
first_some [] v e = cc
first_some (x ∷ xs) v e = omega arith

heads_some : (net : Net) (s : State) (u : ℕ) (ps : List ℕ) → Each (Has (head_at net s u)) ps → AllByRecursion (λ p. 0 < length (tokens_at s (into u p net.chans))) ps
heads_some net s u [] h = tt
heads_some net s u (p ∷ ps) h = (first_some (tokens_at s (into u p net.chans)) h.0.0 h.0.1, heads_some net s u ps h.1)

-- what is put on a channel has room on it
room_on : (net : Net) (s : State) (u d : ℕ) (o : Option Put) (v : ℕ) → puts_on net u o d ≡ Some v → has_room net s u o → length (tokens_at s d) < (chan_at net d).slots
room_on net s u d o v e h =
    let x = puts-inv net u d o (λ z. (let y : Some v ≡ None = sym e ∙ z in cc)) in
    let P : Option Put → Type 0 = λ y. has_room net s u y in
    let Q : ℕ → Type 0 = λ q. length (tokens_at s q) < (chan_at net q).slots in
    subst Q (sym x.2) (subst P x.1 h)

-- a date is put where a token is
dated_or : (net : Net) (u c d : ℕ) (put : Option Put) (o od : Option ℕ) → puts_on net u put d ≡ o → puts_on net u (dated c put) d ≡ od → ((o ≡ None) × (od ≡ None)) ⊎ ((v : ℕ) × (o ≡ Some v) × (od ≡ Some c))
dated_or net u c d None o od i j = inl (sym i, sym j)
dated_or net u c d (Some w) o od i j = by (d == out_of u w.place net.chans) i j
  where
    by : (b : Bool) → cond b (Some w.value) None ≡ o → cond b (Some c) None ≡ od → ((o ≡ None) × (od ≡ None)) ⊎ ((v : ℕ) × (o ≡ Some v) × (od ≡ Some c))
    by true i j = inr (w.value, sym i, sym j)
    by false i j = inl (sym i, sym j)

module _ (net : Net) (c : ℕ) (start : Dated) (e e' : Engine) (f : Firing) (p : Plan) (eng : IsEngine net e) (is : IsPlanOf net e.state f (Some p)) (room : has_room net (state_of e.state) f.unit p.put)
    (r : dated_of e' ≡ after_of net c (dated_of e) f.unit (effect_in net e f p)) (freed : IsFreed net e.state c (chans_of (taken_of net f.unit p.takes)) e.freed e'.freed) (long : length e.freed.marked.items ≡ length net.chans) where
  known_of : (d : ℕ) → IsFollowed net c start e d → IsKnown (chan_at net d).slots c (length (tokens_at start.state d)) (tokens_at (state_of e.state) d) (get_or (dates_of e.state) d []) (get_or e.freed.marked.items d false)
  known_of d h = record { marked = h.marked; clear = h.clear; newest = h.newest }

  followed_of : (d : ℕ) (ys ds : List ℕ) → tokens_at (state_of e'.state) d ≡ ys → get_or (dates_of e'.state) d [] ≡ ds
      → IsKnown (chan_at net d).slots c (length (tokens_at start.state d)) ys ds (get_or e'.freed.marked.items d false) → IsFollowed net c start e' d
  followed_of d ys ds y z k =
      let P : List ℕ → Type 0 = λ xs. IsKnown (chan_at net d).slots c (length (tokens_at start.state d)) xs ds (get_or e'.freed.marked.items d false) in
      let Q : List ℕ → Type 0 = λ xs. IsKnown (chan_at net d).slots c (length (tokens_at start.state d)) (tokens_at (state_of e'.state) d) xs (get_or e'.freed.marked.items d false) in
      let h = subst Q (sym z) (subst P (sym y) k) in
      record { marked = h.marked; clear = h.clear; newest = h.newest }

  to_long : (d : ℕ) → IsLong (chan_at net d).slots c (get_or (dates_of e.state) d []) → IsLongFull net e.state c d
  to_long d h = ((let a = h.0 in let b = eng.dated.each d in omega arith), h.1)

  of_long : (d : ℕ) → IsLongFull net e.state c d → IsLong (chan_at net d).slots c (get_or (dates_of e.state) d [])
  of_long d h = ((let a = h.0 in let b = eng.dated.each d in omega arith), h.1)

  other : (d : ℕ) → (IsLong (chan_at net d).slots c (get_or (dates_of e.state) d []) → ⊥) → get_or e'.freed.marked.items d false ≡ get_or e.freed.marked.items d false
  other d n = freed.kept d (λ h. n (of_long d h))

  -- the channels taken from are those of the moves
  taken_are : chans_of (taken_of net f.unit p.takes) ≡ map (λ q. into f.unit q net.chans) (places_of p.takes)
  taken_are = chans_are net f.unit p.takes

  pub followed_after : ((d : ℕ) → IsFollowed net c start e d) → (d : ℕ) → IsFollowed net c start e' d
  followed_after h d = at (cases_lt d (length (state_of e.state).tokens))
    where
      k : IsKnown (chan_at net d).slots c (length (tokens_at start.state d)) (tokens_at (state_of e.state) d) (get_or (dates_of e.state) d []) (get_or e.freed.marked.items d false)
      k = known_of d (h d)

      same : length (get_or (dates_of e.state) d []) ≡ length (tokens_at (state_of e.state) d)
      same = eng.dated.each d

      tokens : tokens_at (state_of e'.state) d ≡ tokens_at (after_of net c (dated_of e) f.unit (effect_in net e f p)).state d
      tokens = ap (λ (s : Dated). tokens_at s.state d) r

      dates : get_or (dates_of e'.state) d [] ≡ get_or (after_of net c (dated_of e) f.unit (effect_in net e f p)).dates d []
      dates = ap (λ (s : Dated). get_or s.dates d []) r

      stays : get_or e'.freed.marked.items d false ≡ get_or e.freed.marked.items d false → IsKnown (chan_at net d).slots c (length (tokens_at start.state d)) (tokens_at (state_of e.state) d) (get_or (dates_of e.state) d []) (get_or e'.freed.marked.items d false)
      stays m = (let P : Bool → Type 0 = λ b. IsKnown (chan_at net d).slots c (length (tokens_at start.state d)) (tokens_at (state_of e.state) d) (get_or (dates_of e.state) d []) b in subst P (sym m) k)

      at : (d < length (state_of e.state).tokens) ⊎ (length (state_of e.state).tokens ≤ d) → IsFollowed net c start e' d
      at (inr l) =
          let l' : length (state_of e.state).tokens ≤ d = l in
          let a = eng.dated.chans in
          let b = eng.dated.lists in
          let m = length-changed (moved net f.unit (effect_in net e f p)) 0 (state_of e.state).tokens in
          let n = length-changed (moved net f.unit (record (effect_in net e f p) { put = dated c p.put })) 0 (dates_of e.state) in
          let old : get_or (dates_of e.state) d [] ≡ [] = get_or_past (dates_of e.state) d [] (omega arith) in
          followed_of d (tokens_at (state_of e.state) d) (get_or (dates_of e.state) d [])
          (tokens ∙ (get_or_past (after_of net c (dated_of e) f.unit (effect_in net e f p)).state.tokens d [] (omega arith) ∙ sym (get_or_past (state_of e.state).tokens d [] l')))
          (dates ∙ (get_or_past (after_of net c (dated_of e) f.unit (effect_in net e f p)).dates d [] (omega arith) ∙ sym old))
          (stays (other d (λ z. (let P : List ℕ → Type 0 = λ xs. IsSomeAnd (last_item xs) (λ x. x < c) in subst P old z.1))))
      at (inl l) = by (takes_from net f.unit (effect_in net e f p) d) refl (puts_on net f.unit p.put d) refl (puts_on net f.unit (dated c p.put) d) refl
        where
          slots : ℕ
          slots = (chan_at net d).slots

          ys : tokens_at (state_of e'.state) d ≡ added (puts_on net f.unit p.put d) (taken (takes_from net f.unit (effect_in net e f p) d) (tokens_at (state_of e.state) d))
          ys = tokens ∙ get-changed (moved net f.unit (effect_in net e f p)) 0 (state_of e.state).tokens d d (omega arith) l

          ds : get_or (dates_of e'.state) d [] ≡ added (puts_on net f.unit (dated c p.put) d) (taken (takes_from net f.unit (effect_in net e f p) d) (get_or (dates_of e.state) d []))
          ds = dates ∙ get-changed (moved net f.unit (record (effect_in net e f p) { put = dated c p.put })) 0 (dates_of e.state) d d (omega arith) (let a = eng.dated.chans in let b = eng.dated.lists in omega arith)

          some : takes_from net f.unit (effect_in net e f p) d ≡ true → 0 < length (tokens_at (state_of e.state) d)
          some t = taken_all net f.unit d (effect_in net e f p) (λ q. 0 < length (tokens_at (state_of e.state) q)) t
              (heads_some net (state_of e.state) f.unit (places_of p.takes) (heads net (state_of e.state) f (effect_in net e f p) (sym is)))

          holds : takes_from net f.unit (effect_in net e f p) d ≡ true → Holds d (chans_of (taken_of net f.unit p.takes))
          holds t = (let P : List ℕ → Type 0 = Holds d in subst P (sym taken_are) (among_holds d (map (λ q. into f.unit q net.chans) (places_of p.takes)) t))

          apart : takes_from net f.unit (effect_in net e f p) d ≡ false → get_or e'.freed.marked.items d false ≡ get_or e.freed.marked.items d false
          apart t = freed.others d (λ x. (let P : List ℕ → Type 0 = Holds d in false≢true (sym t ∙ holds_among d (map (λ q. into f.unit q net.chans) (places_of p.takes)) (subst P taken_are x))))

          turns : takes_from net f.unit (effect_in net e f p) d ≡ true → IsLong (chan_at net d).slots c (get_or (dates_of e.state) d []) → get_or e'.freed.marked.items d false ≡ true
          turns t x = freed.marked d (holds t) (to_long d x) (let a = eng.dated.chans in omega arith)

          free : (v : ℕ) → puts_on net f.unit p.put d ≡ Some v → length (tokens_at (state_of e.state) d) < (chan_at net d).slots
          free v i = room_on net (state_of e.state) f.unit d p.put v i room

          -- the date is put where the token is
          agree : (o od : Option ℕ) → puts_on net f.unit p.put d ≡ o → puts_on net f.unit (dated c p.put) d ≡ od → ((o ≡ None) × (od ≡ None)) ⊎ ((v : ℕ) × (o ≡ Some v) × (od ≡ Some c))
          agree o od i j = dated_or net f.unit c d p.put o od i j

          by : (t : Bool) → takes_from net f.unit (effect_in net e f p) d ≡ t → (o : Option ℕ) → puts_on net f.unit p.put d ≡ o → (od : Option ℕ) → puts_on net f.unit (dated c p.put) d ≡ od → IsFollowed net c start e' d
          by t i o j od n = one (agree o od j n) t i
            where
              one : ((o ≡ None) × (od ≡ None)) ⊎ ((v : ℕ) × (o ≡ Some v) × (od ≡ Some c)) → (t : Bool) → takes_from net f.unit (effect_in net e f p) d ≡ t → IsFollowed net c start e' d
              one (inl q) false i =
                  followed_of d (added None (taken false (tokens_at (state_of e.state) d))) (added None (taken false (get_or (dates_of e.state) d [])))
                  (ys ∙ (ap (λ x. added x (taken (takes_from net f.unit (effect_in net e f p) d) (tokens_at (state_of e.state) d))) (j ∙ q.0) ∙ ap (λ b. added None (taken b (tokens_at (state_of e.state) d))) i))
                  (ds ∙ (ap (λ x. added x (taken (takes_from net f.unit (effect_in net e f p) d) (get_or (dates_of e.state) d []))) (n ∙ q.1) ∙ ap (λ b. added None (taken b (get_or (dates_of e.state) d []))) i))
                  (stays (apart i))
              one (inl q) true i =
                  followed_of d (added None (taken true (tokens_at (state_of e.state) d))) (added None (taken true (get_or (dates_of e.state) d [])))
                  (ys ∙ (ap (λ x. added x (taken (takes_from net f.unit (effect_in net e f p) d) (tokens_at (state_of e.state) d))) (j ∙ q.0) ∙ ap (λ b. added None (taken b (tokens_at (state_of e.state) d))) i))
                  (ds ∙ (ap (λ x. added x (taken (takes_from net f.unit (effect_in net e f p) d) (get_or (dates_of e.state) d []))) (n ∙ q.1) ∙ ap (λ b. added None (taken b (get_or (dates_of e.state) d []))) i))
                  (known_taken (chan_at net d).slots c (length (tokens_at start.state d)) (tokens_at (state_of e.state) d) (get_or (dates_of e.state) d []) (get_or e.freed.marked.items d false) (get_or e'.freed.marked.items d false) same k (some i) (turns i) (other d))
              one (inr (v, a, b)) false i =
                  followed_of d (added (Some v) (taken false (tokens_at (state_of e.state) d))) (added (Some c) (taken false (get_or (dates_of e.state) d [])))
                  (ys ∙ (ap (λ x. added x (taken (takes_from net f.unit (effect_in net e f p) d) (tokens_at (state_of e.state) d))) (j ∙ a) ∙ ap (λ b. added (Some v) (taken b (tokens_at (state_of e.state) d))) i))
                  (ds ∙ (ap (λ x. added x (taken (takes_from net f.unit (effect_in net e f p) d) (get_or (dates_of e.state) d []))) (n ∙ b) ∙ ap (λ b. added (Some c) (taken b (get_or (dates_of e.state) d []))) i))
                  (known_put (chan_at net d).slots c (length (tokens_at start.state d)) (tokens_at (state_of e.state) d) (get_or (dates_of e.state) d []) (get_or e.freed.marked.items d false) (get_or e'.freed.marked.items d false) same k v (free v (j ∙ a)) (apart i))
              one (inr (v, a, b)) true i =
                  followed_of d (added (Some v) (taken true (tokens_at (state_of e.state) d))) (added (Some c) (taken true (get_or (dates_of e.state) d [])))
                  (ys ∙ (ap (λ x. added x (taken (takes_from net f.unit (effect_in net e f p) d) (tokens_at (state_of e.state) d))) (j ∙ a) ∙ ap (λ b. added (Some v) (taken b (tokens_at (state_of e.state) d))) i))
                  (ds ∙ (ap (λ x. added x (taken (takes_from net f.unit (effect_in net e f p) d) (get_or (dates_of e.state) d []))) (n ∙ b) ∙ ap (λ b. added (Some c) (taken b (get_or (dates_of e.state) d []))) i))
                  (known_moved (chan_at net d).slots c (length (tokens_at start.state d)) (tokens_at (state_of e.state) d) (get_or (dates_of e.state) d []) (get_or e.freed.marked.items d false) (get_or e'.freed.marked.items d false) same k (some i) (turns i) (other d) v)
