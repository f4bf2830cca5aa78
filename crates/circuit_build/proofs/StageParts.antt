-- Stages with the same tokens listed in another order, and segments in turn.
use Rattle.std.proofs.Common.{◌≡◌, ◌≢◌, ℕ, ◌+◌, ◌≤◌, false, cond, Option, Some, None, List, [], ◌∷◌, ◌++◌, length, refl, sym, ap, ◌∙◌, subst, ⊎_elim, arith, length-append}
use Rattle.net_types.specs.declared.net.Place.{Place}
use Rattle.net_types.specs.declared.net.Net.{Net}
use Rattle.net_types.specs.declared.firing.Firing.{Firing}
use Rattle.net_core.specs.Fire.{State}
use Rattle.circuit_build.proofs.Marks.{Marks, Aside, Shows, Goes}
use Rattle.circuit_build.proofs.Stages.{is_place, spread, NotIn, Apart, Outside, Stage, Reaches}
use Rattle.circuit_build.proofs.SpreadLemmas.{place_tells, is_not, stays, reaches_of_goes, then_reaches}

-- ---- one place brought to the front, and back

not_to : (q p : Place) (xs ps : List (Option Place)) → NotIn q (xs ++ Some p ∷ ps) → (q ≢ p) × NotIn q (xs ++ ps)
not_to q p [] ps h = h
not_to q p (None ∷ xs) ps h = not_to q p xs ps h
not_to q p (Some x ∷ xs) ps h = let i = not_to q p xs ps h.1 in (i.0, (h.0, i.1))

not_from : (q p : Place) (xs ps : List (Option Place)) → q ≢ p → NotIn q (xs ++ ps) → NotIn q (xs ++ Some p ∷ ps)
not_from q p [] ps n h = (n, h)
not_from q p (None ∷ xs) ps n h = not_from q p xs ps n h
not_from q p (Some x ∷ xs) ps n h = (h.0, not_from q p xs ps n h.1)

apart_to : (p : Place) (xs ps : List (Option Place)) → Apart (xs ++ Some p ∷ ps) → NotIn p (xs ++ ps) × Apart (xs ++ ps)
apart_to p [] ps a = a
apart_to p (None ∷ xs) ps a = apart_to p xs ps a
apart_to p (Some q ∷ xs) ps a =
    let n = not_to q p xs ps a.0 in
    let i = apart_to p xs ps a.1 in
    ((λ e. n.0 (sym e), i.0), (n.1, i.1))

apart_from : (p : Place) (xs ps : List (Option Place)) → NotIn p (xs ++ ps) → Apart (xs ++ ps) → Apart (xs ++ Some p ∷ ps)
apart_from p [] ps n a = (n, a)
apart_from p (None ∷ xs) ps n a = apart_from p xs ps n a
apart_from p (Some q ∷ xs) ps n a = (not_from q p xs ps (λ e. n.0 (sym e)) a.0, apart_from p xs ps n.1 a.1)

outside_to : (low n m : ℕ) (p : Place) (xs ps : List (Option Place)) → Outside low n m (xs ++ Some p ∷ ps) → Outside low n m (Some p ∷ xs ++ ps)
outside_to low n m p [] ps b = b
outside_to low n m p (None ∷ xs) ps b = outside_to low n m p xs ps b
outside_to low n m p (Some q ∷ xs) ps b = let i = outside_to low n m p xs ps b.2 in (i.0, i.1, (b.0, b.1, i.2))

outside_from : (low n m : ℕ) (p : Place) (xs ps : List (Option Place)) → Outside low n m (Some p ∷ xs ++ ps) → Outside low n m (xs ++ Some p ∷ ps)
outside_from low n m p [] ps b = b
outside_from low n m p (None ∷ xs) ps b = outside_from low n m p xs ps b
outside_from low n m p (Some q ∷ xs) ps b = (b.2.0, b.2.1, outside_from low n m p xs ps (b.0, b.1, b.2.2))

pub spread_to : (p : Place) (v : ℕ) (xs : List (Option Place)) (us : List ℕ) (ps : List (Option Place)) (vs : List ℕ) → length xs ≡ length us → NotIn p (xs ++ ps)
    → (r : Place) → spread (xs ++ Some p ∷ ps) (us ++ v ∷ vs) r ≡ spread (Some p ∷ xs ++ ps) (v ∷ us ++ vs) r
spread_to p v [] [] ps vs l n r = refl
spread_to p v [] (u ∷ us) ps vs l n r = absurd (omega arith)
spread_to p v (x ∷ xs) [] ps vs l n r = absurd (omega arith)
spread_to p v (None ∷ xs) (u ∷ us) ps vs l n r = spread_to p v xs us ps vs (omega arith) n r
spread_to p v (Some q ∷ xs) (u ∷ us) ps vs l n r =
    let i = spread_to p v xs us ps vs (omega arith) n.1 r in
    ⊎_elim
    (λ (a, e). let b : is_place r p ≡ false = is_not r p (λ f. n.0 (sym f ∙ e)) in rw (a, b) refl)
    (λ (a, e). rw a i)
    (place_tells r q)

-- ---- a value without a place

spread_off : (v : ℕ) (xs : List (Option Place)) (us : List ℕ) (ps : List (Option Place)) (vs : List ℕ) → length xs ≡ length us → (r : Place) → spread (xs ++ ps) (us ++ vs) r ≡ spread (xs ++ None ∷ ps) (us ++ v ∷ vs) r
spread_off v [] [] ps vs l r = refl
spread_off v [] (u ∷ us) ps vs l r = absurd (omega arith)
spread_off v (x ∷ xs) [] ps vs l r = absurd (omega arith)
spread_off v (None ∷ xs) (u ∷ us) ps vs l r = spread_off v xs us ps vs (omega arith) r
spread_off v (Some q ∷ xs) (u ∷ us) ps vs l r = ap (cond (is_place r q) (u ∷ [])) (spread_off v xs us ps vs (omega arith) r)

not_off : (q : Place) (xs ps : List (Option Place)) → NotIn q (xs ++ ps) → NotIn q (xs ++ None ∷ ps)
not_off q [] ps h = h
not_off q (None ∷ xs) ps h = not_off q xs ps h
not_off q (Some x ∷ xs) ps h = (h.0, not_off q xs ps h.1)

apart_off : (xs ps : List (Option Place)) → Apart (xs ++ ps) → Apart (xs ++ None ∷ ps)
apart_off [] ps h = h
apart_off (None ∷ xs) ps h = apart_off xs ps h
apart_off (Some x ∷ xs) ps h = (not_off x xs ps h.0, apart_off xs ps h.1)

outside_off : (low n m : ℕ) (xs ps : List (Option Place)) → Outside low n m (xs ++ ps) → Outside low n m (xs ++ None ∷ ps)
outside_off low n m [] ps h = h
outside_off low n m (None ∷ xs) ps h = outside_off low n m xs ps h
outside_off low n m (Some x ∷ xs) ps h = (h.0, h.1, outside_off low n m xs ps h.2)

-- ---- stages

module _ {net : Net} {scalars : List ℕ} where
  pub shows_as : {s : State} {m : Marks} (k : Marks) {a : Aside} → ((r : Place) → m r ≡ k r) → Shows net scalars s m a → Shows net scalars s k a
  shows_as k h x = record { given = x.given; sees = λ r. x.sees r ∙ h r; own = x.own; same = x.same; few = x.few; long = x.long; owned = x.owned }

  module _ {s : State} {a : Aside} {low n m : ℕ} where
    pub to_front : (p : Place) (v : ℕ) (xs : List (Option Place)) (us : List ℕ) (ps : List (Option Place)) (vs : List ℕ) → length xs ≡ length us
        → Stage net scalars s a low n m (xs ++ Some p ∷ ps) (us ++ v ∷ vs) → Stage net scalars s a low n m (Some p ∷ xs ++ ps) (v ∷ us ++ vs)
    to_front p v xs us ps vs l st =
        let d = apart_to p xs ps st.apart in
        record {
          shows = shows_as (spread (Some p ∷ xs ++ ps) (v ∷ us ++ vs)) (spread_to p v xs us ps vs l d.0) st.shows;
          apart = d;
          outside = outside_to low n m p xs ps st.outside;
          same = (let e = st.same in omega (arith, length-append xs (Some p ∷ ps), length-append us (v ∷ vs), length-append xs ps, length-append us vs));
        }

    pub from_front : (p : Place) (v : ℕ) (xs : List (Option Place)) (us : List ℕ) (ps : List (Option Place)) (vs : List ℕ) → length xs ≡ length us
        → Stage net scalars s a low n m (Some p ∷ xs ++ ps) (v ∷ us ++ vs) → Stage net scalars s a low n m (xs ++ Some p ∷ ps) (us ++ v ∷ vs)
    from_front p v xs us ps vs l st =
        let d = st.apart in
        record {
          shows = shows_as (spread (xs ++ Some p ∷ ps) (us ++ v ∷ vs)) (λ r. sym (spread_to p v xs us ps vs l d.0 r)) st.shows;
          apart = apart_from p xs ps d.0 d.1;
          outside = outside_from low n m p xs ps st.outside;
          same = (let e = st.same in omega (arith, length-append xs (Some p ∷ ps), length-append us (v ∷ vs), length-append xs ps, length-append us vs));
        }

    -- a value that has no place
    pub with_off : (v : ℕ) (xs : List (Option Place)) (us : List ℕ) (ps : List (Option Place)) (vs : List ℕ) → length xs ≡ length us
        → Stage net scalars s a low n m (xs ++ ps) (us ++ vs) → Stage net scalars s a low n m (xs ++ None ∷ ps) (us ++ v ∷ vs)
    with_off v xs us ps vs l st = record {
      shows = shows_as (spread (xs ++ None ∷ ps) (us ++ v ∷ vs)) (spread_off v xs us ps vs l) st.shows;
      apart = apart_off xs ps st.apart;
      outside = outside_off low n m xs ps st.outside;
      same = (let e = st.same in omega (arith, length-append xs (None ∷ ps), length-append us (v ∷ vs), length-append xs ps, length-append us vs));
    }

    -- the two in front change places
    pub front_swap : (p q : Place) (v w : ℕ) (ps : List (Option Place)) (vs : List ℕ) → Stage net scalars s a low n m (Some p ∷ Some q ∷ ps) (v ∷ w ∷ vs) → Stage net scalars s a low n m (Some q ∷ Some p ∷ ps) (w ∷ v ∷ vs)
    front_swap p q v w ps vs st = to_front q w (Some p ∷ []) (v ∷ []) ps vs refl st

    pub stage_as : {ps qs : List (Option Place)} {vs ws : List ℕ} → ps ≡ qs → vs ≡ ws → Stage net scalars s a low n m ps vs → Stage net scalars s a low n m qs ws
    stage_as {ps = ps} {ws = ws} e f st = subst (λ p. Stage net scalars s a low n m p ws) e (subst (λ v. Stage net scalars s a low n m ps v) f st)

  -- ---- segments

  pub reaches_as : {s : State} {k low n m : ℕ} {a : Aside} {ps qs : List (Option Place)} {vs ws : List ℕ} → ps ≡ qs → vs ≡ ws → Reaches net scalars s k a low n m ps vs → Reaches net scalars s k a low n m qs ws
  reaches_as e f r = record { firings = r.firings; to = r.to; run = r.run; few = r.few; stage = stage_as e f r.stage }

  pub here : {s : State} {low n m : ℕ} {a : Aside} {ps : List (Option Place)} {vs : List ℕ} → Stage net scalars s a low n m ps vs → Reaches net scalars s 0 a low n m ps vs
  here {s = s} st = stays net scalars s _ _ _ _ _ _ st

  pub loosen : {s : State} {k l low n m : ℕ} {a : Aside} {ps : List (Option Place)} {vs : List ℕ} → k ≤ l → Reaches net scalars s k a low n m ps vs → Reaches net scalars s l a low n m ps vs
  loosen h r = record { firings = r.firings; to = r.to; run = r.run; few = (let f = r.few in omega arith); stage = r.stage }

  -- the tokens at the end listed in another way
  pub by_stage : {s : State} {k low n m o : ℕ} {a : Aside} {ps qs : List (Option Place)} {vs ws : List ℕ} → ((t : State) → Stage net scalars t a low n m ps vs → Stage net scalars t a low n o qs ws)
      → Reaches net scalars s k a low n m ps vs → Reaches net scalars s k a low n o qs ws
  by_stage f r = record { firings = r.firings; to = r.to; run = r.run; few = r.few; stage = f r.to r.stage }

  pub and_then : {s : State} {k l low n m o q : ℕ} {a b : Aside} {ps qs : List (Option Place)} {vs ws : List ℕ}
      → (r : Reaches net scalars s k a low n m ps vs) → Reaches net scalars r.to l b low o q qs ws → Reaches net scalars s (k + l) b low o q qs ws
  and_then {s = s} r t = then_reaches net scalars s _ _ _ _ _ _ _ _ _ _ _ _ _ _ r t

  -- one firing, or some, after which the tokens are those of a list
  pub reached : {s : State} {fs : List Firing} {mk : Marks} {a : Aside} {k low n m : ℕ} (ps : List (Option Place)) (vs : List ℕ) → Goes net scalars s fs mk a → length fs ≤ k → ((r : Place) → mk r ≡ spread ps vs r)
      → Apart ps → Outside low n m ps → length ps ≡ length vs → Reaches net scalars s k a low n m ps vs
  reached {s = s} {fs = fs} ps vs go few h d b l = reaches_of_goes net scalars s _ fs _ _ _ _ _ ps vs go few h d b l
