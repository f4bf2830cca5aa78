-- Lists of places with one token each.
use Rattle.std.proofs.Common.{◌≡◌, ◌≢◌, ℕ, ◌+◌, ◌<◌, ◌≤◌, ◌⊎◌, true, false, Option, Some, None, List, [], ◌∷◌, ◌++◌, length, refl, sym, ap, ◌∙◌, inl, inr, ⊎_elim, arith, length-append}
use Rattle.std.proofs.lemmas.Bool.Decides.{eqb_tells}
use Rattle.net_types.specs.declared.net.Place.{Place}
use Rattle.net_types.specs.declared.net.Net.{Net}
use Rattle.net_types.specs.declared.firing.Firing.{Firing}
use Rattle.net_types.specs.Nets.{at}
use Rattle.net_core.specs.Fire.{State}
use Rattle.circuit_build.proofs.Marks.{Marks, popped, pushed, Aside, Goes}
use Rattle.circuit_build.proofs.Stages.{is_place, spread, NotIn, Apart, Outside, Stage, Reaches}
use Rattle.circuit_build.proofs.MarkLemmas.{leads_on}

pub place_tells : (p q : Place) → ((is_place p q ≡ true) × (p ≡ q)) ⊎ ((is_place p q ≡ false) × (p ≢ q))
place_tells p q =
    ⊎_elim
    (λ (a, x). ⊎_elim
    (λ (b, y). inl (rw (a, b) refl, ap (λ u. at u p.place) x ∙ ap (λ v. at q.unit v) y))
    (λ (b, y). inr (rw (a, b) refl, λ h. y (ap (λ r. r.place) h)))
    (eqb_tells p.place q.place))
    (λ (a, x). inr (rw a refl, λ h. x (ap (λ r. r.unit) h)))
    (eqb_tells p.unit q.unit)

pub is_not : (p q : Place) → p ≢ q → is_place p q ≡ false
is_not p q h = ⊎_elim (λ (a, x). absurd (h x)) (λ (a, x). a) (place_tells p q)

-- a place of the next unit is none of those that are laid
pub fresh : (low n m j : ℕ) (ps : List (Option Place)) → n < m → Outside low n m ps → NotIn (at n j) ps
fresh low n m j [] lt b = tt
fresh low n m j (None ∷ ps) lt b = fresh low n m j ps lt b
fresh low n m j (Some p ∷ ps) lt b =
    (λ e. let x : n ≡ p.unit = ap (λ (r : Place). r.unit) e in ⊎_elim (λ y. absurd (omega arith)) (λ y. absurd (omega arith)) b.1, fresh low n m j ps lt b.2)

pub outside_more : (low n k m : ℕ) (ps : List (Option Place)) → n ≤ k → Outside low n m ps → Outside low k m ps
outside_more low n k m [] h b = tt
outside_more low n k m (None ∷ ps) h b = outside_more low n k m ps h b
outside_more low n k m (Some p ∷ ps) h b = (b.0, ⊎_elim (λ y. inl (omega arith)) (λ y. inr y) b.1, outside_more low n k m ps h b.2)

pub spread_none : (p : Place) (ps : List (Option Place)) (vs : List ℕ) → NotIn p ps → spread ps vs p ≡ []
spread_none p [] vs h = refl
spread_none p (q ∷ ps) [] h = refl
spread_none p (None ∷ ps) (v ∷ vs) h = spread_none p ps vs h
spread_none p (Some q ∷ ps) (v ∷ vs) h = rw (is_not p q h.0) (spread_none p ps vs h.1)

pub spread_front : (p : Place) (v : ℕ) (ps : List (Option Place)) (vs : List ℕ) → spread (Some p ∷ ps) (v ∷ vs) p ≡ v ∷ []
spread_front p v ps vs = ⊎_elim (λ (a, x). rw a refl) (λ (a, x). absurd (x refl)) (place_tells p p)

pub spread_second : (q p : Place) (w v : ℕ) (ps : List (Option Place)) (vs : List ℕ) → p ≢ q → spread (Some q ∷ Some p ∷ ps) (w ∷ v ∷ vs) p ≡ v ∷ []
spread_second q p w v ps vs ne = rw (is_not p q ne) (spread_front p v ps vs)

pub take_front : (p : Place) (v : ℕ) (ps : List (Option Place)) (vs : List ℕ) → NotIn p ps → (r : Place) → popped p (spread (Some p ∷ ps) (v ∷ vs)) r ≡ spread ps vs r
take_front p v ps vs h r =
    ⊎_elim
    (λ (a, x). rw a (sym (ap (spread ps vs) x ∙ spread_none p ps vs h)))
    (λ (a, x). rw a refl)
    (place_tells r p)

pub take_second : (q p : Place) (w v : ℕ) (ps : List (Option Place)) (vs : List ℕ) → p ≢ q → NotIn p ps → (r : Place) → popped p (spread (Some q ∷ Some p ∷ ps) (w ∷ v ∷ vs)) r ≡ spread (Some q ∷ ps) (w ∷ vs) r
take_second q p w v ps vs ne h r =
    ⊎_elim
    (λ (a, x). let b = is_not r q (λ e. ne (sym x ∙ e)) in rw (a, b) (sym (ap (spread ps vs) x ∙ spread_none p ps vs h)))
    (λ (a, x). rw a refl)
    (place_tells r p)

pub add_front : (p : Place) (v : ℕ) (ps : List (Option Place)) (vs : List ℕ) → NotIn p ps → (r : Place) → pushed p v (spread ps vs) r ≡ spread (Some p ∷ ps) (v ∷ vs) r
add_front p v ps vs h r =
    ⊎_elim
    (λ (a, x). rw a (ap (λ t. t ++ v ∷ []) (ap (spread ps vs) x ∙ spread_none p ps vs h)))
    (λ (a, x). rw a refl)
    (place_tells r p)

-- ---- the same token on other words for its marks

pub popped_same : (p : Place) (m m' : Marks) → ((r : Place) → m r ≡ m' r) → (r : Place) → popped p m r ≡ popped p m' r
popped_same p m m' h r = ⊎_elim (λ (a, x). let e = h r in rw (a, e) refl) (λ (a, x). let e = h r in rw (a, e) refl) (place_tells r p)

pub pushed_same : (p : Place) (v : ℕ) (m m' : Marks) → ((r : Place) → m r ≡ m' r) → (r : Place) → pushed p v m r ≡ pushed p v m' r
pushed_same p v m m' h r = ⊎_elim (λ (a, x). let e = h r in rw (a, e) refl) (λ (a, x). let e = h r in rw (a, e) refl) (place_tells r p)

-- ---- stages

module _ (net : Net) (scalars : List ℕ) (s : State) where
  pub stays : (a : Aside) (low n m : ℕ) (ps : List (Option Place)) (vs : List ℕ) → Stage net scalars s a low n m ps vs → Reaches net scalars s 0 a low n m ps vs
  stays a low n m ps vs st = record { firings = []; to = s; run = refl; few = omega arith; stage = st }

  pub reaches_of_goes : (k : ℕ) (fs : List Firing) (marks : Marks) (a : Aside) (low n m : ℕ) (ps : List (Option Place)) (vs : List ℕ) → Goes net scalars s fs marks a → length fs ≤ k
      → ((r : Place) → marks r ≡ spread ps vs r) → Apart ps → Outside low n m ps → length ps ≡ length vs → Reaches net scalars s k a low n m ps vs
  reaches_of_goes k fs marks a low n m ps vs g few is ap' out same = record {
    firings = fs;
    to = g.to;
    run = g.run;
    few = few;
    stage = record {
      shows = record { given = g.shows.given; sees = λ r. g.shows.sees r ∙ is r; own = g.shows.own; same = g.shows.same; few = g.shows.few; long = g.shows.long; owned = g.shows.owned };
      apart = ap';
      outside = out;
      same = same;
    };
  }

  -- segments in turn
  pub then_reaches : (k l : ℕ) (a a' : Aside) (low low' n n' m m' : ℕ) (ps ps' : List (Option Place)) (vs vs' : List ℕ) → (x : Reaches net scalars s k a low n m ps vs)
      → Reaches net scalars x.to l a' low' n' m' ps' vs' → Reaches net scalars s (k + l) a' low' n' m' ps' vs'
  then_reaches k l a a' low low' n n' m m' ps ps' vs vs' x y = record {
    firings = x.firings ++ y.firings;
    to = y.to;
    run = leads_on net s x.firings y.firings x.to y.to x.run y.run;
    few = (let e = length-append x.firings y.firings in let f = x.few in let g = y.few in omega (arith, e, f, g));
    stage = y.stage;
  }

  pub reaches_more : (k l : ℕ) (a : Aside) (low n m : ℕ) (ps : List (Option Place)) (vs : List ℕ) → k ≤ l → Reaches net scalars s k a low n m ps vs → Reaches net scalars s l a low n m ps vs
  reaches_more k l a low n m ps vs le x = record { firings = x.firings; to = x.to; run = x.run; few = (let f = x.few in omega (arith, f, le)); stage = x.stage }
