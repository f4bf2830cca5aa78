-- Where each visit leads as before, or past one further visit, runs end as before.
use Rattle.std.proofs.Common.{◌≡◌, ℕ, ◌+◌, ◌≤◌, List, [], ◌∷◌, length, Option, Some, None, sym, ◌∙◌, ap, subst, arith, inl, inr, ◌⊎◌}
use Rattle.std.proofs.lemmas.Option.{same_Some}
use Rattle.ir.specs.Visits.{Visit, Passage, Passing, next_of, next_visit, Returns, Finishes, strays_of}

-- q leads as p does
pub record LeadsAlike (p q : Passage) : Type 0 where
  pub onward : q.onward ≡ p.onward
  pub arrays : q.arrays ≡ p.arrays
  pub strays : q.strays ≡ p.strays

-- v leads to a visit w by f, and by h where w does
pub record LeadsPast (f h : Passing) (v : Visit) : Type 0 where
  pub next : Visit
  pub is_next : next_visit f v ≡ Some next
  pub onward : (h v).onward ≡ (f next).onward
  pub arrays : (h v).arrays ≡ (f next).arrays
  pub strays : (h v).strays ≡ (f v).strays + (f next).strays

abbrev pub AlikeOrPast : Passing → Passing → Visit → Type 0
AlikeOrPast f h v = LeadsAlike (f v) (h v) ⊎ LeadsPast f h v

-- each visit that fits does so, and leads to visits that fit
module _ (f h : Passing) (Fits : Visit → Type 0) (fits_next : (v w : Visit) → Fits v → next_visit f v ≡ Some w → Fits w) (each : (v : Visit) → Fits v → AlikeOrPast f h v) where
  -- ---- a run of f is one of h

  pub record Shorter (v : Visit) (rest : List Visit) (r : Option ℕ) (arrays : List (List ℕ)) : Type 0 where
    pub again : List Visit
    pub ends : Finishes h v again r arrays
    pub strays : strays_of h (v ∷ again) ≡ strays_of f (v ∷ rest)
    pub few : length again ≤ length rest

  alike_ends : (v : Visit) (r : Option ℕ) (arrays : List (List ℕ)) → LeadsAlike (f v) (h v) → Returns f v r arrays → Shorter v [] r arrays
  alike_ends v r arrays a e = record {
    again = [];
    ends = record { result = a.onward ∙ e.result; last_arrays = a.arrays ∙ e.last_arrays };
    strays = (let s = a.strays in omega (arith, s));
    few = omega arith;
  }

  same_next : (p q : Passage) → q.onward ≡ p.onward → q.arrays ≡ p.arrays → next_of q.onward q.arrays ≡ next_of p.onward p.arrays
  same_next p q x y = ap (λ o. next_of o q.arrays) x ∙ ap (next_of p.onward) y

  alike_on : (v w : Visit) (rest : List Visit) (r : Option ℕ) (arrays : List (List ℕ)) → LeadsAlike (f v) (h v) → next_visit f v ≡ Some w → Shorter w rest r arrays → Shorter v (w ∷ rest) r arrays
  alike_on v w rest r arrays a e s = record {
    again = w ∷ s.again;
    ends = (same_next (f v) (h v) a.onward a.arrays ∙ e, s.ends);
    strays = (let p = a.strays in let q = s.strays in omega (arith, p, q));
    few = (let l = s.few in omega (arith, l));
  }

  -- the next visit is that one
  is_that : (v w : Visit) (p : LeadsPast f h v) → next_visit f v ≡ Some w → p.next ≡ w
  is_that v w p e = same_Some p.next w (sym p.is_next ∙ e)

  not_last : (v : Visit) (r : Option ℕ) (arrays : List (List ℕ)) → LeadsPast f h v → Returns f v r arrays → ⊥
  not_last v r arrays p e =
      let x : next_of (f v).onward (f v).arrays ≡ None = ap (λ o. next_of o (f v).arrays) e.result in
      let y : None ≡ Some p.next = sym x ∙ p.is_next in absurd (cc)

  past_ends : (v w : Visit) (r : Option ℕ) (arrays : List (List ℕ)) (p : LeadsPast f h v) → p.next ≡ w → Returns f w r arrays → Shorter v (w ∷ []) r arrays
  past_ends v w r arrays p is e =
      let z : Returns f p.next r arrays = subst (λ u. Returns f u r arrays) (sym is) e in
      record {
        again = [];
        ends = record { result = p.onward ∙ z.result; last_arrays = p.arrays ∙ z.last_arrays };
        strays = (let s = p.strays in let q = ap (λ u. (f u).strays) is in omega (arith, s, q));
        few = omega arith;
      }

  past_on : (v w x : Visit) (rest : List Visit) (r : Option ℕ) (arrays : List (List ℕ)) (p : LeadsPast f h v) → p.next ≡ w → next_visit f w ≡ Some x → Shorter x rest r arrays
      → Shorter v (w ∷ x ∷ rest) r arrays
  past_on v w x rest r arrays p is e s = record {
    again = x ∷ s.again;
    ends = (same_next (f p.next) (h v) p.onward p.arrays ∙ (ap (next_visit f) is ∙ e), s.ends);
    strays = (let a = p.strays in let b = s.strays in let q = ap (λ u. (f u).strays) is in omega (arith, a, b, q));
    few = (let l = s.few in omega (arith, l));
  }

  pub shorter : (rest : List Visit) (v : Visit) (r : Option ℕ) (arrays : List (List ℕ)) → Fits v → Finishes f v rest r arrays → Shorter v rest r arrays
  shorter [] v r arrays fit e = elim (each v fit) [ inl a ↦ alike_ends v r arrays a e | inr p ↦ absurd (not_last v r arrays p e) ]
  shorter (w ∷ []) v r arrays fit e = elim (each v fit) [
    | inl a ↦ alike_on v w [] r arrays a e.0 (shorter [] w r arrays (fits_next v w fit e.0) e.1)
    | inr p ↦ past_ends v w r arrays p (is_that v w p e.0) e.1
  ]
  shorter (w ∷ x ∷ rest) v r arrays fit e =
      let fw = fits_next v w fit e.0 in
      elim (each v fit) [
        | inl a ↦ alike_on v w (x ∷ rest) r arrays a e.0 (shorter (x ∷ rest) w r arrays fw e.1)
        | inr p ↦ past_on v w x rest r arrays p (is_that v w p e.0) e.1.0 (shorter rest x r arrays (fits_next w x fw e.1.0) e.1.1)
      ]

  -- ---- and back

  pub record Longer (v : Visit) (again : List Visit) (r : Option ℕ) (arrays : List (List ℕ)) : Type 0 where
    pub rest : List Visit
    pub ends : Finishes f v rest r arrays
    pub strays : strays_of f (v ∷ rest) ≡ strays_of h (v ∷ again)

  back_ends : (v : Visit) (r : Option ℕ) (arrays : List (List ℕ)) → AlikeOrPast f h v → Returns h v r arrays → Longer v [] r arrays
  back_ends v r arrays (inl a) e = record {
    rest = [];
    ends = record { result = sym a.onward ∙ e.result; last_arrays = sym a.arrays ∙ e.last_arrays };
    strays = (let s = a.strays in omega (arith, s));
  }
  back_ends v r arrays (inr p) e = record {
    rest = p.next ∷ [];
    ends = (p.is_next, record { result = sym p.onward ∙ e.result; last_arrays = sym p.arrays ∙ e.last_arrays });
    strays = (let s = p.strays in omega (arith, s));
  }

  back_on : (v x : Visit) (again : List Visit) (r : Option ℕ) (arrays : List (List ℕ)) → Fits v → AlikeOrPast f h v → next_visit h v ≡ Some x → (Fits x → Longer x again r arrays)
      → Longer v (x ∷ again) r arrays
  back_on v x again r arrays fit (inl a) e more =
      let n : next_visit f v ≡ Some x = sym (same_next (f v) (h v) a.onward a.arrays) ∙ e in
      let m = more (fits_next v x fit n) in
      record { rest = x ∷ m.rest; ends = (n, m.ends); strays = (let p = a.strays in let q = m.strays in omega (arith, p, q)) }
  back_on v x again r arrays fit (inr p) e more =
      let n : next_visit f p.next ≡ Some x = sym (same_next (f p.next) (h v) p.onward p.arrays) ∙ e in
      let m = more (fits_next p.next x (fits_next v p.next fit p.is_next) n) in
      record { rest = p.next ∷ x ∷ m.rest; ends = (p.is_next, (n, m.ends)); strays = (let a = p.strays in let q = m.strays in omega (arith, a, q)) }

  pub longer : (again : List Visit) (v : Visit) (r : Option ℕ) (arrays : List (List ℕ)) → Fits v → Finishes h v again r arrays → Longer v again r arrays
  longer [] v r arrays fit e = back_ends v r arrays (each v fit) e
  longer (x ∷ again) v r arrays fit e = back_on v x again r arrays fit (each v fit) e.0 (λ fx. longer again x r arrays fx e.1)
