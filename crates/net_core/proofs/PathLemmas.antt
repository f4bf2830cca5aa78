-- Lists of firings of any machine in which two enabled firings go in either order.
use Rattle.std.proofs.Common.{◌≡◌, ℕ, suc, ◌+◌, ◌⊎◌, List, [], ◌∷◌, ◌++◌, length, refl, sym, ap, subst, inl, inr, arith}
use Rattle.net_core.specs.Machine.{Path, Ended, Commute}

-- a machine: states, firings, when a firing is enabled, the state after it
module _ (S F : Type 0) (enabled : S → F → Type 0) (after : S → F → S) where
  abbrev pub Diamond : (S → Type 0) → Type 0
  Diamond Good = (s : S) (f g : F) → Good s → enabled s f → enabled s g → (f ≡ g) ⊎ Commute S F enabled after s f g

  abbrev pub Kept : (S → Type 0) → Type 0
  Kept Good = (s : S) (f : F) → Good s → enabled s f → Good (after s f)

  abbrev pub Shorter : S → ℕ → S → Type 0
  Shorter s n t = (fs : List F) × (suc (length fs) ≡ n) × Path S F enabled after s fs t

  pub run-append : (s : S) (fs gs : List F) (t u : S) → Path S F enabled after s fs t → Path S F enabled after t gs u → Path S F enabled after s (fs ++ gs) u
  run-append s [] gs t u r q = let P : S → Type 0 = λ x. Path S F enabled after x gs u in subst P (sym r) q
  run-append s (f ∷ fs) gs t u r q = (r.0, run-append (after s f) fs gs t u r.1 q)

  -- an enabled firing may go first in a run to a state at rest
  pub strip : (Good : S → Type 0) → Diamond Good → Kept Good → (s : S) (fs : List F) (t : S) (g : F)
      → Good s → Path S F enabled after s fs t → Ended S F enabled after t → enabled s g → Shorter (after s g) (length fs) t
  strip Good d k s [] t g good r rest e = absurd (rest g (let P : S → Type 0 = λ x. enabled x g in subst P r e))
  strip Good d k s (f ∷ fs) t g good r rest e =
      go (d s f g good r.0 e) (λ c. strip Good d k (after s f) fs t g (k s f good r.0) r.1 rest (c.g_then))
    where
      go : (f ≡ g) ⊎ Commute S F enabled after s f g → (Commute S F enabled after s f g → Shorter (after (after s f) g) (length fs) t) → Shorter (after s g) (suc (length fs)) t
      go (inl p) ih = (fs, refl, (let P : F → Type 0 = λ x. Path S F enabled after (after s x) fs t in subst P p r.1))
      go (inr c) ih =
          let w = ih c in
          let P : S → Type 0 = λ x. Path S F enabled after x w.0 t in
          (f ∷ w.0, ap suc w.1, (c.f_then, subst P c.meet w.2))

  -- each run goes on to that state at rest, and all of these have one length
  pub complete : (Good : S → Type 0) → Diamond Good → Kept Good → (s : S) (fs : List F) (t : S) (gs : List F) (u : S)
      → Good s → Path S F enabled after s fs t → Ended S F enabled after t → Path S F enabled after s gs u → (hs : List F) × (length gs + length hs ≡ length fs) × Path S F enabled after u hs t
  complete Good d k s fs t [] u good r rest q = (fs, omega arith, (let P : S → Type 0 = λ x. Path S F enabled after x fs t in subst P q r))
  complete Good d k s fs t (g ∷ gs) u good r rest q =
      let w = strip Good d k s fs t g good r rest q.0 in
      let x = complete Good d k (after s g) w.0 t gs u (k s g good q.0) w.2 rest q.1 in
      (x.0, (let e1 : suc (length w.0) ≡ length fs = w.1 in let e2 : length gs + length x.0 ≡ length w.0 = x.1 in omega arith), x.2)
