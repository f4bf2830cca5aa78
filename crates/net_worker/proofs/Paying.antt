-- Tokens that a firing takes from other workers.
use Rattle.std.proofs.Common.{◌≡◌, ◌≢◌, ◌⊎◌, inl, inr, ℕ, suc, ◌+◌, ◌<◌, ◌≤◌, ◌==◌, ◌||◌, max, Bool, true, false, Option, Some, None, IsSome, List, [], ◌∷◌, length, get_or, set, refl, ap, ◌∙◌, sym, subst, arith, eq-eqb, ne_eqb, get_or-set_same, get_or-set_other, length-set}
use Rattle.std.specs.List.{AllByRecursion}
use Rattle.std.proofs.lemmas.Bool.{cases_lt, cases_eq}
use Rattle.std.proofs.lemmas.List.{get_or_past}
use Rattle.elastic_link.specs.declared.take_end.TakeEnd.{TakeEnd}
use Rattle.net_types.specs.declared.net.Net.{Net}
use Rattle.net_types.specs.Nets.{into}
use Rattle.net_core.specs.Fire.{head_at, among}
use Rattle.net_core.specs.States.{state_of}
use Rattle.net_core.proofs.MoveLemmas.{Distinct}
use Rattle.net_core.proofs.RowLemmas.{Has, Each}
use Rattle.net_worker.specs.Asking.{TakesAsked}
use Rattle.net_worker.specs.Fires.{Takes, TakeStep}
use Rattle.net_worker.specs.Firings.{AllHold, AllPayable, AllDistinct, chans_into, IsPayable}
use Rattle.net_worker.specs.Offers.{held_stamp, greatest_in}
use Rattle.net_worker.specs.Workers.{owner_in, IsMadeOf, held_by}
use Rattle.net_worker.specs.declared.tables.Tables.{Tables}
use Rattle.net_worker.specs.declared.worker.Worker.{Worker}
use Rattle.net_worker.proofs.Asking.{held_asked, take_asked_self, take_asked_step}
use Rattle.net_worker.proofs.Assembly.{holds_at, payable_at}

pub take_step_set : (es : List (Option TakeEnd)) (c n : ℕ) (p q : TakeEnd) → get_or es c None ≡ Some p → Takes n p q → TakeStep true n (get_or es c None) (get_or (set es c (Some q)) c None)
take_step_set es c n p q old h = subst (λ o. TakeStep true n o (get_or (set es c (Some q)) c None)) (sym old) (subst (λ o. TakeStep true n (Some p) o) (sym (get_or-set_same es c (Some q) None (by (cases_lt c (length es))))) h)
  where
    by : (c < length es) ⊎ (length es ≤ c) → c < length es
    by (inl l) = l
    by (inr l) = (let z : None ≡ Some p = sym (get_or_past es c None l) ∙ old in cc)

-- the greatest of three stamps
pub above_three : (net : Net) (es e1 e2 : List (Option TakeEnd)) (u p q r a b d clock x y z : ℕ) → a ≡ into u p net.chans → b ≡ into u q net.chans → d ≡ into u r net.chans
    → TakesAsked es e1 → TakesAsked e1 e2 → x ≡ held_stamp (held_by (get_or es a None)) → y ≡ held_stamp (held_by (get_or e1 b None)) → z ≡ held_stamp (held_by (get_or e2 d None))
    → max clock (max x (max y z)) ≡ max clock (greatest_in net es u (p ∷ q ∷ r ∷ []))
above_three net es e1 e2 u p q r a b d clock x y z ia ib id h k sx sy sz =
    let x1 : x ≡ held_stamp (held_by (get_or es (into u p net.chans) None)) = sx ∙ ap (λ c. held_stamp (held_by (get_or es c None))) ia in
    let y1 : y ≡ held_stamp (held_by (get_or es (into u q net.chans) None)) = sy ∙ (ap held_stamp (held_asked (get_or es b None) (get_or e1 b None) (h.each b)) ∙ ap (λ c. held_stamp (held_by (get_or es c None))) ib) in
    let z1 : z ≡ held_stamp (held_by (get_or es (into u r net.chans) None)) = sz ∙ (ap held_stamp (held_asked (get_or e1 d None) (get_or e2 d None) (k.each d) ∙ held_asked (get_or es d None) (get_or e1 d None) (h.each d)) ∙ ap (λ c. held_stamp (held_by (get_or es c None))) id) in
    omega arith

-- ---- one after another

pub all_distinct : (cs : List ℕ) → Distinct cs → AllDistinct cs
all_distinct [] h = tt
all_distinct (c ∷ cs) h = (h.0, all_distinct cs h.1)

pub not_among : (a b : ℕ) (cs : List ℕ) → among a (b ∷ cs) ≡ false → (a ≢ b) × (among a cs ≡ false)
not_among a b cs h = by (cases_eq a b)
  where
    by : (a ≡ b) ⊎ (a ≡ b → ⊥) → (a ≢ b) × (among a cs ≡ false)
    by (inl q) = (let z : (a == b) ≡ true = eq-eqb a b q in let y : true ≡ false = sym (ap (λ g. g || among a cs) z) ∙ h in cc)
    by (inr n) = (n, (let z : (a == b) ≡ false = ne_eqb a b n in sym (ap (λ g. g || among a cs) z) ∙ h))

-- after two tokens were taken a third may be
pub third_payable : (n a b d : ℕ) (es e1 e2 : List (Option TakeEnd)) → AllDistinct (a ∷ b ∷ d ∷ []) → IsPayable n (get_or es d None)
    → ((c : ℕ) → c ≢ a → get_or e1 c None ≡ get_or es c None) → ((c : ℕ) → c ≢ b → get_or e2 c None ≡ get_or e1 c None) → IsPayable n (get_or e2 d None)
third_payable n a b d es e1 e2 distinct h o1 o2 =
    let x = not_among a b (d ∷ []) distinct.0 in
    let bd = not_among b d [] distinct.1.0 in
    let ad = not_among a d [] x.1 in
    subst (IsPayable n) (sym (o2 d (λ q. bd.0 (sym q)) ∙ o1 d (λ q. ad.0 (sym q)))) h

pub among_here : (c a : ℕ) (cs : List ℕ) → c ≡ a → among c (a ∷ cs) ≡ true
among_here c a cs q = ap (λ g. g || among c cs) (eq-eqb c a q)

pub among_there : (c a : ℕ) (cs : List ℕ) → c ≢ a → among c (a ∷ cs) ≡ among c cs
among_there c a cs n = ap (λ g. g || among c cs) (ne_eqb c a n)

pub same_step : (n : ℕ) (o q : Option TakeEnd) → q ≡ o → TakeStep false n o q
same_step n o q e = subst (TakeStep false n o) (sym e) (take_asked_step n o o (take_asked_self o))

module _ (n a b d : ℕ) (es e1 e2 e3 : List (Option TakeEnd)) (distinct : AllDistinct (a ∷ b ∷ d ∷ []))
    (s1 : TakeStep true n (get_or es a None) (get_or e1 a None)) (o1 : (c : ℕ) → c ≢ a → get_or e1 c None ≡ get_or es c None)
    (s2 : TakeStep true n (get_or e1 b None) (get_or e2 b None)) (o2 : (c : ℕ) → c ≢ b → get_or e2 c None ≡ get_or e1 c None)
    (s3 : TakeStep true n (get_or e2 d None) (get_or e3 d None)) (o3 : (c : ℕ) → c ≢ d → get_or e3 c None ≡ get_or e2 c None) where
  apart_b : (a ≢ b) × (among a (d ∷ []) ≡ false)
  apart_b = not_among a b (d ∷ []) distinct.0

  apart_d : a ≢ d
  apart_d = (not_among a d [] apart_b.1).0

  apart_bd : b ≢ d
  apart_bd = (not_among b d [] distinct.1.0).0

  at_a : TakeStep true n (get_or es a None) (get_or e3 a None)
  at_a = subst (TakeStep true n (get_or es a None)) (sym (o3 a apart_d ∙ o2 a apart_b.0)) s1

  at_b : TakeStep true n (get_or es b None) (get_or e3 b None)
  at_b = subst (TakeStep true n (get_or es b None)) (sym (o3 b apart_bd)) (subst (λ o. TakeStep true n o (get_or e2 b None)) (o1 b (λ q. apart_b.0 (sym q))) s2)

  at_d : TakeStep true n (get_or es d None) (get_or e3 d None)
  at_d = subst (λ o. TakeStep true n o (get_or e3 d None)) (o2 d (λ q. apart_bd (sym q)) ∙ o1 d (λ q. apart_d (sym q))) s3

  pub three_steps : (c : ℕ) → TakeStep (among c (a ∷ b ∷ d ∷ [])) n (get_or es c None) (get_or e3 c None)
  three_steps c = by_a (cases_eq c a)
    where
      by_d : c ≢ a → c ≢ b → (c ≡ d) ⊎ (c ≡ d → ⊥) → TakeStep (among c (a ∷ b ∷ d ∷ [])) n (get_or es c None) (get_or e3 c None)
      by_d na nb (inl q) =
          subst (λ g. TakeStep g n (get_or es c None) (get_or e3 c None)) (sym (among_there c a (b ∷ d ∷ []) na ∙ (among_there c b (d ∷ []) nb ∙ among_here c d [] q)))
          (subst (λ k. TakeStep true n (get_or es k None) (get_or e3 k None)) (sym q) at_d)
      by_d na nb (inr m) =
          subst (λ g. TakeStep g n (get_or es c None) (get_or e3 c None)) (sym (among_there c a (b ∷ d ∷ []) na ∙ (among_there c b (d ∷ []) nb ∙ among_there c d [] m)))
          (same_step n (get_or es c None) (get_or e3 c None) (o3 c m ∙ (o2 c nb ∙ o1 c na)))

      by_b : c ≢ a → (c ≡ b) ⊎ (c ≡ b → ⊥) → TakeStep (among c (a ∷ b ∷ d ∷ [])) n (get_or es c None) (get_or e3 c None)
      by_b na (inl q) =
          subst (λ g. TakeStep g n (get_or es c None) (get_or e3 c None)) (sym (among_there c a (b ∷ d ∷ []) na ∙ among_here c b (d ∷ []) q))
          (subst (λ k. TakeStep true n (get_or es k None) (get_or e3 k None)) (sym q) at_b)
      by_b na (inr m) = by_d na m (cases_eq c d)

      by_a : (c ≡ a) ⊎ (c ≡ a → ⊥) → TakeStep (among c (a ∷ b ∷ d ∷ [])) n (get_or es c None) (get_or e3 c None)
      by_a (inl q) =
          subst (λ g. TakeStep g n (get_or es c None) (get_or e3 c None)) (sym (among_here c a (b ∷ d ∷ []) q))
          (subst (λ k. TakeStep true n (get_or es k None) (get_or e3 k None)) (sym q) at_a)
      by_a (inr m) = by_b m (cases_eq c b)

-- ---- a worker

module _ (t : Tables) (a : Worker) (m : IsMadeOf t a) (u : ℕ) (mine : owner_in t u ≡ a.number) where
  pub all_hold : (ps : List ℕ) → AllByRecursion (Has (head_at t.net.now (state_of a.portion.state) u)) ps → AllHold t.net.now u a.takes.items ps
  all_hold [] h = tt
  all_hold (p ∷ ps) h = (holds_at t a m u mine p h.0, all_hold ps h.1)

  pub all_payable : (n : ℕ) (es : List (Option TakeEnd)) → a.clock < n → TakesAsked a.takes.items es → (ps : List ℕ) → Each (Has (head_at t.net.now (state_of a.portion.state) u)) ps → AllPayable t.net.now u n es ps
  all_payable n es l k [] h = tt
  all_payable n es l k (p ∷ ps) h = (payable_at t a m (into u p t.net.now.chans) n es l k (holds_at t a m u mine p h.0), all_payable n es l k ps h.1)

pub three_taken : (net : Net) (u n p q r a b d : ℕ) (es e1 e2 e3 : List (Option TakeEnd)) → a ≡ into u p net.chans → b ≡ into u q net.chans → d ≡ into u r net.chans → AllDistinct (chans_into net u (p ∷ q ∷ r ∷ []))
    → TakeStep true n (get_or es a None) (get_or e1 a None) → ((c : ℕ) → c ≢ a → get_or e1 c None ≡ get_or es c None)
    → TakeStep true n (get_or e1 b None) (get_or e2 b None) → ((c : ℕ) → c ≢ b → get_or e2 c None ≡ get_or e1 c None)
    → TakeStep true n (get_or e2 d None) (get_or e3 d None) → ((c : ℕ) → c ≢ d → get_or e3 c None ≡ get_or e2 c None)
    → (c : ℕ) → TakeStep (among c (chans_into net u (p ∷ q ∷ r ∷ []))) n (get_or es c None) (get_or e3 c None)
three_taken net u n p q r a b d es e1 e2 e3 ia ib id k s1 o1 s2 o2 s3 o3 c =
    let e : (a ∷ b ∷ d ∷ []) ≡ chans_into net u (p ∷ q ∷ r ∷ []) = cc in
    subst (λ cs. TakeStep (among c cs) n (get_or es c None) (get_or e3 c None)) e (three_steps n a b d es e1 e2 e3 (subst AllDistinct (sym e) k) s1 o1 s2 o2 s3 o3 c)

pub set_self : {X : Type 0} (xs : List X) (c : ℕ) (x : X) → c < length xs → get_or xs c x ≡ x → set xs c x ≡ xs
set_self [] c x l h = refl
set_self (y ∷ xs) Rattle.std.proofs.Common.zero x l h = ap (λ z. z ∷ xs) (sym h)
set_self (y ∷ xs) (suc c) x l h = ap (λ zs. y ∷ zs) (set_self xs c x (omega arith) h)
