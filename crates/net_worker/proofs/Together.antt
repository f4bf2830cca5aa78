-- The state that is put together of what workers hold is the one to which their merged log leads.
use Rattle.std.proofs.Common.{◌≡◌, ◌≢◌, ◌⊎◌, inl, inr, ℕ, zero, suc, ◌<◌, ◌≤◌, List, [], ◌∷◌, ◌++◌, length, get_or, Option, Some, None, refl, ap, ◌∙◌, sym, subst, arith}
use Rattle.std.proofs.lemmas.Bool.{cases_eq, cases_lt}
use Rattle.std.proofs.lemmas.List.{get_or_past, ext_get_or, append_cancel_left}
use Rattle.net_types.specs.declared.net.Net.{Net}
use Rattle.net_types.specs.declared.net.Unit.TheVariants.{Sink}
use Rattle.net_types.specs.declared.firing.Firing.{Firing}
use Rattle.net_types.specs.declared.firing.Inputs.{Inputs}
use Rattle.net_types.specs.Nets.{kind_of, uses, owns}
use Rattle.net_core.specs.Fire.{State, Effect, idle, effect, after_effect, after, at_array, tokens_at}
use Rattle.net_core.specs.Runs.{opening, Leads}
use Rattle.net_core.specs.States.{strays_at}
use Rattle.net_core.proofs.ApartLemmas.{owns-uses, read_past}
use Rattle.net_worker.specs.Plays.{putter, taker}
use Rattle.net_worker.specs.Merge.{Alike, Measures, sum_below}
use Rattle.net_worker.specs.Local.{values, Shown}
use Rattle.net_worker.specs.Together.{IsTogether}

-- ---- what no firing changes

-- arrays that no unit may write, and the scalars
pub record Untouched (net : Net) (s t : State) : Type 0 where
  pub scalars : t.scalars ≡ s.scalars
  pub arrays : (a : ℕ) → ((u : ℕ) → owns (kind_of net u) ≡ Some a → ⊥) → get_or t.arrays a [] ≡ get_or s.arrays a []

untouched_by : (net : Net) (s : State) (u : ℕ) (o : Option Effect) → Untouched net s (after_effect net s u o)
untouched_by net s u None = record { scalars = refl; arrays = λ a none. refl }
untouched_by net s u (Some e) = record {
  scalars = refl;
  arrays = λ a none. read_past (owns (kind_of net u)) (Some a) e.array s.arrays (λ i x y. none u (x ∙ sym y));
}

pub untouched : (net : Net) (s t : State) (fs : List Firing) → Leads net s fs t → Untouched net s t
untouched net s t [] r = subst (Untouched net s) r (record { scalars = refl; arrays = λ a none. refl })
untouched net s t (f ∷ fs) r =
    let here = untouched_by net s f.unit (effect net s f) in
    let rest = untouched net (after net s f) t fs r.1 in
    record { scalars = rest.scalars ∙ here.scalars; arrays = λ a none. rest.arrays a none ∙ here.arrays a none }

-- ---- whether a unit may write an array

data Writer (net : Net) (a n : ℕ) : Type 0 where
  found : (u : ℕ) → u < n → owns (kind_of net u) ≡ Some a → Writer net a n
  nobody : ((u : ℕ) → u < n → owns (kind_of net u) ≡ Some a → ⊥) → Writer net a n

is_it : (o : Option ℕ) (a : ℕ) → (o ≡ Some a) ⊎ (o ≡ Some a → ⊥)
is_it None a = inr (λ q. cc)
is_it (Some b) a =
    elim (cases_eq b a) [
      | inl q ↦ inl (ap Some q)
      | inr q ↦ inr (λ z. q (let k : b ≡ a = cc in k))
    ]

writer : (net : Net) (a n : ℕ) → Writer net a n
writer net a zero = nobody (λ u l q. absurd (omega arith))
writer net a (suc n) = by (is_it (owns (kind_of net n)) a) (writer net a n)
  where
    by : (owns (kind_of net n) ≡ Some a) ⊎ (owns (kind_of net n) ≡ Some a → ⊥) → Writer net a n → Writer net a (suc n)
    by (inl q) rest = found n (omega arith) q
    by (inr other) (found u l q) = found u (omega arith) q
    by (inr other) (nobody none) = nobody (λ u l q. at u l q (cases_eq u n))
      where
        at : (u : ℕ) → u < suc n → owns (kind_of net u) ≡ Some a → (u ≡ n) ⊎ (u ≡ n → ⊥) → ⊥
        at u l q (inl z) = other (subst (λ k. owns (kind_of net k) ≡ Some a) z q)
        at u l q (inr z) = none u (omega (arith, z)) q

-- a unit that may write an array is one of the net
no_writer : (net : Net) (a : ℕ) → ((u : ℕ) → u < length net.units → owns (kind_of net u) ≡ Some a → ⊥) → (u : ℕ) → owns (kind_of net u) ≡ Some a → ⊥
no_writer net a none u q = by (cases_lt u (length net.units))
  where
    by : (u < length net.units) ⊎ (length net.units ≤ u) → ⊥
    by (inl l) = none u l q
    by (inr l) = let k : owns (Sink 0) ≡ Some a = ap owns (sym (get_or_past net.units u (Sink 0) l)) ∙ q in cc

-- ---- the state

-- the tokens that are gone of a channel between two workers
pub record Gone (net : Net) (owner : ℕ → ℕ) (ws : ℕ → Shown) (t : State) (c : ℕ) : Type 0 where
  pub gone : List ℕ
  pub fed : gone ++ tokens_at (ws (taker net owner c)).after.state c ≡ values ((ws (taker net owner c)).handed c)
  pub queued : gone ++ tokens_at t c ≡ values ((ws (putter net owner c)).put c)

-- what is known of the state after the merged log
pub record IsAfterAll (net : Net) (inputs : Inputs) (owner : ℕ → ℕ) (ws : ℕ → Shown) (t : State) : Type 0 where
  pub measures : Measures net (length inputs.arrays) t
  pub untouched : Untouched net (opening net inputs) t
  pub alike : (v : ℕ) → Alike net owner v t (ws v).after.state
  pub gone : (c : ℕ) → c < length net.chans → putter net owner c ≢ taker net owner c → Gone net owner ws t c
  pub strays_long : length t.strays ≡ length inputs.arrays
  pub strays : (n : ℕ) → ((u : ℕ) → u < length net.units → owner u < n) → (a : ℕ) → strays_at t a ≡ sum_below n (λ v. strays_at (ws v).after.state a)

module _ (net : Net) (inputs : Inputs) (owner : ℕ → ℕ) (n : ℕ) (ws : ℕ → Shown) (s t : State) (owned : (u : ℕ) → u < length net.units → owner u < n) (h : IsAfterAll net inputs owner ws t) (i : IsTogether net inputs owner n ws s) where
  same_tokens : (c : ℕ) → c < length net.chans → tokens_at s c ≡ tokens_at t c
  same_tokens c l = by (cases_eq (putter net owner c) (taker net owner c))
    where
      by : (putter net owner c ≡ taker net owner c) ⊎ (putter net owner c ≡ taker net owner c → ⊥) → tokens_at s c ≡ tokens_at t c
      by (inl q) = i.inner c l q ∙ (h.alike (taker net owner c)).inner c q refl
      by (inr q) = let g = h.gone c l q in append_cancel_left g.gone (tokens_at s c) (tokens_at t c) (i.between c l q g.gone g.fed ∙ sym g.queued)

  same_array : (a : ℕ) → Writer net a (length net.units) → get_or s.arrays a [] ≡ get_or t.arrays a []
  same_array a (found u l q) =
      let used : uses (kind_of net u) ≡ Some a = owns-uses (kind_of net u) a q in
      i.arrays u a l q ∙ (ap (at_array (ws (owner u)).after.state.arrays) (sym used) ∙ ((h.alike (owner u)).arrays u refl ∙ ap (at_array t.arrays) used))
  same_array a (nobody none) =
      let other = no_writer net a none in i.others a other ∙ sym (h.untouched.arrays a other)

  pub together_is : s ≡ t
  together_is =
      let scalars : s.scalars ≡ t.scalars = i.scalars ∙ sym h.untouched.scalars in
      let tokens : s.tokens ≡ t.tokens = ext_get_or [] s.tokens t.tokens (i.measures.tokens ∙ sym h.measures.tokens) (λ c l. same_tokens c (omega (arith, i.measures.tokens))) in
      let own : s.own ≡ t.own = ext_get_or idle s.own t.own (i.measures.own ∙ sym h.measures.own)
      (λ u l. (let b : u < length net.units = omega (arith, i.measures.own) in i.own u b ∙ (h.alike (owner u)).own u refl)) in
      let arrays : s.arrays ≡ t.arrays = ext_get_or [] s.arrays t.arrays (i.measures.arrays ∙ sym h.measures.arrays) (λ a l. same_array a (writer net a (length net.units))) in
      let strays : s.strays ≡ t.strays = ext_get_or 0 s.strays t.strays (i.strays_long ∙ sym h.strays_long) (λ a l. i.strays a (omega (arith, i.strays_long)) ∙ sym (h.strays n owned a)) in
      λ k. record { scalars = scalars k; tokens = tokens k; own = own k; arrays = arrays k; strays = strays k }
