-- The laws of the runs of checked nets.
use Rattle.std.proofs.Common.{◌≡◌, ℕ, zero, suc, ◌+◌, ◌<◌, ◌≤◌, true, List, [], ◌∷◌, ◌++◌, length, refl, sym, ap, subst, inl, inr, arith, length-append}
use Rattle.net_types.specs.declared.firing.Firing.{Firing}
use Rattle.net_types.specs.declared.firing.Inputs.{Inputs}
use Rattle.net_types.specs.declared.net.Net.{Net}
use Rattle.net_types.specs.declared.net.Unit.{Unit as Kind}
use Rattle.net_types.specs.declared.net.Unit.TheVariants.{Exit}
use Rattle.net_types.specs.Nets.{kind_of}
use Rattle.net_check.specs.Checks.{IsChecked}
use Rattle.net_check.specs.Headers.{is_exit}
use Rattle.net_core.specs.Fire.{State, enabled, after}
use Rattle.net_core.specs.Runs.{opening, Leads, Run, AtRest, Long}
use Rattle.net_core.specs.Laws.{OneToken, OneTaker, EitherOrder, GoesOn, Completion, LimitIsLong, RestIsNotLong, Settled}
use Rattle.net_core.proofs.Premises.{QueueLaws}
use Rattle.net_core.proofs.PathLemmas.{complete}
use Rattle.net_core.proofs.CheckedLemmas.{premises_of}
use Rattle.net_core.proofs.RegularLemmas.{IsRegular, regular_kept, regular_opening, regular_run}
use Rattle.net_core.proofs.TakerLemmas.{one_taker}
use Rattle.net_core.proofs.DiamondLemmas.{diamond}
use Rattle.net_core.proofs.SettledLemmas.{ordered_opening, ordered_run, arrays_stay}

-- a list of firings of which one more is enabled
leads_one : (net : Net) (s : State) (fs : List Firing) (t : State) (f : Firing) → Leads net s fs t → enabled net t f → Leads net s (fs ++ f ∷ []) (after net t f)
leads_one net s [] t f r e =
    let P : State → Type 0 = λ x. enabled net x f in
    (subst P (sym r) e, ap (λ x. after net x f) r)
leads_one net s (g ∷ fs) t f r e = (r.0, leads_one net (after net s g) fs t f r.1 e)

-- the first firings of a list lead somewhere
record Begun (net : Net) (s : State) (fs : List Firing) (n : ℕ) : Type 0 where
  firings : List Firing
  to : State
  leads : Leads net s firings to
  long : length firings ≡ n

begun : (net : Net) (s : State) (fs : List Firing) (t : State) (n : ℕ) → n ≤ length fs → Leads net s fs t → Begun net s fs n
begun net s fs t zero l r = record { firings = []; to = s; leads = refl; long = refl }
begun net s [] t (suc n) l r = absurd (omega arith)
begun net s (f ∷ fs) t (suc n) l r =
    let w = begun net (after net s f) fs t n (omega arith) r.1 in
    record { firings = f ∷ w.firings; to = w.to; leads = (r.0, w.leads); long = ap suc w.long }

pub limit_is_long : LimitIsLong
limit_is_long net inputs fs s f run e = record {
  firings = fs ++ f ∷ [];
  to = after net s f;
  run = leads_one net (opening net inputs) fs s f run e;
  more = omega (arith, length-append fs (f ∷ []));
}

module _ (laws : QueueLaws) where
  regular : (net : Net) (inputs : Inputs) (fs : List Firing) (s : State) → IsChecked net → Run net inputs fs s → IsRegular net s
  regular net inputs fs s checked r =
      let p = premises_of net laws checked in
      regular_run net p (opening net inputs) s fs (regular_opening net inputs p) r

  pub one_token : OneToken
  one_token net inputs fs s checked r = (regular net inputs fs s checked r).control

  pub one_taker_enabled : OneTaker
  one_taker_enabled net inputs fs s f g checked r hf hg tf tg = one_taker net s f g (premises_of net laws checked) (regular net inputs fs s checked r) hf hg tf tg

  pub either_order : EitherOrder
  either_order net inputs fs s f g checked r ne h1 h2 =
      elim (diamond net (premises_of net laws checked) s f g (regular net inputs fs s checked r) h1 h2) [
        | inl e ↦ absurd (ne e)
        | inr c ↦ c
      ]

  goes_on : (net : Net) (inputs : Inputs) (fs : List Firing) (t : State) → IsChecked net → Run net inputs fs t → AtRest net t
      → (gs : List Firing) (s : State) → Run net inputs gs s → GoesOn net s gs (length fs) t
  goes_on net inputs fs t checked r rest gs s q =
      let p = premises_of net laws checked in
      let x = complete State Firing (enabled net) (after net) (IsRegular net) (diamond net p) (regular_kept net p) (opening net inputs) fs t gs s (regular_opening net inputs p) r rest q in
      record { rest = x.0; together = x.1; leads = x.2 }

  pub completion : Completion
  completion net inputs fs t checked r rest = record {
    longest = longest;
    goes_on = on;
    all_made = λ gs s q e. made gs s e (on gs s q);
    at_rest = λ gs s q d. ended gs s d (on gs s q);
    long = λ k. (short k, more k);
  }
    where
      on : (gs : List Firing) (s : State) → Run net inputs gs s → GoesOn net s gs (length fs) t
      on gs s q = goes_on net inputs fs t checked r rest gs s q

      longest : (gs : List Firing) (s : State) → Run net inputs gs s → length gs ≤ length fs
      longest gs s q = let e = (on gs s q).together in omega arith

      made : (gs : List Firing) (s : State) → length gs ≡ length fs → GoesOn net s gs (length fs) t → s ≡ t
      made gs s e g = by g.rest g.together g.leads
        where
          by : (hs : List Firing) → length gs + length hs ≡ length fs → Leads net s hs t → s ≡ t
          by [] d z = z
          by (h ∷ hs) d z = absurd (omega arith)

      ended : (gs : List Firing) (s : State) → AtRest net s → GoesOn net s gs (length fs) t → (s ≡ t) × (length gs ≡ length fs)
      ended gs s d g = by g.rest g.together g.leads
        where
          by : (hs : List Firing) → length gs + length hs ≡ length fs → Leads net s hs t → (s ≡ t) × (length gs ≡ length fs)
          by [] e z = (z, omega arith)
          by (h ∷ hs) e z = absurd (d h z.0)

      short : (k : ℕ) → Long net inputs k → k < length fs
      short k l = let a = longest l.firings l.to l.run in let b = l.more in omega arith

      more : (k : ℕ) → k < length fs → Long net inputs k
      more k l = let w = begun net (opening net inputs) fs t (suc k) (omega arith) r in record { firings = w.firings; to = w.to; run = w.leads; more = w.long }

  pub rest_is_not_long : RestIsNotLong
  rest_is_not_long net inputs fs s limit checked r rest few long =
      let a = (completion net inputs fs s checked r rest).longest long.firings long.to long.run in
      let b = long.more in
      absurd (omega arith)

  pub settled : Settled
  settled net inputs fs hs s t checked r exited q =
      let p = premises_of net laws checked in
      let k = ordered_run net p (opening net inputs) s fs (regular_opening net inputs p) (ordered_opening net inputs) r in
      let x = checked.one_exit.unit in
      let is = exit_is (kind_of net x) checked.one_exit.here in
      arrays_stay net p s t hs k.0 (k.1.over x is (exited x is)) q
    where
      exit_is : (k : Kind) → is_exit k ≡ true → k ≡ Exit
      exit_is Exit e = refl
      exit_is _ e = cc
