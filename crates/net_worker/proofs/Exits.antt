-- The exit has fired in the state that a worker holds exactly where the worker's log has a firing of it.
use Rattle.std.proofs.Common.{◌≡◌, ◌≢◌, ◌⊎◌, ◌↔◌, inl, inr, ℕ, zero, suc, ◌<◌, ◌≤◌, not, Bool, true, false, Some, List, [], ◌∷◌, ◌++◌, length, get_or, map, refl, ap, ◌∙◌, sym, subst, arith, get_or-set_same, get_or-set_other}
use Rattle.std.specs.List.{Any}
use Rattle.std.proofs.lemmas.Bool.{cases_eq, cases_lt}
use Rattle.std.proofs.lemmas.List.{length-append, length-map, get_or_append_left, get_or_at, get_or_past}
use Rattle.std.proofs.lemmas.List.Quantifiers.{Any-push}
use Rattle.net_types.specs.declared.net.Net.{Net}
use Rattle.net_types.specs.declared.net.Unit.{Unit as Kind}
use Rattle.net_types.specs.declared.net.Unit.TheVariants.{Sink, Fork, Lsq, Exit}
use Rattle.net_types.specs.declared.firing.Act.{Act}
use Rattle.net_types.specs.declared.firing.Firing.{Firing}
use Rattle.net_types.specs.declared.firing.Inputs.{Inputs}
use Rattle.net_types.specs.Nets.{kind_of, uses}
use Rattle.net_core.specs.declared.state.State.{State as Stored}
use Rattle.net_core.specs.Fire.{State, Own, Setting, Effect, effect_of, effect, row, go_row, exit_fires, setting, head_at, at_array, applied, idle, opened}
use Rattle.net_core.specs.Runs.{opening, HasExited}
use Rattle.net_core.specs.Plans.{own_of}
use Rattle.net_core.specs.States.{IsOf, state_of}
use Rattle.net_core.proofs.EffectLemmas.{EachEffect, each_effect, each_go, each_when}
use Rattle.net_worker.specs.Workers.{HasExitAmong}
use Rattle.firing_log.specs.declared.entry.Entry.{Entry}

-- ---- lists

any_none : {X : Type 0} (P : X → Type 0) → Any P [] → ⊥
any_none P (k, x, l, e, p) = omega arith

any_more : {X : Type 0} (P : X → Type 0) (xs : List X) (y : X) → Any P xs → Any P (xs ++ y ∷ [])
any_more P xs y (k, x, l, e, p) = (k, x, omega (arith, length-append xs (y ∷ [])), get_or_append_left xs (y ∷ []) x k l ∙ e, p)

any_less : {X : Type 0} (P : X → Type 0) (xs : List X) (y : X) → Any P (xs ++ y ∷ []) → Any P xs ⊎ P y
any_less P xs y (k, x, l, e, p) = by (cases_lt k (length xs))
  where
    by : (k < length xs) ⊎ (length xs ≤ k) → Any P xs ⊎ P y
    by (inl b) = inl (k, x, b, sym (get_or_append_left xs (y ∷ []) x k b) ∙ e, p)
    by (inr b) =
        let last : k ≡ length xs = omega (arith, length-append xs (y ∷ [])) in
        inr (subst P (sym (sym (get_or_at xs y [] x k (sym last)) ∙ e)) p)

-- ---- a firing of the exit

abbrev Fired : Effect → Type 0
Fired e = e.own.fired ≡ true

exit_row : (valued : Bool) (o : Own) (xs : List ℕ) → EachEffect Fired (exit_fires valued o xs)
exit_row true o xs = λ c v. refl
exit_row false o xs = λ c. refl

row_fires : (a : Act) (o : Own) (xs : List ℕ) (ss : Setting) → EachEffect Fired (row Exit a o xs ss)
unfolding row
row_fires a o xs ss = each_go Fired a (go_row Exit o xs ss) (each_when Fired (not o.fired) (exit_fires ss.valued o xs) (λ c. exit_row ss.valued o xs))

exit_fired : (net : Net) (s : State) (f : Firing) (e : Effect) → effect net s f ≡ Some e → kind_of net f.unit ≡ Exit → e.own.fired ≡ true
exit_fired net s f e does is =
    let o = get_or s.own f.unit idle in
    let q : effect_of (row Exit f.act o [] (setting net s)) (head_at net s f.unit) ≡ Some e =
    sym (ap (λ k. effect_of (row k f.act o (at_array s.arrays (uses k)) (setting net s)) (head_at net s f.unit)) is) ∙ does in
    each_effect Fired (row Exit f.act o [] (setting net s)) (head_at net s f.unit) e (row_fires f.act o [] (setting net s)) q

-- ---- one entry more

exit_within : (ks : List Kind) (u : ℕ) → get_or ks u (Sink 0) ≡ Exit → (u < length ks) ⊎ (length ks ≤ u) → u < length ks
exit_within ks u is (inl l) = l
exit_within ks u is (inr l) = let z : Sink 0 ≡ Exit = sym (get_or_past ks u (Sink 0) l) ∙ is in cc

module _ (net : Net) (now : Stored) (of : IsOf net now) (t : State) (f : Firing) (e : Effect) (n : ℕ) (es : List Entry)
    (does : effect net (state_of now) f ≡ Some e) (own : t.own ≡ (applied net f.unit e (state_of now)).own) where
  abbrev s : State
  s = state_of now

  abbrev entry : Entry
  entry = record { stamp = n; firing = f }

  abbrev IsOfExit : Entry → Type 0
  IsOfExit x = kind_of net x.firing.unit ≡ Exit

  within : kind_of net f.unit ≡ Exit → f.unit < length s.own
  within is =
      let l = exit_within net.units f.unit is (cases_lt f.unit (length net.units)) in
      omega (arith, length-map now.cells.items own_of, of.cells)

  at_unit : kind_of net f.unit ≡ Exit → (get_or t.own f.unit idle).fired ≡ true
  at_unit is = ap (λ os. (get_or os f.unit idle).fired) own ∙ (ap (λ (o : Own). o.fired) (get_or-set_same s.own f.unit e.own idle (within is)) ∙ exit_fired net s f e does is)

  elsewhere : (x : ℕ) → x ≢ f.unit → get_or t.own x idle ≡ get_or s.own x idle
  elsewhere x q = ap (λ os. get_or os x idle) own ∙ get_or-set_other s.own f.unit x e.own idle q

  one_exit : (x y : ℕ) → kind_of net x ≡ Exit → kind_of net y ≡ Exit → x ≡ y
  one_exit x y p q = of.exits x p ∙ sym (of.exits y q)

  here : kind_of net f.unit ≡ Exit → HasExited net t × HasExitAmong net (es ++ entry ∷ [])
  here is = ((λ x k. subst (λ u. (get_or t.own u idle).fired ≡ true) (one_exit f.unit x is k) (at_unit is)), Any-push IsOfExit es entry is)

  other : (kind_of net f.unit ≡ Exit → ⊥) → (x : ℕ) → kind_of net x ≡ Exit → get_or t.own x idle ≡ get_or s.own x idle
  other not_here x k = elsewhere x (λ z. not_here (subst (λ u. kind_of net u ≡ Exit) z k))

  there : (kind_of net f.unit ≡ Exit → ⊥) → (HasExited net s ↔ HasExitAmong net es) → HasExited net t ↔ HasExitAmong net (es ++ entry ∷ [])
  there not_here both = (
    (λ h. any_more IsOfExit es entry (both.0 (λ x k. ap (λ (o : Own). o.fired) (sym (other not_here x k)) ∙ h x k))),
    (λ h. from (any_less IsOfExit es entry h)),
  )
    where
      from : Any IsOfExit es ⊎ IsOfExit entry → HasExited net t
      from (inl h) = λ x k. ap (λ (o : Own). o.fired) (other not_here x k) ∙ both.1 h x k
      from (inr h) = absurd (not_here h)

  more : (HasExited net s ↔ HasExitAmong net es) → HasExited net t ↔ HasExitAmong net (es ++ entry ∷ [])
  more both = by (cases_eq f.unit now.exit)
    where
      by : (f.unit ≡ now.exit) ⊎ (f.unit ≡ now.exit → ⊥) → HasExited net t ↔ HasExitAmong net (es ++ entry ∷ [])
      by (inl q) = (let both_here = here (subst (λ u. kind_of net u ≡ Exit) (sym q) of.exit) in ((λ h. both_here.1), (λ h. both_here.0)))
      by (inr q) = there (λ is. q (of.exits f.unit is)) both

-- after one firing more, which the log has as one entry more
pub exit_more : (net : Net) (now : Stored) → IsOf net now → (t : State) (f : Firing) (e : Effect) (n : ℕ) (es : List Entry)
    → effect net (state_of now) f ≡ Some e → t.own ≡ (applied net f.unit e (state_of now)).own
    → (HasExited net (state_of now) ↔ HasExitAmong net es) → HasExited net t ↔ HasExitAmong net (es ++ (record { stamp = n; firing = f }) ∷ [])
exit_more net now of t f e n es does own both = more net now of t f e n es does own both

-- ---- the same cells and log

pub exit_kept : (net : Net) (s t : State) (es gs : List Entry) → t.own ≡ s.own → gs ≡ es → (HasExited net s ↔ HasExitAmong net es) → HasExited net t ↔ HasExitAmong net gs
exit_kept net s t es gs own log both =
    subst (λ gs. HasExited net t ↔ HasExitAmong net gs) (sym log)
    (subst (λ (os : List Own). ((x : ℕ) → kind_of net x ≡ Exit → (get_or os x idle).fired ≡ true) ↔ HasExitAmong net es) (sym own) both)

-- ---- the opening state and no log

unfired : (ks : List Kind) (u : ℕ) → (get_or (map opened ks) u idle).fired ≡ false
unfired [] u = refl
unfired (k ∷ ks) (suc u) = unfired ks u
unfired (k ∷ ks) zero = at k
  where
    at : (k : Kind) → (opened k).fired ≡ false
    at (Fork w outs) = refl
    at (Lsq a d ps gs fw) = refl
    at _ = refl

pub exit_opening : (net : Net) (inputs : Inputs) (now : Stored) (es : List Entry) → IsOf net now → state_of now ≡ opening net inputs → es ≡ [] → HasExited net (state_of now) ↔ HasExitAmong net es
exit_opening net inputs now es of is none =
    subst (λ es. HasExited net (state_of now) ↔ HasExitAmong net es) (sym none)
    (subst (λ s. HasExited net s ↔ HasExitAmong net []) (sym is)
    ((λ h. absurd (not_fired (h now.exit of.exit))), (λ h. absurd (any_none _ h))))
  where
    not_fired : (get_or (map opened net.units) now.exit idle).fired ≡ true → ⊥
    not_fired h = let z : false ≡ true = sym (unfired net.units now.exit) ∙ h in cc
