-- Which acts a unit of a kind has.
use Rattle.std.proofs.Common.{◌≡◌, ℕ, ◌<◌, Bool, Option, Some, None, List, [], ◌∷◌, length, get_or, refl, sym, ap, ◌∙◌, inl, inr, nat_lt, ltb-true}
use Rattle.std.proofs.lemmas.List.{get_or_past}
use Rattle.std.proofs.lemmas.Bool.{cases_lt}
use Rattle.net_types.specs.declared.net.Port.{Port}
use Rattle.net_types.specs.declared.net.Unit.{Unit as Kind}
use Rattle.net_types.specs.declared.net.Unit.TheVariants.{Fork, Cmerge, Sink, Lsq}
use Rattle.net_types.specs.declared.firing.Act.{Act}
use Rattle.net_types.specs.declared.firing.Act.TheVariants.{Go, From, Send, Alloc, End}
use Rattle.net_types.specs.declared.net.Net.{Net}
use Rattle.net_types.specs.Nets.{firing, kind_of, uses}
use Rattle.net_core.specs.Fire.{Setting, setting, Row, Take, Fires, Effect, effect_of, with_head, put_at, on_go, go_row, fork_row, cmerge_row, State, Own, idle, head_at, at_array, effect, row}
use Rattle.net_core.proofs.ForkLemmas.{when_inv}

-- a unit of a kind other than the default one stands in the net
pub kind_within : (net : Net) (u : ℕ) → (kind_of net u ≡ Sink 0 → ⊥) → u < length net.units
kind_within net u h = elim (cases_lt u (length net.units)) [ inl l ↦ l | inr l ↦ absurd (h (get_or_past net.units u (Sink 0) l)) ]

-- the acts of a fork are its sends
pub fork_act : (net : Net) (s : State) (u wd outs : ℕ) (a : Act) → kind_of net u ≡ Fork wd outs → (e : Effect) → effect net s (firing u a) ≡ Some e → (j : ℕ) × (a ≡ Send j)
unfolding row
fork_act net s u wd outs a is e q =
    by a (sym (ap (λ k. effect_of (row k a (get_or s.own u idle) (at_array s.arrays (uses k)) (setting net s)) (head_at net s u)) is) ∙ q)
  where
    by : (a : Act) → effect_of (fork_row outs a (get_or s.own u idle) []) (head_at net s u) ≡ Some e → (j : ℕ) × (a ≡ Send j)
    by (Send j) q = (j, refl)
    by _ q = cc

-- the acts of the other kinds
pub plain_act : (net : Net) (s : State) (u : ℕ) (a : Act) (k : Kind) → (row k a (get_or s.own u idle) (at_array s.arrays (uses k)) (setting net s) ≡ on_go a (go_row k (get_or s.own u idle) (at_array s.arrays (uses k)) (setting net s)))
    → kind_of net u ≡ k → (e : Effect) → effect net s (firing u a) ≡ Some e → a ≡ Go
plain_act net s u a k on is e q =
    by a (go_row k (get_or s.own u idle) (at_array s.arrays (uses k)) (setting net s))
    (sym (ap (λ r. effect_of r (head_at net s u)) on) ∙ (sym (ap (λ k. effect_of (row k a (get_or s.own u idle) (at_array s.arrays (uses k)) (setting net s)) (head_at net s u)) is) ∙ q))
  where
    by : (a : Act) (r : Row) → effect_of (on_go a r) (head_at net s u) ≡ Some e → a ≡ Go
    by Go r q = refl
    by _ r q = cc

-- the acts of a control merge take from its inputs
pub merge_inv : (net : Net) (s : State) (u ins : ℕ) (a : Act) → kind_of net u ≡ Cmerge ins → (e : Effect) → effect net s (firing u a) ≡ Some e
    → (j : ℕ) × (a ≡ From j) × (j < ins) × (v : ℕ) × (head_at net s u j ≡ Some v)
unfolding row
merge_inv net s u ins a is e q =
    by a (sym (ap (λ k. effect_of (row k a (get_or s.own u idle) (at_array s.arrays (uses k)) (setting net s)) (head_at net s u)) is) ∙ q)
  where
    by : (a : Act) → effect_of (cmerge_row ins a (get_or s.own u idle) []) (head_at net s u) ≡ Some e → (j : ℕ) × (a ≡ From j) × (j < ins) × (v : ℕ) × (head_at net s u j ≡ Some v)
    by (From j) q =
        let w = when_inv (nat_lt j ins) (Take j (λ v. Fires (put_at 0 j) (get_or s.own u idle) [] 0)) (head_at net s u) e q in
        let x = some (head_at net s u j) (λ v. Some (record { takes = j ∷ []; put = put_at 0 j; own = get_or s.own u idle; array = []; strays = 0 })) w.1 in
        (j, refl, ltb-true _ _ w.0, x.0, x.1)
      where
        some : (o : Option ℕ) (k : ℕ → Option Effect) → with_head o k ≡ Some e → (v : ℕ) × (o ≡ Some v)
        some None k q = cc
        some (Some v) k q = (v, refl)
    by _ q = cc

-- merges are of control merges, allocations and Ends of queues
pub from_kind : (k : Kind) (j : ℕ) (o : Own) (xs : List ℕ) (ss : Setting) (h : ℕ → Option ℕ) (e : Effect) → effect_of (row k (From j) o xs ss) h ≡ Some e
    → (ins : ℕ) × (k ≡ Cmerge ins)
unfolding row
from_kind (Cmerge ins) j o xs ss h e q = (ins, refl)
from_kind _ j o xs ss h e q = cc

-- a unit of this kind is a queue
pub record IsLsq (k : Kind) : Type 0 where
  pub array : ℕ
  pub depth : ℕ
  pub ports : List Port
  pub groups : List (List ℕ)
  pub mark : Bool
  pub is : k ≡ Lsq array depth ports groups mark

pub alloc_kind : (k : Kind) (g : ℕ) (o : Own) (xs : List ℕ) (ss : Setting) (h : ℕ → Option ℕ) (e : Effect) → effect_of (row k (Alloc g) o xs ss) h ≡ Some e → IsLsq k
unfolding row
alloc_kind (Lsq a d ps gs fw) g o xs ss h e q = record { array = a; depth = d; ports = ps; groups = gs; mark = fw; is = refl }
alloc_kind _ g o xs ss h e q = cc

pub end_kind : (k : Kind) (o : Own) (xs : List ℕ) (ss : Setting) (h : ℕ → Option ℕ) (e : Effect) → effect_of (row k End o xs ss) h ≡ Some e → IsLsq k
unfolding row
end_kind (Lsq a d ps gs fw) o xs ss h e q = record { array = a; depth = d; ports = ps; groups = gs; mark = fw; is = refl }
end_kind _ o xs ss h e q = cc
