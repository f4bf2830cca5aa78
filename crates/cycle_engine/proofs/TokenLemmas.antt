-- Ports of a queue at which there is no token for an act.
use Rattle.std.proofs.Common.{◌≡◌, ℕ, suc, ◌+◌, ◌*◌, ◌<◌, ◌≤◌, ◌⊎◌, false, Option, Some, is_some, get_or, [], length, sym, ap, subst, ◌∙◌, inl, inr, arith}
use Rattle.std.proofs.lemmas.Bool.{cases_lt, false≢true}
use Rattle.net_types.specs.declared.net.Net.{Net}
use Rattle.net_types.specs.declared.firing.Act.{Act}
use Rattle.net_types.specs.declared.firing.Act.TheVariants.{Addr, Data}
use Rattle.net_types.specs.Nets.{kind_of, firing}
use Rattle.net_types.specs.Order.{act_rank, act_number}
use Rattle.lsq_core.specs.Laws.{act_place}
use Rattle.lsq_core.specs.Views.{QueueView}
use Rattle.net_core.specs.Fire.{State, idle, head_at, enabled}
use Rattle.net_core.proofs.GoesLemmas.{goes}
use Rattle.net_core.proofs.QueueActLemmas.{queue_inv, lsq_is}
use Rattle.cycle_engine.specs.private.Control.{control_places_in}
use Rattle.cycle_engine.specs.private.Places.{IsViewOf, IsNextNumber, HasNoneFrom}
use Rattle.cycle_engine.proofs.PlaceLemmas.{act_is}

-- the number is passed over where the act of that number is not enabled
pub passed : (net : Net) (s : State) (u : ℕ) (kind : Act) (from at p : ℕ) → IsNextNumber net s u kind from at → IsNextNumber net s u kind at p
    → ((b : Act) → act_rank b ≡ act_rank kind → act_number (act_place b) ≡ p → enabled net s (firing u b) → ⊥) → IsNextNumber net s u kind from (p + 1)
passed net s u kind from at p h g here = record {
  from_on = (let a = h.from_on in let b = g.from_on in omega arith);
  none = λ b r f l n. by b r f l n (cases_lt (act_number (act_place b)) at) (cases_lt (act_number (act_place b)) p);
}
  where
    by : (b : Act) → act_rank b ≡ act_rank kind → from ≤ act_number (act_place b) → act_number (act_place b) < p + 1 → enabled net s (firing u b)
        → (act_number (act_place b) < at) ⊎ (at ≤ act_number (act_place b)) → (act_number (act_place b) < p) ⊎ (p ≤ act_number (act_place b)) → ⊥
    by b r f l n (inl x) y = h.none b r f x n
    by b r f l n (inr x) (inl y) = g.none b r x y n
    by b r f l n (inr x) (inr y) = here b r (omega arith) n

pub joined : (net : Net) (s : State) (u : ℕ) (kind : Act) (from at p : ℕ) → IsNextNumber net s u kind from at → IsNextNumber net s u kind at p → IsNextNumber net s u kind from p
joined net s u kind from at p h g = record {
  from_on = (let a = h.from_on in let b = g.from_on in omega arith);
  none = λ b r f l n. by b r f l n (cases_lt (act_number (act_place b)) at);
}
  where
    by : (b : Act) → act_rank b ≡ act_rank kind → from ≤ act_number (act_place b) → act_number (act_place b) < p → enabled net s (firing u b)
        → (act_number (act_place b) < at) ⊎ (at ≤ act_number (act_place b)) → ⊥
    by b r f l n (inl x) = h.none b r f x n
    by b r f l n (inr x) = g.none b r x l n

pub joined_none : (net : Net) (s : State) (u : ℕ) (kind : Act) (from at : ℕ) → IsNextNumber net s u kind from at → HasNoneFrom net s u kind at → HasNoneFrom net s u kind from
joined_none net s u kind from at h g b r f n = by (cases_lt (act_number (act_place b)) at)
  where
    by : (act_number (act_place b) < at) ⊎ (at ≤ act_number (act_place b)) → ⊥
    by (inl x) = h.none b r f x n
    by (inr x) = g b r x n

some_none : (o : Option ℕ) (v : ℕ) → o ≡ Some v → is_some o ≡ false → ⊥
some_none o v e f = false≢true (sym f ∙ ap is_some e)

module _ (net : Net) (s : State) (u : ℕ) (q : QueueView) (v : IsViewOf net s u q) where
  addr_token : (j : ℕ) → enabled net s (firing u (Addr j)) → is_some (head_at net s u (control_places_in (kind_of net u) + 2 * j)) ≡ false → ⊥
  addr_token j n f =
      let w : QueueView = v.0.view in
      let g = goes net s (firing u (Addr j)) n in
      let i = queue_inv w.depth w.ports w.groups (Addr j) (get_or s.own u idle) (get_or s.arrays v.0.array []) (head_at net s u) g.0 (sym (lsq_is net u v.0.array w.depth w.ports w.groups w.queue.forward v.0.shape s (Addr j)) ∙ g.1.is) in
      let c : control_places_in (kind_of net u) ≡ suc (length w.groups) = ap control_places_in v.0.shape in
      let e : control_places_in (kind_of net u) + 2 * j ≡ length w.groups + 1 + 2 * j = omega arith in
      some_none (head_at net s u (control_places_in (kind_of net u) + 2 * j)) i.0 (ap (head_at net s u) e ∙ i.2) f

  data_token : (j : ℕ) → enabled net s (firing u (Data j)) → is_some (head_at net s u (control_places_in (kind_of net u) + 1 + 2 * j)) ≡ false → ⊥
  data_token j n f =
      let w : QueueView = v.0.view in
      let g = goes net s (firing u (Data j)) n in
      let i = queue_inv w.depth w.ports w.groups (Data j) (get_or s.own u idle) (get_or s.arrays v.0.array []) (head_at net s u) g.0 (sym (lsq_is net u v.0.array w.depth w.ports w.groups w.queue.forward v.0.shape s (Data j)) ∙ g.1.is) in
      let c : control_places_in (kind_of net u) ≡ suc (length w.groups) = ap control_places_in v.0.shape in
      let e : control_places_in (kind_of net u) + 1 + 2 * j ≡ length w.groups + 2 + 2 * j = omega arith in
      some_none (head_at net s u (control_places_in (kind_of net u) + 1 + 2 * j)) i.0 (ap (head_at net s u) e ∙ i.2) f

  pub no_addr : (p first : ℕ) → first ≡ control_places_in (kind_of net u) → is_some (head_at net s u (first + 0 + 2 * p)) ≡ false
      → (a : Act) → act_rank a ≡ 4 → act_number (act_place a) ≡ p → enabled net s (firing u a) → ⊥
  no_addr p first fe lacks a r num n =
      let e : a ≡ Addr (act_number a) = act_is 4 a r in
      let m : act_number a ≡ p = sym (ap (λ x. act_number (act_place x)) e) ∙ num in
      let k : a ≡ Addr p = e ∙ ap Addr m in
      let place : control_places_in (kind_of net u) + 2 * p ≡ first + 0 + 2 * p = omega arith in
      addr_token p (subst (λ x. enabled net s (firing u x)) k n) (ap (λ q. is_some (head_at net s u q)) place ∙ lacks)

  pub no_data : (p first : ℕ) → first ≡ control_places_in (kind_of net u) → is_some (head_at net s u (first + 1 + 2 * p)) ≡ false
      → (a : Act) → act_rank a ≡ 5 → act_number (act_place a) ≡ p → enabled net s (firing u a) → ⊥
  no_data p first fe lacks a r num n =
      let e : a ≡ Data (act_number a) = act_is 5 a r in
      let m : act_number a ≡ p = sym (ap (λ x. act_number (act_place x)) e) ∙ num in
      let k : a ≡ Data p = e ∙ ap Data m in
      let place : control_places_in (kind_of net u) + 1 + 2 * p ≡ first + 1 + 2 * p = omega arith in
      data_token p (subst (λ x. enabled net s (firing u x)) k n) (ap (λ q. is_some (head_at net s u q)) place ∙ lacks)
