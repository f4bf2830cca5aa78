-- The bound on cycles.
use Rattle.std.proofs.Common.{◌≡◌, ◌≢◌, ◌⊎◌, inl, inr, ℕ, suc, zero, ◌+◌, ◌-◌, ◌*◌, ◌<◌, ◌≤◌, List, [], ◌∷◌, length, map, get_or, refl, sym, ap, subst, arith}
use Rattle.std.proofs.lemmas.Bool.{cases_lt}
use Rattle.net_types.specs.declared.net.Chan.{Chan}
use Rattle.net_types.specs.declared.net.Net.{Net}
use Rattle.net_types.specs.declared.firing.Firing.{Firing}
use Rattle.net_types.specs.Nets.{chan_at}
use Rattle.net_core.specs.Fire.{enabled}
use Rattle.std.specs.List.{AllByRecursion}
use Rattle.cycle_engine.specs.Cycles.{Dated, dated_opening, Makes, Cycle, Cycles, AreDated}
use Rattle.cycle_engine.specs.Bounds.{firing_count, EndsFiring, CyclesBound}
use Rattle.cycle_engine.proofs.DateLemmas.{AllBy, AllRipe, each_as, makes_dates, ripe_may}

-- every token is ripe from the cycle m on
abbrev pub RipeFrom : ℕ → ℕ → Dated → Type 0
RipeFrom most m s = (d : ℕ) → AllByRecursion (λ x. x + most ≤ m) (get_or s.dates d [])

pub from_ripe : (net : Net) (c most : ℕ) (s : Dated) → ((d : ℕ) → (chan_at net d).delay ≤ most) → RipeFrom most c s → AllRipe net c s
from_ripe net c most s l r d = let m : (chan_at net d).delay ≤ most = l d in each_as (λ x. x + most ≤ c) (λ x. x + (chan_at net d).delay ≤ c) (λ x z. omega arith) (get_or s.dates d []) (r d)

-- an empty cycle in which every token is ripe starts at rest
pub empty_rests : (net : Net) (c : ℕ) (s t : Dated) → AreDated net s → AllRipe net c s → Cycle net c s [] t → (f : Firing) → enabled net s.state f → ⊥
empty_rests net c s t k r y f n =
    let P : Dated → Type 0 = λ x. (g : Firing) → Unit {0} → Rattle.cycle_engine.specs.Cycles.May net c s x g → ⊥ in
    subst P (sym y.makes) y.full f tt (ripe_may net c s f k r n)

-- from rest on no cycle has a firing
pub no_more : (net : Net) (c : ℕ) (s : Dated) (fss : List (List Firing)) (t : Dated) → ((f : Firing) → enabled net s.state f → ⊥) → Cycles net c s fss t → fss ≢ [] → EndsFiring fss → ⊥
no_more net c s [] t rest y n e = n refl
no_more net c s ((f ∷ fs) ∷ fss) t rest y n e = rest f (y.1.makes.0.turn)
no_more net c s ([] ∷ []) t rest y n e = e refl
no_more net c s ([] ∷ gs ∷ fss) t rest y n e =
    let P : Dated → Type 0 = λ x. Cycles net (suc c) x (gs ∷ fss) t in
    no_more net (suc c) s (gs ∷ fss) t rest (subst P (sym y.1.makes) y.2) (λ z. cc) e

pub ends_rest : (fs : List Firing) (fss : List (List Firing)) → EndsFiring (fs ∷ fss) → EndsFiring fss
ends_rest fs [] e = tt
ends_rest fs (gs ∷ fss) e = e

bound : (net : Net) (most c m : ℕ) (s : Dated) (fss : List (List Firing)) (t : Dated) → ((d : ℕ) → (chan_at net d).delay ≤ most) → AreDated net s → RipeFrom most m s → AllBy c s → Cycles net c s fss t → EndsFiring fss
    → length fss ≤ (m - c) + firing_count fss * (most + 1)
bound net most c m s [] t l k r h y e = omega arith
bound net most c m s ([] ∷ fss) t l k r h y e =
    by (cases_lt c m)
    (let P : Dated → Type 0 = λ x. Cycles net (suc c) x fss t in
    bound net most (suc c) m s fss t l k r (λ d. each_as (λ x. x ≤ c) (λ x. x ≤ suc c) (λ x z. omega arith) (get_or s.dates d []) (h d)) (subst P (sym y.1.makes) y.2) (ends_rest [] fss e))
  where
    by : (c < m) ⊎ (m ≤ c) → length fss ≤ (m - suc c) + firing_count fss * (most + 1) → length ([] ∷ fss) ≤ (m - c) + firing_count ([] ∷ fss) * (most + 1)
    by (inl q) i =
        let q' : c < m = q in
        let z : firing_count ([] ∷ fss) ≡ firing_count fss = omega arith in
        let z' : firing_count ([] ∷ fss) * (most + 1) ≡ firing_count fss * (most + 1) = ap (λ x. x * (most + 1)) z in
        omega arith
    by (inr q) i =
        let ripe : RipeFrom most c s = λ d. each_as (λ x. x + most ≤ m) (λ x. x + most ≤ c) (λ x z. (let q' : m ≤ c = q in omega arith)) (get_or s.dates d []) (r d) in
        absurd (no_more net c s ([] ∷ fss) t (empty_rests net c s y.0 k (from_ripe net c most s l ripe) y.1) y (λ z. cc) e)
bound net most c m s ((f ∷ fs) ∷ fss) t l k r h y e =
    let w = makes_dates net c s s (f ∷ fs) y.0 y.1.makes k h in
    let ripe : RipeFrom most (c + most) y.0 = λ d. each_as (λ x. x ≤ c) (λ x. x + most ≤ c + most) (λ x z. omega arith) (get_or y.0.dates d []) (w.1 d) in
    let i = bound net most (suc c) (c + most) y.0 fss t l w.0 ripe (λ d. each_as (λ x. x ≤ c) (λ x. x ≤ suc c) (λ x z. omega arith) (get_or y.0.dates d []) (w.1 d)) y.2 (ends_rest (f ∷ fs) fss e) in
    let a : ℕ = length fs in
    let b : ℕ = firing_count fss in
    let p : (1 + length fs + firing_count fss) * (most + 1) ≡ (most + 1) + (length fs * (most + 1) + firing_count fss * (most + 1)) = grind arith in
    let z : firing_count ((f ∷ fs) ∷ fss) ≡ 1 + length fs + firing_count fss = omega arith in
    let z' : firing_count ((f ∷ fs) ∷ fss) * (most + 1) ≡ (1 + length fs + firing_count fss) * (most + 1) = ap (λ x. x * (most + 1)) z in
    omega arith

empty_at : (none : List ℕ) (cs : List Chan) (d : ℕ) → none ≡ [] → get_or (map (λ c. none) cs) d [] ≡ []
empty_at none [] d e = refl
empty_at none (c ∷ cs) zero e = e
empty_at none (c ∷ cs) (suc d) e = empty_at none cs d e

long_map : (A : Type 0) (a : A) (cs : List Chan) → length (map (λ c. a) cs) ≡ length cs
long_map A a [] = refl
long_map A a (c ∷ cs) = ap suc (long_map A a cs)

pub cycles_bound : CyclesBound
cycles_bound net inputs fss t most l y e =
    let nil : (d : ℕ) → get_or (dated_opening net inputs).dates d [] ≡ [] = λ d. empty_at [] net.chans d refl in
    let P : List ℕ → Type 0 = AllByRecursion (λ x. x + most ≤ 0) in
    let Q : List ℕ → Type 0 = AllByRecursion (λ x. x ≤ 0) in
    let k : AreDated net (dated_opening net inputs) = record {
      chans = long_map (List ℕ) [] net.chans;
      lists = long_map (List ℕ) [] net.chans;
      each = λ d. refl;
    } in
    let b = bound net most 0 0 (dated_opening net inputs) fss t l k (λ d. subst P (sym (nil d)) tt) (λ d. subst Q (sym (nil d)) tt) y e in
    omega arith
