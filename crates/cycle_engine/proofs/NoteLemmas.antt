-- What is noted of a firing, and what is known from it.
use Rattle.std.proofs.Common.{◌≡◌, ◌≢◌, ℕ, ◌+◌, ◌-◌, ◌*◌, ◌/◌, ◌%◌, ◌<◌, ◌≤◌, ◌⊎◌, ◌==◌, ◌||◌, inl, inr, nat_lt, Bool, true, false, cond, Option, Some, None, List, [], ◌∷◌, ◌++◌, length, map, get_or, set, refl, sym, ap, subst, ◌∙◌, arith, IfSome, bit_and, length-set, get_or-set_same, get_or-set_other, eqb-true}
use Rattle.std.proofs.Common.{mod-eq_of_lt, div-add-mod'}
use native.Mathlib.Nat.{add-mod_left, mod-add-mod, mul-add-mod_self_right}
use Rattle.std.specs.List.{AllByRecursion}
use Rattle.std.specs.Int.{IsPowerOfTwo}
use Rattle.std.proofs.lemmas.Bool.{cases_eq, cases_lt, lt-ltb, le-ltb}
use Rattle.std.proofs.lemmas.Nat.{and_mask, mod_below, pow_pos}
use Rattle.std.proofs.lemmas.List.{get_or_past}
use Rattle.net_types.specs.declared.net.Net.{Net}
use Rattle.net_types.specs.declared.firing.Firing.{Firing}
use Rattle.net_types.specs.Nets.{into, kind_of, chan_at}
use Rattle.net_core.specs.Fire.{Effect, moved, puts_on, takes_from, among, taken}
use Rattle.net_core.specs.declared.plan.Put.{Put}
use Rattle.net_core.specs.declared.plan.Laid.{Laid}
use Rattle.net_core.specs.declared.plan.Plan.{Plan}
use Rattle.net_core.specs.Plans.{effect_by, laid_of}
use Rattle.net_core.specs.States.{dates_of, IsPlanOf, own_at, array_at}
use Rattle.net_core.proofs.RowLemmas.{length-changed, get-changed}
use Rattle.net_core.proofs.ApartLemmas.{puts-inv}
use Rattle.cycle_engine.specs.declared.engine.Engine.{Engine}
use Rattle.cycle_engine.specs.declared.notes.Notes.{Notes}
use Rattle.cycle_engine.specs.Cycles.{Dated, dated, after_by, after_in}
use Rattle.cycle_engine.specs.private.Trials.{dated_of, IsEngine}
use Rattle.cycle_engine.specs.private.Marking.{Holds, AreCells, HasCells, around, cell, coming_in, cells_of, cells_with, IsNoted}
use Rattle.cycle_engine.specs.private.Goings.{AreComing}
use Rattle.cycle_engine.proofs.BeforeLemmas.{after_of, dated_put}
use Rattle.cycle_engine.proofs.DateLemmas.{each_as, each_taken, each_added}
use Rattle.cycle_engine.proofs.MarkLemmas.{holds_last, holds_more}

-- ---- numbers of cells

pub power_some : (n : ℕ) → IsPowerOfTwo n → 0 < n
power_some n p = subst (λ m. 0 < m) (sym p.1) (pow_pos p.0)

pub masked : (x n : ℕ) → IsPowerOfTwo n → bit_and x (n - 1) ≡ x % n
masked x n p = subst (λ m. bit_and x (m - 1) ≡ x % m) (sym p.1) (and_mask x p.0)

-- numbers that are less than a round apart have other rests
pub apart_rests : (c t n : ℕ) → c < t → t < c + n → t % n ≢ c % n
apart_rests c t n l m e = by (cases_lt (c % n + (t - c)) n)
  where
    some : 0 < n
    some = omega arith

    below : c % n < n
    below = mod_below c n some

    parts : c / n * n + c % n ≡ c
    parts = div-add-mod' c n

    rest : t % n ≡ (c % n + (t - c)) % n
    rest = ap (λ x. x % n) (let z : t ≡ c / n * n + (c % n + (t - c)) = omega (arith, parts) in z) ∙ mul-add-mod_self_right (c / n) n (c % n + (t - c))

    by : (c % n + (t - c) < n) ⊎ (n ≤ c % n + (t - c)) → ⊥
    by (inl k) = let z : (c % n + (t - c)) % n ≡ c % n + (t - c) = mod-eq_of_lt k in absurd (omega (arith, rest, z, e))
    by (inr k) =
        let y : ℕ = c % n + (t - c) - n in
        let x : (c % n + (t - c)) % n ≡ y % n = ap (λ z. z % n) (let z : c % n + (t - c) ≡ n + y = omega (arith, k) in z) ∙ add-mod_left n y in
        let z : y % n ≡ y = mod-eq_of_lt (let w : y < n = omega (arith, below, k) in w) in
        absurd (omega (arith, rest, x, z, e, below, k))

-- ---- notes

-- the cell for the cycle in which a token ripens that is put on the channel d in the cycle c
abbrev ripe_cell : Net → ℕ → ℕ → List (List ℕ) → ℕ
ripe_cell net d c xs = (c + (chan_at net d).delay) % length xs

-- the channel d more in the cell i
abbrev with_one : List (List ℕ) → ℕ → ℕ → List (List ℕ)
with_one xs i d = set xs i (get_or xs i [] ++ d ∷ [])

long_with : (net : Net) (d c : ℕ) (xs : List (List ℕ)) → length (cells_with net d c xs) ≡ length xs
long_with net d c xs = by (nat_lt 0 (chan_at net d).delay)
  where
    by : (b : Bool) → length (cond b (with_one xs (ripe_cell net d c xs) d) xs) ≡ length xs
    by true = length-set xs (ripe_cell net d c xs) (get_or xs (ripe_cell net d c xs) [] ++ d ∷ [])
    by false = refl

kept_one : (d i k x : ℕ) (xs : List (List ℕ)) → i < length xs → Holds x (get_or xs k []) → Holds x (get_or (with_one xs i d) k [])
kept_one d i k x xs l h = at (cases_eq k i)
  where
    P : List ℕ → Type 0
    P ys = Holds x ys

    at : (k ≡ i) ⊎ (k ≢ i) → Holds x (get_or (with_one xs i d) k [])
    at (inr n) = subst P (sym (get_or-set_other xs i k (get_or xs i [] ++ d ∷ []) [] n)) h
    at (inl e) =
        let Q : ℕ → Type 0 = λ z. Holds x (get_or (with_one xs i d) z []) in
        let R : ℕ → Type 0 = λ z. Holds x (get_or xs z []) in
        subst Q (sym e) (subst P (sym (get_or-set_same xs i (get_or xs i [] ++ d ∷ []) [] l)) (holds_more (get_or xs i []) (d ∷ []) x (subst R e h)))

kept_with : (net : Net) (d c k x : ℕ) (xs : List (List ℕ)) → 0 < length xs → Holds x (get_or xs k []) → Holds x (get_or (cells_with net d c xs) k [])
kept_with net d c k x xs some h = by (nat_lt 0 (chan_at net d).delay)
  where
    by : (b : Bool) → Holds x (get_or (cond b (with_one xs (ripe_cell net d c xs) d) xs) k [])
    by true = kept_one d (ripe_cell net d c xs) k x xs (mod_below (c + (chan_at net d).delay) (length xs) some) h
    by false = h

comes_with : (net : Net) (d c : ℕ) (xs : List (List ℕ)) → 0 < length xs → 0 < (chan_at net d).delay → Holds d (get_or (cells_with net d c xs) (ripe_cell net d c xs) [])
comes_with net d c xs some p = by (nat_lt 0 (chan_at net d).delay) refl
  where
    P : List ℕ → Type 0
    P ys = Holds d ys

    i : ℕ
    i = ripe_cell net d c xs

    by : (b : Bool) → nat_lt 0 (chan_at net d).delay ≡ b → Holds d (get_or (cond b (with_one xs (ripe_cell net d c xs) d) xs) (ripe_cell net d c xs) [])
    by true e = subst P (sym (get_or-set_same xs i (get_or xs i [] ++ d ∷ []) [] (mod_below (c + (chan_at net d).delay) (length xs) some))) (holds_last (get_or xs i []) d)
    by false e = let z : true ≡ false = sym (lt-ltb 0 (chan_at net d).delay p) ∙ e in cc

-- the place for a cycle so far ahead
around_is : (c a n : ℕ) → a < n → around (c % n) a n ≡ (c + a) % n
around_is c a n l = by (cases_lt a (n - c % n))
  where
    below : c % n < n
    below = mod_below c n (omega arith)

    rest : (c % n + a) % n ≡ (c + a) % n
    rest = mod-add-mod c n a

    by : (a < n - c % n) ⊎ (n - c % n ≤ a) → around (c % n) a n ≡ (c + a) % n
    by (inl k) =
        let z : (c % n + a) % n ≡ c % n + a = mod-eq_of_lt (let w : c % n + a < n = omega (arith, k, below) in w) in
        ap (λ b. cond b (c % n + a) (a - (n - c % n))) (lt-ltb a (n - c % n) k) ∙ (sym z ∙ rest)
    by (inr k) =
        let y : ℕ = a - (n - c % n) in
        let x : c % n + a ≡ n + y = omega (arith, k, below) in
        let z : y % n ≡ y = mod-eq_of_lt (let w : y < n = omega (arith, l) in w) in
        ap (λ b. cond b (c % n + a) (a - (n - c % n))) (le-ltb a (n - c % n) k) ∙ (sym z ∙ (sym (add-mod_left n y) ∙ (ap (λ v. v % n) (sym x) ∙ rest)))

-- where the cells are empty up to one so far ahead, none is noted for the cycles up to then
pub none_before : (n : Notes) (now ahead : ℕ) → ahead ≤ length (cells_of n) → ((a : ℕ) → a < ahead → cell n (around (now % length (cells_of n)) a (length (cells_of n))) ≡ []) → (k : ℕ) → now ≤ k → k < now + ahead → coming_in n k ≡ []
none_before n now ahead most empty k l m =
    let a : ℕ = k - now in
    let e : now + a ≡ k = omega (arith, l) in
    let P : ℕ → Type 0 = λ i. cell n i ≡ [] in
    subst P (around_is now a (length (cells_of n)) (omega (arith, most, l, m)) ∙ ap (λ v. v % length (cells_of n)) e) (empty a (omega (arith, l, m)))

-- where each cell from one on is empty, so many in all, each is
pub none_noted : (n : Notes) (first : ℕ) → first < length (cells_of n) → ((a : ℕ) → a < length (cells_of n) → cell n (around first a (length (cells_of n))) ≡ []) → (k : ℕ) → cell n k ≡ []
none_noted n first l empty k = by (cases_lt k (length (cells_of n)))
  where
    count : ℕ
    count = length (cells_of n)

    P : ℕ → Type 0
    P i = cell n i ≡ []

    -- where the cell k comes after the first, or before it
    at : k < count → (k < first) ⊎ (first ≤ k) → cell n k ≡ []
    at w (inr f) =
        let e : around first (k - first) count ≡ k = ap (λ b. cond b (first + (k - first)) (k - first - (count - first))) (lt-ltb (k - first) (count - first) (omega arith)) ∙ omega arith in
        subst P e (empty (k - first) (omega arith))
    at w (inl f) =
        let a : ℕ = k + (count - first) in
        let e : around first a count ≡ k = ap (λ b. cond b (first + a) (a - (count - first))) (le-ltb a (count - first) (omega arith)) ∙ omega arith in
        subst P e (empty a (omega arith))

    by : (k < count) ⊎ (count ≤ k) → cell n k ≡ []
    by (inl w) = at w (cases_lt k first)
    by (inr w) = get_or_past (cells_of n) k [] w

-- where the cells from a place on are empty up to another one, those so far ahead are
ahead_empty : (n : Notes) (first to a : ℕ) → to ≤ length (cells_of n) → ((k : ℕ) → first ≤ k → k < to → cell n k ≡ []) → a < to - first → cell n (around first a (length (cells_of n))) ≡ []
ahead_empty n first to a most empty l =
    let P : ℕ → Type 0 = λ k. cell n k ≡ [] in
    let count : ℕ = length (cells_of n) in
    let e : first + a ≡ around first a count = sym (ap (λ b. cond b (first + a) (a - (count - first))) (lt-ltb a (count - first) (omega arith))) in
    subst P e (empty (first + a) (omega arith) (omega arith))

-- and those behind them, where the first cells are empty up to another place
pub round_empty : (n : Notes) (first to a : ℕ) → first < length (cells_of n) → ((k : ℕ) → first ≤ k → k < length (cells_of n) → cell n k ≡ []) → ((k : ℕ) → 0 ≤ k → k < to → cell n k ≡ [])
    → a < length (cells_of n) - first + to → cell n (around first a (length (cells_of n))) ≡ []
round_empty n first to a within late early l = by (cases_lt a (length (cells_of n) - first))
  where
    by : (a < length (cells_of n) - first) ⊎ (length (cells_of n) - first ≤ a) → cell n (around first a (length (cells_of n))) ≡ []
    by (inl k) = ahead_empty n first (length (cells_of n)) a (omega arith) late k
    by (inr k) =
        let P : ℕ → Type 0 = λ x. cell n x ≡ [] in
        let count : ℕ = length (cells_of n) in
        let z : count - first ≤ a = k in
        let e : a - (count - first) ≡ around first a count = sym (ap (λ b. cond b (first + a) (a - (count - first))) (le-ltb a (count - first) z)) in
        subst P e (early (a - (count - first)) (omega arith) (omega arith))

-- so none is noted for the cycles up to the first of which the cell is not empty
pub none_ahead : (n : Notes) (now to : ℕ) → to ≤ length (cells_of n) → ((k : ℕ) → now % length (cells_of n) ≤ k → k < to → cell n k ≡ []) → (k : ℕ) → now ≤ k → k < now + (to - now % length (cells_of n)) → coming_in n k ≡ []
none_ahead n now to most empty = none_before n now (to - now % length (cells_of n)) (omega arith) (λ a l. ahead_empty n (now % length (cells_of n)) to a most empty l)

-- a firing that puts a token on a channel
pub noted_some : (net : Net) (laid : Option Laid) (w : Laid) (c : ℕ) (old new : Notes) → laid ≡ Some w → AreCells old → cells_of new ≡ cells_with net w.chan c (cells_of old) → IsNoted net laid c old new
noted_some net laid w c old new s power k = record {
  cells = ap length k ∙ long;
  kept = λ t d h. noted t d (kept_with net w.chan c (t % length (cells_of old)) d (cells_of old) some h);
  comes = (let P : Option Laid → Type 0 = λ o. IfSome o (λ w. 0 < (chan_at net w.chan).delay → Holds w.chan (coming_in new (c + (chan_at net w.chan).delay))) in subst P (sym s) (λ p. noted (c + (chan_at net w.chan).delay) w.chan (comes_with net w.chan c (cells_of old) some p)));
}
  where
    some : 0 < length (cells_of old)
    some = power_some (length (cells_of old)) power

    long : length (cells_with net w.chan c (cells_of old)) ≡ length (cells_of old)
    long = long_with net w.chan c (cells_of old)

    noted : (t d : ℕ) → Holds d (get_or (cells_with net w.chan c (cells_of old)) (t % length (cells_of old)) []) → Holds d (coming_in new t)
    noted t d h =
        let P : List (List ℕ) → Type 0 = λ xs. Holds d (get_or xs (t % length xs) []) in
        let Q : ℕ → Type 0 = λ n. Holds d (get_or (cells_with net w.chan c (cells_of old)) (t % n) []) in
        subst P (sym k) (subst Q (sym long) h)

-- ---- after a firing

-- the effect of a plan, and the state after it
abbrev pub effect_in : Net → Engine → Firing → Plan → Effect
effect_in net e f p = effect_by (kind_of net f.unit) (own_at e.state f.unit) (array_at net e.state f.unit) p

pub after_is : (net : Net) (c : ℕ) (e e' : Engine) (f : Firing) (p : Plan) → IsPlanOf net e.state f (Some p) → dated_of e' ≡ after_in net c (dated_of e) f → dated_of e' ≡ after_of net c (dated_of e) f.unit (effect_in net e f p)
after_is net c e e' f p is r = r ∙ ap (after_by net c (dated_of e) f.unit) (sym is)

among_all : (P : ℕ → Type 0) (f : ℕ → ℕ) (d : ℕ) (ps : List ℕ) → among d (map f ps) ≡ true → AllByRecursion (λ p. P (f p)) ps → P d
among_all P f d [] e h = cc
among_all P f d (p ∷ ps) e h = by (d == f p) refl e (λ k. among_all P f d ps k h.1)
  where
    by : (b : Bool) → (d == f p) ≡ b → (b || among d (map f ps)) ≡ true → (among d (map f ps) ≡ true → P d) → P d
    by true i k rest = subst P (sym (eqb-true d (f p) i)) h.0
    by false i k rest = rest k

pub taken_all : (net : Net) (u d : ℕ) (x : Effect) (P : ℕ → Type 0) → takes_from net u x d ≡ true → AllByRecursion (λ p. P (into u p net.chans)) x.takes → P d
taken_all net u d x P t h = among_all P (λ p. into u p net.chans) d x.takes t h

pub laid_held : (net : Net) (u d : ℕ) (o : Option Put) (P : ℕ → Type 0) → puts_on net u o d ≢ None → IfSome (laid_of net u o) (λ w. P w.chan) → P d
laid_held net u d o P n h =
    let x = puts-inv net u d o n in
    let Q : Option Put → Type 0 = λ y. IfSome (laid_of net u y) (λ w. P w.chan) in
    subst P (sym x.2) (subst Q x.1 h)

-- each token is noted where it ripens
pub coming_after : (net : Net) (c : ℕ) (e e' : Engine) (f : Firing) (p : Plan) → IsEngine net e → dated_of e' ≡ after_of net c (dated_of e) f.unit (effect_in net e f p)
    → IsNoted net (laid_of net f.unit p.put) c e.notes e'.notes → AreComing net (c + 1) e → AreComing net (c + 1) e'
coming_after net c e e' f p eng r n h d = at (cases_lt d (length (dates_of e.state)))
  where
    Q : ℕ → Type 0
    Q x = (x < c + 1) × (c + 1 ≤ x + (chan_at net d).delay → Holds d (coming_in e'.notes (x + (chan_at net d).delay)))

    same : get_or (dates_of e'.state) d [] ≡ get_or (after_of net c (dated_of e) f.unit (effect_in net e f p)).dates d []
    same = ap (λ (s : Dated). get_or s.dates d []) r

    old : AllByRecursion (λ x. (x < c + 1) × (c + 1 ≤ x + (chan_at net d).delay → Holds d (coming_in e'.notes (x + (chan_at net d).delay)))) (get_or (dates_of e.state) d [])
    old = each_as (λ x. (x < c + 1) × (c + 1 ≤ x + (chan_at net d).delay → Holds d (coming_in e.notes (x + (chan_at net d).delay)))) (λ x. (x < c + 1) × (c + 1 ≤ x + (chan_at net d).delay → Holds d (coming_in e'.notes (x + (chan_at net d).delay))))
        (λ x k. (k.0, λ l. n.kept (x + (chan_at net d).delay) d (k.1 l))) (get_or (dates_of e.state) d []) (h d)

    here : (x : ℕ) → puts_on net f.unit (dated c p.put) d ≡ Some x → (x < c + 1) × (c + 1 ≤ x + (chan_at net d).delay → Holds d (coming_in e'.notes (x + (chan_at net d).delay)))
    here x q =
        let w = dated_put net f.unit c d x p.put q in
        let z : x ≡ c = w.0 in
        let R : ℕ → Type 0 = λ y. 0 < (chan_at net y).delay → Holds y (coming_in e'.notes (c + (chan_at net y).delay)) in
        let k : 0 < (chan_at net d).delay → Holds d (coming_in e'.notes (c + (chan_at net d).delay)) = laid_held net f.unit d p.put R w.1 n.comes in
        let S : ℕ → Type 0 = λ y. (y < c + 1) × (c + 1 ≤ y + (chan_at net d).delay → Holds d (coming_in e'.notes (y + (chan_at net d).delay))) in
        subst S (sym z) (omega arith, λ l. k (omega arith))

    at : (d < length (dates_of e.state)) ⊎ (length (dates_of e.state) ≤ d) → AllByRecursion (λ x. (x < c + 1) × (c + 1 ≤ x + (chan_at net d).delay → Holds d (coming_in e'.notes (x + (chan_at net d).delay)))) (get_or (dates_of e'.state) d [])
    at (inl l) =
        let P : List ℕ → Type 0 = AllByRecursion (λ x. (x < c + 1) × (c + 1 ≤ x + (chan_at net d).delay → Holds d (coming_in e'.notes (x + (chan_at net d).delay)))) in
        let ed = get-changed (moved net f.unit (record (effect_in net e f p) { put = dated c p.put })) 0 (dates_of e.state) d d (omega arith) l in
        subst P (sym (same ∙ ed)) (each_added (λ x. (x < c + 1) × (c + 1 ≤ x + (chan_at net d).delay → Holds d (coming_in e'.notes (x + (chan_at net d).delay)))) (puts_on net f.unit (dated c p.put) d) (taken (takes_from net f.unit (effect_in net e f p) d) (get_or (dates_of e.state) d []))
        (each_taken (λ x. (x < c + 1) × (c + 1 ≤ x + (chan_at net d).delay → Holds d (coming_in e'.notes (x + (chan_at net d).delay)))) (takes_from net f.unit (effect_in net e f p) d) (get_or (dates_of e.state) d []) old) here)
    at (inr l) =
        let P : List ℕ → Type 0 = AllByRecursion (λ x. (x < c + 1) × (c + 1 ≤ x + (chan_at net d).delay → Holds d (coming_in e'.notes (x + (chan_at net d).delay)))) in
        let m = length-changed (moved net f.unit (record (effect_in net e f p) { put = dated c p.put })) 0 (dates_of e.state) in
        let l' : length (dates_of e.state) ≤ d = l in
        subst P (sym (same ∙ get_or_past (after_of net c (dated_of e) f.unit (effect_in net e f p)).dates d [] (omega arith))) tt

-- a cell is emptied
pub cleared_long : (old new : Notes) (i : ℕ) → cells_of new ≡ set (cells_of old) i [] → length (cells_of new) ≡ length (cells_of old)
cleared_long old new i e = ap length e ∙ length-set (cells_of old) i []

-- there are as many cells as before
pub cells_kept : (net : Net) (old new : Notes) → length (cells_of new) ≡ length (cells_of old) → HasCells net old → HasCells net new
cells_kept net old new e h = record { power = subst IsPowerOfTwo (sym e) h.power; more = λ d. (let m = h.more d in omega (arith, e)) }
