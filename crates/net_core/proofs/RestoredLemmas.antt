-- The state of plain data, and the plain data of a state.
use Rattle.std.proofs.Common.{◌≡◌, ℕ, zero, suc, ◌+◌, ◌<◌, ◌≤◌, ◌^◌, ◌⊎◌, Bool, true, false, List, [], ◌∷◌, ◌++◌, length, get_or, set, map, replicate, refl, sym, ap, subst, ◌∙◌, inl, inr, arith, eqb-true}
use Rattle.std.proofs.Math.Seq.{set-append_seam}
use Rattle.std.proofs.Math.ListN.{get_or-map}
use Rattle.std.proofs.lemmas.List.{length-map, length-append, get_or_past}
use Rattle.std.proofs.lemmas.List.Elements.{All-nil, All-cons, All-weaker}
use Rattle.std.proofs.lemmas.Slice.Zip.{AllZip-long}
use Rattle.std.proofs.lemmas.Bool.{cases_lt}
use Rattle.std.specs.List.{All}
use Rattle.net_types.specs.declared.net.Net.{Net}
use Rattle.net_types.specs.declared.net.Unit.{Unit as Kind}
use Rattle.net_types.specs.declared.net.Unit.TheVariants as unit
use Rattle.net_types.specs.Inputs.{AreElementsOf}
use Rattle.net_types.specs.Nets.{kind_of}
use Rattle.net_check.specs.Ends.{is_lsq}
use Rattle.net_core.specs.declared.cell.Cell.{Cell}
use Rattle.net_core.specs.declared.cell.Cell.TheVariants as cell
use Rattle.net_core.specs.declared.state.State.{State as Stored}
use Rattle.net_core.specs.declared.opening.Home.{Home}
use Rattle.net_core.specs.declared.opening.Home.TheVariants as home
use Rattle.net_core.specs.declared.parts.Parts.{Parts}
use Rattle.net_core.specs.Fire.{State, Own, idle}
use Rattle.net_core.specs.Runs.{opening}
use Rattle.net_core.specs.Parts.{Stands, IsByUnit, Rising, state_from, own_from, owns_from, with_bits, no_part, fires_once, noted_outs, OwnStands}
use Rattle.net_core.specs.Plans.{own_of, keeps, IsShaped}
use Rattle.net_core.specs.States.{IsOf, TookAtExit, array_in, arrays_of, cell_at, home_at, queue_array, state_of}
use Rattle.net_core.specs.private.Restores.{AreRestored, fired_in, numbers_set, part_of, queue_part, sent_part}

-- what the units keep
pub owns_all : (p : Parts) (n : ℕ) (ks : List Kind) (os : List Own) → length os ≡ length ks
    → ((u : ℕ) → u < length ks → get_or os u idle ≡ own_from (get_or ks u (unit.Sink 0)) p (n + u)) → os ≡ owns_from p n ks
owns_all p n [] [] l h = refl
owns_all p n [] (o ∷ os) l h = absurd (omega arith)
owns_all p n (k ∷ ks) [] l h = absurd (omega arith)
owns_all p n (k ∷ ks) (o ∷ os) l h =
    let z : n + 0 ≡ n = omega arith in
    let first : o ≡ own_from k p n = h 0 (omega arith) ∙ ap (own_from k p) z in
    let rest = owns_all p (suc n) ks os (omega arith) (λ u w. (let e : n + suc u ≡ suc n + u = omega arith in h (suc u) (omega arith) ∙ ap (own_from (get_or ks u (unit.Sink 0)) p) e)) in
    λ i. first i ∷ rest i

owns_at : (p : Parts) (n : ℕ) (ks : List Kind) (u : ℕ) → u < length ks → get_or (owns_from p n ks) u idle ≡ own_from (get_or ks u (unit.Sink 0)) p (n + u)
owns_at p n [] u l = absurd (omega arith)
owns_at p n (k ∷ ks) zero l = let e : n ≡ n + 0 = omega arith in ap (own_from k p) e
owns_at p n (k ∷ ks) (suc u) l = let e : suc n + u ≡ n + suc u = omega arith in owns_at p (suc n) ks u (omega arith) ∙ ap (own_from (get_or ks u (unit.Sink 0)) p) e

-- numbers are counted from 0
from_zero : (k : Kind) (p : Parts) (u : ℕ) → own_from k p u ≡ own_from k p (0 + u)
from_zero k p u = let z : u ≡ 0 + u = omega arith in ap (own_from k p) z

pub owns_first : (p : Parts) (ks : List Kind) (u : ℕ) → u < length ks → get_or (owns_from p 0 ks) u idle ≡ own_from (get_or ks u (unit.Sink 0)) p u
owns_first p ks u l = owns_at p 0 ks u l ∙ sym (from_zero (get_or ks u (unit.Sink 0)) p u)

same_arrays : (cs ds : List Cell) (hs : List Home) → ((u : ℕ) → queue_array (get_or cs u cell.Plain) ≡ queue_array (get_or ds u cell.Plain)) → map (array_in cs) hs ≡ map (array_in ds) hs
same_arrays cs ds [] h = refl
same_arrays cs ds (home.Here xs ∷ hs) h = ap (λ r. xs ∷ r) (same_arrays cs ds hs h)
same_arrays cs ds (home.Queue u ∷ hs) h = let a = h u in let r = same_arrays cs ds hs h in λ i. a i ∷ r i

-- ---- the state of plain data

-- as many strays are told as there are arrays
pub strays_long : (net : Net) (s : Stored) (p : Parts) → state_of s ≡ opening net p.given → Stands net p → length s.strays.items ≡ length p.strays
strays_long net s p e stands =
    ap (λ (x : State). length x.strays) e ∙ length-map p.given.arrays (λ (xs : List ℕ). 0) ∙ AllZip-long AreElementsOf net.arrays p.given.arrays stands.fit.arrays ∙ sym stands.strays

next_within : (k : Kind) (p : Parts) (u : ℕ) → OwnStands k p u → (own_from k p u).queue.next < 2 ^ 63
next_within (unit.Lsq a d ps gs f) p u h = let n = h.next in omega arith
next_within unit.Entry p u h = omega arith
next_within k p u h = omega arith

module _ (net : Net) (s t : Stored) (p : Parts) (of : IsOf net s) (stands : Stands net p) (cells : AreRestored p net.units s.cells.items t.cells.items) (hs : t.homes ≡ s.homes) where
  long : length t.cells.items ≡ length net.units
  long = cells.count ∙ of.cells

  past : (u : ℕ) → length net.units ≤ u → cell_at t u ≡ cell.Plain
  past u l = get_or_past t.cells.items u cell.Plain (omega (arith, long))

  arrays_stay : (u : ℕ) → queue_array (cell_at t u) ≡ queue_array (cell_at s u)
  arrays_stay u = by (cases_lt u (length net.units))
    where
      by : (u < length net.units) ⊎ (length net.units ≤ u) → queue_array (cell_at t u) ≡ queue_array (cell_at s u)
      by (inl l) = (cells.each u l).array
      by (inr l) = ap queue_array (past u l ∙ sym (get_or_past s.cells.items u cell.Plain (omega (arith, of.cells))))

  owns_are : map own_of t.cells.items ≡ owns_from p 0 net.units
  owns_are = owns_all p 0 net.units (map own_of t.cells.items) (length-map t.cells.items own_of ∙ long) (λ u l. get_or-map own_of t.cells.items u cell.Plain ∙ (cells.each u l).own ∙ from_zero (kind_of net u) p u)

  arrays_are : state_of s ≡ opening net p.given → arrays_of t ≡ p.given.arrays
  arrays_are e = ap (λ xs. map (array_in t.cells.items) xs.items) hs ∙ same_arrays t.cells.items s.cells.items s.homes.items arrays_stay ∙ ap (λ x. x.arrays) e

  pub restored_state : state_of s ≡ opening net p.given → t.scalars ≡ s.scalars → t.tokens.tokens ≡ p.tokens → t.strays.items ≡ p.strays → state_of t ≡ state_from net p
  restored_state e sc tok str =
      let scalars : t.scalars ≡ p.given.scalars = sc ∙ ap (λ x. x.scalars) e in
      let arrays = arrays_are e in
      let own = owns_are in
      λ i. record { scalars = scalars i; tokens = tok i; own = own i; arrays = arrays i; strays = str i }

  home_is : (a : ℕ) → home_at s a ≡ home_at t a
  home_is a = ap (λ xs. get_or xs.items a (home.Here [])) (sym hs)

  pub restored_of : t.tokens.slots ≡ s.tokens.slots → t.tokens.tokens ≡ p.tokens → t.exit ≡ s.exit → IsOf net t
  restored_of sl tok ex = record {
    slots = sl ∙ of.slots;
    long = ap length tok ∙ stands.chans;
    cells = long;
    kept = λ u. kept u (cases_lt u (length net.units));
    shaped = λ u. shaped u (cases_lt u (length net.units));
    homes = λ a u e. of.homes a u (home_is a ∙ e);
    owned = λ u a e. (let w = of.owned u a e in (subst (λ xs. a < length xs.items) (sym hs) w.0, sym (home_is a) ∙ w.1));
    serials = λ u. serials u (cases_lt u (length net.units));
    exit = ap (kind_of net) ex ∙ of.exit;
    exits = λ x e. of.exits x e ∙ sym ex;
  }
    where
      beyond : (u : ℕ) → length net.units ≤ u → kind_of net u ≡ unit.Sink 0
      beyond u l = get_or_past net.units u (unit.Sink 0) l

      kept : (u : ℕ) → (u < length net.units) ⊎ (length net.units ≤ u) → keeps (kind_of net u) (cell_at t u) ≡ true
      kept u (inl l) = (cells.each u l).kept
      kept u (inr l) = rw (beyond u l, past u l) refl

      shaped : (u : ℕ) → (u < length net.units) ⊎ (length net.units ≤ u) → IsShaped (kind_of net u) (cell_at t u) (queue_array (cell_at t u))
      shaped u (inl l) = (cells.each u l).shaped
      shaped u (inr l) = rw (beyond u l) tt

      serials : (u : ℕ) → (u < length net.units) ⊎ (length net.units ≤ u) → (get_or (map own_of t.cells.items) u idle).queue.next < 2 ^ 63
      serials u (inl l) = rw (owns_are, owns_first p net.units u l) (next_within (kind_of net u) p u (stands.own u l))
      serials u (inr l) = rw (get_or_past (map own_of t.cells.items) u idle (let m = length-map t.cells.items own_of in omega (arith, long))) (omega arith)

-- ---- the plain data of a state

append_one : (xs : List Bool) (y : Bool) (ys : List Bool) → xs ++ y ∷ ys ≡ (xs ++ y ∷ []) ++ ys
append_one [] y ys = refl
append_one (x ∷ xs) y ys = ap (λ r. x ∷ r) (append_one xs y ys)

-- the bits are those of their numbers
bits_back : (n : ℕ) (done bits : List Bool) → length done ≡ n → with_bits (numbers_set n bits) (done ++ replicate (length bits) false) ≡ done ++ bits
bits_back n done [] l = refl
bits_back n done (true ∷ bits) l =
    ap (with_bits (numbers_set (suc n) bits)) (ap (λ k. set (done ++ false ∷ replicate (length bits) false) k true) (sym l) ∙ set-append_seam done false (replicate (length bits) false) true ∙ append_one done true (replicate (length bits) false))
    ∙ bits_back (suc n) (done ++ true ∷ []) bits (length-append done (true ∷ []) ∙ (omega arith)) ∙ sym (append_one done true bits)
bits_back n done (false ∷ bits) l =
    ap (with_bits (numbers_set (suc n) bits)) (append_one done false (replicate (length bits) false))
    ∙ bits_back (suc n) (done ++ false ∷ []) bits (length-append done (false ∷ []) ∙ (omega arith)) ∙ sym (append_one done false bits)

-- what a unit of this kind keeps has its form: nothing but what the kind uses
abbrev pub OwnForm : Kind → Own → Type 0
OwnForm unit.Entry o = o ≡ record idle { fired = o.fired }
OwnForm (unit.Param j) o = o ≡ record idle { fired = o.fired }
OwnForm (unit.Fork w outs) o = (o ≡ record idle { sent = o.sent }) × (length o.sent ≡ outs)
OwnForm (unit.Lsq a d ps gs f) o = (o ≡ record idle { queue = o.queue }) × (o.queue.forward ≡ f)
OwnForm unit.Exit o = o ≡ record idle { fired = o.fired; value = o.value }
OwnForm _ o = o ≡ idle

cell_form : (k : Kind) (c : Cell) (xs : List ℕ) → keeps k c ≡ true → IsShaped k c xs → OwnForm k (own_of c)
cell_form k cell.Plain xs h s = by k h
  where
    by : (k : Kind) → keeps k cell.Plain ≡ true → OwnForm k idle
    by unit.Entry h = cc
    by (unit.Param j) h = cc
    by (unit.Fork w n) h = cc
    by (unit.Lsq a d ps gs f) h = cc
    by unit.Exit h = cc
    by k h = refl
cell_form k (cell.Start b) xs h s = by k h
  where
    by : (k : Kind) → keeps k (cell.Start b) ≡ true → OwnForm k (own_of (cell.Start b))
    by unit.Entry h = refl
    by (unit.Param j) h = refl
    by k h = cc
cell_form k (cell.Exit b v) xs h s = by k h
  where
    by : (k : Kind) → keeps k (cell.Exit b v) ≡ true → OwnForm k (own_of (cell.Exit b v))
    by unit.Exit h = refl
    by k h = cc
cell_form k (cell.Fork bits) xs h s = by k h
  where
    by : (k : Kind) → keeps k (cell.Fork bits) ≡ true → OwnForm k (own_of (cell.Fork bits))
    by (unit.Fork w n) h = (refl, eqb-true _ _ h)
    by k h = cc
cell_form (unit.Lsq a d ps gs f) (cell.Queue b) xs h s = (refl, s.mark)
cell_form k (cell.Queue b) xs h s = cc

own_back : (k : Kind) (o : Own) (p : Parts) (u : ℕ) → OwnForm k o → get_or p.sent u [] ≡ numbers_set 0 o.sent → get_or p.fired u false ≡ o.fired
    → get_or p.queues u no_part ≡ part_of o → (k ≡ unit.Exit → o.value ≡ p.value) → o ≡ own_from k p u
own_back unit.Entry o p u h sent fired queue value = h ∙ ap (λ x. record idle { fired = x }) (sym fired)
own_back (unit.Param j) o p u h sent fired queue value = h ∙ ap (λ x. record idle { fired = x }) (sym fired)
own_back (unit.Fork w n) o p u h sent fired queue value =
    let l = h.1 in
    h.0 ∙ ap (λ x. record idle { sent = x }) (sym (bits_back 0 [] o.sent refl) ∙ (λ i. with_bits (sym sent i) (replicate (l i) false)))
own_back (unit.Lsq a d ps gs f) o p u h sent fired queue value =
    let m = h.1 in
    h.0 ∙ ap (λ x. record idle { queue = x }) (λ i. record { forward = m i; next = (sym queue i).next; items = (sym queue i).entries })
own_back unit.Exit o p u h sent fired queue value = let v = value refl in h ∙ (λ i. record idle { fired = sym fired i; value = v i })
own_back k o p u h sent fired queue value = h

numbers_rise : (n : ℕ) (bits : List Bool) → Rising (numbers_set n bits) × All (λ j. n ≤ j) (numbers_set n bits)
numbers_rise n [] = (tt, All-nil (λ j. n ≤ j))
numbers_rise n (true ∷ bits) =
    let r = numbers_rise (suc n) bits in
    ((All-weaker (λ j. suc n ≤ j) (λ j. n < j) (λ j l. omega arith) _ r.1, r.0), All-cons (λ j. n ≤ j) n _ (omega arith) (All-weaker (λ j. suc n ≤ j) (λ j. n ≤ j) (λ j l. omega arith) _ r.1))
numbers_rise n (false ∷ bits) = let r = numbers_rise (suc n) bits in (r.0, All-weaker (λ j. suc n ≤ j) (λ j. n ≤ j) (λ j l. omega arith) _ r.1)

numbers_within : (n : ℕ) (bits : List Bool) (m : ℕ) → n + length bits ≤ m → All (λ j. j < m) (numbers_set n bits)
numbers_within n [] m l = All-nil (λ j. j < m)
numbers_within n (true ∷ bits) m l = All-cons (λ j. j < m) n _ (omega arith) (numbers_within (suc n) bits m (omega arith))
numbers_within n (false ∷ bits) m l = numbers_within (suc n) bits m (omega arith)

none_noted : (k : Kind) (bits : List Bool) → bits ≡ [] → All (λ j. j < noted_outs k) (numbers_set 0 bits)
none_noted k bits e = subst (λ x. All (λ j. j < noted_outs k) (numbers_set 0 x)) (sym e) (All-nil (λ j. j < noted_outs k))

sent_within : (k : Kind) (o : Own) → OwnForm k o → All (λ j. j < noted_outs k) (numbers_set 0 o.sent)
sent_within (unit.Fork w n) o h = let l = h.1 in numbers_within 0 o.sent n (omega arith)
sent_within (unit.Lsq a d ps gs f) o h = none_noted (unit.Lsq a d ps gs f) o.sent (ap (λ (x : Own). x.sent) h.0)
sent_within k o h = none_noted k o.sent (ap (λ (x : Own). x.sent) h)

fired_not : (k : Kind) (o : Own) → OwnForm k o → fires_once k ≡ false → o.fired ≡ false
fired_not (unit.Fork w outs) o h n = ap (λ (x : Own). x.fired) h.0
fired_not (unit.Lsq a d ps gs f) o h n = ap (λ (x : Own). x.fired) h.0
fired_not unit.Entry o h n = cc
fired_not (unit.Param j) o h n = cc
fired_not unit.Exit o h n = cc
fired_not k o h n = ap (λ (x : Own). x.fired) h

queue_not : (k : Kind) (o : Own) → OwnForm k o → is_lsq k ≡ false → part_of o ≡ no_part
queue_not (unit.Fork w outs) o h n = ap part_of h.0
queue_not (unit.Lsq a d ps gs f) o h n = cc
queue_not k o h n = ap part_of h

-- data that tell what each unit keeps
pub record Tells (p : Parts) (os : List Own) : Type 0 where
  pub sent_long : length p.sent ≡ length os
  pub fired_long : length p.fired ≡ length os
  pub queues_long : length p.queues ≡ length os
  pub sent : (u : ℕ) → get_or p.sent u [] ≡ numbers_set 0 (get_or os u idle).sent
  pub fired : (u : ℕ) → get_or p.fired u false ≡ (get_or os u idle).fired
  pub queues : (u : ℕ) → get_or p.queues u no_part ≡ part_of (get_or os u idle)

module _ (net : Net) (p : Parts) (os : List Own) (long : length os ≡ length net.units) (form : (u : ℕ) → OwnForm (kind_of net u) (get_or os u idle)) (tells : Tells p os) where
  pub told_by_unit : IsByUnit net p
  told_by_unit = record {
    sent_long = tells.sent_long ∙ long;
    fired_long = tells.fired_long ∙ long;
    queues_long = tells.queues_long ∙ long;
    rising = λ u. subst Rising (sym (tells.sent u)) (numbers_rise 0 (get_or os u idle).sent).0;
    within = λ u. subst (All (λ j. j < noted_outs (kind_of net u))) (sym (tells.sent u)) (sent_within (kind_of net u) (get_or os u idle) (form u));
    fired = λ u n. tells.fired u ∙ fired_not (kind_of net u) (get_or os u idle) (form u) n;
    queues = λ u n. tells.queues u ∙ queue_not (kind_of net u) (get_or os u idle) (form u) n;
  }

  pub told_owns : ((x : ℕ) → kind_of net x ≡ unit.Exit → (get_or os x idle).value ≡ p.value) → os ≡ owns_from p 0 net.units
  told_owns value = owns_all p 0 net.units os long (λ u l. own_back (kind_of net u) (get_or os u idle) p u (form u) (tells.sent u) (tells.fired u) (tells.queues u) (value u) ∙ from_zero (kind_of net u) p u)

module _ (net : Net) (s : Stored) (p : Parts) (of : IsOf net s) (sent : p.sent ≡ map sent_part s.cells.items) (fired : p.fired ≡ map fired_in s.cells.items) (queues : p.queues ≡ map queue_part s.cells.items) where
  own_is : (u : ℕ) → own_of (cell_at s u) ≡ get_or (map own_of s.cells.items) u idle
  own_is u = sym (get_or-map own_of s.cells.items u cell.Plain)

  cells_tell : Tells p (map own_of s.cells.items)
  cells_tell = record {
    sent_long = ap length sent ∙ length-map s.cells.items sent_part ∙ sym (length-map s.cells.items own_of);
    fired_long = ap length fired ∙ length-map s.cells.items fired_in ∙ sym (length-map s.cells.items own_of);
    queues_long = ap length queues ∙ length-map s.cells.items queue_part ∙ sym (length-map s.cells.items own_of);
    sent = λ u. ap (λ xs. get_or xs u []) sent ∙ get_or-map sent_part s.cells.items u cell.Plain ∙ ap (λ (o : Own). numbers_set 0 o.sent) (own_is u);
    fired = λ u. ap (λ xs. get_or xs u false) fired ∙ get_or-map fired_in s.cells.items u cell.Plain ∙ ap (λ (o : Own). o.fired) (own_is u);
    queues = λ u. ap (λ xs. get_or xs u no_part) queues ∙ get_or-map queue_part s.cells.items u cell.Plain ∙ ap part_of (own_is u);
  }

  forms : (u : ℕ) → OwnForm (kind_of net u) (get_or (map own_of s.cells.items) u idle)
  forms u = subst (OwnForm (kind_of net u)) (own_is u) (cell_form (kind_of net u) (cell_at s u) (queue_array (cell_at s u)) (of.kept u) (of.shaped u))

  cells_long : length (map own_of s.cells.items) ≡ length net.units
  cells_long = length-map s.cells.items own_of ∙ of.cells

  pub parts_by_unit : IsByUnit net p
  parts_by_unit = told_by_unit net p (map own_of s.cells.items) cells_long forms cells_tell

  pub parts_state : p.given.scalars ≡ s.scalars → p.given.arrays ≡ arrays_of s → p.tokens ≡ s.tokens.tokens → p.strays ≡ s.strays.items → TookAtExit net (state_of s) p.value → state_from net p ≡ state_of s
  parts_state scalars arrays tokens strays value =
      let own : owns_from p 0 net.units ≡ map own_of s.cells.items = sym (told_owns net p (map own_of s.cells.items) cells_long forms cells_tell value) in
      λ i. record { scalars = scalars i; tokens = tokens i; own = own i; arrays = arrays i; strays = strays i }
