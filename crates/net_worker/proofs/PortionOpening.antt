-- The rooms of a worker at first.
use Rattle.std.proofs.Common.{◌≡◌, ◌⊎◌, inl, inr, ℕ, zero, suc, ◌+◌, ◌<◌, ◌≤◌, ◌^◌, true, List, [], ◌∷◌, ◌++◌, length, get_or, map, replicate, refl, sym, ap, subst, ◌∙◌, arith, length-append}
use Rattle.std.proofs.Math.ListN.{get_or-map}
use Rattle.std.proofs.lemmas.Bool.{cases_lt, cases_eq}
use Rattle.std.proofs.lemmas.List.{ext_get_or, get_or_append_left, get_or_at, get_or_default, length-map}
use Rattle.std.proofs.lemmas.Simd.{map-map}
use Rattle.std.specs.declared.alloc.Global.{Global}
use Rattle.std.specs.declared.vec.Vec.{Vec}
use Rattle.net_types.specs.declared.firing.Inputs.{Inputs}
use Rattle.net_types.specs.declared.net.Chan.{Chan}
use Rattle.net_types.specs.declared.net.Net.{Net}
use Rattle.net_types.specs.declared.net.Unit.{Unit as Kind}
use Rattle.net_types.specs.declared.net.Unit.TheVariants.{Sink}
use Rattle.net_types.specs.Nets.{chan_at, kind_of, owns}
use Rattle.net_core.specs.declared.cell.Cell.{Cell}
use Rattle.net_core.specs.declared.cell.Cell.TheVariants.{Plain}
use Rattle.net_core.specs.declared.opening.Home.{Home}
use Rattle.net_core.specs.declared.opening.Home.TheVariants as home
use Rattle.net_core.specs.declared.state.State.{State as Stored}
use Rattle.net_core.specs.Fire.{State, at_array, idle, opened}
use Rattle.net_core.specs.Held.{Lane, lane}
use Rattle.net_core.specs.Plans.{IsShaped, keeps, own_of}
use Rattle.net_core.specs.Runs.{opening}
use Rattle.net_core.specs.States.{CountsWithin, IsOf, array_in, arrays_of, cell_at, home_at, queue_array, state_of}
use Rattle.net_core.proofs.OpenLemmas.{opening_counts, queue_first, self_shaped, zeros}
use Rattle.net_core.proofs.RegularLemmas.{opening_tokens}
use Rattle.net_worker.specs.ChannelEnds.{AreChannels, IsNotAmong, StandsAt, length-put_over}
use Rattle.net_worker.specs.Portions.{AreFirstCells, IsFirstCell, first_lanes, with_rooms}
use Rattle.net_worker.proofs.PortionLemmas.{slot_at}
use Rattle.net_worker.proofs.PutOver.{map-put_over, put_over_none, put_over_same, put_over_some}

-- ---- what is made one by one

pub cells_more : (net : Net) (inputs : Inputs) (us : List ℕ) (k : Kind) (arrays : List (List ℕ)) (cells new : List Cell) (c : Cell) (i : ℕ) → i < length us → k ≡ kind_of net (get_or us i 0)
    → arrays ≡ inputs.arrays → own_of c ≡ opened k → keeps k c ≡ true → IsShaped k c (at_array arrays (owns k)) → new ≡ cells ++ c ∷ []
    → record { long : length cells ≡ i; each : (j : ℕ) → j < i → IsFirstCell net inputs (get_or us j 0) (get_or cells j Plain) }
    → record { long : length new ≡ i + 1; each : (j : ℕ) → j < i + 1 → IsFirstCell net inputs (get_or us j 0) (get_or new j Plain) }
cells_more net inputs us k arrays cells new c i l is same own kept shaped grown h = record {
  long = (let a = ap length grown in let b = length-append cells (c ∷ []) in let d = h.long in omega (arith, a, b, d));
  each = λ j less. subst (λ xs. IsFirstCell net inputs (get_or us j 0) (get_or xs j Plain)) (sym grown) (by j (cases_lt j i) less);
}
  where
    first : IsFirstCell net inputs (get_or us i 0) c
    first = record {
      own = own ∙ ap opened is;
      kept = subst (λ x. keeps x c ≡ true) is kept;
      shaped = subst (λ x. IsShaped x c (at_array inputs.arrays (owns x))) is (subst (λ xss. IsShaped k c (at_array xss (owns k))) same shaped);
    }

    by : (j : ℕ) → (j < i) ⊎ (i ≤ j) → j < i + 1 → IsFirstCell net inputs (get_or us j 0) (get_or (cells ++ c ∷ []) j Plain)
    by j (inl m) less = subst (IsFirstCell net inputs (get_or us j 0)) (sym (get_or_append_left cells (c ∷ []) Plain j (let d = h.long in omega (arith, m, d)))) (h.each j m)
    by j (inr m) less =
        let e : i ≡ j = omega (arith, m, less) in
        subst (IsFirstCell net inputs (get_or us j 0)) (sym (get_or_at cells c [] Plain j (h.long ∙ e))) (subst (λ n. IsFirstCell net inputs (get_or us n 0) c) e first)

-- ---- all of them in the opening state

among_or : (cs : List ℕ) (v : ℕ) → ((i : ℕ) × StandsAt cs v i) ⊎ IsNotAmong cs v
among_or [] v = inr (λ i l e. absurd (omega (arith, l)))
among_or (c ∷ cs) v = by (cases_eq c v) (among_or cs v)
  where
    by : (c ≡ v) ⊎ (c ≡ v → ⊥) → ((i : ℕ) × StandsAt cs v i) ⊎ IsNotAmong cs v → ((i : ℕ) × StandsAt (c ∷ cs) v i) ⊎ IsNotAmong (c ∷ cs) v
    by (inl e) r = inl (0, (omega arith, e))
    by (inr n) (inl w) = inl (suc w.0, (let l = w.1.0 in omega (arith, l), w.1.1))
    by (inr n) (inr other) = inr at
      where
        at : (i : ℕ) → i < length (c ∷ cs) → get_or (c ∷ cs) i 0 ≡ v → ⊥
        at zero l e = n e
        at (suc i) l e = other i (omega (arith, l)) e

module _ (net : Net) (inputs : Inputs) (s : Stored) (us : List ℕ) (cells : List Cell) (cs : List ℕ) (ls : List Lane) (strays : Vec ℕ Global)
    (of : IsOf net s) (first : state_of s ≡ opening net inputs) (units : AreChannels (length net.units) us) (chans : AreChannels (length net.chans) cs)
    (fresh : AreFirstCells net inputs us cells) (empty : ls ≡ first_lanes net cs) (none : strays.items ≡ replicate (length inputs.arrays) 0) where
  abbrev all : Stored
  all = with_rooms us cells cs ls strays s

  -- ---- channels

  lane_read : {A : Type 0} (f : Lane → A) (d : A) (i : ℕ) → i < length cs → get_or (map f ls) i d ≡ f (lane [] [] (chan_at net (get_or cs i 0)).slots)
  lane_read f d i l =
      ap (λ xs. get_or (map f xs) i d) empty ∙ (ap (λ xs. get_or xs i d) (map-map f (λ c. lane [] [] (chan_at net c).slots) cs)
      ∙ (get_or_default (map (λ c. f (lane [] [] (chan_at net c).slots)) cs) i d _ (subst (λ n. i < n) (sym (length-map cs (λ c. f (lane [] [] (chan_at net c).slots)))) l)
      ∙ get_or-map (λ c. f (lane [] [] (chan_at net c).slots)) cs i 0))

  lanes_long : {A : Type 0} (f : Lane → A) → length (map f ls) ≡ length cs
  lanes_long f = length-map ls f ∙ (ap length empty ∙ length-map cs (λ c. lane [] [] (chan_at net c).slots))

  slots_long : length s.tokens.slots ≡ length net.chans
  slots_long = ap length of.slots ∙ length-map net.chans (λ (c : Chan). c.slots)

  slots_same : all.tokens.slots ≡ s.tokens.slots
  slots_same =
      put_over_same cs (map (λ (l : Lane). l.slots) ls) s.tokens.slots 0 (lanes_long (λ l. l.slots))
      (λ i l. lane_read (λ l. l.slots) 0 i l ∙ sym (slot_at net s (get_or cs i 0) of)) (subst (λ n. AreChannels n cs) (sym slots_long) chans)

  tokens_same : all.tokens.tokens ≡ s.tokens.tokens
  tokens_same =
      put_over_same cs (map (λ (l : Lane). l.tokens) ls) s.tokens.tokens [] (lanes_long (λ l. l.tokens))
      (λ i l. lane_read (λ l. l.tokens) [] i l ∙ sym (ap (λ (x : State). get_or x.tokens (get_or cs i 0) []) first ∙ opening_tokens net inputs (get_or cs i 0)))
      (subst (λ n. AreChannels n cs) (sym of.long) chans)

  -- ---- units

  within : AreChannels (length s.cells.items) us
  within = subst (λ n. AreChannels n us) (sym of.cells) units

  -- a cell is that of the whole state, or one at first
  each : (P : Cell → Type 0) (v : ℕ) → ((c : Cell) → IsFirstCell net inputs v c → P c) → P (cell_at s v) → P (cell_at all v)
  each P v new old = by (among_or us v)
    where
      by : ((i : ℕ) × StandsAt us v i) ⊎ IsNotAmong us v → P (cell_at all v)
      by (inl w) =
          subst P (sym (put_over_some us cells s.cells.items v w.0 Plain within fresh.long w.1))
          (new (get_or cells w.0 Plain) (subst (λ u. IsFirstCell net inputs u (get_or cells w.0 Plain)) w.1.1 (fresh.each w.0 w.1.0)))
      by (inr other) = subst P (sym (put_over_none us cells s.cells.items v Plain other)) old

  own_first : (u : ℕ) → get_or (map own_of s.cells.items) u idle ≡ opened (kind_of net u)
  own_first u = ap (λ (x : State). get_or x.own u idle) first ∙ get_or-map opened net.units u (Sink 0)

  own_same : map own_of all.cells.items ≡ map own_of s.cells.items
  own_same =
      map-put_over own_of us cells s.cells.items
      ∙ put_over_same us (map own_of cells) (map own_of s.cells.items) idle (length-map cells own_of ∙ fresh.long)
      (λ i l. get_or-map own_of cells i Plain ∙ ((fresh.each i l).own ∙ sym (own_first (get_or us i 0))))
      (subst (λ n. AreChannels n us) (sym (length-map s.cells.items own_of)) within)

  cells_long : length all.cells.items ≡ length net.units
  cells_long = length-put_over us cells s.cells.items ∙ of.cells

  pub rooms_of : IsOf net all
  rooms_of = record {
    slots = slots_same ∙ of.slots;
    long = ap length tokens_same ∙ of.long;
    cells = cells_long;
    kept = λ v. each (λ c. keeps (kind_of net v) c ≡ true) v (λ c f. f.kept) (of.kept v);
    shaped = λ v. each (λ c. IsShaped (kind_of net v) c (queue_array c)) v (λ c f. self_shaped (kind_of net v) c (at_array inputs.arrays (owns (kind_of net v))) f.kept f.shaped) (of.shaped v);
    homes = of.homes;
    owned = of.owned;
    serials = λ v. subst (λ os. (get_or os v idle).queue.next < 2 ^ 63) (sym own_same) (of.serials v);
    exit = of.exit;
    exits = of.exits;
  }

  -- ---- arrays

  array_first : (a u : ℕ) → home_at s a ≡ home.Queue u → queue_array (cell_at all u) ≡ queue_array (cell_at s u)
  array_first a u is =
      each (λ c. queue_array c ≡ queue_array (cell_at s u)) u (λ c f. queue_first (kind_of net u) c a inputs.arrays (of.homes a u is) f.kept f.shaped ∙ given) refl
    where
      given : get_or inputs.arrays a [] ≡ queue_array (cell_at s u)
      given =
          sym (ap (λ (x : State). get_or x.arrays a []) first) ∙ (get_or-map (array_in s.cells.items) s.homes.items a (home.Here []) ∙ ap (array_in s.cells.items) is)

  at_home : (a : ℕ) (h : Home) → home_at s a ≡ h → array_in all.cells.items h ≡ array_in s.cells.items h
  at_home a (home.Here xs) is = refl
  at_home a (home.Queue u) is = array_first a u is

  arrays_same : arrays_of all ≡ arrays_of s
  arrays_same =
      ext_get_or [] (arrays_of all) (arrays_of s) (length-map s.homes.items (array_in all.cells.items) ∙ sym (length-map s.homes.items (array_in s.cells.items)))
      (λ a l. get_or-map (array_in all.cells.items) s.homes.items a (home.Here []) ∙ (at_home a (home_at s a) refl ∙ sym (get_or-map (array_in s.cells.items) s.homes.items a (home.Here []))))

  pub rooms_first : state_of all ≡ opening net inputs
  rooms_first =
      let strays_same : strays.items ≡ s.strays.items = none ∙ (zeros inputs.arrays ∙ sym (ap (λ (x : State). x.strays) first)) in
      (λ i. record { scalars = s.scalars; tokens = tokens_same i; own = own_same i; arrays = arrays_same i; strays = strays_same i }) ∙ first

  pub rooms_counts : CountsWithin 0 (state_of all)
  rooms_counts = subst (CountsWithin 0) (sym rooms_first) (opening_counts net inputs)
