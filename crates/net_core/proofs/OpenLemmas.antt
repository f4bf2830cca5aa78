-- The opening state.
use Rattle.std.proofs.Common.{◌≡◌, ℕ, zero, suc, ◌+◌, ◌<◌, ◌≤◌, ◌^◌, ◌⊎◌, true, Option, Some, None, List, [], ◌∷◌, ◌++◌, length, get_or, set, map, take, replicate, refl, sym, ap, subst, ◌∙◌, inl, inr, arith, length-set, get_or-set_same, get_or-set_other}
use Rattle.std.proofs.Math.ListN.{get_or-append, get_or-map}
use Rattle.std.proofs.Math.Seq.{get_or-append_seam}
use Rattle.std.proofs.lemmas.List.{length-map, ext_get_or, set_past, get_or_past, get_or_default, take_more}
use Rattle.std.proofs.lemmas.Slice.Zip.{AllZip-long}
use Rattle.std.proofs.lemmas.Bool.{cases_lt, cases_eq}
use Rattle.net_types.specs.declared.net.Net.{Net}
use Rattle.net_types.specs.declared.net.Chan.{Chan}
use Rattle.net_types.specs.declared.net.Unit.{Unit as Kind}
use Rattle.net_types.specs.declared.net.Unit.TheVariants.{Sink, Lsq, Exit}
use Rattle.net_types.specs.declared.firing.Inputs.{Inputs}
use Rattle.net_types.specs.Inputs.{InputsFit, AreElementsOf}
use Rattle.net_types.specs.Nets.{kind_of, owns}
use Rattle.net_check.specs.Checks.{IsChecked}
use Rattle.net_check.specs.Headers.{IsNamed, is_exit}
use Rattle.net_core.specs.declared.cell.Cell.{Cell}
use Rattle.net_core.specs.declared.cell.Cell.TheVariants.{Plain, Queue}
use Rattle.net_core.specs.declared.state.State.{State as Stored}
use Rattle.net_core.specs.declared.opening.Home.{Home}
use Rattle.net_core.specs.declared.opening.Home.TheVariants as home
use Rattle.net_core.specs.Fire.{idle, opened, at_array}
use Rattle.net_core.specs.Held.{Held}
use Rattle.net_core.specs.Plans.{own_of, keeps, IsShaped}
use Rattle.net_core.specs.Runs.{opening}
use Rattle.net_core.specs.States.{state_of, arrays_of, array_in, queue_array, cell_at, home_at, own_at, CountsWithin, IsOf}
use Rattle.net_core.specs.private.Openings.{IsFresh, AreFresh, AreOwners, AreHomes, IsExitIn, home_by, owners_with}
use Rattle.net_core.proofs.ApartLemmas.{owns-uses}

fresh_snoc : (arrays : List (List ℕ)) (ks : List Kind) (cs : List Cell) (k : Kind) (c : Cell) → AreFresh arrays ks cs → IsFresh arrays k c → AreFresh arrays (ks ++ k ∷ []) (cs ++ c ∷ [])
fresh_snoc arrays [] [] k c h f = (f, tt)
fresh_snoc arrays [] (x ∷ cs) k c h f = absurd h
fresh_snoc arrays (y ∷ ks) [] k c h f = absurd h
fresh_snoc arrays (y ∷ ks) (x ∷ cs) k c h f = (h.0, fresh_snoc arrays ks cs k c h.1 f)

pub cells_more : (arrays : List (List ℕ)) (units : List Kind) (i : ℕ) (k : Kind) (cs new : List Cell) (c : Cell) → i < length units → k ≡ get_or units i k
    → AreFresh arrays (take i units) cs → own_of c ≡ opened k → keeps k c ≡ true → IsShaped k c (at_array arrays (owns k)) → new ≡ cs ++ c ∷ [] → AreFresh arrays (take (i + 1) units) new
cells_more arrays units i k cs new c l e h own kept shaped is =
    rw (take_more units i k l, ← e, is) (fresh_snoc arrays (take i units) cs k c h (record { own = own; kept = kept; shaped = shaped }))

fresh_own : (arrays : List (List ℕ)) (ks : List Kind) (cs : List Cell) → AreFresh arrays ks cs → map own_of cs ≡ map opened ks
fresh_own arrays [] [] h = refl
fresh_own arrays [] (x ∷ cs) h = absurd h
fresh_own arrays (y ∷ ks) [] h = absurd h
fresh_own arrays (y ∷ ks) (x ∷ cs) h = let a = h.0.own in let r = fresh_own arrays ks cs h.1 in λ i. a i ∷ r i

-- past the units: a sink with a plain cell
fresh_at : (arrays : List (List ℕ)) (ks : List Kind) (cs : List Cell) (u : ℕ) → AreFresh arrays ks cs → IsFresh arrays (get_or ks u (Sink 0)) (get_or cs u Plain)
fresh_at arrays [] [] u h = record { own = refl; kept = refl; shaped = tt }
fresh_at arrays [] (x ∷ cs) u h = absurd h
fresh_at arrays (y ∷ ks) [] u h = absurd h
fresh_at arrays (y ∷ ks) (x ∷ cs) zero h = h.0
fresh_at arrays (y ∷ ks) (x ∷ cs) (suc u) h = fresh_at arrays ks cs u h.1

none_of : (n a : ℕ) → get_or (replicate {A = Option ℕ} n None) a None ≡ None
none_of zero a = refl
none_of (suc n) zero = refl
none_of (suc n) (suc a) = none_of n a

pub owners_none : (units : List Kind) (n : ℕ) (owners : List (Option ℕ)) → owners ≡ replicate n None → AreOwners units 0 owners
owners_none units n owners is = record {
  sound = λ a u e. (let z : None ≡ Some u = sym (ap (λ xs. get_or xs a None) is ∙ none_of n a) ∙ e in cc);
  each = λ u a l e w s. absurd (omega arith);
}

-- one more unit, which is a queue of the array n
pub owners_more : (units : List Kind) (i n : ℕ) (owners : List (Option ℕ)) → owns (get_or units i (Sink 0)) ≡ Some n → AreOwners units i owners → AreOwners units (i + 1) (set owners n (Some i))
owners_more units i n owners is h = record { sound = λ a u e. sound a u e (cases_eq a n); each = λ u a l e w s. each u a l e w s (cases_eq u i) (cases_eq a n) }
  where
    sound : (a u : ℕ) → get_or (set owners n (Some i)) a None ≡ Some u → (a ≡ n) ⊎ (a ≡ n → ⊥) → owns (get_or units u (Sink 0)) ≡ Some a
    sound a u e (inr m) = h.sound a u (sym (get_or-set_other owners n a (Some i) None m) ∙ e)
    sound a u e (inl m) = by (cases_lt n (length owners))
      where
        by : (n < length owners) ⊎ (length owners ≤ n) → owns (get_or units u (Sink 0)) ≡ Some a
        by (inl l) =
            let g : Some i ≡ Some u = sym (get_or-set_same owners n (Some i) None l) ∙ ap (λ k. get_or (set owners n (Some i)) k None) (sym m) ∙ e in
            let j : i ≡ u = cc in
            rw m (subst (λ k. owns (get_or units k (Sink 0)) ≡ Some n) j is)
        by (inr l) = let g : None ≡ Some u = sym (ap (λ xs. get_or xs n None) (set_past owners n (Some i) l) ∙ get_or_past owners n None l) ∙ ap (λ k. get_or (set owners n (Some i)) k None) (sym m) ∙ e in cc

    each : (u a : ℕ) → u < i + 1 → owns (get_or units u (Sink 0)) ≡ Some a → a < length (set owners n (Some i)) → get_or (set owners n (Some i)) a None ≡ None → (u ≡ i) ⊎ (u ≡ i → ⊥) → (a ≡ n) ⊎ (a ≡ n → ⊥) → ⊥
    each u a l e w s x (inl m) =
        let long = length-set owners n (Some i) in
        let g : Some i ≡ None = sym (get_or-set_same owners n (Some i) None (omega arith)) ∙ ap (λ k. get_or (set owners n (Some i)) k None) (sym m) ∙ s in cc
    each u a l e w s (inl x) (inr m) = let z : Some n ≡ Some a = sym is ∙ ap (λ k. owns (get_or units k (Sink 0))) (sym x) ∙ e in let y : n ≡ a = cc in m (sym y)
    each u a l e w s (inr x) (inr m) =
        let long = length-set owners n (Some i) in
        h.each u a (omega arith) e (omega arith) (sym (get_or-set_other owners n a (Some i) None m) ∙ s)

-- one more unit, which is no queue
pub owners_same : (units : List Kind) (i : ℕ) (owners : List (Option ℕ)) → owns (get_or units i (Sink 0)) ≡ None → AreOwners units i owners → AreOwners units (i + 1) owners
owners_same units i owners is h = record { sound = h.sound; each = λ u a l e w s. each u a l e w s (cases_eq u i) }
  where
    each : (u a : ℕ) → u < i + 1 → owns (get_or units u (Sink 0)) ≡ Some a → a < length owners → get_or owners a None ≡ None → (u ≡ i) ⊎ (u ≡ i → ⊥) → ⊥
    each u a l e w s (inl x) = let z : None ≡ Some a = sym is ∙ ap (λ k. owns (get_or units k (Sink 0))) (sym x) ∙ e in cc
    each u a l e w s (inr x) = h.each u a (omega arith) e w s

owned_more : (units : List Kind) (i : ℕ) (o : Option ℕ) (owners : List (Option ℕ)) → owns (get_or units i (Sink 0)) ≡ o → AreOwners units i owners → AreOwners units (i + 1) (owners_with o i owners)
owned_more units i None owners is h = owners_same units i owners is h
owned_more units i (Some n) owners is h = owners_more units i n owners is h

length_owners : (o : Option ℕ) (i : ℕ) (owners : List (Option ℕ)) → length (owners_with o i owners) ≡ length owners
length_owners None i owners = refl
length_owners (Some n) i owners = length-set owners n (Some i)

-- one more unit
pub owners_next : (units : List Kind) (i n : ℕ) (k : Kind) (owners new : List (Option ℕ)) → i < length units → k ≡ get_or units i k → new ≡ owners_with (owns k) i owners
    → record { len : length owners ≡ n; all : AreOwners units i owners } → record { len : length new ≡ n; all : AreOwners units (i + 1) new }
owners_next units i n k owners new l e is h = record {
  len = ap length is ∙ length_owners (owns k) i owners ∙ h.len;
  all = rw is (owned_more units i (owns k) owners (ap owns (get_or_default units i (Sink 0) k l ∙ sym e)) h.all);
}

-- one more home
pub homes_more : (owners : List (Option ℕ)) (arrays : List (List ℕ)) (homes new : List Home) (i : ℕ) (o : Option ℕ) (xs : List ℕ) (h : Home) → length homes ≡ i
    → o ≡ get_or owners i None → xs ≡ get_or arrays i [] → h ≡ home_by o xs → new ≡ homes ++ h ∷ [] → AreHomes owners arrays homes → AreHomes owners arrays new
homes_more owners arrays homes new i o xs h long oe xe he is known = record { each = λ a l. by a l (cases_lt a (length homes)) }
  where
    grown : (hs : List Home) → length (hs ++ h ∷ []) ≡ suc (length hs)
    grown [] = refl
    grown (x ∷ hs) = ap suc (grown hs)

    by : (a : ℕ) → a < length new → (a < length homes) ⊎ (length homes ≤ a) → get_or new a (home.Here []) ≡ home_by (get_or owners a None) (get_or arrays a [])
    by a l (inl m) = ap (λ hs. get_or hs a (home.Here [])) is ∙ get_or-append homes (h ∷ []) (home.Here []) a m ∙ known.each a m
    by a l (inr m) =
        let g = grown homes in
        let n = ap length is in
        let e : a ≡ length homes = omega arith in
        let j : i ≡ a = omega arith in
        ap (λ hs. get_or hs a (home.Here [])) is ∙ ap (λ k. get_or (homes ++ h ∷ []) k (home.Here [])) e ∙ get_or-append_seam homes h [] (home.Here []) ∙ he
        ∙ (λ k. home_by (oe k) (xe k)) ∙ ap (λ k. home_by (get_or owners k None) (get_or arrays k [])) j

-- a home is a queue where its owner is
home_queue : (o : Option ℕ) (xs : List ℕ) (u : ℕ) → home_by o xs ≡ home.Queue u → o ≡ Some u
home_queue None xs u e = cc
home_queue (Some v) xs u e = let j : v ≡ u = cc in ap Some j

pub zeros : (xss : List (List ℕ)) → replicate {A = ℕ} (length xss) 0 ≡ map (λ (xs : List ℕ). 0) xss
zeros [] = refl
zeros (x ∷ xss) = ap (λ r. 0 ∷ r) (zeros xss)

-- no serial number is given yet
opened_next : (k : Kind) → (opened k).queue.next ≡ 0
opened_next (Sink w) = refl
opened_next _ = refl

-- the array of a queue at first
pub queue_first : (k : Kind) (c : Cell) (a : ℕ) (arrays : List (List ℕ)) → owns k ≡ Some a → keeps k c ≡ true → IsShaped k c (at_array arrays (owns k)) → queue_array c ≡ get_or arrays a []
queue_first (Lsq n d ps gs fw) (Queue b) a arrays e f h = let j : n ≡ a = cc in h.elements ∙ ap (λ m. get_or arrays m []) j
queue_first (Lsq n d ps gs fw) c a arrays e f h = cc
queue_first _ c a arrays e f h = cc

-- each form is shaped by its own array
pub self_shaped : (k : Kind) (c : Cell) (xs : List ℕ) → keeps k c ≡ true → IsShaped k c xs → IsShaped k c (queue_array c)
self_shaped (Lsq n d ps gs fw) (Queue b) xs f h = record { deep = h.deep; port = h.port; group = h.group; mark = h.mark; elements = refl }
self_shaped (Lsq n d ps gs fw) c xs f h = cc
self_shaped _ c xs f h = tt

module _ (net : Net) (inputs : Inputs) (s : Stored) (owners : List (Option ℕ)) (checked : IsChecked net) (fits : InputsFit net inputs)
    (fresh : AreFresh inputs.arrays net.units s.cells.items) (long : length owners ≡ length inputs.arrays) (own : AreOwners net.units (length net.units) owners)
    (count : length s.homes.items ≡ length inputs.arrays) (known : AreHomes owners inputs.arrays s.homes.items) (last : IsExitIn net.units s.exit) where
  owner_is : (a u : ℕ) → home_at s a ≡ home.Queue u → owns (kind_of net u) ≡ Some a
  owner_is a u e = by (cases_lt a (length s.homes.items))
    where
      by : (a < length s.homes.items) ⊎ (length s.homes.items ≤ a) → owns (kind_of net u) ≡ Some a
      by (inl l) = own.sound a u (home_queue (get_or owners a None) (get_or inputs.arrays a []) u (sym (known.each a l) ∙ e))
      by (inr l) = let z : home.Here [] ≡ home.Queue u = sym (get_or_past s.homes.items a (home.Here []) l) ∙ e in cc

  owned_is : (u a : ℕ) → owns (kind_of net u) ≡ Some a → (a < length s.homes.items) × (home_at s a ≡ home.Queue u)
  owned_is u a e = (within, known.each a within ∙ ap (λ o. home_by o (get_or inputs.arrays a [])) (found (get_or owners a None) refl))
    where
      named : a < length net.arrays
      named = at (kind_of net u) (checked.named u) e
        where
          at : (k : Kind) → IsNamed net k → owns k ≡ Some a → a < length net.arrays
          at (Lsq n d ps gs fw) h q = let j : n ≡ a = cc in subst (λ m. m < length net.arrays) j h
          at _ h q = cc

      within : a < length s.homes.items
      within = let f = AllZip-long AreElementsOf net.arrays inputs.arrays fits.arrays in let k = count in let n = named in omega arith

      unit_within : u < length net.units
      unit_within = by (cases_lt u (length net.units))
        where
          by : (u < length net.units) ⊎ (length net.units ≤ u) → u < length net.units
          by (inl l) = l
          by (inr l) = let z : None ≡ Some a = sym (ap owns (get_or_past net.units u (Sink 0) l)) ∙ e in cc

      found : (o : Option ℕ) → get_or owners a None ≡ o → get_or owners a None ≡ Some u
      found None q = absurd (own.each u a unit_within e (let k = count in let w = within in let m = long in omega arith) q)
      found (Some v) q = let w = own.sound a v q in q ∙ ap Some (checked.alone u v a e (owns-uses (kind_of net v) a w))

  exit_is : kind_of net s.exit ≡ Exit
  exit_is = at (kind_of net s.exit) (last checked.one_exit.unit checked.one_exit.here)
    where
      at : (k : Kind) → is_exit k ≡ true → k ≡ Exit
      at Exit e = refl
      at _ e = cc

  next_is : (u : ℕ) → (own_at s u).queue.next < 2 ^ 63
  next_is u =
      let o : own_at s u ≡ opened (kind_of net u) = ap (λ os. get_or os u idle) (fresh_own inputs.arrays net.units s.cells.items fresh) ∙ get_or-map opened net.units u (Sink 0) in
      rw o (rw (opened_next (kind_of net u)) (omega arith))

  pub opened_of : s.tokens.slots ≡ map (λ (c : Chan). c.slots) net.chans → s.tokens.tokens ≡ map (λ (c : Chan). []) net.chans → IsOf net s
  opened_of sl tok = record {
    slots = sl;
    long = ap length tok ∙ length-map net.chans (λ (c : Chan). []);
    cells = AllZip-long (IsFresh inputs.arrays) net.units s.cells.items fresh;
    kept = λ u. (fresh_at inputs.arrays net.units s.cells.items u fresh).kept;
    shaped = λ u. (let f = fresh_at inputs.arrays net.units s.cells.items u fresh in self_shaped (kind_of net u) (cell_at s u) _ f.kept f.shaped);
    homes = owner_is;
    owned = owned_is;
    serials = next_is;
    exit = exit_is;
    exits = λ x e. checked.one_exit.only x (ap is_exit e) ∙ sym (checked.one_exit.only s.exit (ap is_exit exit_is));
  }

  arrays_first : arrays_of s ≡ inputs.arrays
  arrays_first = ext_get_or [] (arrays_of s) inputs.arrays (length-map s.homes.items (array_in s.cells.items) ∙ count)
      (λ a l. get_or-map (array_in s.cells.items) s.homes.items a (home.Here []) ∙ one a (let m = length-map s.homes.items (array_in s.cells.items) in omega arith) (get_or owners a None) refl)
    where
      one : (a : ℕ) → a < length s.homes.items → (o : Option ℕ) → get_or owners a None ≡ o → array_in s.cells.items (home_at s a) ≡ get_or inputs.arrays a []
      one a l None q = ap (array_in s.cells.items) (known.each a l ∙ ap (λ o. home_by o (get_or inputs.arrays a [])) q)
      one a l (Some u) q =
          let f = fresh_at inputs.arrays net.units s.cells.items u fresh in
          ap (array_in s.cells.items) (known.each a l ∙ ap (λ o. home_by o (get_or inputs.arrays a [])) q) ∙ queue_first (kind_of net u) (cell_at s u) a inputs.arrays (own.sound a u q) f.kept f.shaped

  pub opened_state : s.scalars ≡ inputs.scalars → s.tokens.tokens ≡ map (λ (c : Chan). []) net.chans → s.strays.items ≡ replicate {A = ℕ} (length inputs.arrays) 0 → state_of s ≡ opening net inputs
  opened_state sc tok str =
      let o = fresh_own inputs.arrays net.units s.cells.items fresh in
      let a = arrays_first in
      let z : s.strays.items ≡ map (λ (xs : List ℕ). 0) inputs.arrays = str ∙ zeros inputs.arrays in
      λ i. record { scalars = sc i; tokens = tok i; own = o i; arrays = a i; strays = z i }

-- nothing is counted yet
-- channels without tokens, by the slots of the channels
pub no_tokens : (cs : List Chan) → ◌≡◌ {A = List (List ℕ)} (map (λ (n : ℕ). []) (map (λ (c : Chan). c.slots) cs)) (map (λ (c : Chan). []) cs)
no_tokens [] = refl
no_tokens (c ∷ cs) = ap (λ (xss : List (List ℕ)). [] ∷ xss) (no_tokens cs)

-- channels that have no token, by what each of them has
pub same_held : (h : Held) (cs : List Chan) → h.tokens ≡ map (λ (c : Chan). []) cs → h.slots ≡ map (λ (c : Chan). c.slots) cs → h.dates ≡ map (λ (c : Chan). []) cs
    → record { tokens = map (λ n. []) (map (λ (c : Chan). c.slots) cs); slots = map (λ (c : Chan). c.slots) cs; dates = map (λ n. []) (map (λ (c : Chan). c.slots) cs) } ≡ h
same_held h cs tokens slots dates =
    let t = no_tokens cs ∙ sym tokens in
    let s = sym slots in
    let d = no_tokens cs ∙ sym dates in
    λ i. record { tokens = t i; slots = s i; dates = d i }

pub opening_counts : (net : Net) (inputs : Inputs) → CountsWithin 0 (opening net inputs)
opening_counts net inputs = record { serials = serials; strays = zero_at inputs.arrays }
  where
    zero_at : (xss : List (List ℕ)) (a : ℕ) → get_or (map (λ (xs : List ℕ). 0) xss) a 0 ≤ 0
    zero_at [] a = omega arith
    zero_at (x ∷ xss) zero = omega arith
    zero_at (x ∷ xss) (suc a) = zero_at xss a

    serials : (u : ℕ) → (get_or (map opened net.units) u idle).queue.next ≤ 0
    serials u = let o : get_or (map opened net.units) u idle ≡ opened (kind_of net u) = get_or-map opened net.units u (Sink 0) in rw o (rw (opened_next (kind_of net u)) (omega arith))
