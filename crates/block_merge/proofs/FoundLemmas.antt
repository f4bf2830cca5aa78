-- What holds of the blocks that a walk finds: none twice, none that there is not, all to which one of them leads, and a store for each array.
use Rattle.std.proofs.Common.{◌≡◌, ℕ, zero, suc, ◌+◌, ◌<◌, ◌≤◌, ◌||◌, not, Bool, true, false, cond, List, [], ◌∷◌, ◌++◌, map, length, get_or, refl, sym, ◌∙◌, ap, subst, arith, inl, inr}
use Rattle.std.specs.Prelude.{slice_get, sum_by}
use Rattle.std.specs.List.{list_any, flat_map}
use Rattle.std.proofs.lemmas.Bool.{cases_lt, cases_eq}
use Rattle.std.proofs.lemmas.Grind.{flat_map-append}
use Rattle.std.proofs.lemmas.Option.{slice_get-get_or, slice_get_past}
use Rattle.std.proofs.lemmas.List.{length-map, get_or-map, get_or_past}
use Rattle.std.proofs.lemmas.List.Sums.{sum_by-cons}
use Rattle.ir.specs.declared.graph.Block.{Block}
use Rattle.ir.specs.Steps.{value_at}
use Rattle.ir.specs.Graphs.{no_block}
use Rattle.block_merge.specs.Renamed.{block_of}
use Rattle.block_merge.specs.Found.{is_in, targets, noted, noted_all, targets_at, walked, stored_in, stored_of, stores_anew, from_start, from_starts, found_blocks}
use Rattle.block_merge.proofs.Members.{In, in_of, not_in, in_left, in_right, in_either, Grows, grows_not, grows_twice, in_grown, get_grown, Distinct, distinct_more, AllBelow, below_more, total_at}

-- ---- blocks noted

record IsNoted (m : ℕ) (found new : List ℕ) (b : ℕ) : Type 0 where
  grows : Grows found new
  has : In new b
  distinct : Distinct found → Distinct new
  below : AllBelow m found → b < m → AllBelow m new

is_noted : (m : ℕ) (found : List ℕ) (b : ℕ) → IsNoted m found (noted found b) b
is_noted m found b = by (is_in found b) refl
  where
    by : (t : Bool) → is_in found b ≡ t → IsNoted m found (cond t found (found ++ b ∷ [])) b
    by true e = record { grows = grows_not found; has = in_of found b e; distinct = λ d. d; below = λ h lt. h }
    by false e = record {
      grows = record { more = b ∷ []; is = refl };
      has = in_right found (b ∷ []) b (inl refl);
      distinct = λ d. distinct_more found b d (not_in found b e);
      below = λ h lt. below_more m found b h lt;
    }

record AreNoted (m : ℕ) (found new bs : List ℕ) : Type 0 where
  grows : Grows found new
  has : (b : ℕ) → In bs b → In new b
  distinct : Distinct found → Distinct new
  below : AllBelow m found → ((b : ℕ) → In bs b → b < m) → AllBelow m new

are_noted : (m : ℕ) (found bs : List ℕ) → AreNoted m found (noted_all found bs) bs
are_noted m found [] = record { grows = grows_not found; has = λ b h. absurd h; distinct = λ d. d; below = λ h lt. h }
are_noted m found (b ∷ bs) =
    let one = is_noted m found b in
    let rest = are_noted m (noted found b) bs in
    record {
      grows = grows_twice found (noted found b) (noted_all (noted found b) bs) one.grows rest.grows;
      has = λ x h. elim h [
        | inl e ↦ subst (In (noted_all (noted found b) bs)) e (in_grown (noted found b) (noted_all (noted found b) bs) b rest.grows one.has)
        | inr k ↦ rest.has x k
      ];
      distinct = λ d. rest.distinct (one.distinct d);
      below = λ h lt. rest.below (one.below h (lt b (inl refl))) (λ x k. lt x (inr k));
    }

-- ---- one walk

-- no jump leads out of the blocks
abbrev pub LeadsWithin : List Block → Type 0
LeadsWithin bs = (n t : ℕ) → In (targets (block_of bs n).jump) t → t < length bs

-- the targets of the first blocks, so many, are in the list
abbrev pub ClosedTo : List Block → List ℕ → ℕ → Type 0
ClosedTo bs found at = (i t : ℕ) → i < at → i < length found → In (targets (block_of bs (get_or found i 0)).jump) t → In found t

pub record IsFound (bs : List Block) (found : List ℕ) (at : ℕ) : Type 0 where
  pub distinct : Distinct found
  pub below : AllBelow (length bs) found
  pub closed : ClosedTo bs found at

-- distinct numbers below a number are no more than that
ones : (bs : List Block) → sum_by (λ w. w) (map (λ (b : Block). 1) bs) ≡ length bs
ones [] = refl
ones (b ∷ bs) = sum_by-cons (λ w. w) 1 (map (λ (x : Block). 1) bs) ∙ (let i = ones bs in omega (arith, i))

one_each : (ws xs : List ℕ) (m : ℕ) → ((n : ℕ) → n < m → value_at ws n ≡ 1) → AllBelow m xs → sum_by (λ w. w) (map (value_at ws) xs) ≡ length xs
one_each ws [] m h b = refl
one_each ws (x ∷ xs) m h b =
    let e = h x b.0 in
    let i = one_each ws xs m h b.1 in
    sum_by-cons (λ w. w) (value_at ws x) (map (value_at ws) xs) ∙ omega (arith, e, i)

pub few_found : (bs : List Block) (found : List ℕ) → Distinct found → AllBelow (length bs) found → length found ≤ length bs
few_found bs found d b =
    let ws = map (λ (x : Block). 1) bs in
    let l : length ws ≡ length bs = length-map bs (λ (x : Block). 1) in
    let t = total_at ws found d (subst (λ m. AllBelow m found) (sym l) b) in
    let e = one_each ws found (length bs) (λ n lt. get_or-map (λ (x : Block). 1) bs n no_block 0 lt) b in
    let o = ones bs in
    omega (arith, t, e, o)

step_found : (bs : List Block) (at : ℕ) (found : List ℕ) → LeadsWithin bs → IsFound bs found at → IsFound bs (noted_all found (targets_at bs (slice_get found at))) (suc at)
step_found bs at found within h = elim (cases_lt at (length found)) [
  | inr ge ↦
      let same : noted_all found (targets_at bs (slice_get found at)) ≡ found = ap (λ o. noted_all found (targets_at bs o)) (slice_get_past found at ge) in
      subst (λ l. IsFound bs l (suc at)) (sym same) (record { distinct = h.distinct; below = h.below; closed = λ i t lt there. h.closed i t (omega (arith, there, ge)) there })
  | inl lt ↦
      let n = get_or found at 0 in
      let ts = targets (block_of bs n).jump in
      let is : noted_all found (targets_at bs (slice_get found at)) ≡ noted_all found ts = ap (λ o. noted_all found (targets_at bs o)) (slice_get-get_or found at 0 lt) in
      let new = noted_all found ts in
      let a = are_noted (length bs) found ts in
      subst (λ l. IsFound bs l (suc at)) (sym is) (record {
        distinct = a.distinct h.distinct;
        below = a.below h.below (λ t k. within n t k);
        closed = closed_more bs at found new a.grows lt (λ t k. a.has t k) h;
      })
]
  where
    closed_more : (bs : List Block) (at : ℕ) (found new : List ℕ) → Grows found new → at < length found → ((t : ℕ) → In (targets (block_of bs (get_or found at 0)).jump) t → In new t)
        → IsFound bs found at → ClosedTo bs new (suc at)
    closed_more bs at found new g lt has h i t le there k =
        let old : i < length found = omega (arith, le, lt) in
        let same : get_or new i 0 ≡ get_or found i 0 = get_grown found new i g old in
        let k2 : In (targets (block_of bs (get_or found i 0)).jump) t = subst (λ m. In (targets (block_of bs m).jump) t) same k in
        elim (cases_eq i at) [
          | inl e ↦ has t (subst (λ j. In (targets (block_of bs (get_or found j 0)).jump) t) e k2)
          | inr ne ↦ in_grown found new t g (h.closed i t (omega (arith, le, ne)) old k2)
        ]

pub step_grows : (bs : List Block) (at : ℕ) (found : List ℕ) → Grows found (noted_all found (targets_at bs (slice_get found at)))
step_grows bs at found = (are_noted 0 found (targets_at bs (slice_get found at))).grows

walked_grows : (bs : List Block) (n at : ℕ) (found : List ℕ) → Grows found (walked bs n at found)
walked_grows bs zero at found = grows_not found
walked_grows bs (suc n) at found =
    let next = noted_all found (targets_at bs (slice_get found at)) in
    grows_twice found next (walked bs n (suc at) next) (step_grows bs at found) (walked_grows bs n (suc at) next)

walked_found : (bs : List Block) (n at : ℕ) (found : List ℕ) → LeadsWithin bs → IsFound bs found at → IsFound bs (walked bs n at found) (at + n)
walked_found bs zero at found within h = let e : at ≡ at + 0 = omega arith in subst (IsFound bs found) e h
walked_found bs (suc n) at found within h =
    let e : suc at + n ≡ at + suc n = omega arith in
    subst (IsFound bs (walked bs (suc n) at found)) e (walked_found bs n (suc at) (noted_all found (targets_at bs (slice_get found at))) within (step_found bs at found within h))

-- closed to its end
abbrev pub IsWhole : List Block → List ℕ → Type 0
IsWhole bs found = IsFound bs found (length found)

whole_of : (bs : List Block) (found : List ℕ) (at : ℕ) → length bs ≤ at → IsFound bs found at → IsWhole bs found
whole_of bs found at le h =
    let few = few_found bs found h.distinct h.below in
    record { distinct = h.distinct; below = h.below; closed = λ i t lt there. h.closed i t (omega (arith, lt, few, le)) there }

-- ---- where walks start

stored_grown : (bs : List Block) (found new : List ℕ) (a : ℕ) → Grows found new → In (stored_of bs found) a → In (stored_of bs new) a
stored_grown bs found new a g h =
    let f : ℕ → List ℕ = λ n. stored_in (block_of bs n) in
    subst (λ l. In (stored_of bs l) a) (sym g.is) (subst (λ l. In l a) (sym (flat_map-append f found g.more)) (in_left (flat_map f found) (flat_map f g.more) a h))

-- what a found block stores to is stored to
pub stored_here : (bs : List Block) (found : List ℕ) (n a : ℕ) → In found n → In (stored_in (block_of bs n)) a → In (stored_of bs found) a
stored_here bs [] n a h k = absurd h
stored_here bs (x ∷ xs) n a (inl e) k = in_left (stored_in (block_of bs x)) (stored_of bs xs) a (subst (λ m. In (stored_in (block_of bs m)) a) (sym e) k)
stored_here bs (x ∷ xs) n a (inr h) k = in_right (stored_in (block_of bs x)) (stored_of bs xs) a (stored_here bs xs n a h k)

pub record StoredBy (bs : List Block) (found : List ℕ) (a : ℕ) : Type 0 where
  pub block : ℕ
  pub is_found : In found block
  pub stores : In (stored_in (block_of bs block)) a

pub stored_by_one : (bs : List Block) (found : List ℕ) (a : ℕ) → In (stored_of bs found) a → StoredBy bs found a
stored_by_one bs [] a h = absurd h
stored_by_one bs (x ∷ xs) a h = elim (in_either (stored_in (block_of bs x)) (stored_of bs xs) a h) [
  | inl p ↦ record { block = x; is_found = inl refl; stores = p }
  | inr q ↦ let r = stored_by_one bs xs a q in record { block = r.block; is_found = inr r.is_found; stores = r.stores }
]

-- an array of a list that is not among others, or all are
record Missing (all xs : List ℕ) : Type 0 where
  array : ℕ
  is_there : In xs array
  lacks : In all array → ⊥

missing : (all xs : List ℕ) → list_any (λ a. not (is_in all a)) xs ≡ true → Missing all xs
missing all [] h = absurd (cc)
missing all (x ∷ xs) h = by (is_in all x) refl h (λ k. missing all xs k)
  where
    by : (b : Bool) → is_in all x ≡ b → (not b || list_any (λ a. not (is_in all a)) xs) ≡ true → (list_any (λ a. not (is_in all a)) xs ≡ true → Missing all xs) → Missing all (x ∷ xs)
    by false e k rest = record { array = x; is_there = inl refl; lacks = not_in all x e }
    by true e k rest = let r = rest k in record { array = r.array; is_there = inr r.is_there; lacks = r.lacks }

none_missing : (all xs : List ℕ) → list_any (λ a. not (is_in all a)) xs ≡ false → (a : ℕ) → In xs a → In all a
none_missing all [] h a k = absurd k
none_missing all (x ∷ xs) h a k = by (is_in all x) refl h k (λ e j. none_missing all xs e a j)
  where
    by : (b : Bool) → is_in all x ≡ b → (not b || list_any (λ c. not (is_in all c)) xs) ≡ false → In (x ∷ xs) a
        → (list_any (λ c. not (is_in all c)) xs ≡ false → In xs a → In all a) → In all a
    by false e p j rest = absurd (cc)
    by true e p (inl is) rest = subst (In all) is (in_of all x e)
    by true e p (inr j) rest = rest p j

-- a block at which a walk starts is not found yet
pub start_is_new : (bs : List Block) (found : List ℕ) (b : ℕ) → stores_anew bs found b ≡ true → In found b → ⊥
start_is_new bs found b e k = let m = missing (stored_of bs found) (stored_in (block_of bs b)) e in m.lacks (stored_here bs found b m.array k m.is_there)

-- after a start the list is closed again, and has the stores of the block
record IsStarted (bs : List Block) (found new : List ℕ) (b : ℕ) : Type 0 where
  grows : Grows found new
  whole : IsWhole bs found → b < length bs → IsWhole bs new
  stores : (a : ℕ) → In (stored_in (block_of bs b)) a → In (stored_of bs new) a

started : (bs : List Block) (found : List ℕ) (b : ℕ) → LeadsWithin bs → IsStarted bs found (from_start bs found b) b
started bs found b within = by (stores_anew bs found b) refl
  where
    by : (t : Bool) → stores_anew bs found b ≡ t → IsStarted bs found (cond t (walked bs (length bs) (length found) (found ++ b ∷ [])) found) b
    by false e = record {
      grows = grows_not found;
      whole = λ h lt. h;
      stores = none_missing (stored_of bs found) (stored_in (block_of bs b)) e;
    }
    by true e =
        let more = found ++ b ∷ [] in
        let new = walked bs (length bs) (length found) more in
        let one : Grows found more = record { more = b ∷ []; is = refl } in
        let rest = walked_grows bs (length bs) (length found) more in
        let m = missing (stored_of bs found) (stored_in (block_of bs b)) e in
        record {
          grows = grows_twice found more new one rest;
          whole = λ h lt.
              let start : IsFound bs more (length found) = record {
                distinct = distinct_more found b h.distinct (λ k. m.lacks (stored_here bs found b m.array k m.is_there));
                below = below_more (length bs) found b h.below lt;
                closed = λ i t le there k.
                    in_grown found more t one (h.closed i t le le (subst (λ n. In (targets (block_of bs n).jump) t) (get_grown found more i one le) k));
              } in
              whole_of bs new (length found + length bs) (omega arith) (walked_found bs (length bs) (length found) more within start);
          stores = λ a k. stored_here bs new b a (in_grown more new b rest (in_right found (b ∷ []) b (inl refl))) k;
        }

record AreStarted (bs : List Block) (found new : List ℕ) (b n : ℕ) : Type 0 where
  grows : Grows found new
  whole : IsWhole bs found → b + n ≤ length bs → IsWhole bs new
  stores : (m a : ℕ) → b ≤ m → m < b + n → In (stored_in (block_of bs m)) a → In (stored_of bs new) a

all_started : (bs : List Block) (n b : ℕ) (found : List ℕ) → LeadsWithin bs → AreStarted bs found (from_starts bs n b found) b n
all_started bs zero b found within = record { grows = grows_not found; whole = λ h le. h; stores = λ m a ge lt k. absurd (omega (arith, ge, lt)) }
all_started bs (suc n) b found within =
    let one = started bs found b within in
    let next = from_start bs found b in
    let rest = all_started bs n (suc b) next within in
    let new = from_starts bs n (suc b) next in
    record {
      grows = grows_twice found next new one.grows rest.grows;
      whole = λ h le. rest.whole (one.whole h (omega (arith, le))) (omega (arith, le));
      stores = λ m a ge lt k. elim (cases_eq m b) [
        | inl e ↦ stored_grown bs next new a rest.grows (one.stores a (subst (λ x. In (stored_in (block_of bs x)) a) e k))
        | inr ne ↦ rest.stores m a (omega (arith, ge, ne)) (omega (arith, lt)) k
      ];
    }

-- ---- all that is found

pub record IsFoundList (bs : List Block) (found : List ℕ) : Type 0 where
  pub whole : IsWhole bs found
  pub more : List ℕ
  pub first : found ≡ 0 ∷ more
  pub stores : (m a : ℕ) → In (stored_in (block_of bs m)) a → In (stored_of bs found) a

past_stores_nothing : (bs : List Block) (m a : ℕ) → length bs ≤ m → In (stored_in (block_of bs m)) a → ⊥
past_stores_nothing bs m a ge h =
    let none : In (stored_in no_block) a = subst (λ (x : Block). In (stored_in x) a) (get_or_past bs m no_block ge) h in none

pub found_list : (bs : List Block) → 0 < length bs → LeadsWithin bs → IsFoundList bs (found_blocks bs)
found_list bs some within =
    let start : IsFound bs (0 ∷ []) 0 = record { distinct = (λ k. k, tt); below = (some, tt); closed = λ i t lt there k. absurd (omega (arith, lt)) } in
    let one = walked bs (length bs) 0 (0 ∷ []) in
    let w = whole_of bs one (0 + length bs) (omega arith) (walked_found bs (length bs) 0 (0 ∷ []) within start) in
    let a = all_started bs (length bs) 0 one within in
    let g = grows_twice (0 ∷ []) one (found_blocks bs) (walked_grows bs (length bs) 0 (0 ∷ [])) a.grows in
    record {
      whole = a.whole w (omega arith);
      more = g.more;
      first = g.is;
      stores = λ m b k. elim (cases_lt m (length bs)) [
        | inl lt ↦ a.stores m b (omega arith) (omega (arith, lt)) k
        | inr ge ↦ absurd (past_stores_nothing bs m b ge k)
      ];
    }
