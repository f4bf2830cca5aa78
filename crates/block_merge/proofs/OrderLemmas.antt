-- Marks of the blocks that are found and of the arrays to which they store.
use Rattle.std.proofs.Common.{◌≡◌, ℕ, zero, suc, ◌+◌, ◌-◌, ◌<◌, ◌≤◌, ◌==◌, ◌||◌, not, Bool, true, false, cond, List, [], ◌∷◌, ◌++◌, length, get_or, Some, None, refl, sym, ◌∙◌, ap, arith}
use Rattle.std.specs.Prelude.{set, slice_get, replicate, All}
use Rattle.std.specs.List.{list_any, flat_map}
use Rattle.std.proofs.Math.Bool.{or-true}
use Rattle.std.proofs.lemmas.Bool.{eqb-true, eq-eqb}
use Rattle.std.proofs.lemmas.Grind.{flat_map-append}
use Rattle.std.proofs.lemmas.List.Folds.{list_any-append}
use Rattle.std.proofs.lemmas.List.{get_or-set_same, get_or-set_other, get_or-replicate, length-replicate, length-set}
use Rattle.std.proofs.lemmas.List.Elements.{All-head, All-tail, All-get_or}
use Rattle.std.proofs.lemmas.Option.{slice_get_past}
use Rattle.ir.specs.declared.instr.Instr.{Instr}
use Rattle.ir.specs.declared.graph.Block.{Block}
use Rattle.ir.specs.Graphs.{no_block}
use Rattle.block_merge.specs.declared.walking.Order.{Order}
use Rattle.block_merge.specs.Renamed.{block_of}
use Rattle.block_merge.specs.Found.{is_in, targets, noted, noted_all, targets_at, walked, stored_by, stored_in, stored_of, stores_anew, from_start, from_starts, found_blocks}
use Rattle.block_merge.specs.Orders.{marked_at, marked_all, stores_unmarked, IsOrder, Notes, StoresWithin}
use Rattle.block_merge.proofs.Members.{out_of}
use Rattle.block_merge.proofs.FoundLemmas.{start_is_new}

or_none : (b : Bool) → (b || false) ≡ b
or_none true = refl
or_none false = refl

or_assoc : (a b c : Bool) → ((a || b) || c) ≡ (a || (b || c))
or_assoc true b c = refl
or_assoc false b c = refl

-- ---- marks

set_is : (ms : List Bool) (x a : ℕ) → a < length ms → get_or (set ms x true) a false ≡ (get_or ms a false || (x == a))
set_is ms x a lt = by (x == a) refl
  where
    by : (b : Bool) → (x == a) ≡ b → get_or (set ms x true) a false ≡ (get_or ms a false || (x == a))
    by true e =
        let is : x ≡ a = eqb-true x a e in
        ap (λ i. get_or (set ms i true) a false) is ∙ get_or-set_same ms a true false lt ∙ (sym (or-true (get_or ms a false)) ∙ ap (λ b. get_or ms a false || b) (sym e))
    by false e =
        get_or-set_other ms x a true false (λ is. absurd (let u : (x == a) ≡ true = eq-eqb x a (sym is) in let v : false ≡ true = sym e ∙ u in cc))
        ∙ (sym (or_none (get_or ms a false)) ∙ ap (λ b. get_or ms a false || b) (sym e))

marked_long : (ms : List Bool) (xs : List ℕ) → length (marked_at ms xs) ≡ length ms
marked_long ms [] = refl
marked_long ms (x ∷ xs) = marked_long (set ms x true) xs ∙ length-set ms x true

marked_is : (ms : List Bool) (xs : List ℕ) (a : ℕ) → a < length ms → get_or (marked_at ms xs) a false ≡ (get_or ms a false || is_in xs a)
marked_is ms [] a lt = sym (or_none (get_or ms a false))
marked_is ms (x ∷ xs) a lt =
    let l = length-set ms x true in
    marked_is (set ms x true) xs a (omega (arith, lt, l)) ∙ ap (λ b. b || is_in xs a) (set_is ms x a lt) ∙ or_assoc (get_or ms a false) (x == a) (is_in xs a)

pub all_marked_long : (ms : List Bool) (is : List Instr) → length (marked_all ms is) ≡ length ms
all_marked_long ms [] = refl
all_marked_long ms (i ∷ is) = all_marked_long (marked_at ms (stored_by i)) is ∙ marked_long ms (stored_by i)

all_marked_is : (ms : List Bool) (is : List Instr) (a : ℕ) → a < length ms → get_or (marked_all ms is) a false ≡ (get_or ms a false || is_in (flat_map stored_by is) a)
all_marked_is ms [] a lt = sym (or_none (get_or ms a false))
all_marked_is ms (i ∷ is) a lt =
    let one = marked_at ms (stored_by i) in
    let l = marked_long ms (stored_by i) in
    all_marked_is one is a (omega (arith, lt, l)) ∙ ap (λ b. b || is_in (flat_map stored_by is) a) (marked_is ms (stored_by i) a lt)
    ∙ or_assoc (get_or ms a false) (is_in (stored_by i) a) (is_in (flat_map stored_by is) a)
    ∙ ap (λ b. get_or ms a false || b) (sym (list_any-append (λ y. y == a) (stored_by i) (flat_map stored_by is)))

-- ---- a block noted

stored_with : (bs : List Block) (found : List ℕ) (n a : ℕ) → is_in (stored_of bs (found ++ n ∷ [])) a ≡ (is_in (stored_of bs found) a || is_in (stored_in (block_of bs n)) a)
stored_with bs found n a =
    let f : ℕ → List ℕ = λ m. stored_in (block_of bs m) in
    let e : stored_of bs (found ++ n ∷ []) ≡ stored_of bs found ++ (stored_in (block_of bs n) ++ []) = flat_map-append f found (n ∷ []) in
    ap (λ l. is_in l a) e ∙ list_any-append (λ y. y == a) (stored_of bs found) (stored_in (block_of bs n) ++ [])
    ∙ ap (λ b. is_in (stored_of bs found) a || b) (list_any-append (λ y. y == a) (stored_in (block_of bs n)) [] ∙ or_none (is_in (stored_in (block_of bs n)) a))

pub noted_new : (bs : List Block) (old new : Order) (n : ℕ) (steps : List Instr) → IsOrder bs old → n < length bs → get_or old.seen.items n false ≡ false → steps ≡ (block_of bs n).steps
    → new.found.items ≡ old.found.items ++ n ∷ [] → new.seen.items ≡ set old.seen.items n true → new.stored.items ≡ marked_all old.stored.items steps → Notes bs old new (noted old.found.items n)
noted_new bs old new n steps o lt unseen s f e g =
    let found = old.found.items in
    let none : is_in found n ≡ false = sym (o.seen n lt) ∙ unseen in
    let grown : noted found n ≡ found ++ n ∷ [] = ap (λ b. cond b found (found ++ n ∷ [])) none in
    record {
      order = record {
        long = ap length e ∙ length-set old.seen.items n true ∙ o.long;
        seen = λ m there.
            let l = o.long in
            ap (λ xs. get_or xs m false) e ∙ set_is old.seen.items n m (omega (arith, there, l)) ∙ ap (λ b. b || (n == m)) (o.seen m there)
            ∙ (ap (λ b. is_in found m || b) (sym (or_none (n == m))) ∙ sym (list_any-append (λ y. y == m) found (n ∷ []))) ∙ ap (λ xs. is_in xs m) (sym f);
        stored = λ a there.
            let l : length new.stored.items ≡ length old.stored.items = ap length g ∙ all_marked_long old.stored.items steps in
            let old_there : a < length old.stored.items = omega (arith, there, l) in
            ap (λ xs. get_or xs a false) g ∙ all_marked_is old.stored.items steps a old_there ∙ ap (λ b. b || is_in (flat_map stored_by steps) a) (o.stored a old_there)
            ∙ ap (λ is. is_in (stored_of bs found) a || is_in (flat_map stored_by is) a) s ∙ sym (stored_with bs found n a) ∙ ap (λ xs. is_in (stored_of bs xs) a) (sym f);
      };
      is = f ∙ sym grown;
      arrays = ap length g ∙ all_marked_long old.stored.items steps;
    }

pub noted_old : (bs : List Block) (old : Order) (n : ℕ) → IsOrder bs old → n < length bs → get_or old.seen.items n false ≡ true → Notes bs old old (noted old.found.items n)
noted_old bs old n o lt seen =
    let found = old.found.items in
    record { order = o; is = sym (ap (λ b. cond b found (found ++ n ∷ [])) (sym (o.seen n lt) ∙ seen)); arrays = refl }

pub notes_none : (bs : List Block) (old : Order) → IsOrder bs old → Notes bs old old old.found.items
notes_none bs old o = record { order = o; is = refl; arrays = refl }

pub notes_twice : (bs : List Block) (old one two : Order) (f : List ℕ → List ℕ) (found : List ℕ) → Notes bs old one found → Notes bs one two (f one.found.items) → Notes bs old two (f found)
notes_twice bs old one two f found a b = record { order = b.order; is = b.is ∙ ap f a.is; arrays = b.arrays ∙ a.arrays }

-- ---- a walk

pub record IsWalking (bs : List Block) (old : Order) (from at n : ℕ) (now : Order) : Type 0 where
  pub order : IsOrder bs now
  pub arrays : length now.stored.items ≡ length old.stored.items
  pub rest : walked bs n at now.found.items ≡ walked bs (length bs) from old.found.items

pub walk_starts : (bs : List Block) (old : Order) (from m : ℕ) → IsOrder bs old → m ≡ length bs → IsWalking bs old from from (m - 0) old
walk_starts bs old from m o e = record { order = o; arrays = refl; rest = (let k : m - 0 ≡ length bs = omega (arith, e) in ap (λ n. walked bs n from old.found.items) k) }

pub walk_goes : (bs : List Block) (old now new : Order) (from at m i number : ℕ) → i < m → IsWalking bs old from at (m - i) now → Some number ≡ slice_get now.found.items at
    → Notes bs now new (noted_all now.found.items (targets_at bs (Some number))) → IsWalking bs old from (at + 1) (m - (i + 1)) new
walk_goes bs old now new from at m i number lt w e h =
    let k : m - i ≡ suc (m - (i + 1)) = omega (arith, lt) in
    let j : suc at ≡ at + 1 = omega arith in
    let n = m - (i + 1) in
    let step : walked bs (m - i) at now.found.items ≡ walked bs n (at + 1) (noted_all now.found.items (targets_at bs (Some number))) =
    ap (λ x. walked bs x at now.found.items) k ∙ ap (λ o. walked bs n (suc at) (noted_all now.found.items (targets_at bs o))) (sym e)
    ∙ ap (λ x. walked bs n x (noted_all now.found.items (targets_at bs (Some number)))) j in
    record { order = h.order; arrays = h.arrays ∙ w.arrays; rest = ap (walked bs n (at + 1)) h.is ∙ (sym step ∙ w.rest) }

walked_past : (bs : List Block) (n at : ℕ) (found : List ℕ) → length found ≤ at → walked bs n at found ≡ found
walked_past bs zero at found ge = refl
walked_past bs (suc n) at found ge =
    ap (λ o. walked bs n (suc at) (noted_all found (targets_at bs o))) (slice_get_past found at ge) ∙ walked_past bs n (suc at) found (omega (arith, ge))

past_of : (found : List ℕ) (at : ℕ) → None ≡ slice_get found at → length found ≤ at
past_of [] at e = omega arith
past_of (x ∷ xs) zero e = absurd (cc)
past_of (x ∷ xs) (suc at) e = let i = past_of xs at e in omega (arith, i)

pub walk_stops : (bs : List Block) (old now : Order) (from at n : ℕ) → IsWalking bs old from at n now → None ≡ slice_get now.found.items at → Notes bs old now (walked bs (length bs) from old.found.items)
walk_stops bs old now from at n w e = record { order = w.order; is = sym (walked_past bs n at now.found.items (past_of now.found.items at e)) ∙ w.rest; arrays = w.arrays }

pub walk_ends : (bs : List Block) (old now : Order) (from at m i : ℕ) → m ≤ i → IsWalking bs old from at (m - i) now → Notes bs old now (walked bs (length bs) from old.found.items)
walk_ends bs old now from at m i le w =
    let k : m - i ≡ 0 = omega (arith, le) in
    record { order = w.order; is = sym (ap (λ n. walked bs n at now.found.items) k) ∙ w.rest; arrays = w.arrays }

pub onward_past : (bs : List Block) (old : Order) (n : ℕ) → IsOrder bs old → None ≡ slice_get bs n → Notes bs old old (noted_all old.found.items (targets_at bs (Some n)))
onward_past bs old n o e =
    let none : block_of bs n ≡ no_block = past bs n e in
    record { order = o; is = sym (ap (λ (b : Block). noted_all old.found.items (targets b.jump)) none); arrays = refl }
  where
    past : (xs : List Block) (i : ℕ) → None ≡ slice_get xs i → block_of xs i ≡ no_block
    past [] i e = refl
    past (x ∷ xs) zero e = absurd (cc)
    past (x ∷ xs) (suc i) e = past xs i e

-- ---- a start

any_flat : (p : ℕ → Bool) (is : List Instr) → list_any p (flat_map stored_by is) ≡ list_any (λ i. list_any p (stored_by i)) is
any_flat p [] = refl
any_flat p (i ∷ is) = list_any-append p (stored_by i) (flat_map stored_by is) ∙ ap (λ b. list_any p (stored_by i) || b) (any_flat p is)

any_same : (p q : ℕ → Bool) (m : ℕ) (xs : List ℕ) → All (λ a. a < m) xs → ((a : ℕ) → a < m → p a ≡ q a) → list_any p xs ≡ list_any q xs
any_same p q m [] h e = refl
any_same p q m (x ∷ xs) h e =
    ap (λ b. b || list_any p xs) (e x (All-head (λ a. a < m) x xs h)) ∙ ap (λ b. q x || b) (any_same p q m xs (All-tail (λ a. a < m) x xs h) e)

pub unmarked_is : (bs : List Block) (o : Order) (n : ℕ) (marks : List Bool) (steps : List Instr) → IsOrder bs o → StoresWithin (length o.stored.items) bs → n < length bs → marks ≡ o.stored.items
    → steps ≡ (block_of bs n).steps → stores_unmarked marks steps ≡ stores_anew bs o.found.items n
unmarked_is bs o n marks steps h within lt m s =
    let b = block_of bs n in
    let fits : All (λ a. a < length o.stored.items) (stored_in b) = All-get_or (λ (x : Block). All (λ a. a < length o.stored.items) (stored_in x)) bs n no_block lt within in
    ap (λ xs. stores_unmarked xs steps) m ∙ ap (stores_unmarked o.stored.items) s ∙ sym (any_flat (λ a. not (get_or o.stored.items a false)) b.steps)
    ∙ any_same (λ a. not (get_or o.stored.items a false)) (λ a. not (is_in (stored_of bs o.found.items) a)) (length o.stored.items) (stored_in b) fits (λ a there. ap not (h.stored a there))

pub not_started : (bs : List Block) (old : Order) (n : ℕ) → IsOrder bs old → stores_anew bs old.found.items n ≡ false → Notes bs old old (from_start bs old.found.items n)
not_started bs old n o e =
    let found = old.found.items in
    record { order = o; is = sym (ap (λ b. cond b (walked bs (length bs) (length found) (found ++ n ∷ [])) found) e); arrays = refl }

pub was_started : (bs : List Block) (old one new : Order) (n from : ℕ) → stores_anew bs old.found.items n ≡ true → from ≡ length old.found.items → Notes bs old one (noted old.found.items n)
    → Notes bs one new (walked bs (length bs) from one.found.items) → Notes bs old new (from_start bs old.found.items n)
was_started bs old one new n from e l a b =
    let found = old.found.items in
    let none : is_in found n ≡ false = out_of found n (start_is_new bs found n e) in
    let grown : noted found n ≡ found ++ n ∷ [] = ap (λ t. cond t found (found ++ n ∷ [])) none in
    record {
      order = b.order;
      is = b.is ∙ ap (walked bs (length bs) from) (a.is ∙ grown) ∙ ap (λ x. walked bs (length bs) x (found ++ n ∷ [])) l
          ∙ sym (ap (λ t. cond t (walked bs (length bs) (length found) (found ++ n ∷ [])) found) e);
      arrays = b.arrays ∙ a.arrays;
    }

-- ---- all starts

pub record AreStarting (bs : List Block) (arrays number n : ℕ) (now : Order) : Type 0 where
  pub order : IsOrder bs now
  pub arrays_are : length now.stored.items ≡ arrays
  pub rest : from_starts bs n number now.found.items ≡ found_blocks bs

pub starts_begin : (bs : List Block) (none one two : Order) (arrays m : ℕ) → none.found.items ≡ [] → length none.stored.items ≡ arrays → m ≡ length bs → Notes bs none one (noted none.found.items 0)
    → Notes bs one two (walked bs (length bs) 0 one.found.items) → AreStarting bs arrays 0 (m - 0) two
starts_begin bs none one two arrays m e l k a b =
    let first : one.found.items ≡ 0 ∷ [] = a.is ∙ ap (λ xs. noted xs 0) e in
    let z : m - 0 ≡ length bs = omega (arith, k) in
    record {
      order = b.order;
      arrays_are = b.arrays ∙ a.arrays ∙ l;
      rest = ap (λ n. from_starts bs n 0 two.found.items) z ∙ ap (from_starts bs (length bs) 0) (b.is ∙ ap (walked bs (length bs) 0) first);
    }

pub next_start : (bs : List Block) (now new : Order) (arrays m i : ℕ) → i < m → AreStarting bs arrays i (m - i) now → Notes bs now new (from_start bs now.found.items i) → AreStarting bs arrays (i + 1) (m - (i + 1)) new
next_start bs now new arrays m i lt s h =
    let k : m - i ≡ suc (m - (i + 1)) = omega (arith, lt) in
    let j : suc i ≡ i + 1 = omega arith in
    let n = m - (i + 1) in
    let step : from_starts bs (m - i) i now.found.items ≡ from_starts bs n (i + 1) (from_start bs now.found.items i) =
    ap (λ x. from_starts bs x i now.found.items) k ∙ ap (λ x. from_starts bs n x (from_start bs now.found.items i)) j in
    record { order = h.order; arrays_are = h.arrays ∙ s.arrays_are; rest = ap (from_starts bs n (i + 1)) h.is ∙ (sym step ∙ s.rest) }

pub starts_end : (bs : List Block) (now : Order) (arrays m i : ℕ) → m ≤ i → AreStarting bs arrays i (m - i) now → now.found.items ≡ found_blocks bs
starts_end bs now arrays m i le s =
    let k : m - i ≡ 0 = omega (arith, le) in
    sym (ap (λ n. from_starts bs n i now.found.items) k) ∙ s.rest

pub nothing_found : (bs : List Block) (o : Order) (m arrays : ℕ) → o.found.items ≡ [] → m ≡ length bs → o.seen.items ≡ replicate m false → o.stored.items ≡ replicate arrays false → IsOrder bs o
nothing_found bs o m arrays f e s t = record {
  long = ap length s ∙ length-replicate m false ∙ e;
  seen = λ n lt. ap (λ xs. get_or xs n false) s ∙ get_or-replicate m n false false (omega (arith, lt, e)) ∙ ap (λ xs. is_in xs n) (sym f);
  stored = λ a lt. ap (λ xs. get_or xs a false) t ∙ get_or-replicate arrays a false false (let l = ap length t ∙ length-replicate arrays false in omega (arith, lt, l)) ∙ ap (λ xs. is_in (stored_of bs xs) a) (sym f);
}

-- ---- items by any default

pub same_default : {A : Type 0} (xs : List A) (i : ℕ) (d e : A) → i < length xs → get_or xs i d ≡ get_or xs i e
same_default [] i d e lt = absurd (omega arith)
same_default (x ∷ xs) zero d e lt = refl
same_default (x ∷ xs) (suc i) d e lt = same_default xs i d e (omega arith)

pub unseen_is : (bs : List Block) (o : Order) (n : ℕ) (x : Bool) → IsOrder bs o → n < length bs → x ≡ get_or o.seen.items n x → x ≡ false → get_or o.seen.items n false ≡ false
unseen_is bs o n x h lt e f = let l = h.long in same_default o.seen.items n false x (omega (arith, l, lt)) ∙ (sym e ∙ f)

pub steps_are : (bs : List Block) (n : ℕ) (b : Block) (is : List Instr) → n < length bs → is ≡ (get_or bs n b).steps → is ≡ (block_of bs n).steps
steps_are bs n b is lt e = e ∙ ap (λ (x : Block). x.steps) (same_default bs n b no_block lt)
