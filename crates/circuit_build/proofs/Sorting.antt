-- The accesses sorted by their arrays: the table's places are those of each array, and a queue of its own accesses is the queue among all.
use Rattle.std.proofs.Common.{◌≡◌, ◌≢◌, ◌<◌, ◌≤◌, ◌==◌, ℕ, ◌+◌, Bool, true, false, cond, max, List, [], ◌∷◌, ◌++◌, length, get_or, drop, slice_get, Option, Some, None, refl, sym, ap, ◌∙◌, subst, arith, append_assoc, replicate}
use Rattle.std.proofs.lemmas.List.{get_or-set_same, get_or-set_other, drop_more, drop_all, append-nil, get_or-replicate}
use Rattle.std.proofs.lemmas.Bool.Decides.{nat_tests}
use Rattle.std.proofs.lemmas.Option.{get_or_from_slice_get, slice_get_within}
use Rattle.ir.specs.declared.graph.Block.{Block}
use Rattle.ir.specs.declared.groups.Access.{Access}
use Rattle.circuit_build.specs.declared.draft.Draft.{Draft}
use Rattle.circuit_build.specs.Drafts.{number}
use Rattle.circuit_build.specs.Fronts.{ports_of, numbers_from, number_after, groups_from, depth_from, queue_if}
use Rattle.circuit_build.specs.Sorting.{own, with_one, picked, put_at, ports_for, all_ports, all_groups, greatest_depth, own_queue}

-- ---- a queue of its own accesses

own_ports : (a : ℕ) (blocks : List Block) (xs : List Access) → all_ports blocks (own a xs) ≡ ports_of a blocks xs
own_ports a blocks [] = refl
own_ports a blocks (x ∷ xs) = by_test (x.array == a) (own_ports a blocks xs)
  where
    by_test : (t : Bool) → all_ports blocks (own a xs) ≡ ports_of a blocks xs → all_ports blocks (cond t (x ∷ own a xs) (own a xs)) ≡ cond t (ports_for blocks x) [] ++ ports_of a blocks xs
    by_test true h = ap (λ ps. ports_for blocks x ++ ps) h
    by_test false h = h

own_groups : (a p : ℕ) (xs : List Access) → all_groups p (own a xs) ≡ groups_from a p xs
own_groups a p [] = refl
own_groups a p (x ∷ xs) = by_test (x.array == a) (λ q. own_groups a q xs)
  where
    by_test : (t : Bool) → ((q : ℕ) → all_groups q (own a xs) ≡ groups_from a q xs)
        → all_groups p (cond t (x ∷ own a xs) (own a xs)) ≡ cond t (numbers_from p x.steps ∷ groups_from a (number_after p x.steps) xs) (groups_from a p xs)
    by_test true h = ap (λ gs. numbers_from p x.steps ∷ gs) (h (number_after p x.steps))
    by_test false h = h p

own_depth : (a m : ℕ) (xs : List Access) → greatest_depth m (own a xs) ≡ depth_from a m xs
own_depth a m [] = refl
own_depth a m (x ∷ xs) = by_test (x.array == a) (λ n. own_depth a n xs)
  where
    by_test : (t : Bool) → ((n : ℕ) → greatest_depth n (own a xs) ≡ depth_from a n xs)
        → greatest_depth m (cond t (x ∷ own a xs) (own a xs)) ≡ cond t (depth_from a (max m (number (length x.steps))) xs) (depth_from a m xs)
    by_test true h = h (max m (number (length x.steps)))
    by_test false h = h m

pub queue_of_own : (a : ℕ) (blocks : List Block) (xs ys : List Access) (d : Draft) → ys ≡ own a xs
    → queue_if a (all_ports blocks ys) (all_groups 0 ys) (greatest_depth 16 ys) d ≡ own_queue blocks xs a d
queue_of_own a blocks xs ys d e = rw e (rw (own_ports a blocks xs) (rw (own_groups a 0 xs) (rw (own_depth a 16 xs) refl)))

-- ---- one place on

picked_next : (xs : List Access) (is : List ℕ) (k : ℕ) → k < length is → picked xs (drop k is) ≡ with_one (slice_get xs (get_or is k 0)) (picked xs (drop (k + 1) is))
picked_next xs is k lt = ap (picked xs) (drop_more is k 0 lt)

pub picked_one : (xs : List Access) (is : List ℕ) (k : ℕ) (x : Access) → k < length is → slice_get xs (get_or is k 0) ≡ Some x → picked xs (drop k is) ≡ x ∷ picked xs (drop (k + 1) is)
picked_one xs is k x lt e = picked_next xs is k lt ∙ ap (λ o. with_one o (picked xs (drop (k + 1) is))) e

pub picked_none : (xs : List Access) (is : List ℕ) (k : ℕ) → k < length is → slice_get xs (get_or is k 0) ≡ None → picked xs (drop k is) ≡ picked xs (drop (k + 1) is)
picked_none xs is k lt e = picked_next xs is k lt ∙ ap (λ o. with_one o (picked xs (drop (k + 1) is))) e

-- ---- the table

equal : (a b : ℕ) → (a == b) ≡ true → a ≡ b
equal a b h = grind (arith, nat_tests)

unequal : (a b : ℕ) → (a == b) ≡ false → a ≢ b
unequal a b h = grind (arith, nat_tests)

with_one-append : (x : Option Access) (ys zs : List Access) → with_one x ys ++ zs ≡ with_one x (ys ++ zs)
with_one-append None ys zs = refl
with_one-append (Some x) ys zs = refl

picked-append : (xs : List Access) (is js : List ℕ) → picked xs (is ++ js) ≡ picked xs is ++ picked xs js
picked-append xs [] js = refl
picked-append xs (i ∷ is) js = ap (with_one (slice_get xs i)) (picked-append xs is js) ∙ sym (with_one-append (slice_get xs i) (picked xs is) (picked xs js))

-- one more place is one more access
picked_more : (xs : List Access) (is : List ℕ) (i : ℕ) (x : Access) → slice_get xs i ≡ Some x → picked xs (is ++ i ∷ []) ≡ picked xs is ++ x ∷ []
picked_more xs is i x e = picked-append xs is (i ∷ []) ∙ ap (λ o. picked xs is ++ with_one o []) e

rest_own : (a i : ℕ) (xs : List Access) (x : Access) → slice_get xs i ≡ Some x → own a (drop i xs) ≡ cond (x.array == a) (x ∷ own a (drop (i + 1) xs)) (own a (drop (i + 1) xs))
rest_own a i xs x e =
    let lt = slice_get_within xs i x e in
    ap (own a) (drop_more xs i x lt) ∙ ap (λ y. own a (y ∷ drop (i + 1) xs)) (get_or_from_slice_get xs i x x e)

-- the places so far, with the accesses of the array that are left, are all accesses of the array
pub one_put : (table : List (List ℕ)) (xs : List Access) (i a : ℕ) (x : Access) → slice_get xs i ≡ Some x → a < length table
    → picked xs (get_or table a []) ++ own a (drop i xs) ≡ own a xs
    → picked xs (get_or (put_at table x.array i) a []) ++ own a (drop (i + 1) xs) ≡ own a xs
one_put table xs i a x e lt h = by_test (x.array == a) refl
  where
    by_test : (t : Bool) → (x.array == a) ≡ t → picked xs (get_or (put_at table x.array i) a []) ++ own a (drop (i + 1) xs) ≡ own a xs
    by_test true is =
        let same : a ≡ x.array = sym (equal x.array a is) in
        let here : get_or (put_at table x.array i) a [] ≡ get_or table a [] ++ i ∷ [] =
        subst (λ b. get_or (put_at table b i) a [] ≡ get_or table a [] ++ i ∷ []) same (get_or-set_same table a (get_or table a [] ++ i ∷ []) [] lt) in
        let left : own a (drop i xs) ≡ x ∷ own a (drop (i + 1) xs) = rest_own a i xs x e ∙ ap (λ t. cond t (x ∷ own a (drop (i + 1) xs)) (own a (drop (i + 1) xs))) is in
        ap (λ is. picked xs is ++ own a (drop (i + 1) xs)) here
        ∙ ap (λ ys. ys ++ own a (drop (i + 1) xs)) (picked_more xs (get_or table a []) i x e)
        ∙ append_assoc (picked xs (get_or table a [])) (x ∷ []) (own a (drop (i + 1) xs))
        ∙ ap (λ ys. picked xs (get_or table a []) ++ ys) (sym left)
        ∙ h
    by_test false is =
        let other : a ≢ x.array = λ s. unequal x.array a is (sym s) in
        let here : get_or (put_at table x.array i) a [] ≡ get_or table a [] = get_or-set_other table x.array a (get_or table x.array [] ++ i ∷ []) [] other in
        let left : own a (drop i xs) ≡ own a (drop (i + 1) xs) = rest_own a i xs x e ∙ ap (λ t. cond t (x ∷ own a (drop (i + 1) xs)) (own a (drop (i + 1) xs))) is in
        ap (λ is. picked xs is ++ own a (drop (i + 1) xs)) here ∙ ap (λ ys. picked xs (get_or table a []) ++ ys) (sym left) ∙ h

-- at first no place is known
pub none_put : (xs : List Access) (n a : ℕ) → a < n → picked xs (get_or (replicate n []) a []) ++ own a xs ≡ own a xs
none_put xs n a lt = ap (λ is. picked xs is ++ own a xs) (get_or-replicate n a [] [] lt)

-- at last no access is left
pub all_put : (table : List (List ℕ)) (xs : List Access) (i a : ℕ) → length xs ≤ i → picked xs (get_or table a []) ++ own a (drop i xs) ≡ own a xs → picked xs (get_or table a []) ≡ own a xs
all_put table xs i a le h =
    sym (append-nil (picked xs (get_or table a []))) ∙ ap (λ ys. picked xs (get_or table a []) ++ own a ys) (sym (drop_all i xs le)) ∙ h
