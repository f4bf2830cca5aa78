-- Counts of units, and the first units of their sorts.
use Rattle.std.proofs.Common.{◌≡◌, ◌⊎◌, inl, inr, ℕ, zero, suc, ◌+◌, ◌-◌, ◌<◌, ◌≤◌, nat_lt, nat_le, Bool, true, false, cond, Option, Some, None, is_some, List, length, get_or, take, subst, sym, ap, refl, ◌∙◌, arith}
use Rattle.std.specs.List.{All, sum_by, count_by}
use Rattle.std.proofs.lemmas.Bool.{cases_lt, cases_eq, both_ways, or_cases, or_parts, ltb-true, ltb-false, leb-true, leb-false, lt-ltb, le-ltb, eqb-true}
use Rattle.std.proofs.lemmas.List.{take_all}
use Rattle.std.proofs.lemmas.List.Elements.{All-more}
use Rattle.std.proofs.lemmas.List.Sums.{sum_by_more}
use Rattle.el_base.specs.declared.ty.Array.{Array}
use Rattle.el_base.specs.Limits.{max_elements}
use Rattle.net_types.specs.declared.net.Net.{Net}
use Rattle.net_types.specs.declared.net.Unit.{Unit as Kind}
use Rattle.net_types.specs.declared.net.Unit.TheVariants.{Entry, Param, Sink, Read, Lsq, Exit}
use Rattle.net_check.specs.Headers.{is_entry, is_exit, is_param, is_queue, is_read, IsNamed, IsSecond, ReadsQueued}
use Rattle.net_check.specs.private.Firsts.{IsFirst}
use Rattle.net_check.specs.private.Tallies.{IsTallied, is_second, is_second_at, is_taken, is_faulty}

pub sized_more : (arrays : List Array) (i : ℕ) (a : Array) (rest : ℕ) → i < length arrays → a ≡ get_or arrays i a → 0 < a.len → a.len ≤ rest
    → All (λ (x : Array). 0 < x.len) (take i arrays) × (rest + sum_by (λ (x : Array). x.len) (take i arrays) ≡ max_elements)
    → All (λ (x : Array). 0 < x.len) (take (i + 1) arrays) × (rest - a.len + sum_by (λ (x : Array). x.len) (take (i + 1) arrays) ≡ max_elements)
sized_more arrays i a rest l e p r h =
    let P : Array → Type 0 = λ x. 0 < x.len in
    let s = sum_by_more (λ (x : Array). x.len) arrays i a l in
    let k : (get_or arrays i a).len ≡ a.len = ap (λ (x : Array). x.len) (sym e) in
    let w = h.1 in
    (All-more P arrays i a l h.0 (subst P e p), omega arith)

abbrev pub one_if : Bool → ℕ
one_if b = cond b 1 0

-- one unit more
pub count_more : (q : Kind → Bool) (units : List Kind) (n : ℕ) → n < length units → count_by q (take (n + 1) units) ≡ count_by q (take n units) + one_if (q (get_or units n (Sink 0)))
count_more q units n l = sum_by_more (λ x. cond (q x) 1 0) units n (Sink 0) l

pub count_none : (q : Kind → Bool) (units : List Kind) (n : ℕ) → n ≤ length units → ((k : ℕ) → k < n → q (get_or units k (Sink 0)) ≡ false) → count_by q (take n units) ≡ 0
count_none q units zero l h = refl
count_none q units (suc n) l h =
    let a = count_more q units n (omega arith) in
    let b = count_none q units n (omega arith) (λ k w. h k (omega arith)) in
    let c : one_if (q (get_or units n (Sink 0))) ≡ 0 = ap one_if (h n (omega arith)) in
    let e : count_by q (take (suc n) units) ≡ count_by q (take (n + 1) units) = ap (λ m. count_by q (take m units)) (suc_is n) in
    omega arith
  where
    suc_is : (m : ℕ) → suc m ≡ m + 1
    suc_is m = omega arith

pub count_some : (q : Kind → Bool) (units : List Kind) (n k : ℕ) → n ≤ length units → k < n → q (get_or units k (Sink 0)) ≡ true → 0 < count_by q (take n units)
count_some q units zero k l h t = absurd (omega arith)
count_some q units (suc n) k l h t =
    let a = count_more q units n (omega arith) in
    let e : count_by q (take (suc n) units) ≡ count_by q (take (n + 1) units) = ap (λ m. count_by q (take m units)) (suc_is n) in
    by (cases_eq k n) (λ (x : k ≡ n → ⊥). count_some q units n k (omega arith) (omega arith) t) a e
  where
    suc_is : (m : ℕ) → suc m ≡ m + 1
    suc_is m = omega arith

    by : (k ≡ n) ⊎ (k ≡ n → ⊥) → ((k ≡ n → ⊥) → 0 < count_by q (take n units)) → count_by q (take (n + 1) units) ≡ count_by q (take n units) + one_if (q (get_or units n (Sink 0)))
        → count_by q (take (suc n) units) ≡ count_by q (take (n + 1) units) → 0 < count_by q (take (suc n) units)
    by (inl x) i a e = let c : one_if (q (get_or units n (Sink 0))) ≡ 1 = ap (λ m. one_if (q (get_or units m (Sink 0)))) (sym x) ∙ ap one_if t in omega arith
    by (inr x) i a e = let b = i x in omega arith

-- a test that one unit alone passes
count_only : (q : Kind → Bool) (units : List Kind) (n f : ℕ) → n ≤ length units → q (get_or units f (Sink 0)) ≡ true → ((k : ℕ) → k < n → q (get_or units k (Sink 0)) ≡ true → k ≡ f)
    → count_by q (take n units) ≡ one_if (nat_lt f n)
count_only q units zero f l t h = refl' (cases_lt f 0)
  where
    refl' : (f < 0) ⊎ (0 ≤ f) → count_by q (take zero units) ≡ one_if (nat_lt f 0)
    refl' (inl x) = absurd (omega arith)
    refl' (inr x) = sym (ap one_if (le-ltb f 0 x))
count_only q units (suc n) f l t h =
    let a = count_more q units n (omega arith) in
    let b = count_only q units n f (omega arith) t (λ k w x. h k (omega arith) x) in
    let e : count_by q (take (suc n) units) ≡ count_by q (take (n + 1) units) = ap (λ m. count_by q (take m units)) (suc_is n) in
    by (cases_lt f n) (cases_eq f n) a b e
  where
    suc_is : (m : ℕ) → suc m ≡ m + 1
    suc_is m = omega arith

    no : (f ≡ n → ⊥) → q (get_or units n (Sink 0)) ≡ false
    no x = false_from (q (get_or units n (Sink 0))) (λ y. x (sym (h n (omega arith) y)))
      where
        false_from : (b : Bool) → (b ≡ true → ⊥) → b ≡ false
        false_from true z = absurd (z refl)
        false_from false z = refl

    by : (f < n) ⊎ (n ≤ f) → (f ≡ n) ⊎ (f ≡ n → ⊥) → count_by q (take (n + 1) units) ≡ count_by q (take n units) + one_if (q (get_or units n (Sink 0)))
        → count_by q (take n units) ≡ one_if (nat_lt f n) → count_by q (take (suc n) units) ≡ count_by q (take (n + 1) units)
        → count_by q (take (suc n) units) ≡ one_if (nat_lt f (suc n))
    by (inl x) z a b e =
        let c : one_if (q (get_or units n (Sink 0))) ≡ 0 = ap one_if (no (λ y. (omega arith))) in
        let d : one_if (nat_lt f n) ≡ 1 = ap one_if (lt-ltb f n x) in
        let g : one_if (nat_lt f (suc n)) ≡ 1 = ap one_if (lt-ltb f (suc n) (omega arith)) in
        omega arith
    by (inr x) (inl z) a b e =
        let c : one_if (q (get_or units n (Sink 0))) ≡ 1 = ap (λ m. one_if (q (get_or units m (Sink 0)))) (sym z) ∙ ap one_if t in
        let d : one_if (nat_lt f n) ≡ 0 = ap one_if (le-ltb f n x) in
        let g : one_if (nat_lt f (suc n)) ≡ 1 = ap one_if (lt-ltb f (suc n) (omega arith)) in
        omega arith
    by (inr x) (inr z) a b e =
        let c : one_if (q (get_or units n (Sink 0))) ≡ 0 = ap one_if (no z) in
        let d : one_if (nat_lt f n) ≡ 0 = ap one_if (le-ltb f n x) in
        let g : one_if (nat_lt f (suc n)) ≡ 0 = ap one_if (le-ltb f (suc n) (omega arith)) in
        omega arith

-- the first tells whether a unit before u passes
pub second : (q : Kind → Bool) (units : List Kind) (o : Option ℕ) (u : ℕ) → u ≤ length units → IsFirst q units (length units) o → is_second o u ≡ true → 0 < count_by q (take u units)
second q units None u l f t = cc
second q units (Some m) u l f t = count_some q units u m l (ltb-true m u t) f.1

pub not_second : (q : Kind → Bool) (units : List Kind) (o : Option ℕ) (u : ℕ) → u ≤ length units → IsFirst q units (length units) o → is_second o u ≡ false → 0 < count_by q (take u units) → ⊥
not_second q units None u l f t p = let z = count_none q units u l (λ k h. f k (omega arith)) in omega arith
not_second q units (Some m) u l f t p = let b : u ≤ m = ltb-false m u t in let z = count_none q units u l (λ k h. f.2 k (omega arith)) in omega arith

pub whole : (q : Kind → Bool) (units : List Kind) → count_by q (take (length units) units) ≡ count_by q units
whole q units = ap (count_by q) (take_all (length units) units (omega arith))

pub some_passes : (q : Kind → Bool) (units : List Kind) (o : Option ℕ) → IsFirst q units (length units) o → is_some o ≡ true → 0 < count_by q units
some_passes q units None f t = cc
some_passes q units (Some m) f t = let a = count_some q units (length units) m (omega arith) f.0 f.1 in let w = whole q units in omega arith

pub none_passes : (q : Kind → Bool) (units : List Kind) (o : Option ℕ) → IsFirst q units (length units) o → is_some o ≡ false → count_by q units ≡ 0
none_passes q units None f t = sym (whole q units) ∙ count_none q units (length units) (omega arith) f
none_passes q units (Some m) f t = cc

-- where no unit that passes is a second, the first is the only one
pub only_one : (q : Kind → Bool) (units : List Kind) (m : ℕ) → IsFirst q units (length units) (Some m) → ((u : ℕ) → u < length units → q (get_or units u (Sink 0)) ≡ true → is_second (Some m) u ≡ false)
    → count_by q units ≡ 1
only_one q units m f h =
    let a = count_only q units (length units) m (omega arith) f.1 (λ k l t. one k l t (cases_lt k m)) in
    let g : one_if (nat_lt m (length units)) ≡ 1 = ap one_if (lt-ltb m (length units) f.0) in
    let w = whole q units in omega arith
  where
    one : (k : ℕ) → k < length units → q (get_or units k (Sink 0)) ≡ true → (k < m) ⊎ (m ≤ k) → k ≡ m
    one k l t (inl x) = absurd (both_ways _ (f.2 k x) t)
    one k l t (inr x) = let b : k ≤ m = ltb-false m k (h k l t) in omega arith

pub one_at_most : (q : Kind → Bool) (units : List Kind) (o : Option ℕ) → IsFirst q units (length units) o → ((u : ℕ) → u < length units → q (get_or units u (Sink 0)) ≡ true → is_second o u ≡ false)
    → count_by q units ≤ 1
one_at_most q units None f h = let a = none_passes q units None f refl in omega arith
one_at_most q units (Some m) f h = let a = only_one q units m f h in omega arith

pub exactly_one : (q : Kind → Bool) (units : List Kind) (o : Option ℕ) → IsFirst q units (length units) o → is_some o ≡ true → ((u : ℕ) → u < length units → q (get_or units u (Sink 0)) ≡ true → is_second o u ≡ false)
    → count_by q units ≡ 1
exactly_one q units None f t h = cc
exactly_one q units (Some m) f t h = only_one q units m f h

-- the unit k at the number u is at fault
abbrev pub Fault : Net → ℕ → Kind → Type 0
Fault net u k = (IsNamed net k → ⊥) ⊎ (IsSecond (take u net.units) k ⊎ ReadsQueued net k)

pub faulty : (net : Net) (e x : Option ℕ) (ps qs : List (Option ℕ)) (u : ℕ) (k : Kind) → u ≤ length net.units → IsTallied net e x ps qs → is_faulty e x ps qs u k ≡ true → Fault net u k
faulty net e x ps qs u Entry l t f = inr (inl (second is_entry net.units e u l t.entry f))
faulty net e x ps qs u Exit l t f = inr (inl (second is_exit net.units x u l t.exit f))
faulty net e x ps qs u (Param j) l t f = by (cases_lt j (length net.scalars)) (or_cases _ _ f)
  where
    by : (j < length net.scalars) ⊎ (length net.scalars ≤ j) → (nat_le (length ps) j ≡ true) ⊎ (is_second (get_or ps j None) u ≡ true) → Fault net u (Param j)
    by (inr h) y = inl (λ n. (omega arith))
    by (inl h) (inl y) = let z : length ps ≤ j = leb-true _ _ y in let w = t.params_len in absurd (omega arith)
    by (inl h) (inr y) = inr (inl (second (is_param j) net.units (get_or ps j None) u l (t.params j h) y))
faulty net e x ps qs u (Lsq a d ports gs mark) l t f = by (cases_lt a (length net.arrays)) (or_cases _ _ f)
  where
    by : (a < length net.arrays) ⊎ (length net.arrays ≤ a) → (nat_le (length qs) a ≡ true) ⊎ (is_second (get_or qs a None) u ≡ true) → Fault net u (Lsq a d ports gs mark)
    by (inr h) y = inl (λ n. (omega arith))
    by (inl h) (inl y) = let z : length qs ≤ a = leb-true _ _ y in let w = t.queues_len in absurd (omega arith)
    by (inl h) (inr y) = inr (inl (second (is_queue a) net.units (get_or qs a None) u l (t.queues a h) y))
faulty net e x ps qs u (Read a) l t f = by (cases_lt a (length net.arrays)) (or_cases _ _ f)
  where
    by : (a < length net.arrays) ⊎ (length net.arrays ≤ a) → (nat_le (length qs) a ≡ true) ⊎ (is_some (get_or qs a None) ≡ true) → Fault net u (Read a)
    by (inr h) y = inl (λ n. (omega arith))
    by (inl h) (inl y) = let z : length qs ≤ a = leb-true _ _ y in let w = t.queues_len in absurd (omega arith)
    by (inl h) (inr y) = inr (inr (some_passes (is_queue a) net.units (get_or qs a None) (t.queues a h) y))
faulty net e x ps qs u _ l t f = cc

-- a number that a table of this length does not lack
listed : (n m a : ℕ) → n ≡ m → nat_le n a ≡ false → a < m
listed n m a e f = let z : a < n = leb-false n a f in omega arith

pub named_of : (net : Net) (e x : Option ℕ) (ps qs : List (Option ℕ)) (u : ℕ) (k : Kind) → IsTallied net e x ps qs → is_faulty e x ps qs u k ≡ false → IsNamed net k
named_of net e x ps qs u (Param j) t f = listed _ _ j t.params_len (or_parts _ _ f).0
named_of net e x ps qs u (Lsq a d ports gs mark) t f = listed _ _ a t.queues_len (or_parts _ _ f).0
named_of net e x ps qs u (Read a) t f = listed _ _ a t.queues_len (or_parts _ _ f).0
named_of net e x ps qs u _ t f = tt

pub not_faulty : (net : Net) (e x : Option ℕ) (ps qs : List (Option ℕ)) (u : ℕ) (k : Kind) → u ≤ length net.units → IsTallied net e x ps qs → is_faulty e x ps qs u k ≡ false → Fault net u k → ⊥
not_faulty net e x ps qs u k l t f (inl n) = n (named_of net e x ps qs u k t f)
not_faulty net e x ps qs u Entry l t f (inr (inl s)) = not_second is_entry net.units e u l t.entry f s
not_faulty net e x ps qs u Exit l t f (inr (inl s)) = not_second is_exit net.units x u l t.exit f s
not_faulty net e x ps qs u (Param j) l t f (inr (inl s)) =
    not_second (is_param j) net.units _ u l (t.params j (listed _ _ j t.params_len (or_parts _ _ f).0)) (or_parts _ _ f).1 s
not_faulty net e x ps qs u (Lsq a d ports gs mark) l t f (inr (inl s)) =
    not_second (is_queue a) net.units _ u l (t.queues a (listed _ _ a t.queues_len (or_parts _ _ f).0)) (or_parts _ _ f).1 s
not_faulty net e x ps qs u (Read a) l t f (inr (inr s)) =
    let z : count_by (is_queue a) net.units ≡ 0 = none_passes (is_queue a) net.units (get_or qs a None) (t.queues a (listed _ _ a t.queues_len (or_parts _ _ f).0)) (or_parts _ _ f).1 in omega arith
not_faulty net e x ps qs u _ l t f (inr (inl s)) = s
not_faulty net e x ps qs u _ l t f (inr (inr s)) = s

-- what the firsts tell of a unit of each sort
pub entry_told : (e x : Option ℕ) (ps qs : List (Option ℕ)) (u : ℕ) (k : Kind) → is_entry k ≡ true → is_faulty e x ps qs u k ≡ false → is_second e u ≡ false
entry_told e x ps qs u Entry t f = f
entry_told e x ps qs u _ t f = cc

pub exit_told : (e x : Option ℕ) (ps qs : List (Option ℕ)) (u : ℕ) (k : Kind) → is_exit k ≡ true → is_faulty e x ps qs u k ≡ false → is_second x u ≡ false
exit_told e x ps qs u Exit t f = f
exit_told e x ps qs u _ t f = cc

pub param_told : (e x : Option ℕ) (ps qs : List (Option ℕ)) (u j : ℕ) (k : Kind) → is_param j k ≡ true → is_faulty e x ps qs u k ≡ false → is_second_at ps j u ≡ false
param_told e x ps qs u j (Param i) t f = let P : ℕ → Type 0 = λ n. is_second_at ps n u ≡ false in subst P (eqb-true i j t) f
param_told e x ps qs u j _ t f = cc

pub queue_told : (e x : Option ℕ) (ps qs : List (Option ℕ)) (u a : ℕ) (k : Kind) → is_queue a k ≡ true → is_faulty e x ps qs u k ≡ false → is_second_at qs a u ≡ false
queue_told e x ps qs u a (Lsq b d ports gs mark) t f = let P : ℕ → Type 0 = λ n. is_second_at qs n u ≡ false in subst P (eqb-true b a t) f
queue_told e x ps qs u a _ t f = cc

pub read_told : (e x : Option ℕ) (ps qs : List (Option ℕ)) (u a : ℕ) (k : Kind) → is_read a k ≡ true → is_faulty e x ps qs u k ≡ false → is_taken qs a ≡ false
read_told e x ps qs u a (Read b) t f = let P : ℕ → Type 0 = λ n. is_taken qs n ≡ false in subst P (eqb-true b a t) f
read_told e x ps qs u a _ t f = cc
