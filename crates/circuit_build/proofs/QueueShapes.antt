-- The shape of queues: each port is in one group.
use Rattle.std.proofs.Common.{◌≡◌, ℕ, suc, ◌+◌, ◌^◌, ◌<◌, ◌≤◌, List, [], ◌∷◌, ◌++◌, length, Bool, true, false, refl, sym, subst, ap, arith, inl, inr, length-append}
use Rattle.std.specs.Prelude.{cond, max, ◌==◌, sum_by, slice_get, All}
use Rattle.std.specs.List.{concat, count_by}
use Rattle.std.proofs.lemmas.Bool.{eq-eqb, ne_eqb, cases_eq, cases_lt}
use Rattle.std.proofs.lemmas.List.Sums.{sum_by-cons, sum_by-append}
use Rattle.std.proofs.lemmas.List.Elements.{All-nil, All-cons, All-head, All-tail, All-append}
use Rattle.el_base.specs.declared.ty.Array.{Array}
use Rattle.ir.specs.declared.graph.Block.{Block}
use Rattle.ir.specs.declared.groups.Access.{Access}
use Rattle.ir.specs.declared.groups.Groups.{Groups}
use Rattle.ir.specs.declared.instr.Instr.{Instr}
use Rattle.ir.specs.Accesses.{accesses_in, places_from, access_if, block_accesses, accesses_from}
use Rattle.ir.specs.Graphs.{Graph, block_weight, size}
use Rattle.net_types.specs.declared.net.Port.{Port}
use Rattle.net_types.specs.declared.net.Unit.{Unit as Kind}
use Rattle.net_types.specs.declared.net.Unit.TheVariants.{Entry, Lsq}
use Rattle.net_types.specs.Queues.{IsGroup, IsQueueShape}
use Rattle.net_check.specs.Shapes.{HasShape, IsCount}
use Rattle.circuit_build.specs.declared.draft.Draft.{Draft}
use Rattle.circuit_build.specs.Asks.{IsAsked}
use Rattle.circuit_build.specs.Drafts.{number, with_unit, plus}
use Rattle.circuit_build.specs.Fronts.{started, entered, ports_at, steps_of, access_ports, ports_of, numbers_from, number_after, groups_from, depth_from, queue_if, queues_laid}
use Rattle.circuit_build.specs.Built.{front_of}
use Rattle.circuit_build.specs.Shaped.{UnitsAreShaped}
use Rattle.circuit_build.proofs.Accesses.{places_many, ons_few, places_in, block_places}
use Rattle.circuit_build.proofs.Growth.{few_accesses}
use Rattle.circuit_build.proofs.Keeps as keeps
use Rattle.circuit_build.proofs.Keeps.{Laid}
use Rattle.circuit_build.proofs.Ways.{AtMost, heads_fit, forks_fit, few_fit}

-- ---- how many ports

-- the places of the accesses of an array
abbrev pub mine : ℕ → List Access → ℕ
mine a [] = 0
mine a (x ∷ xs) = cond (x.array == a) (length x.steps) 0 + mine a xs

ports_at_many : (steps : List Instr) (is : List ℕ) → length (ports_at steps is) ≡ length is
ports_at_many steps [] = refl
ports_at_many steps (i ∷ is) = ap suc (ports_at_many steps is)

if_many : (t : Bool) (ps : List Port) (n : ℕ) → length ps ≡ n → length (cond t ps []) ≡ cond t n 0
if_many true ps n e = e
if_many false ps n e = refl

pub ports_many : (a : ℕ) (blocks : List Block) (xs : List Access) → length (ports_of a blocks xs) ≡ mine a xs
ports_many a blocks [] = refl
ports_many a blocks (x ∷ xs) =
    let ss = steps_of (slice_get blocks x.block) in
    let e = if_many (x.array == a) (ports_at ss x.steps) (length x.steps) (ports_at_many ss x.steps) in
    let l = length-append (access_ports a blocks x) (ports_of a blocks xs) in
    let h = ports_many a blocks xs in
    omega (arith, e, l, h)

if_less : (t : Bool) (n : ℕ) → cond t n 0 ≤ n
if_less true n = omega arith
if_less false n = omega arith

pub mine_few : (a : ℕ) (xs : List Access) → mine a xs ≤ places_in xs
mine_few a [] = omega arith
mine_few a (x ∷ xs) =
    let e = if_less (x.array == a) (length x.steps) in
    let s = sum_by-cons (λ (y : Access). length y.steps) x xs in
    let h = mine_few a xs in
    omega (arith, e, s, h)

-- ---- the numbers of a group

pub numbers_many : (p : ℕ) (is : List ℕ) → length (numbers_from p is) ≡ length is
numbers_many p [] = refl
numbers_many p (i ∷ is) = ap suc (numbers_many (plus p 1) is)

pub after_many : (p : ℕ) (is : List ℕ) → p + length is < 2 ^ 32 → number_after p is ≡ p + length is
after_many p [] lt = omega arith
after_many p (i ∷ is) lt = let h = after_many (plus p 1) is (omega arith) in omega (arith, h, lt)

abbrev pub times : ℕ → List ℕ → ℕ
times q ns = count_by (λ n. n == q) ns

times_own : (q n : ℕ) (ns : List ℕ) → n ≡ q → times q (n ∷ ns) ≡ 1 + times q ns
times_own q n ns same = let s = sum_by-cons (λ m. cond (m == q) 1 0) n ns in let e = ap {B = ℕ} (λ t. cond t 1 0) (eq-eqb n q same) in omega (arith, s, e)

times_other : (q n : ℕ) (ns : List ℕ) → ¬ (n ≡ q) → times q (n ∷ ns) ≡ times q ns
times_other q n ns ne = let s = sum_by-cons (λ m. cond (m == q) 1 0) n ns in let e = ap {B = ℕ} (λ t. cond t 1 0) (ne_eqb n q ne) in omega (arith, s, e)

numbers_below : (q p : ℕ) (is : List ℕ) → q < p → p + length is < 2 ^ 32 → times q (numbers_from p is) ≡ 0
numbers_below q p [] lt few = refl
numbers_below q p (i ∷ is) lt few =
    let h = numbers_below q (plus p 1) is (omega arith) (omega arith) in
    let e = times_other q p (numbers_from (plus p 1) is) (λ e. absurd (omega (arith, e, lt))) in
    omega (arith, h, e)

numbers_past : (q p : ℕ) (is : List ℕ) → p + length is ≤ q → p + length is < 2 ^ 32 → times q (numbers_from p is) ≡ 0
numbers_past q p [] le few = refl
numbers_past q p (i ∷ is) le few =
    let h = numbers_past q (plus p 1) is (omega arith) (omega arith) in
    let e = times_other q p (numbers_from (plus p 1) is) (λ e. absurd (omega (arith, e, le))) in
    omega (arith, h, e)

numbers_once : (q p : ℕ) (is : List ℕ) → p ≤ q → q < p + length is → p + length is < 2 ^ 32 → times q (numbers_from p is) ≡ 1
numbers_once q p [] le lt few = absurd (omega arith)
numbers_once q p (i ∷ is) le lt few =
    elim (cases_eq p q) [
      | inl same ↦ (let h = numbers_below q (plus p 1) is (omega (arith, same, few)) (omega arith) in let e = times_own q p (numbers_from (plus p 1) is) same in omega (arith, h, e))
      | inr ne ↦ (let next : p < q = not_last p q le ne in
          let h = numbers_once q (plus p 1) is (omega arith) (omega arith) (omega arith) in
          let e = times_other q p (numbers_from (plus p 1) is) ne in
          omega (arith, h, e))
    ]
  where
    not_last : (i j : ℕ) → i ≤ j → ¬ (i ≡ j) → i < j
    not_last i j le ne = grind (arith, le, ne)

numbers_named : (m p : ℕ) (is : List ℕ) → p + length is ≤ m → m < 2 ^ 32 → All (λ n. n < m) (numbers_from p is)
numbers_named m p [] le few = All-nil (λ n. n < m)
numbers_named m p (i ∷ is) le few = All-cons (λ n. n < m) p (numbers_from (plus p 1) is) (omega arith) (numbers_named m (plus p 1) is (omega arith) few)

-- ---- the groups of a queue

-- each number from p on, of n numbers, is in one of them, once, and no other number is
pub record AreGroups (p n : ℕ) (gs : List (List ℕ)) : Type 0 where
  pub once : (q : ℕ) → p ≤ q → q < p + n → times q (concat gs) ≡ 1
  pub below : (q : ℕ) → q < p → times q (concat gs) ≡ 0
  pub past : (q : ℕ) → p + n ≤ q → times q (concat gs) ≡ 0

no_groups : (p : ℕ) → AreGroups p 0 []
no_groups p = record { once = λ q le lt. absurd (omega (arith, le, lt)); below = λ q lt. refl; past = λ q le. refl }

joined_times : (q : ℕ) (ns ms : List ℕ) → times q (ns ++ ms) ≡ times q ns + times q ms
joined_times q ns ms = sum_by-append (λ m. cond (m == q) 1 0) ns ms

more_groups : (p n : ℕ) (is : List ℕ) (gs : List (List ℕ)) → p + length is + n < 2 ^ 32 → AreGroups (p + length is) n gs → AreGroups p (length is + n) (numbers_from p is ∷ gs)
more_groups p n is gs few h =
    record {
      once = λ q le lt. once_in q p n is gs few h le lt;
      below = λ q lt. (let e = joined_times q (numbers_from p is) (concat gs) in let a = numbers_below q p is lt (omega (arith, few)) in let b = h.below q (omega (arith, lt)) in omega (arith, e, a, b));
      past = λ q le. (let e = joined_times q (numbers_from p is) (concat gs) in let a = numbers_past q p is (omega (arith, le)) (omega (arith, few)) in let b = h.past q (omega (arith, le)) in omega (arith, e, a, b));
    }
  where
    once_in : (q p n : ℕ) (is : List ℕ) (gs : List (List ℕ)) → p + length is + n < 2 ^ 32 → AreGroups (p + length is) n gs → p ≤ q → q < p + (length is + n) → times q (numbers_from p is ++ concat gs) ≡ 1
    once_in q p n is gs few h le lt =
        let e = joined_times q (numbers_from p is) (concat gs) in
        elim (cases_lt q (p + length is)) [
          | inl own ↦ (let a = numbers_once q p is le own (omega (arith, few)) in let b = h.below q own in omega (arith, e, a, b))
          | inr after ↦ (let a = numbers_past q p is after (omega (arith, few)) in let b = h.once q after (omega (arith, lt)) in omega (arith, e, a, b))
        ]

groups_if : (t : Bool) (a p : ℕ) (x : Access) (xs : List Access) → p + (cond t (length x.steps) 0 + mine a xs) < 2 ^ 32 → ((q : ℕ) → q + mine a xs < 2 ^ 32 → AreGroups q (mine a xs) (groups_from a q xs))
    → AreGroups p (cond t (length x.steps) 0 + mine a xs) (cond t (numbers_from p x.steps ∷ groups_from a (number_after p x.steps) xs) (groups_from a p xs))
groups_if true a p x xs few h =
    let e = after_many p x.steps (omega (arith, few)) in
    let rest = h (p + length x.steps) (omega (arith, few)) in
    more_groups p (mine a xs) x.steps (groups_from a (number_after p x.steps) xs) (omega (arith, few)) (subst (λ q. AreGroups (p + length x.steps) (mine a xs) (groups_from a q xs)) (sym e) rest)
groups_if false a p x xs few h = let e : mine a xs ≡ 0 + mine a xs = omega arith in subst (λ n. AreGroups p n (groups_from a p xs)) e (h p (omega (arith, few)))

groups_number : (a : ℕ) (xs : List Access) (p : ℕ) → p + mine a xs < 2 ^ 32 → AreGroups p (mine a xs) (groups_from a p xs)
groups_number a [] p few = no_groups p
groups_number a (x ∷ xs) p few = groups_if (x.array == a) a p x xs few (groups_number a xs)

-- ---- the depth

abbrev Fits : Access → Type 0
Fits x = (0 < length x.steps) × (length x.steps ≤ 1024)

deeper_if : (t : Bool) (a k j : ℕ) (xs : List Access) → ((i : ℕ) → i ≤ depth_from a i xs) → k ≤ j → k ≤ cond t (depth_from a j xs) (depth_from a k xs)
deeper_if true a k j xs h le = let i = h j in omega (arith, i, le)
deeper_if false a k j xs h le = h k

depth_low : (a : ℕ) (xs : List Access) (k : ℕ) → k ≤ depth_from a k xs
depth_low a [] k = omega arith
depth_low a (x ∷ xs) k = deeper_if (x.array == a) a k (max k (number (length x.steps))) xs (depth_low a xs) (omega arith)

most_if : (t : Bool) (a k j : ℕ) (xs : List Access) → ((i : ℕ) → i ≤ 1024 → depth_from a i xs ≤ 1024) → k ≤ 1024 → j ≤ 1024 → cond t (depth_from a j xs) (depth_from a k xs) ≤ 1024
most_if true a k j xs h x y = h j y
most_if false a k j xs h x y = h k x

depth_most : (a : ℕ) (xs : List Access) → All Fits xs → (k : ℕ) → k ≤ 1024 → depth_from a k xs ≤ 1024
depth_most a [] fit k le = le
depth_most a (x ∷ xs) fit k le =
    let f = All-head Fits x xs fit in
    let one : length x.steps ≤ 1024 = f.1 in
    most_if (x.array == a) a k (max k (number (length x.steps))) xs (depth_most a xs (All-tail Fits x xs fit)) le (omega (arith, le, one))

-- ---- each group

each_if : (t : Bool) (a p k m n : ℕ) (x : Access) (xs : List Access) → Fits x → cond t (depth_from a (max k (number (length x.steps))) xs) (depth_from a k xs) ≤ m
    → p + (cond t (length x.steps) 0 + mine a xs) ≤ n → n < 2 ^ 32 → ((q i : ℕ) → depth_from a i xs ≤ m → q + mine a xs ≤ n → All (IsGroup m n) (groups_from a q xs))
    → All (IsGroup m n) (cond t (numbers_from p x.steps ∷ groups_from a (number_after p x.steps) xs) (groups_from a p xs))
each_if false a p k m n x xs fit deep le few h = h p k deep (omega (arith, le))
each_if true a p k m n x xs fit deep le few h =
    let some : 0 < length x.steps = fit.0 in
    let most : length x.steps ≤ 1024 = fit.1 in
    let j : ℕ = max k (number (length x.steps)) in
    let low = depth_low a xs j in
    let many = numbers_many p x.steps in
    let e = after_many p x.steps (omega (arith, le, few)) in
    let group : IsGroup m n (numbers_from p x.steps) = record { some = omega (arith, some, many); room = omega (arith, many, low, deep, most); named = numbers_named n p x.steps (omega (arith, le)) few } in
    All-cons (IsGroup m n) (numbers_from p x.steps) (groups_from a (number_after p x.steps) xs) group (h (number_after p x.steps) j deep (omega (arith, e, le)))

each_group : (a m n : ℕ) (xs : List Access) → All Fits xs → n < 2 ^ 32 → (p k : ℕ) → depth_from a k xs ≤ m → p + mine a xs ≤ n → All (IsGroup m n) (groups_from a p xs)
each_group a m n [] fit few p k deep le = All-nil (IsGroup m n)
each_group a m n (x ∷ xs) fit few p k deep le = each_if (x.array == a) a p k m n x xs (All-head Fits x xs fit) deep le few (each_group a m n xs (All-tail Fits x xs fit) few)

few_if : (t : Bool) (a p : ℕ) (x : Access) (xs : List Access) → Fits x → ((q : ℕ) → length (groups_from a q xs) ≤ mine a xs)
    → length (cond t (numbers_from p x.steps ∷ groups_from a (number_after p x.steps) xs) (groups_from a p xs)) ≤ cond t (length x.steps) 0 + mine a xs
few_if true a p x xs fit h = let i = h (number_after p x.steps) in let some : 0 < length x.steps = fit.0 in omega (arith, i, some)
few_if false a p x xs fit h = let i = h p in omega (arith, i)

pub groups_few : (a : ℕ) (xs : List Access) → All Fits xs → (p : ℕ) → length (groups_from a p xs) ≤ mine a xs
groups_few a [] fit p = omega arith
groups_few a (x ∷ xs) fit p = few_if (x.array == a) a p x xs (All-head Fits x xs fit) (groups_few a xs (All-tail Fits x xs fit))

-- ---- the shape of a queue that is laid

queue_shape : (a : ℕ) (blocks : List Block) (xs : List Access) (g : List ℕ) (gs : List (List ℕ)) → All Fits xs → places_in xs < 2 ^ 32 → groups_from a 0 xs ≡ g ∷ gs
    → IsQueueShape (depth_from a 16 xs) (ports_of a blocks xs) (g ∷ gs)
queue_shape a blocks xs g gs fit few is =
    let n = mine a xs in
    let less = mine_few a xs in
    let many = ports_many a blocks xs in
    let groups = groups_few a xs fit 0 in
    let some : length (groups_from a 0 xs) ≡ suc (length gs) = ap (λ (hs : List (List ℕ)). length hs) is in
    let numbers : AreGroups 0 n (g ∷ gs) = subst (AreGroups 0 n) is (groups_number a xs 0 (omega (arith, less, few))) in
    let m = depth_from a 16 xs in
    let each : All (IsGroup m (length (ports_of a blocks xs))) (groups_from a 0 xs) = each_group a m (length (ports_of a blocks xs)) xs fit (omega (arith, many, less, few)) 0 16 (omega arith) (omega (arith, many)) in
    record {
      some_port = omega (arith, many, groups, some);
      some_group = omega arith;
      each_group = subst (All (IsGroup m (length (ports_of a blocks xs)))) is each;
      each_port = λ p lt. numbers.once p (omega arith) (omega (arith, many, lt));
      depth_at_most = depth_most a xs fit 16 (omega arith);
    }

-- ---- all accesses

access_fits : (n a : ℕ) (ps : List ℕ) → length ps ≤ 1024 → All Fits (access_if n a ps)
access_fits n a [] le = All-nil Fits
access_fits n a (p ∷ ps) le = All-cons Fits (record { block = n; array = a; steps = p ∷ ps }) [] (omega arith, le) (All-nil Fits)

block_fits : (n a : ℕ) (ss : List Instr) (rs : List Bool) → accesses_in ss ≤ 1024 → All Fits (block_accesses n ss a rs)
block_fits n a ss [] le = All-nil Fits
block_fits n a ss (true ∷ rs) le = block_fits n (suc a) ss rs le
block_fits n a ss (false ∷ rs) le =
    let m = places_many a 0 ss in
    let o = ons_few (true ∷ []) a ss in
    All-append Fits (access_if n a (places_from a 0 ss)) (block_accesses n ss (suc a) rs) (access_fits n a (places_from a 0 ss) (omega (arith, m, o, le))) (block_fits n (suc a) ss rs le)

abbrev HasFew : Block → Type 0
HasFew b = accesses_in b.steps ≤ 1024

all_fit : (rs : List Bool) (n : ℕ) (bs : List Block) → All HasFew bs → All Fits (accesses_from rs n bs)
all_fit rs n [] h = All-nil Fits
all_fit rs n (b ∷ bs) h = All-append Fits (block_accesses n b.steps 0 rs) (accesses_from rs (suc n) bs) (block_fits n 0 b.steps rs (All-head HasFew b bs h)) (all_fit rs (suc n) bs (All-tail HasFew b bs h))

all_places : (rs : List Bool) (n : ℕ) (bs : List Block) → places_in (accesses_from rs n bs) ≤ sum_by block_weight bs
all_places rs n [] = omega arith
all_places rs n (b ∷ bs) =
    let e = sum_by-append (λ (x : Access). length x.steps) (block_accesses n b.steps 0 rs) (accesses_from rs (suc n) bs) in
    let p = block_places n 0 b.steps rs in
    let o = ons_few rs 0 b.steps in
    let f = few_accesses b.steps in
    let s = sum_by-cons block_weight b bs in
    let h = all_places rs (suc n) bs in
    omega (arith, e, p, o, f, s, h)

pub accesses_fit : (g : Graph) (gs : Groups) → IsAsked g gs → All Fits gs.of
accesses_fit g gs ask = subst (All Fits) (sym ask.share.accesses) (all_fit gs.read_only 0 g.blocks ask.small.accesses)

pub places_few : (g : Graph) (gs : Groups) → IsAsked g gs → places_in gs.of ≤ size g
places_few g gs ask = subst (λ xs. places_in xs ≤ size g) (sym ask.share.accesses) (all_places gs.read_only 0 g.blocks)

-- ---- all queues

abbrev AreShaped : Draft → Type 0
AreShaped d = All HasShape d.units

more_shaped : (k : Kind) (d : Draft) → HasShape k → AreShaped d → AreShaped (with_unit k d)
more_shaped k d f h = All-append HasShape d.units (k ∷ []) h (All-cons HasShape k [] f (All-nil HasShape))

queue_if_shaped : (a : ℕ) (blocks : List Block) (xs : List Access) (gs : List (List ℕ)) (d : Draft) → All Fits xs → places_in xs < 2 ^ 32 → groups_from a 0 xs ≡ gs → AreShaped d
    → AreShaped (queue_if a (ports_of a blocks xs) gs (depth_from a 16 xs) d)
queue_if_shaped a blocks xs [] d fit few is h = h
queue_if_shaped a blocks xs (g ∷ gs) d fit few is h = more_shaped (Lsq a (depth_from a 16 xs) (ports_of a blocks xs) (g ∷ gs) false) d (queue_shape a blocks xs g gs fit few is) h

queues_shaped : (blocks : List Block) (of : List Access) (a : ℕ) (xs : List Array) (d : Draft) → All Fits of → places_in of < 2 ^ 32 → AreShaped d → AreShaped (queues_laid blocks of a xs d)
queues_shaped blocks of a [] d fit few h = h
queues_shaped blocks of a (x ∷ xs) d fit few h =
    queues_shaped blocks of (plus a 1) xs (queue_if a (ports_of a blocks of) (groups_from a 0 of) (depth_from a 16 of) d) fit few (queue_if_shaped a blocks of (groups_from a 0 of) d fit few refl h)

shaped : Laid HasShape IsCount AtMost
shaped = record {
  const = λ w n. tt;
  op1 = λ op. tt;
  op2 = λ op. tt;
  select = λ w. tt;
  fork1 = λ w. record { some = omega arith; most = omega arith };
  forks = λ w n l o. record { some = l; most = o };
  mux = λ w n i. i;
  merge = λ n i. i;
  branch = λ w. tt;
  sink = λ w. tt;
}

pub units_shaped : UnitsAreShaped
units_shaped g gs ask =
    let small = places_few g gs ask in
    let bound = ask.small.bounded in
    let same : (d e : Draft) → e.units ≡ d.units → e.chans ≡ d.chans → AreShaped d → AreShaped e = λ d e u c h. subst (All HasShape) (sym u) h in
    let first : AreShaped (entered g.scalars (started (length g.blocks + 1))) = keeps.entered_keeps AreShaped HasShape IsCount AtMost shaped more_shaped (λ p q w c d h. h) same (λ j. tt) g.scalars (started (length g.blocks + 1)) (All-cons HasShape Entry [] tt (All-nil HasShape)) in
    let front : AreShaped (front_of g gs) = queues_shaped g.blocks gs.of 0 g.arrays (entered g.scalars (started (length g.blocks + 1))) (accesses_fit g gs ask) (omega (arith, small, bound)) first in
    record { units = keeps.after_front AreShaped HasShape IsCount AtMost shaped more_shaped (λ p q w c d h. h) same (λ a. tt) tt g gs (heads_fit g ask.graph ask.small.blocks) (forks_fit g ask.graph ask.small) few_fit front }
