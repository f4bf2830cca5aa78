-- The accesses of a graph: those of a block come together, and have no more places than the block has loads and stores.
use Rattle.std.proofs.Common.{◌≡◌, ℕ, suc, ◌+◌, ◌<◌, ◌≤◌, List, [], ◌∷◌, ◌++◌, length, Bool, true, false, refl, sym, ap, ◌∙◌, arith, inl, inr, append_assoc, length-append}
use Rattle.std.specs.Prelude.{cond, ◌==◌, sum_by}
use Rattle.std.proofs.lemmas.Bool.{cases_eq, eq-eqb, ne_eqb}
use Rattle.std.proofs.lemmas.List.Sums.{sum_by-append, sum_by-cons}
use Rattle.ir.specs.declared.graph.Block.{Block}
use Rattle.ir.specs.declared.groups.Access.{Access}
use Rattle.ir.specs.declared.instr.Instr.{Instr}
use Rattle.ir.specs.declared.instr.Instr.TheVariants as step
use Rattle.ir.specs.Accesses.{is_access, accesses_in, is_on, places_from, access_if, block_accesses, accesses_from}
use Rattle.circuit_build.specs.Blocks.{after_block}
use Rattle.circuit_build.proofs.Growth.{firsts}

-- ---- the accesses of a block

pub if_own : {X : Type 0} → (n : ℕ) (x y : X) → cond (n == n) x y ≡ x
if_own n x y = ap (λ t. cond t x y) (eq-eqb n n refl)

pub if_other : {X : Type 0} → (m n : ℕ) (x y : X) → n < m → cond (m == n) x y ≡ y
if_other m n x y lt = ap (λ t. cond t x y) (ne_eqb m n (λ e. absurd (omega (arith, e, lt))))

access_first : (n a : ℕ) (ps : List ℕ) (ys : List Access) → firsts n (access_if n a ps ++ ys) ≡ length (access_if n a ps) + firsts n ys
access_first n a [] ys = omega arith
access_first n a (p ∷ ps) ys = let e = if_own n (suc (firsts n ys)) 0 in omega (arith, e)

access_after : (n a : ℕ) (ps : List ℕ) (ys : List Access) → after_block n (access_if n a ps ++ ys) ≡ after_block n ys
access_after n a [] ys = refl
access_after n a (p ∷ ps) ys = if_own n (after_block n ys) (record { block = n; array = a; steps = p ∷ ps } ∷ ys)

pub firsts_here : (n a : ℕ) (ss : List Instr) (rs : List Bool) (ys : List Access) → firsts n (block_accesses n ss a rs ++ ys) ≡ length (block_accesses n ss a rs) + firsts n ys
firsts_here n a ss [] ys = omega arith
firsts_here n a ss (true ∷ rs) ys = firsts_here n (suc a) ss rs ys
firsts_here n a ss (false ∷ rs) ys =
    let xs = access_if n a (places_from a 0 ss) in
    let zs = block_accesses n ss (suc a) rs in
    let e = ap (firsts n) (append_assoc xs zs ys) in
    let f = access_first n a (places_from a 0 ss) (zs ++ ys) in
    let h = firsts_here n (suc a) ss rs ys in
    let l = length-append xs zs in
    omega (arith, e, f, h, l)

pub after_here : (n a : ℕ) (ss : List Instr) (rs : List Bool) (ys : List Access) → after_block n (block_accesses n ss a rs ++ ys) ≡ after_block n ys
after_here n a ss [] ys = refl
after_here n a ss (true ∷ rs) ys = after_here n (suc a) ss rs ys
after_here n a ss (false ∷ rs) ys =
    let xs = access_if n a (places_from a 0 ss) in
    let zs = block_accesses n ss (suc a) rs in
    ap (after_block n) (append_assoc xs zs ys) ∙ access_after n a (places_from a 0 ss) (zs ++ ys) ∙ after_here n (suc a) ss rs ys

-- ---- those of later blocks

access_later : (n m a : ℕ) (ps : List ℕ) (ys : List Access) → n < m → firsts n ys ≡ 0 → firsts n (access_if m a ps ++ ys) ≡ 0
access_later n m a [] ys lt h = h
access_later n m a (p ∷ ps) ys lt h = if_other m n (suc (firsts n ys)) 0 lt

access_stays : (n m a : ℕ) (ps : List ℕ) (ys : List Access) → n < m → after_block n ys ≡ ys → after_block n (access_if m a ps ++ ys) ≡ access_if m a ps ++ ys
access_stays n m a [] ys lt h = h
access_stays n m a (p ∷ ps) ys lt h = if_other m n (after_block n ys) (record { block = m; array = a; steps = p ∷ ps } ∷ ys) lt

block_later : (n m a : ℕ) (ss : List Instr) (rs : List Bool) (ys : List Access) → n < m → firsts n ys ≡ 0 → firsts n (block_accesses m ss a rs ++ ys) ≡ 0
block_later n m a ss [] ys lt h = h
block_later n m a ss (true ∷ rs) ys lt h = block_later n m (suc a) ss rs ys lt h
block_later n m a ss (false ∷ rs) ys lt h =
    let xs = access_if m a (places_from a 0 ss) in
    let zs = block_accesses m ss (suc a) rs in
    ap (firsts n) (append_assoc xs zs ys) ∙ access_later n m a (places_from a 0 ss) (zs ++ ys) lt (block_later n m (suc a) ss rs ys lt h)

block_stays : (n m a : ℕ) (ss : List Instr) (rs : List Bool) (ys : List Access) → n < m → after_block n ys ≡ ys → after_block n (block_accesses m ss a rs ++ ys) ≡ block_accesses m ss a rs ++ ys
block_stays n m a ss [] ys lt h = h
block_stays n m a ss (true ∷ rs) ys lt h = block_stays n m (suc a) ss rs ys lt h
block_stays n m a ss (false ∷ rs) ys lt h =
    let xs = access_if m a (places_from a 0 ss) in
    let zs = block_accesses m ss (suc a) rs in
    ap (after_block n) (append_assoc xs zs ys) ∙ access_stays n m a (places_from a 0 ss) (zs ++ ys) lt (block_stays n m (suc a) ss rs ys lt h) ∙ sym (append_assoc xs zs ys)

pub firsts_later : (n m : ℕ) (rs : List Bool) (bs : List Block) → n < m → firsts n (accesses_from rs m bs) ≡ 0
firsts_later n m rs [] lt = refl
firsts_later n m rs (b ∷ bs) lt = block_later n m 0 b.steps rs (accesses_from rs (suc m) bs) lt (firsts_later n (suc m) rs bs (omega arith))

pub after_later : (n m : ℕ) (rs : List Bool) (bs : List Block) → n < m → after_block n (accesses_from rs m bs) ≡ accesses_from rs m bs
after_later n m rs [] lt = refl
after_later n m rs (b ∷ bs) lt = block_stays n m 0 b.steps rs (accesses_from rs (suc m) bs) lt (after_later n (suc m) rs bs (omega arith))

-- those that come first are the block's, and after them come those of the later blocks
pub after_own : (n : ℕ) (rs : List Bool) (b : Block) (bs : List Block) → after_block n (accesses_from rs n (b ∷ bs)) ≡ accesses_from rs (suc n) bs
after_own n rs b bs = after_here n 0 b.steps rs (accesses_from rs (suc n) bs) ∙ after_later n (suc n) rs bs (omega arith)

-- ---- how many places

-- the steps on an array
abbrev pub ons : ℕ → List Instr → ℕ
ons a [] = 0
ons a (s ∷ ss) = cond (is_on a s) 1 0 + ons a ss

-- how many of the arrays from a on the test holds of
abbrev pub hits : (ℕ → Bool) → List Bool → ℕ → ℕ
hits f [] a = 0
hits f (r ∷ rs) a = cond (f a) 1 0 + hits f rs (suc a)

-- the steps on each of the arrays from a on
abbrev pub all_ons : List Bool → ℕ → List Instr → ℕ
all_ons [] a ss = 0
all_ons (r ∷ rs) a ss = ons a ss + all_ons rs (suc a) ss

longer : (t : Bool) (i : ℕ) (xs : List ℕ) → length (cond t (i ∷ xs) xs) ≡ cond t 1 0 + length xs
longer true i xs = omega arith
longer false i xs = omega arith

pub places_many : (a i : ℕ) (ss : List Instr) → length (places_from a i ss) ≡ ons a ss
places_many a i [] = refl
places_many a i (s ∷ ss) = let e = longer (is_on a s) i (places_from a (suc i) ss) in let h = places_many a (suc i) ss in omega (arith, e, h)

hits_none : (rs : List Bool) (a : ℕ) → hits (λ x. false) rs a ≡ 0
hits_none [] a = refl
hits_none (r ∷ rs) a = let h = hits_none rs (suc a) in omega (arith, h)

hits_past : (b : ℕ) (rs : List Bool) (a : ℕ) → b < a → hits (λ x. b == x) rs a ≡ 0
hits_past b [] a lt = refl
hits_past b (r ∷ rs) a lt =
    let e = ap {B = ℕ} (λ t. cond t 1 0) (ne_eqb b a (λ e. absurd (omega (arith, e, lt)))) in
    let h = hits_past b rs (suc a) (omega arith) in
    omega (arith, e, h)

hits_one : (b : ℕ) (rs : List Bool) (a : ℕ) → hits (λ x. b == x) rs a ≤ 1
hits_one b [] a = omega arith
hits_one b (r ∷ rs) a =
    elim (cases_eq b a) [
      | inl same ↦ (let e = ap {B = ℕ} (λ t. cond t 1 0) (eq-eqb b a same) in let h = hits_past b rs (suc a) (omega (arith, same)) in omega (arith, e, h))
      | inr ne ↦ (let e = ap {B = ℕ} (λ t. cond t 1 0) (ne_eqb b a ne) in let h = hits_one b rs (suc a) in omega (arith, e, h))
    ]

step_hits : (s : Instr) (rs : List Bool) (a : ℕ) → hits (λ x. is_on x s) rs a ≤ is_access s
step_hits (step.Const w n) rs a = let h = hits_none rs a in omega (arith, h)
step_hits (step.One op x) rs a = let h = hits_none rs a in omega (arith, h)
step_hits (step.Two op x y) rs a = let h = hits_none rs a in omega (arith, h)
step_hits (step.Select w c x y) rs a = let h = hits_none rs a in omega (arith, h)
step_hits (step.Load b p) rs a = hits_one b rs a
step_hits (step.Store b p v) rs a = hits_one b rs a

no_ons : (rs : List Bool) (a : ℕ) → all_ons rs a [] ≡ 0
no_ons [] a = refl
no_ons (r ∷ rs) a = let h = no_ons rs (suc a) in omega (arith, h)

more_ons : (rs : List Bool) (a : ℕ) (s : Instr) (ss : List Instr) → all_ons rs a (s ∷ ss) ≡ hits (λ x. is_on x s) rs a + all_ons rs a ss
more_ons [] a s ss = omega arith
more_ons (r ∷ rs) a s ss = let h = more_ons rs (suc a) s ss in omega (arith, h)

pub ons_few : (rs : List Bool) (a : ℕ) (ss : List Instr) → all_ons rs a ss ≤ accesses_in ss
ons_few rs a [] = let h = no_ons rs a in omega (arith, h)
ons_few rs a (s ∷ ss) = let e = more_ons rs a s ss in let h = step_hits s rs a in let i = ons_few rs a ss in omega (arith, e, h, i)

-- the places of accesses
abbrev pub places_in : List Access → ℕ
places_in xs = sum_by (λ (x : Access). length x.steps) xs

pub access_places : (n a : ℕ) (ps : List ℕ) → places_in (access_if n a ps) ≡ length ps
access_places n a [] = refl
access_places n a (p ∷ ps) = let e = sum_by-cons (λ (x : Access). length x.steps) (record { block = n; array = a; steps = p ∷ ps }) [] in omega (arith, e)

pub block_places : (n a : ℕ) (ss : List Instr) (rs : List Bool) → places_in (block_accesses n ss a rs) ≤ all_ons rs a ss
block_places n a ss [] = omega arith
block_places n a ss (true ∷ rs) = let h = block_places n (suc a) ss rs in omega (arith, h)
block_places n a ss (false ∷ rs) =
    let xs = access_if n a (places_from a 0 ss) in
    let e = sum_by-append (λ (x : Access). length x.steps) xs (block_accesses n ss (suc a) rs) in
    let f = access_places n a (places_from a 0 ss) in
    let m = places_many a 0 ss in
    let h = block_places n (suc a) ss rs in
    omega (arith, e, f, m, h)

access_many : (n a : ℕ) (ps : List ℕ) → length (access_if n a ps) ≤ length ps
access_many n a [] = omega arith
access_many n a (p ∷ ps) = omega arith

pub block_many : (n a : ℕ) (ss : List Instr) (rs : List Bool) → length (block_accesses n ss a rs) ≤ all_ons rs a ss
block_many n a ss [] = omega arith
block_many n a ss (true ∷ rs) = let h = block_many n (suc a) ss rs in omega (arith, h)
block_many n a ss (false ∷ rs) =
    let xs = access_if n a (places_from a 0 ss) in
    let e = length-append xs (block_accesses n ss (suc a) rs) in
    let f = access_many n a (places_from a 0 ss) in
    let m = places_many a 0 ss in
    let h = block_many n (suc a) ss rs in
    omega (arith, e, f, m, h)

-- a block has no more accesses than loads and stores
pub firsts_few : (n : ℕ) (rs : List Bool) (b : Block) (bs : List Block) → firsts n (accesses_from rs n (b ∷ bs)) ≤ accesses_in b.steps
firsts_few n rs b bs =
    let e = firsts_here n 0 b.steps rs (accesses_from rs (suc n) bs) in
    let f = firsts_later n (suc n) rs bs (omega arith) in
    let m = block_many n 0 b.steps rs in
    let h = ons_few rs 0 b.steps in
    omega (arith, e, f, m, h)
