-- The ports and the groups of an array: those of the accesses are those that the steps of the blocks use.
use Rattle.std.proofs.Common.{◌≡◌, ◌≢◌, ℕ, zero, suc, ◌+◌, ◌<◌, ◌≤◌, ◌^◌, List, [], ◌∷◌, ◌++◌, length, Bool, true, false, Option, Some, None, refl, sym, ap, ◌∙◌, arith, append_assoc, append-nil}
use Rattle.std.specs.Prelude.{slice_get, cond, ◌==◌, sum_by}
use Rattle.std.proofs.lemmas.Bool.{eq-eqb, ne_eqb}
use Rattle.std.proofs.lemmas.List.Sums.{sum_by-cons}
use Rattle.ir.specs.declared.graph.Block.{Block}
use Rattle.ir.specs.declared.groups.Access.{Access}
use Rattle.ir.specs.declared.instr.Instr.{Instr}
use Rattle.ir.specs.declared.instr.Instr.TheVariants as step
use Rattle.ir.specs.Accesses.{is_on, places_from, access_if, array_accesses, block_accesses, accesses_from}
use Rattle.ir.specs.Graphs.{block_weight}
use Rattle.net_types.specs.declared.net.Port.{Port}
use Rattle.net_types.specs.declared.net.Port.TheVariants.{Load, Store}
use Rattle.circuit_build.specs.Drafts.{plus}
use Rattle.circuit_build.specs.Blocks.{after_block}
use Rattle.circuit_build.specs.Fronts.{port_of, steps_of, ports_at, access_ports, ports_of, groups_from, numbers_from, number_after}
use Rattle.circuit_build.proofs.CountSteps.{groups_in, step_ports, steps_ports}
use Rattle.circuit_build.proofs.CountBlocks.{blocks_ports, all_after}

-- ---- groups

pub groups_length : (a p : ℕ) (xs : List Access) → length (groups_from a p xs) ≡ groups_in a xs
groups_length a p [] = refl
groups_length a p (x ∷ xs) = by (x.array == a) (groups_length a (number_after p x.steps) xs) (groups_length a p xs)
  where
    by : (b : Bool) → length (groups_from a (number_after p x.steps) xs) ≡ groups_in a xs → length (groups_from a p xs) ≡ groups_in a xs
        → length (cond b (numbers_from p x.steps ∷ groups_from a (number_after p x.steps) xs) (groups_from a p xs)) ≡ cond b (suc (groups_in a xs)) (groups_in a xs)
    by true i j = omega (arith, i)
    by false i j = j

pub groups_append : (a : ℕ) (xs ys : List Access) → groups_in a (xs ++ ys) ≡ groups_in a xs + groups_in a ys
groups_append a [] ys = omega arith
groups_append a (x ∷ xs) ys = by (x.array == a) (groups_append a xs ys)
  where
    by : (b : Bool) → groups_in a (xs ++ ys) ≡ groups_in a xs + groups_in a ys → cond b (suc (groups_in a (xs ++ ys))) (groups_in a (xs ++ ys)) ≡ cond b (suc (groups_in a xs)) (groups_in a xs) + groups_in a ys
    by true i = omega (arith, i)
    by false i = i

ports_append : (a : ℕ) (ks : List Block) (xs ys : List Access) → ports_of a ks (xs ++ ys) ≡ ports_of a ks xs ++ ports_of a ks ys
ports_append a ks [] ys = refl
ports_append a ks (x ∷ xs) ys = ap (λ l. access_ports a ks x ++ l) (ports_append a ks xs ys) ∙ sym (append_assoc (access_ports a ks x) (ports_of a ks xs) (ports_of a ks ys))

-- ---- one array of a block

-- the places of the steps name their ports
ports_places : (a i : ℕ) (st ss : List Instr) → ((k : ℕ) → slice_get st (i + k) ≡ slice_get ss k) → ports_at st (places_from a i ss) ≡ steps_ports a ss []
ports_places a i st [] h = refl
ports_places a i st (s ∷ ss) h = by s (ports_places a (suc i) st ss (λ k. ap (λ n. slice_get st n) (let z : suc i + k ≡ i + suc k = omega arith in z) ∙ h (suc k))) (ap (λ n. slice_get st n) (let z : i ≡ i + 0 = omega arith in z) ∙ h 0)
  where
    on : (b : Bool) (t : Port) → ports_at st (places_from a (suc i) ss) ≡ steps_ports a ss [] → port_of (slice_get st i) ≡ t
        → ports_at st (cond b (i ∷ places_from a (suc i) ss) (places_from a (suc i) ss)) ≡ cond b (t ∷ steps_ports a ss []) (steps_ports a ss [])
    on true t r p = ap (λ x. x ∷ ports_at st (places_from a (suc i) ss)) p ∙ ap (λ l. t ∷ l) r
    on false t r p = r

    by : (s : Instr) → ports_at st (places_from a (suc i) ss) ≡ steps_ports a ss [] → slice_get st i ≡ Some s
        → ports_at st (cond (is_on a s) (i ∷ places_from a (suc i) ss) (places_from a (suc i) ss)) ≡ step_ports a s (steps_ports a ss [])
    by (step.Const w n) r p = r
    by (step.One op x) r p = r
    by (step.Two op x y) r p = r
    by (step.Select w c x y) r p = r
    by (step.Load b x) r p = on (b == a) Load r (ap port_of p)
    by (step.Store b x v) r p = on (b == a) Store r (ap port_of p)

pub steps_more : (a : ℕ) (ss : List Instr) (t : List Port) → steps_ports a ss t ≡ steps_ports a ss [] ++ t
steps_more a [] t = refl
steps_more a (s ∷ ss) t = by s (steps_more a ss t)
  where
    on : (b : Bool) (p : Port) → steps_ports a ss t ≡ steps_ports a ss [] ++ t → cond b (p ∷ steps_ports a ss t) (steps_ports a ss t) ≡ cond b (p ∷ steps_ports a ss []) (steps_ports a ss []) ++ t
    on true p r = ap (λ l. p ∷ l) r
    on false p r = r

    by : (s : Instr) → steps_ports a ss t ≡ steps_ports a ss [] ++ t → step_ports a s (steps_ports a ss t) ≡ step_ports a s (steps_ports a ss []) ++ t
    by (step.Const w n) r = r
    by (step.One op x) r = r
    by (step.Two op x y) r = r
    by (step.Select w c x y) r = r
    by (step.Load b x) r = on (b == a) Load r
    by (step.Store b x v) r = on (b == a) Store r

-- what the accesses of one array of a block add
abbrev ports_if : Option Bool → List Port → List Port
ports_if None ps = []
ports_if (Some true) ps = []
ports_if (Some false) ps = ps

access_own : (a b : ℕ) (ks : List Block) (l : List ℕ) → ports_of a ks (access_if b a l) ≡ ports_at (steps_of (slice_get ks b)) l
access_own a b ks [] = refl
access_own a b ks (x ∷ l) = append-nil (access_ports a ks (record { block = b; array = a; steps = x ∷ l })) ∙ ap (λ t. cond t (ports_at (steps_of (slice_get ks b)) (x ∷ l)) []) (eq-eqb a a refl)

access_other : (a c b : ℕ) (ks : List Block) (l : List ℕ) → c ≢ a → ports_of a ks (access_if b c l) ≡ []
access_other a c b ks [] n = refl
access_other a c b ks (x ∷ l) n = append-nil (access_ports a ks (record { block = b; array = c; steps = x ∷ l })) ∙ ap (λ t. cond t (ports_at (steps_of (slice_get ks b)) (x ∷ l)) []) (ne_eqb c a n)

groups_other : (a c b : ℕ) (l : List ℕ) → c ≢ a → groups_in a (access_if b c l) ≡ 0
groups_other a c b [] n = refl
groups_other a c b (x ∷ l) n = ap (λ t. cond t 1 0) (ne_eqb c a n)

groups_most : (a c b : ℕ) (l : List ℕ) → groups_in a (access_if b c l) ≤ 1
groups_most a c b [] = omega arith
groups_most a c b (x ∷ l) = by (c == a)
  where
    by : (t : Bool) → cond t 1 0 ≤ 1
    by true = omega arith
    by false = omega arith

array_other : (a c b : ℕ) (ks : List Block) (r : Bool) (st : List Instr) → c ≢ a → ports_of a ks (array_accesses r b c st) ≡ []
array_other a c b ks true st n = refl
array_other a c b ks false st n = access_other a c b ks (places_from c 0 st) n

array_none : (a c b : ℕ) (r : Bool) (st : List Instr) → c ≢ a → groups_in a (array_accesses r b c st) ≡ 0
array_none a c b true st n = refl
array_none a c b false st n = groups_other a c b (places_from c 0 st) n

-- ---- the arrays of a block, from one on

block_past : (a b : ℕ) (ks : List Block) (st : List Instr) (i : ℕ) (rs : List Bool) → a < i → ports_of a ks (block_accesses b st i rs) ≡ []
block_past a b ks st i [] l = refl
block_past a b ks st i (r ∷ rs) l =
    ports_append a ks (array_accesses r b i st) (block_accesses b st (suc i) rs) ∙ ap (λ p. p ++ ports_of a ks (block_accesses b st (suc i) rs)) (array_other a i b ks r st (λ e. absurd (omega (arith, e, l)))) ∙ block_past a b ks st (suc i) rs (omega arith)

block_past_none : (a b : ℕ) (st : List Instr) (i : ℕ) (rs : List Bool) → a < i → groups_in a (block_accesses b st i rs) ≡ 0
block_past_none a b st i [] l = refl
block_past_none a b st i (r ∷ rs) l =
    let x = groups_append a (array_accesses r b i st) (block_accesses b st (suc i) rs) in
    let y = array_none a i b r st (λ e. absurd (omega (arith, e, l))) in
    let z = block_past_none a b st (suc i) rs (omega arith) in
    omega (arith, x, y, z)

block_ports : (a b : ℕ) (ks : List Block) (st : List Instr) (i k : ℕ) (rs : List Bool) → a ≡ i + k → ports_of a ks (block_accesses b st i rs) ≡ ports_if (slice_get rs k) (ports_at (steps_of (slice_get ks b)) (places_from a 0 st))
block_ports a b ks st i k [] e = refl
block_ports a b ks st i zero (r ∷ rs) e =
    let z : i ≡ a = omega arith in
    ports_append a ks (array_accesses r b i st) (block_accesses b st (suc i) rs)
    ∙ ap (λ p. ports_of a ks (array_accesses r b i st) ++ p) (block_past a b ks st (suc i) rs (omega arith))
    ∙ append-nil (ports_of a ks (array_accesses r b i st))
    ∙ ap (λ c. ports_of a ks (array_accesses r b c st)) z
    ∙ by r
  where
    by : (r : Bool) → ports_of a ks (array_accesses r b a st) ≡ ports_if (Some r) (ports_at (steps_of (slice_get ks b)) (places_from a 0 st))
    by true = refl
    by false = access_own a b ks (places_from a 0 st)
block_ports a b ks st i (suc k) (r ∷ rs) e =
    ports_append a ks (array_accesses r b i st) (block_accesses b st (suc i) rs) ∙ ap (λ p. p ++ ports_of a ks (block_accesses b st (suc i) rs)) (array_other a i b ks r st (λ x. absurd (omega (arith, e, x)))) ∙ block_ports a b ks st (suc i) k rs (omega arith)

-- one group at most, and none where the array is not written
abbrev pub some_if : Option Bool → ℕ
some_if None = 0
some_if (Some true) = 0
some_if (Some false) = 1

block_groups : (a b : ℕ) (st : List Instr) (i k : ℕ) (rs : List Bool) → a ≡ i + k → groups_in a (block_accesses b st i rs) ≤ some_if (slice_get rs k)
block_groups a b st i k [] e = omega arith
block_groups a b st i zero (r ∷ rs) e =
    let x = groups_append a (array_accesses r b i st) (block_accesses b st (suc i) rs) in
    let y = block_past_none a b st (suc i) rs (omega arith) in
    let z = by r in
    omega (arith, x, y, z)
  where
    by : (r : Bool) → groups_in a (array_accesses r b i st) ≤ some_if (Some r)
    by true = omega arith
    by false = groups_most a i b (places_from i 0 st)
block_groups a b st i (suc k) (r ∷ rs) e =
    let x = groups_append a (array_accesses r b i st) (block_accesses b st (suc i) rs) in
    let y = array_none a i b r st (λ z. absurd (omega (arith, e, z))) in
    let z = block_groups a b st (suc i) k rs (omega arith) in
    omega (arith, x, y, z)

-- ---- all blocks

pub no_groups : (a : ℕ) (rs : List Bool) (b : ℕ) (ks : List Block) → some_if (slice_get rs a) ≡ 0 → groups_in a (accesses_from rs b ks) ≡ 0
no_groups a rs b [] h = refl
no_groups a rs b (k ∷ ks) h =
    let x = groups_append a (block_accesses b k.steps 0 rs) (accesses_from rs (suc b) ks) in
    let y = block_groups a b k.steps 0 a rs (omega arith) in
    let z = no_groups a rs (suc b) ks h in
    omega (arith, x, y, z, h)

some_most : (o : Option Bool) → some_if o ≤ 1
some_most None = omega arith
some_most (Some true) = omega arith
some_most (Some false) = omega arith

pub few_groups : (a : ℕ) (rs : List Bool) (b : ℕ) (ks : List Block) → groups_in a (accesses_from rs b ks) ≤ length ks
few_groups a rs b [] = omega arith
few_groups a rs b (k ∷ ks) =
    let x = groups_append a (block_accesses b k.steps 0 rs) (accesses_from rs (suc b) ks) in
    let y = block_groups a b k.steps 0 a rs (omega arith) in
    let s = some_most (slice_get rs a) in
    let z = few_groups a rs (suc b) ks in
    omega (arith, x, y, z, s)

-- of an array that some step stores to
pub all_ports : (a : ℕ) (all : List Block) (rs : List Bool) (b : ℕ) (ks : List Block) → slice_get rs a ≡ Some false → ((i : ℕ) → slice_get all (b + i) ≡ slice_get ks i) → ports_of a all (accesses_from rs b ks) ≡ blocks_ports ks a
all_ports a all rs b [] e h = refl
all_ports a all rs b (k ∷ ks) e h =
    let here : slice_get all b ≡ Some k = ap (λ n. slice_get all n) (let z : b ≡ b + 0 = omega arith in z) ∙ h 0 in
    let x : ports_of a all (block_accesses b k.steps 0 rs) ≡ steps_ports a k.steps [] =
    block_ports a b all k.steps 0 a rs (omega arith)
    ∙ ap (λ o. ports_if o (ports_at (steps_of (slice_get all b)) (places_from a 0 k.steps))) e
    ∙ ap (λ o. ports_at (steps_of o) (places_from a 0 k.steps)) here
    ∙ ports_places a 0 k.steps k.steps (λ n. ap (λ m. slice_get k.steps m) (let z : 0 + n ≡ n = omega arith in z)) in
    let y = all_ports a all rs (suc b) ks e (λ i. ap (λ n. slice_get all n) (let z : suc b + i ≡ b + suc i = omega arith in z) ∙ h (suc i)) in
    ports_append a all (block_accesses b k.steps 0 rs) (accesses_from rs (suc b) ks) ∙ ap (λ p. p ++ ports_of a all (accesses_from rs (suc b) ks)) x ∙ ap (λ p. steps_ports a k.steps [] ++ p) y ∙ sym (steps_more a k.steps (blocks_ports ks a))

-- ---- the accesses of a block are used up by the block

after_if : (b c : ℕ) (r : Bool) (a : ℕ) (st : List Instr) (ys : List Access) → after_block b (array_accesses r b a st ++ ys) ≡ after_block b ys
after_if b c true a st ys = refl
after_if b c false a st ys = by (places_from a 0 st)
  where
    by : (l : List ℕ) → after_block b (access_if b a l ++ ys) ≡ after_block b ys
    by [] = refl
    by (x ∷ l) = ap (λ t. cond t (after_block b ys) (record { block = b; array = a; steps = x ∷ l } ∷ ys)) (eq-eqb b b refl)

after_own : (b : ℕ) (st : List Instr) (i : ℕ) (rs : List Bool) (ys : List Access) → after_block b (block_accesses b st i rs ++ ys) ≡ after_block b ys
after_own b st i [] ys = refl
after_own b st i (r ∷ rs) ys =
    ap (after_block b) (append_assoc (array_accesses r b i st) (block_accesses b st (suc i) rs) ys) ∙ after_if b b r i st (block_accesses b st (suc i) rs ++ ys) ∙ after_own b st (suc i) rs ys

stay_if : (b c : ℕ) (r : Bool) (a : ℕ) (st : List Instr) (ys : List Access) → c ≢ b → after_block b ys ≡ ys → after_block b (array_accesses r c a st ++ ys) ≡ array_accesses r c a st ++ ys
stay_if b c true a st ys n h = h
stay_if b c false a st ys n h = by (places_from a 0 st)
  where
    by : (l : List ℕ) → after_block b (access_if c a l ++ ys) ≡ access_if c a l ++ ys
    by [] = h
    by (x ∷ l) = ap (λ t. cond t (after_block b ys) (record { block = c; array = a; steps = x ∷ l } ∷ ys)) (ne_eqb c b n)

stay_block : (b c : ℕ) (st : List Instr) (i : ℕ) (rs : List Bool) (ys : List Access) → c ≢ b → after_block b ys ≡ ys → after_block b (block_accesses c st i rs ++ ys) ≡ block_accesses c st i rs ++ ys
stay_block b c st i [] ys n h = h
stay_block b c st i (r ∷ rs) ys n h =
    let e = append_assoc (array_accesses r c i st) (block_accesses c st (suc i) rs) ys in
    ap (after_block b) e ∙ stay_if b c r i st (block_accesses c st (suc i) rs ++ ys) n (stay_block b c st (suc i) rs ys n h) ∙ sym e

stay_all : (b c : ℕ) (rs : List Bool) (ks : List Block) → b < c → after_block b (accesses_from rs c ks) ≡ accesses_from rs c ks
stay_all b c rs [] l = refl
stay_all b c rs (k ∷ ks) l = stay_block b c k.steps 0 rs (accesses_from rs (suc c) ks) (λ e. absurd (omega (arith, e, l))) (stay_all b (suc c) rs ks (omega arith))

pub none_after : (rs : List Bool) (b : ℕ) (ks : List Block) → b + length ks < 2 ^ 32 → all_after b ks (accesses_from rs b ks) ≡ []
none_after rs b [] h = refl
none_after rs b (k ∷ ks) h =
    let e : after_block b (accesses_from rs b (k ∷ ks)) ≡ accesses_from rs (suc b) ks = after_own b k.steps 0 rs (accesses_from rs (suc b) ks) ∙ stay_all b (suc b) rs ks (omega arith) in
    ap (λ xs. all_after (plus b 1) ks xs) e ∙ ap (λ n. all_after n ks (accesses_from rs (suc b) ks)) (let z : plus b 1 ≡ suc b = omega arith in z) ∙ none_after rs (suc b) ks (omega arith)

-- ---- how many

step_most : (a : ℕ) (i : Instr) (ps : List Port) → length (step_ports a i ps) ≤ 1 + length ps
step_most a (step.Const w n) ps = omega arith
step_most a (step.One op x) ps = omega arith
step_most a (step.Two op x y) ps = omega arith
step_most a (step.Select w c x y) ps = omega arith
step_most a (step.Load b x) ps = by (b == a)
  where
    by : (t : Bool) → length (cond t (Load ∷ ps) ps) ≤ 1 + length ps
    by true = omega arith
    by false = omega arith
step_most a (step.Store b x v) ps = by (b == a)
  where
    by : (t : Bool) → length (cond t (Store ∷ ps) ps) ≤ 1 + length ps
    by true = omega arith
    by false = omega arith

steps_most : (a : ℕ) (is : List Instr) (ps : List Port) → length (steps_ports a is ps) ≤ length is + length ps
steps_most a [] ps = omega arith
steps_most a (i ∷ is) ps = let x = step_most a i (steps_ports a is ps) in let y = steps_most a is ps in omega (arith, x, y)

pub blocks_most : (a : ℕ) (ks : List Block) → length (blocks_ports ks a) + length ks ≤ sum_by block_weight ks
blocks_most a [] = omega arith
blocks_most a (k ∷ ks) =
    let x = steps_most a k.steps (blocks_ports ks a) in
    let y = blocks_most a ks in
    let z = sum_by-cons block_weight k ks in
    omega (arith, x, y, z)
