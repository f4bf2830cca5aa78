-- The rule of headers, and which units serve an array.
use Rattle.std.proofs.Common.{◌≡◌, ℕ, zero, suc, ◌+◌, ◌^◌, ◌<◌, ◌≤◌, List, [], ◌∷◌, ◌++◌, length, map, Bool, true, false, refl, sym, subst, ap, ◌∙◌, arith, inl, inr, append_assoc}
use Rattle.std.specs.Prelude.{cond, ◌==◌, sum_by, count_by, slice_get, All, Some}
use Rattle.std.proofs.lemmas.Bool.{eq-eqb, ne_eqb, cases_lt}
use Rattle.std.proofs.lemmas.List.Sums.{sum_by-cons}
use Rattle.std.proofs.lemmas.List.Elements.{All-nil, All-cons, All-head, All-tail, All-append}
use Rattle.std.proofs.lemmas.Option.{slice_get_within}
use Rattle.el_base.specs.declared.ty.Array.{Array}
use Rattle.el_base.specs.declared.ty.Scalar.{Scalar}
use Rattle.ir.specs.declared.graph.Block.{Block}
use Rattle.ir.specs.declared.groups.Access.{Access}
use Rattle.ir.specs.declared.groups.Groups.{Groups}
use Rattle.ir.specs.declared.instr.Instr.{Instr}
use Rattle.ir.specs.declared.instr.Instr.TheVariants as step
use Rattle.ir.specs.Accesses.{is_on, places_from, access_if, block_accesses, accesses_from}
use Rattle.ir.specs.Graphs.{Graph, IsBlock}
use Rattle.ir.specs.Shapes.{Shape, StepsFit, step_width}
use Rattle.net_types.specs.declared.net.Net.{Net}
use Rattle.net_types.specs.declared.net.Port.{Port}
use Rattle.net_types.specs.declared.net.Unit.{Unit as Kind}
use Rattle.net_types.specs.declared.net.Unit.TheVariants.{Entry, Param, Const, Select, Read, Lsq}
use Rattle.net_check.specs.Headers.{is_read, is_queue, IsNamed}
use Rattle.circuit_build.specs.declared.draft.Draft.{Draft}
use Rattle.circuit_build.specs.Asks.{IsAsked}
use Rattle.circuit_build.specs.Built.{front_of, whole_draft, built}
use Rattle.circuit_build.specs.Counted.{is_load, graph_loads, HeadersAreMet, ArraysAreServed}
use Rattle.circuit_build.specs.Drafts.{with_unit, plus}
use Rattle.circuit_build.specs.Fronts.{started, params_laid, entered, numbers_from, number_after, groups_from, queue_if, queues_laid, ports_of, depth_from}
use Rattle.circuit_build.proofs.Keeps as keeps
use Rattle.circuit_build.proofs.Keeps.{Laid, Free, free, free_few}
use Rattle.circuit_build.proofs.Accesses.{ons, places_many}
use Rattle.circuit_build.proofs.Once.{how_many, stand_once}
use Rattle.circuit_build.proofs.QueueShapes.{mine}
use Rattle.circuit_build.proofs.QueuesLaid.{queue_is_laid}
use Rattle.circuit_build.proofs.ReadCounts.{lacks, is_empty, front_keys, all_reads, all_queues, front_queued}
use Rattle.circuit_build.proofs.Small.{scalars_few, arrays_few}

-- ---- how few scalars and arrays

pub scalars_bound : (g : Graph) (gs : Groups) → IsAsked g gs → length g.scalars < 2 ^ 32
scalars_bound g gs ask = let s = scalars_few g ask.graph in let b = ask.small.bounded in omega (arith, s, b)

pub arrays_bound : (g : Graph) (gs : Groups) → IsAsked g gs → length g.arrays < 2 ^ 32
arrays_bound g gs ask = let a = arrays_few g.arrays ask.sound.arrays.some in let t = ask.sound.arrays.together in omega (arith, a, t)

-- ---- loads name arrays

no_loads : (arrays : List Array) (a : ℕ) (is : List Instr) (ws : Shape) → length arrays ≤ a → StepsFit arrays ws is → count_by (is_load a) is ≡ 0
no_loads arrays a [] ws le fit = refl
no_loads arrays a (step.Const w n ∷ is) ws le fit = let s = sum_by-cons (λ x. cond (is_load a x) 1 0) (step.Const w n) is in let h = no_loads arrays a is (ws ++ step_width arrays (step.Const w n) ∷ []) le fit.1 in omega (arith, s, h)
no_loads arrays a (step.One op x ∷ is) ws le fit = let s = sum_by-cons (λ x. cond (is_load a x) 1 0) (step.One op x) is in let h = no_loads arrays a is (ws ++ step_width arrays (step.One op x) ∷ []) le fit.1 in omega (arith, s, h)
no_loads arrays a (step.Two op x y ∷ is) ws le fit = let s = sum_by-cons (λ x. cond (is_load a x) 1 0) (step.Two op x y) is in let h = no_loads arrays a is (ws ++ step_width arrays (step.Two op x y) ∷ []) le fit.1 in omega (arith, s, h)
no_loads arrays a (step.Select w c x y ∷ is) ws le fit = let s = sum_by-cons (λ x. cond (is_load a x) 1 0) (step.Select w c x y) is in let h = no_loads arrays a is (ws ++ step_width arrays (step.Select w c x y) ∷ []) le fit.1 in omega (arith, s, h)
no_loads arrays a (step.Store b p v ∷ is) ws le fit = let s = sum_by-cons (λ x. cond (is_load a x) 1 0) (step.Store b p v) is in let h = no_loads arrays a is (ws ++ step_width arrays (step.Store b p v) ∷ []) le fit.1 in omega (arith, s, h)
no_loads arrays a (step.Load b p ∷ is) ws le fit =
    let s = sum_by-cons (λ x. cond (is_load a x) 1 0) (step.Load b p) is in
    let h = no_loads arrays a is (ws ++ step_width arrays (step.Load b p) ∷ []) le fit.1 in
    let named = fit.0.1 in
    let lt = slice_get_within arrays b named.0 named.1 in
    let e = ap {B = ℕ} (λ t. cond t 1 0) (ne_eqb b a (λ same. absurd (omega (arith, same, lt, le)))) in
    omega (arith, s, h, e)

no_loads_of : (g : Graph) (a : ℕ) (bs : List Block) → length g.arrays ≤ a → All (IsBlock g) bs → sum_by (λ (b : Block). count_by (is_load a) b.steps) bs ≡ 0
no_loads_of g a [] le h = refl
no_loads_of g a (b ∷ bs) le h =
    let s = sum_by-cons (λ (b : Block). count_by (is_load a) b.steps) b bs in
    let one = no_loads g.arrays a b.steps (map Some b.args) le (All-head (IsBlock g) b bs h).steps in
    let rest = no_loads_of g a bs le (All-tail (IsBlock g) b bs h) in
    omega (arith, s, one, rest)

-- ---- each unit names a scalar or an array of the header

abbrev NamedUnlessRead : ℕ → ℕ → Kind → Type 0
NamedUnlessRead s a (Param j) = j < s
NamedUnlessRead s a (Lsq b d ps gs f) = b < a
NamedUnlessRead s a _ = Unit {0}

named_kind : (net : Net) (k : Kind) → NamedUnlessRead (length net.scalars) (length net.arrays) k → ((b : ℕ) → length net.arrays ≤ b → is_read b k ≡ false) → IsNamed net k
named_kind net (Param j) h r = h
named_kind net (Read b) h r =
    elim (cases_lt b (length net.arrays)) [
      | inl lt ↦ lt
      | inr le ↦ (let e : true ≡ false = sym (eq-eqb b b refl) ∙ r b le in absurd (cc))
    ]
named_kind net (Lsq b d ps gs f) h r = h
named_kind net _ h r = tt

none_of : (t : Bool) → cond t 1 0 ≡ zero → t ≡ false
none_of true e = absurd (omega arith)
none_of false e = refl

all_named : (net : Net) (us : List Kind) → All (NamedUnlessRead (length net.scalars) (length net.arrays)) us → ((b : ℕ) → length net.arrays ≤ b → count_by (is_read b) us ≡ 0) → All (IsNamed net) us
all_named net [] h r = All-nil (IsNamed net)
all_named net (k ∷ us) h r =
    let P = NamedUnlessRead (length net.scalars) (length net.arrays) in
    let own : (b : ℕ) → length net.arrays ≤ b → is_read b k ≡ false = λ b le. none_of (is_read b k) (let s = sum_by-cons (λ x. cond (is_read b x) 1 0) k us in let z = r b le in omega (arith, s, z)) in
    let rest : (b : ℕ) → length net.arrays ≤ b → count_by (is_read b) us ≡ 0 = λ b le. (let s = sum_by-cons (λ x. cond (is_read b x) 1 0) k us in let z = r b le in omega (arith, s, z)) in
    All-cons (IsNamed net) k us (named_kind net k (All-head P k us h) own) (all_named net us (All-tail P k us h) rest)

named : (s a : ℕ) → Laid (NamedUnlessRead s a) (λ n. Unit {0}) Free
named s a = record { const = λ w n. tt; op1 = λ op. tt; op2 = λ op. tt; select = λ w. tt; fork1 = λ w. tt; forks = λ w n l o. tt; mux = λ w n i. tt; merge = λ n i. tt; branch = λ w. tt; sink = λ w. tt }

abbrev AreNamed : ℕ → ℕ → Draft → Type 0
AreNamed s a d = All (NamedUnlessRead s a) d.units

more_named : (s a : ℕ) (k : Kind) (d : Draft) → NamedUnlessRead s a k → AreNamed s a d → AreNamed s a (with_unit k d)
more_named s a k d f h = let P = NamedUnlessRead s a in All-append P d.units (k ∷ []) h (All-cons P k [] f (All-nil P))

params_named : (s a j : ℕ) (ss : List Scalar) (d : Draft) → j + length ss ≤ s → s < 2 ^ 32 → AreNamed s a d → AreNamed s a (params_laid j ss d)
params_named s a j [] d le few h = h
params_named s a j (x ∷ ss) d le few h = params_named s a (plus j 1) ss (with_unit (Param j) d) (omega arith) few (more_named s a (Param j) d (omega arith) h)

queue_named : (s a i : ℕ) (ps : List Port) (gs : List (List ℕ)) (m : ℕ) (d : Draft) → i < a → AreNamed s a d → AreNamed s a (queue_if i ps gs m d)
queue_named s a i ps [] m d lt h = h
queue_named s a i ps (g ∷ gs) m d lt h = more_named s a (Lsq i m ps (g ∷ gs) false) d lt h

queues_named : (s a : ℕ) (blocks : List Block) (of : List Access) (i : ℕ) (xs : List Array) (d : Draft) → i + length xs ≤ a → a < 2 ^ 32 → AreNamed s a d → AreNamed s a (queues_laid blocks of i xs d)
queues_named s a blocks of i [] d le few h = h
queues_named s a blocks of i (x ∷ xs) d le few h =
    queues_named s a blocks of (plus i 1) xs (queue_if i (ports_of i blocks of) (groups_from i 0 of) (depth_from i 16 of) d) (omega arith) few (queue_named s a i (ports_of i blocks of) (groups_from i 0 of) (depth_from i 16 of) d (omega arith) h)

units_named : (g : Graph) (gs : Groups) → IsAsked g gs → All (IsNamed (built g gs)) (whole_draft g gs).units
units_named g gs ask =
    let s = length g.scalars in
    let a = length g.arrays in
    let few = scalars_bound g gs ask in
    let many = arrays_bound g gs ask in
    let P = NamedUnlessRead s a in
    let first : AreNamed s a (started (length g.blocks + 1)) = All-cons P Entry [] tt (All-nil P) in
    let e : AreNamed s a (entered g.scalars (started (length g.blocks + 1))) = params_named s a 0 g.scalars (started (length g.blocks + 1)) (omega arith) few first in
    let f : AreNamed s a (front_of g gs) = queues_named s a g.blocks gs.of 0 g.arrays (entered g.scalars (started (length g.blocks + 1))) (omega arith) many e in
    let all = keeps.after_front (AreNamed s a) P (λ n. Unit {0}) Free (named s a) (more_named s a) (λ p q w c d h. h) (λ d e u c h. subst (All P) (sym u) h) (λ b. tt) tt g gs (λ t. tt) (free g.blocks) free_few f in
    let none : (b : ℕ) → a ≤ b → how_many (is_read b) (whole_draft g gs) ≡ 0 = λ b le. all_reads b g gs ∙ nothing (lacks (front_keys g gs) b) (graph_loads b g) (no_loads_of g b g.blocks le ask.graph.blocks) in
    all_named (built g gs) (whole_draft g gs).units all none
  where
    nothing : (t : Bool) (n : ℕ) → n ≡ 0 → cond t n 0 ≡ 0
    nothing true n e = e
    nothing false n e = refl

-- ---- the rule

unread_if : (t : Bool) (n m q : ℕ) → q ≡ cond t 0 1 → m ≡ cond t n 0 → 0 < q → m ≡ 0
unread_if true n m q e f lt = absurd (omega arith)
unread_if false n m q e f lt = f

pub headers_met : HeadersAreMet
headers_met g gs ask =
    let once = stand_once g gs (scalars_bound g gs ask) (arrays_bound g gs ask) in
    record {
      header = record { names = ask.sound.names; arrays = ask.sound.arrays };
      one_entry = once.one_entry;
      one_exit = once.one_exit;
      one_param = once.one_param;
      named = units_named g gs ask;
      one_queue = once.one_queue;
      unread = λ a lt. unread_if (lacks (front_keys g gs) a) (graph_loads a g) (how_many (is_read a) (whole_draft g gs)) (how_many (is_queue a) (whole_draft g gs)) (all_queues g gs (arrays_bound g gs ask) a) (all_reads a g gs) lt;
    }

-- ---- an array that is only read has no group

pub access_skipped : (a p n i : ℕ) (ps : List ℕ) (ys : List Access) → ¬ (i ≡ a) → groups_from a p (access_if n i ps ++ ys) ≡ groups_from a p ys
access_skipped a p n i [] ys ne = refl
access_skipped a p n i (x ∷ ps) ys ne = ap (λ t. cond t (numbers_from p (x ∷ ps) ∷ groups_from a (number_after p (x ∷ ps)) ys) (groups_from a p ys)) (ne_eqb i a ne)

pub block_skipped : (a p n : ℕ) (ss : List Instr) (i : ℕ) (rs : List Bool) (ys : List Access) → ((j : ℕ) → i + j ≡ a → slice_get rs j ≡ Some false → ⊥) → groups_from a p (block_accesses n ss i rs ++ ys) ≡ groups_from a p ys
block_skipped a p n ss i [] ys h = refl
block_skipped a p n ss i (true ∷ rs) ys h = block_skipped a p n ss (suc i) rs ys (λ j e. h (suc j) (omega (arith, e)))
block_skipped a p n ss i (false ∷ rs) ys h =
    let xs = access_if n i (places_from i 0 ss) in
    let zs = block_accesses n ss (suc i) rs in
    ap (groups_from a p) (append_assoc xs zs ys) ∙ access_skipped a p n i (places_from i 0 ss) (zs ++ ys) (λ e. h 0 (omega (arith, e)) refl) ∙ block_skipped a p n ss (suc i) rs ys (λ j e. h (suc j) (omega (arith, e)))

pub all_skipped : (a p : ℕ) (rs : List Bool) (n : ℕ) (bs : List Block) → slice_get rs a ≡ Some true → groups_from a p (accesses_from rs n bs) ≡ []
all_skipped a p rs n [] h = refl
all_skipped a p rs n (b ∷ bs) h =
    block_skipped a p n b.steps 0 rs (accesses_from rs (suc n) bs) (λ j e f. apart j e f) ∙ all_skipped a p rs (suc n) bs h
  where
    apart : (j : ℕ) → 0 + j ≡ a → slice_get rs j ≡ Some false → ⊥
    apart j e f = let same : j ≡ a = omega (arith, e) in let g : Some true ≡ Some false = sym h ∙ ap (slice_get rs) (sym same) ∙ f in absurd (cc)

-- ---- an array that is stored to has one

empty_if : (t : Bool) (a p : ℕ) (x : Access) (xs : List Access) → ((q : ℕ) → is_empty (groups_from a q xs) ≡ true → mine a xs ≡ 0)
    → is_empty (cond t (numbers_from p x.steps ∷ groups_from a (number_after p x.steps) xs) (groups_from a p xs)) ≡ true → cond t (length x.steps) 0 + mine a xs ≡ 0
empty_if true a p x xs h e = absurd (cc)
empty_if false a p x xs h e = let i = h p e in omega (arith, i)

empty_mine : (a : ℕ) (xs : List Access) (p : ℕ) → is_empty (groups_from a p xs) ≡ true → mine a xs ≡ 0
empty_mine a [] p e = refl
empty_mine a (x ∷ xs) p e = empty_if (x.array == a) a p x xs (empty_mine a xs) e

mine_append : (a : ℕ) (xs ys : List Access) → mine a (xs ++ ys) ≡ mine a xs + mine a ys
mine_append a [] ys = omega arith
mine_append a (x ∷ xs) ys = let h = mine_append a xs ys in omega (arith, h)

mine_access : (n a : ℕ) (ps : List ℕ) → mine a (access_if n a ps) ≡ length ps
mine_access n a [] = refl
mine_access n a (p ∷ ps) = let e = ap {B = ℕ} (λ t. cond t (length (p ∷ ps)) 0) (eq-eqb a a refl) in omega (arith, e)

mine_block : (a n : ℕ) (ss : List Instr) (i : ℕ) (rs : List Bool) (j : ℕ) → i + j ≡ a → slice_get rs j ≡ Some false → ons a ss ≤ mine a (block_accesses n ss i rs)
mine_block a n ss i [] j e h = absurd (cc)
mine_block a n ss i (true ∷ rs) zero e h = absurd (cc)
mine_block a n ss i (false ∷ rs) zero e h =
    let same : i ≡ a = omega (arith, e) in
    let zs = block_accesses n ss (suc i) rs in
    let own : mine a (access_if n i (places_from i 0 ss)) ≡ length (places_from a 0 ss) = subst (λ k. mine a (access_if n k (places_from k 0 ss)) ≡ length (places_from a 0 ss)) (sym same) (mine_access n a (places_from a 0 ss)) in
    let m = places_many a 0 ss in
    let l = mine_append a (access_if n i (places_from i 0 ss)) zs in
    omega (arith, own, m, l)
mine_block a n ss i (true ∷ rs) (suc j) e h = mine_block a n ss (suc i) rs j (omega (arith, e)) h
mine_block a n ss i (false ∷ rs) (suc j) e h =
    let zs = block_accesses n ss (suc i) rs in
    let l = mine_append a (access_if n i (places_from i 0 ss)) zs in
    let r = mine_block a n ss (suc i) rs j (omega (arith, e)) h in
    omega (arith, l, r)

mine_all : (a : ℕ) (rs : List Bool) (n : ℕ) (bs : List Block) (k : ℕ) (b : Block) → slice_get bs k ≡ Some b → slice_get rs a ≡ Some false → ons a b.steps ≤ mine a (accesses_from rs n bs)
mine_all a rs n [] k b e h = absurd (cc)
mine_all a rs n (x ∷ bs) zero b e h =
    let same : x ≡ b = cc in
    let l = mine_append a (block_accesses n x.steps 0 rs) (accesses_from rs (suc n) bs) in
    let own : ons a x.steps ≤ mine a (block_accesses n x.steps 0 rs) = mine_block a n x.steps 0 rs a (omega arith) h in
    subst (λ (y : Block). ons a y.steps ≤ mine a (accesses_from rs n (x ∷ bs))) same (omega (arith, l, own))
mine_all a rs n (x ∷ bs) (suc k) b e h =
    let l = mine_append a (block_accesses n x.steps 0 rs) (accesses_from rs (suc n) bs) in
    let r = mine_all a rs (suc n) bs k b e h in
    omega (arith, l, r)

ons_stored : (a p v : ℕ) (ss : List Instr) (k : ℕ) → slice_get ss k ≡ Some (step.Store a p v) → 1 ≤ ons a ss
ons_stored a p v [] k e = absurd (cc)
ons_stored a p v (s ∷ ss) zero e =
    let same : s ≡ step.Store a p v = cc in
    let t : is_on a s ≡ true = subst (λ x. is_on a x ≡ true) (sym same) (eq-eqb a a refl) in
    let c = ap {B = ℕ} (λ u. cond u 1 0) t in
    omega (arith, c)
ons_stored a p v (s ∷ ss) (suc k) e = let r = ons_stored a p v ss k e in omega (arith, r)

-- ---- which units serve an array

pub read_only_lacks : (g : Graph) (gs : Groups) → IsAsked g gs → (a : ℕ) → slice_get gs.read_only a ≡ Some true → lacks (front_keys g gs) a ≡ true
read_only_lacks g gs ask a h =
    let lt = slice_get_within gs.read_only a true h in
    let few = ask.share.as_many in
    let q = front_queued g gs (arrays_bound g gs ask) in
    let none : groups_from a 0 gs.of ≡ [] = subst (λ xs. groups_from a 0 xs ≡ []) (sym ask.share.accesses) (all_skipped a 0 gs.read_only 0 g.blocks h) in
    q.each a (omega (arith, lt, few)) ∙ ap is_empty none

pub stored_some : (g : Graph) (gs : Groups) → IsAsked g gs → (a : ℕ) → slice_get gs.read_only a ≡ Some false → is_empty (groups_from a 0 gs.of) ≡ false
stored_some g gs ask a h =
    let s = ask.share.stored_to a h in
    let one = ons_stored a s.addr s.value s.block.steps s.place s.is_step in
    let all = mine_all a gs.read_only 0 g.blocks s.number s.block s.is_block h in
    let some : 1 ≤ mine a gs.of = subst (λ xs. 1 ≤ mine a xs) (sym ask.share.accesses) (omega (arith, one, all)) in
    not_empty (is_empty (groups_from a 0 gs.of)) refl some
  where
    not_empty : (t : Bool) → is_empty (groups_from a 0 gs.of) ≡ t → 1 ≤ mine a gs.of → is_empty (groups_from a 0 gs.of) ≡ false
    not_empty true e some = absurd (let z = empty_mine a gs.of 0 e in omega (arith, z, some))
    not_empty false e some = e

within_arrays : (g : Graph) (gs : Groups) → IsAsked g gs → (a : ℕ) (t : Bool) → slice_get gs.read_only a ≡ Some t → a < length g.arrays
within_arrays g gs ask a t h = let lt = slice_get_within gs.read_only a t h in let few = ask.share.as_many in omega (arith, lt, few)

pub stored_owns : (g : Graph) (gs : Groups) → IsAsked g gs → (a : ℕ) → slice_get gs.read_only a ≡ Some false → lacks (front_keys g gs) a ≡ false
stored_owns g gs ask a h = (front_queued g gs (arrays_bound g gs ask)).each a (within_arrays g gs ask a false h) ∙ stored_some g gs ask a h

pub arrays_served : ArraysAreServed
arrays_served g gs ask =
    let few = arrays_bound g gs ask in
    record {
      reads = λ a h. all_reads a g gs ∙ ap {B = ℕ} (λ t. cond t (graph_loads a g) 0) (read_only_lacks g gs ask a h);
      no_queue = λ a h. all_queues g gs few a ∙ ap {B = ℕ} (λ t. cond t 0 1) (read_only_lacks g gs ask a h);
      queue = λ a h. all_queues g gs few a ∙ ap {B = ℕ} (λ t. cond t 0 1) (stored_owns g gs ask a h);
      unread = λ a h. all_reads a g gs ∙ ap {B = ℕ} (λ t. cond t (graph_loads a g) 0) (stored_owns g gs ask a h);
      queue_is = λ a h. queue_is_laid g gs a few (within_arrays g gs ask a false h) (stored_some g gs ask a h);
    }
