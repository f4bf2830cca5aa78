-- The places of the found blocks, and what the passes over blocks ask of a well formed graph.
use Rattle.std.proofs.Common.{◌≡◌, ℕ, suc, ◌+◌, ◌<◌, ◌==◌, Bool, true, false, not, cond, List, [], ◌∷◌, ◌++◌, map, length, get_or, Some, refl, sym, ◌∙◌, ap, subst, arith, inl, inr}
use Rattle.std.specs.Prelude.{set, replicate, All, Result, Ok, Err, IfOk}
use Rattle.std.specs.List.{flat_map}
use Rattle.std.proofs.lemmas.Bool.{eqb-true, eq-eqb}
use Rattle.std.proofs.lemmas.Option.{slice_get_within}
use Rattle.std.proofs.lemmas.List.{get_or-set_same, get_or-set_other, length-set, length-replicate}
use Rattle.std.proofs.lemmas.List.Elements.{All-nil, All-cons, All-from_get_or}
use Rattle.el_base.specs.declared.ty.Array.{Array}
use Rattle.el_base.specs.declared.memory.Memory.{Memory}
use Rattle.el_base.specs.declared.ty.Scalar.{Scalar}
use Rattle.el_base.specs.Limits.{IsNumbered}
use Rattle.ir.specs.declared.instr.Instr.{Instr}
use Rattle.ir.specs.declared.instr.Instr.TheVariants as step
use Rattle.ir.specs.declared.graph.Block.{Block}
use Rattle.ir.specs.declared.graph.Jump.{Jump}
use Rattle.ir.specs.declared.graph.Jump.TheVariants.{Go, Two, Return}
use Rattle.ir.specs.Shapes.{Shape, StepsFit, step_width}
use Rattle.ir.specs.Graphs.{Graph, IsGraph, no_block, block_at, size}
use Rattle.block_merge.specs.Renamed.{block_of}
use Rattle.block_merge.specs.Threaded.{threaded}
use Rattle.block_merge.specs.Joined.{all_joined}
use Rattle.block_merge.specs.Found.{targets, stored_by, stored_in, found_blocks}
use Rattle.block_merge.specs.Numbered.{numbered_to, numbered_jump, numbered, listed, place_of, reached}
use Rattle.block_merge.specs.Merged.{rounds, with_blocks, merged_blocks, merged}
use Rattle.block_merge.specs.Shares.{MergeShare}
use Rattle.block_merge.specs.Orders.{placed, IsWithin, AllWithin, StoresWithin}
use Rattle.block_merge.specs.Parts.{AreBlocks}
use Rattle.block_merge.proofs.Visiting.{is_block}
use Rattle.block_merge.proofs.Blocks.{some_blocks}
use Rattle.block_merge.proofs.Members.{In, Distinct, AllBelow, place_below, place_there}
use Rattle.block_merge.proofs.FoundLemmas.{LeadsWithin, IsWhole, IsFoundList, few_found, found_list}
use Rattle.block_merge.proofs.ListedFits.{leads_within}
use Rattle.block_merge.proofs.PartLemmas.{length_in_size}
use Rattle.block_merge.proofs.Passes.{merged_keeps, threaded_keeps, rows_keep, reached_keeps, keeps_twice}

-- ---- places

place_unset : (table xs : List ℕ) (i n : ℕ) → (In xs n → ⊥) → get_or (placed table i xs) n 0 ≡ get_or table n 0
place_unset table [] i n h = refl
place_unset table (x ∷ xs) i n h = place_unset (set table x i) xs (suc i) n (λ k. h (inr k)) ∙ get_or-set_other table x n i 0 (λ e. h (inl (sym e)))

place_set : (table xs : List ℕ) (i n : ℕ) → Distinct xs → AllBelow (length table) xs → In xs n → get_or (placed table i xs) n 0 ≡ i + place_of xs n
place_set table [] i n d b h = absurd h
place_set table (x ∷ xs) i n d b h = by (x == n) refl h (λ k. place_set (set table x i) xs (suc i) n d.1 (subst (λ m. AllBelow m xs) (sym (length-set table x i)) b.1) k)
  where
    by : (t : Bool) → (x == n) ≡ t → In (x ∷ xs) n → (In xs n → get_or (placed (set table x i) (suc i) xs) n 0 ≡ suc i + place_of xs n) → get_or (placed table i (x ∷ xs)) n 0 ≡ i + place_of (x ∷ xs) n
    by true e k rest =
        let is : x ≡ n = eqb-true x n e in
        let first : place_of (x ∷ xs) n ≡ 0 = ap (λ (c : Bool). cond (not c) (1 + place_of xs n) 0) e in
        let there : get_or (set table x i) n 0 ≡ i = ap (λ m. get_or (set table x i) m 0) (sym is) ∙ get_or-set_same table x i 0 b.0 in
        let unset = place_unset (set table x i) xs (suc i) n (subst (λ m. In xs m → ⊥) is d.0) in
        unset ∙ there ∙ omega (arith, first)
    by false e (inl is) rest = absurd (let t : (x == n) ≡ true = eq-eqb x n is in let u : false ≡ true = sym e ∙ t in cc)
    by false e (inr k) rest =
        let next : place_of (x ∷ xs) n ≡ suc (place_of xs n) = ap (λ (c : Bool). cond (not c) (1 + place_of xs n) 0) e ∙ omega arith in
        rest k ∙ omega (arith, next)

pub placed_long : (table xs : List ℕ) (i : ℕ) → length (placed table i xs) ≡ length table
placed_long table [] i = refl
placed_long table (x ∷ xs) i = placed_long (set table x i) xs (suc i) ∙ length-set table x i

-- ---- blocks numbered by a table

module _ (f h : ℕ → ℕ) where
  same_jump : (j : Jump) → ((t : ℕ) → In (targets j) t → f t ≡ h t) → numbered_jump f j ≡ numbered_jump h j
  same_jump (Go t) e = ap (λ n. Go (record { block = n; with = t.with })) (e t.block (inl refl))
  same_jump (Two c x y) e =
      ap (λ n. Two c (record { block = n; with = x.with }) (numbered_to f y)) (e x.block (inl refl)) ∙ ap (λ n. Two c (numbered_to h x) (record { block = n; with = y.with })) (e y.block (inr (inl refl)))
  same_jump (Return v) e = refl

  same_block : (b : Block) → ((t : ℕ) → In (targets b.jump) t → f t ≡ h t) → numbered f b ≡ numbered h b
  same_block b e = ap (λ j. record { args = b.args; steps = b.steps; jump = j }) (same_jump b.jump e)

  same_list : (bs : List Block) (xs : List ℕ) → ((n t : ℕ) → In xs n → In (targets (block_of bs n).jump) t → f t ≡ h t) → listed bs xs f ≡ listed bs xs h
  same_list bs [] e = refl
  same_list bs (x ∷ xs) e =
      ap (λ b. b ∷ listed bs xs f) (same_block (block_of bs x) (λ t k. e x t (inl refl) k)) ∙ ap (λ l. numbered h (block_of bs x) ∷ l) (same_list bs xs (λ n t j k. e n t (inr j) k))

-- ---- what a well formed graph has

all_of : (P : ℕ → Type 0) (xs : List ℕ) → ((t : ℕ) → In xs t → P t) → All P xs
all_of P [] h = All-nil P
all_of P (x ∷ xs) h = All-cons P x xs (h x (inl refl)) (all_of P xs (λ t k. h t (inr k)))

pub blocks_lead_within : (bs : List Block) → AreBlocks bs → LeadsWithin bs
blocks_lead_within bs a = leads_within (with_blocks a.graph bs) a.fine

pub all_within : (bs : List Block) → AreBlocks bs → AllWithin bs
all_within bs a = All-from_get_or (λ (b : Block). IsWithin bs (targets b.jump)) bs no_block (λ i lt. all_of (λ t. t < length bs) (targets (block_of bs i).jump) (λ t k. blocks_lead_within bs a i t k))

pub blocks_some : (bs : List Block) → AreBlocks bs → 0 < length bs
blocks_some bs a = some_blocks (with_blocks a.graph bs) a.fine

pub blocks_few : (bs : List Block) → AreBlocks bs → IsNumbered (length bs)
blocks_few bs a = let l = length_in_size bs in let s = a.small in omega (arith, l, s)

pub blocks_found : (bs : List Block) → AreBlocks bs → IsFoundList bs (found_blocks bs)
blocks_found bs a = found_list bs (blocks_some bs a) (blocks_lead_within bs a)

within_of : (m : ℕ) (xs : List ℕ) → AllBelow m xs → All (λ t. t < m) xs
within_of m [] h = All-nil (λ t. t < m)
within_of m (x ∷ xs) h = All-cons (λ t. t < m) x xs h.0 (within_of m xs h.1)

pub found_within : (bs : List Block) (found : List ℕ) → AreBlocks bs → found ≡ found_blocks bs → IsWithin bs found
found_within bs found a e = subst (IsWithin bs) (sym e) (within_of (length bs) (found_blocks bs) (blocks_found bs a).whole.below)

pub found_few : (bs : List Block) (found : List ℕ) → AreBlocks bs → found ≡ found_blocks bs → IsNumbered (length found)
found_few bs found a e =
    let w = (blocks_found bs a).whole in
    let l = few_found bs (found_blocks bs) w.distinct w.below in
    let s = blocks_few bs a in
    let k = ap length e in
    omega (arith, l, s, k)

-- the blocks numbered by the table are the reached ones
pub reached_is : (bs : List Block) (found table : List ℕ) → AreBlocks bs → found ≡ found_blocks bs → table ≡ placed (replicate (length bs) 0) 0 found → listed bs found (λ n. get_or table n 0) ≡ reached bs
reached_is bs found table a e t =
    let all = found_blocks bs in
    let w = (blocks_found bs a).whole in
    let start : List ℕ = replicate (length bs) 0 in
    let l : length start ≡ length bs = length-replicate (length bs) 0 in
    let g : ℕ → ℕ = λ n. get_or (placed start 0 all) n 0 in
    let is : table ≡ placed start 0 all = t ∙ ap (placed start 0) e in
    let below : AllBelow (length start) all = subst (λ m. AllBelow m all) (sym l) w.below in
    let same : listed bs all g ≡ listed bs all (place_of all) =
    same_list g (place_of all) bs all (λ n x j k. place_set start all 0 x w.distinct below (closed bs all w n x j k) ∙ omega arith) in
    ap (λ xs. listed bs xs (λ n. get_or table n 0)) e ∙ ap (λ (xs : List ℕ). listed bs all (λ n. get_or xs n 0)) is ∙ same
  where
    closed : (bs : List Block) (all : List ℕ) → IsWhole bs all → (n t : ℕ) → In all n → In (targets (block_of bs n).jump) t → In all t
    closed bs all w n t j k =
        let lt = place_below all n j in
        w.closed (place_of all n) t lt lt (subst (λ m. In (targets (block_of bs m).jump) t) (sym (place_there all n j)) k)

-- ---- stores are to arrays that there are

stores_fit : (arrays : List Array) (is : List Instr) (ws : Shape) → StepsFit arrays ws is → All (λ a. a < length arrays) (flat_map stored_by is)
stores_fit arrays [] ws h = All-nil (λ a. a < length arrays)
stores_fit arrays (step.Const w n ∷ is) ws h = stores_fit arrays is (ws ++ step_width arrays (step.Const w n) ∷ []) h.1
stores_fit arrays (step.One op a ∷ is) ws h = stores_fit arrays is (ws ++ step_width arrays (step.One op a) ∷ []) h.1
stores_fit arrays (step.Two op a b ∷ is) ws h = stores_fit arrays is (ws ++ step_width arrays (step.Two op a b) ∷ []) h.1
stores_fit arrays (step.Select w c a b ∷ is) ws h = stores_fit arrays is (ws ++ step_width arrays (step.Select w c a b) ∷ []) h.1
stores_fit arrays (step.Load a p ∷ is) ws h = stores_fit arrays is (ws ++ step_width arrays (step.Load a p) ∷ []) h.1
stores_fit arrays (step.Store a p v ∷ is) ws h =
    All-cons (λ x. x < length arrays) a (flat_map stored_by is) (slice_get_within arrays a h.0.1.0 h.0.1.1) (stores_fit arrays is (ws ++ step_width arrays (step.Store a p v) ∷ []) h.1)

pub stores_within : (g : Graph) → IsGraph g → StoresWithin (length g.arrays) g.blocks
stores_within g fine =
    All-from_get_or (λ (b : Block). All (λ a. a < length g.arrays) (stored_in b)) g.blocks no_block
    (λ i lt. let b = block_at g i in stores_fit g.arrays b.steps (map Some b.args) (is_block g fine i lt).steps)

-- ---- one pass after the other

pub record IsStage (g : Graph) (bs : List Block) : Type 0 where
  pub share : MergeShare g (with_blocks g bs)
  pub are : AreBlocks bs
  pub stores : StoresWithin (length g.arrays) bs

stage : (g : Graph) (bs : List Block) → IsNumbered (size g) → MergeShare g (with_blocks g bs) → IsStage g bs
stage g bs few m = record {
  share = m;
  are = record { graph = g; fine = m.fine; small = (let l = m.sizes.bounded in omega (arith, l, few)) };
  stores = stores_within (with_blocks g bs) m.fine;
}

pub first_stage : (g : Graph) → IsGraph g → IsNumbered (size g) → IsStage g (threaded rounds g.blocks)
first_stage g fine few = stage g (threaded rounds g.blocks) few (threaded_keeps rounds g fine)

pub reached_stage : (g : Graph) (bs : List Block) → IsNumbered (size g) → IsStage g bs → IsStage g (reached bs)
reached_stage g bs few s = stage g (reached bs) few (keeps_twice g (with_blocks g bs) (with_blocks g (reached bs)) s.share (reached_keeps (with_blocks g bs) s.share.fine))

pub joined_stage : (g : Graph) (bs : List Block) → IsNumbered (size g) → IsStage g bs → IsStage g (all_joined bs)
joined_stage g bs few s = stage g (all_joined bs) few (keeps_twice g (with_blocks g bs) (with_blocks g (all_joined bs)) s.share (rows_keep (length bs) (with_blocks g bs) 0 s.share.fine))

-- ---- as the code has it

pub ok_same : (r : Result (List Block) Memory) (x y : List Block) → IfOk r (λ bs. bs ≡ x) → x ≡ y → IfOk r (λ bs. bs ≡ y)
ok_same (Ok bs) x y h e = h ∙ e
ok_same (Err m) x y h e = tt

pub start_of : (g : Graph) (bs slice : List Block) → IsGraph g → IsNumbered (size g) → slice ≡ g.blocks → bs ≡ threaded rounds slice → IsStage g bs
start_of g bs slice fine few s e = subst (IsStage g) (sym (e ∙ ap (threaded rounds) s)) (first_stage g fine few)

pub reach_of : (g : Graph) (bs slice new : List Block) → IsNumbered (size g) → IsStage g bs → slice ≡ bs → new ≡ reached slice → IsStage g new
reach_of g bs slice new few s p e = subst (IsStage g) (sym (e ∙ ap reached p)) (reached_stage g bs few s)

pub join_of : (g : Graph) (bs new : List Block) → IsNumbered (size g) → IsStage g bs → new ≡ all_joined bs → IsStage g new
join_of g bs new few s e = subst (IsStage g) (sym e) (joined_stage g bs few s)

pub are_of : (g : Graph) (bs slice : List Block) → IsStage g bs → slice ≡ bs → AreBlocks slice
are_of g bs slice s e = subst AreBlocks (sym e) s.are

pub within_arrays : (g : Graph) (bs slice : List Block) (n : ℕ) → IsStage g bs → slice ≡ bs → n ≡ length g.arrays → StoresWithin n slice
within_arrays g bs slice n s e k = subst (λ m. StoresWithin m slice) (sym k) (subst (StoresWithin (length g.arrays)) (sym e) s.stores)

-- all four passes
pub passes_are : (bs one s1 two three s3 four slice : List Block) → slice ≡ bs → one ≡ threaded rounds slice → s1 ≡ one → two ≡ reached s1 → three ≡ all_joined two → s3 ≡ three → four ≡ reached s3 → four ≡ merged_blocks bs
passes_are bs one s1 two three s3 four slice a b c d e f g =
    let p : two ≡ reached (threaded rounds bs) = d ∙ ap reached (c ∙ (b ∙ ap (threaded rounds) a)) in
    g ∙ ap reached (f ∙ (e ∙ ap all_joined p))

pub graph_made : (g v : Graph) (n : List ℕ) (s : List Scalar) (a : List Array) (bs : List Block) → v ≡ g → n ≡ v.name → s ≡ v.scalars → a ≡ v.arrays → bs ≡ merged_blocks g.blocks
    → record { name = n; scalars = s; arrays = a; result = v.result; blocks = bs } ≡ merged g
graph_made g v n s a bs h e_n e_s e_a e_b =
    ap (λ (x : List ℕ). record { name = x; scalars = s; arrays = a; result = v.result; blocks = bs }) e_n
    ∙ ap (λ (x : List Scalar). record { name = v.name; scalars = x; arrays = a; result = v.result; blocks = bs }) e_s
    ∙ ap (λ (x : List Array). record { name = v.name; scalars = v.scalars; arrays = x; result = v.result; blocks = bs }) e_a
    ∙ ap (λ (x : Graph). with_blocks x bs) h
    ∙ ap (with_blocks g) e_b

pub share_of : (g r : Graph) → IsGraph g → r ≡ merged g → MergeShare g r
share_of g r fine e = subst (MergeShare g) (sym e) (merged_keeps g fine)
