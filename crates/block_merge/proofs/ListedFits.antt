-- The graph of the blocks that a walk finds is well formed, keeps the runs, and is no greater.
use Rattle.std.proofs.Common.{◌≡◌, ℕ, ◌<◌, ◌≤◌, List, [], ◌∷◌, map, length, get_or, None, refl, sym, ◌∙◌, ap, subst, arith, inl, inr}
use Rattle.std.specs.Prelude.{sum_by}
use Rattle.std.proofs.lemmas.Bool.{cases_lt}
use Rattle.std.proofs.lemmas.Option.{slice_get_within, slice_get-get_or}
use Rattle.std.proofs.lemmas.List.{length-map, get_or-map, get_or_past}
use Rattle.std.proofs.lemmas.List.Sums.{sum_by-cons}
use Rattle.ir.specs.declared.graph.Block.{Block}
use Rattle.ir.specs.declared.graph.Jump.{Jump}
use Rattle.ir.specs.declared.graph.Jump.TheVariants.{Go, Two, Return}
use Rattle.ir.specs.declared.graph.To.{To}
use Rattle.ir.specs.Steps.{value_at}
use Rattle.ir.specs.Shapes.{Shape}
use Rattle.ir.specs.Graphs.{Graph, IsGraph, IsBlock, IsJump, IsTarget, AreHanded, shape_of, no_block, block_at}
use Rattle.block_merge.specs.Renamed.{block_of}
use Rattle.block_merge.specs.Found.{targets, found_blocks}
use Rattle.block_merge.specs.Numbered.{numbered_to, numbered_jump, numbered, listed, place_of}
use Rattle.block_merge.specs.Merged.{with_blocks}
use Rattle.block_merge.specs.Shares.{RunsOver}
use Rattle.block_merge.proofs.Backs.{EndsBack}
use Rattle.block_merge.proofs.Visiting.{is_block}
use Rattle.block_merge.proofs.ListedRuns.{IsFound, LeadsTo, IsListing, listed_runs, listed_back}
use Rattle.block_merge.proofs.Blocks.{IsWeight, HasFewArgs, graph_of, target_hands, some_blocks}
use Rattle.block_merge.proofs.Members.{In, in_at, place_below, place_there, first_place, AllBelow, below_at, total_at}
use Rattle.block_merge.proofs.FoundLemmas.{LeadsWithin, IsFoundList, found_list, few_found}

-- ---- well formed graphs lead within

within_jump : (g : Graph) (ws : Shape) (j : Jump) → IsJump g ws j → (t : ℕ) → In (targets j) t → t < length g.blocks
within_jump g ws (Go to) h t k = elim k [ inl e ↦ subst (λ n. n < length g.blocks) e (slice_get_within g.blocks to.block h.block h.exists) | inr nothing ↦ absurd nothing ]
within_jump g ws (Two c x y) h t k = elim k [
  | inl e ↦ subst (λ n. n < length g.blocks) e (slice_get_within g.blocks x.block h.1.block h.1.exists)
  | inr later ↦ elim later [ inl e ↦ subst (λ n. n < length g.blocks) e (slice_get_within g.blocks y.block h.2.block h.2.exists) | inr nothing ↦ absurd nothing ]
]
within_jump g ws (Return v) h t k = absurd k

pub leads_within : (g : Graph) → IsGraph g → LeadsWithin g.blocks
leads_within g fine n t k = elim (cases_lt n (length g.blocks)) [
  | inl lt ↦ let b = block_at g n in within_jump g (shape_of g b) b.jump (is_block g fine n lt).jump t k
  | inr ge ↦ let none : In (targets (Return None)) t = subst (λ (x : Block). In (targets x.jump) t) (get_or_past g.blocks n no_block ge) k in absurd none
]

module _ (g : Graph) (fine : IsGraph g) where
  abbrev found : List ℕ
  found = found_blocks g.blocks

  abbrev f : ℕ → ℕ
  f = place_of found

  abbrev bs : List Block
  bs = listed g.blocks found f

  pub is : IsFoundList g.blocks found
  is = found_list g.blocks (some_blocks g fine) (leads_within g fine)

  pub long : length bs ≡ length found
  long = length-map found (λ n. numbered f (block_of g.blocks n))

  pub at_place : (i : ℕ) → i < length found → block_of bs i ≡ numbered f (block_at g (get_or found i 0))
  at_place i lt = get_or-map (λ n. numbered f (block_of g.blocks n)) found i 0 no_block lt

  pub at_found : (n : ℕ) → In found n → block_of bs (f n) ≡ numbered f (block_at g n)
  at_found n k = at_place (f n) (place_below found n k) ∙ ap (λ m. numbered f (block_at g m)) (place_there found n k)

  below : (n : ℕ) → In found n → n < length g.blocks
  below n k = below_at (length g.blocks) found n is.whole.below k

  -- ---- targets are found

  closed : (n t : ℕ) → In found n → In (targets (block_at g n).jump) t → In found t
  closed n t k h =
      let i = f n in
      let lt = place_below found n k in
      is.whole.closed i t lt lt (subst (λ m. In (targets (block_at g m).jump) t) (sym (place_there found n k)) h)

  start : In found 0
  start = subst (λ l. In l 0) (sym is.first) (inl refl)

  first : f 0 ≡ 0
  first = ap (λ l. place_of l 0) is.first ∙ first_place 0 is.more

  found_of : (n : ℕ) → In found n → IsFound found f n
  found_of n k = (place_below found n k, place_there found n k)

  in_of_place : (n : ℕ) → IsFound found f n → In found n
  in_of_place n p = subst (In found) p.1 (in_at found (f n) p.0)

  leads_found : (j : Jump) → ((t : ℕ) → In (targets j) t → In found t) → LeadsTo (IsFound found f) j
  leads_found (Go t) h = found_of t.block (h t.block (inl refl))
  leads_found (Two c x y) h = (found_of x.block (h x.block (inl refl)), found_of y.block (h y.block (inr (inl refl))))
  leads_found (Return v) h = tt

  listing : IsListing g found f
  listing = record {
    start = found_of 0 start;
    first = first;
    closed = λ n p. leads_found (block_at g n).jump (λ t h. closed n t (in_of_place n p) h);
  }

  pub reached_runs : RunsOver g (with_blocks g bs)
  reached_runs = listed_runs g found f listing

  pub reached_back : EndsBack g (with_blocks g bs)
  reached_back = listed_back g found f listing

  -- ---- well formed

  later : (n : ℕ) → In found n → 0 < n → 0 < f n
  later n k lt = elim (cases_lt 0 (f n)) [
    | inl more ↦ more
    | inr ge ↦
        let zero_place : f n ≡ 0 = omega arith in
        let e : n ≡ 0 = sym (place_there found n k) ∙ (ap (λ i. get_or found i 0) zero_place ∙ ap (λ l. get_or l 0 0) is.first) in
        absurd (omega (arith, lt, e))
  ]

  fits_to : (ws : Shape) (t : To) → In found t.block → IsTarget g.blocks ws t → IsTarget bs ws (numbered_to f t)
  fits_to ws t k h =
      let same : (block_of bs (f t.block)).args ≡ (block_at g t.block).args = ap (λ (b : Block). b.args) (at_found t.block k) in
      let lt = place_below found t.block k in
      let by : IsTarget bs ws (record { block = f t.block; with = t.with }) = record {
        block = block_of bs (f t.block);
        exists = slice_get-get_or bs (f t.block) no_block (omega (arith, lt, long));
        no_entry = later t.block k h.no_entry;
        handed = subst (λ xs. AreHanded ws t.with xs) (sym same) (target_hands g.blocks ws t h);
      } in by

  fits_jump : (ws : Shape) (j : Jump) → ((t : ℕ) → In (targets j) t → In found t) → IsJump g ws j → IsJump (with_blocks g bs) ws (numbered_jump f j)
  fits_jump ws (Go t) k h = fits_to ws t (k t.block (inl refl)) h
  fits_jump ws (Two c x y) k h = (h.0, fits_to ws x (k x.block (inl refl)) h.1, fits_to ws y (k y.block (inr (inl refl))) h.2)
  fits_jump ws (Return v) k h = h

  fits_block : (i : ℕ) → i < length bs → IsBlock (with_blocks g bs) (block_of bs i)
  fits_block i lt =
      let there : i < length found = omega (arith, lt, long) in
      let n = get_or found i 0 in
      let k = in_at found i there in
      let b = block_at g n in
      let h = is_block g fine n (below n k) in
      subst (IsBlock (with_blocks g bs)) (sym (at_place i there)) (record { args = h.args; steps = h.steps; jump = fits_jump (shape_of g b) b.jump (λ t j. closed n t k j) h.jump })

  some : 0 < length found
  some = let e = ap length is.first in omega (arith, e)

  entry_args : (block_of bs 0).args ≡ (block_at g 0).args
  entry_args = ap (λ (b : Block). b.args) (ap (block_of bs) (sym first) ∙ at_found 0 start)

  pub reached_fits : IsGraph (with_blocks g bs)
  reached_fits = graph_of g bs fine (let s = some in omega (arith, s, long)) entry_args fits_block

  -- ---- no greater

  pub reached_few : length bs ≤ length g.blocks
  reached_few = let l = few_found g.blocks found is.whole.distinct is.whole.below in omega (arith, l, long)

  weighed : (w : Block → ℕ) → IsWeight w → (xs : List ℕ) → AllBelow (length g.blocks) xs
      → sum_by w (map (λ n. numbered f (block_of g.blocks n)) xs) ≡ sum_by (λ n. n) (map (value_at (map w g.blocks)) xs)
  weighed w is_w [] h = refl
  weighed w is_w (x ∷ xs) h =
      let i = weighed w is_w xs h.1 in
      let e : w (numbered f (block_of g.blocks x)) ≡ value_at (map w g.blocks) x = is_w.numbered_same f (block_of g.blocks x) ∙ sym (get_or-map w g.blocks x no_block 0 h.0) in
      let p = sum_by-cons w (numbered f (block_of g.blocks x)) (map (λ n. numbered f (block_of g.blocks n)) xs) in
      let q = sum_by-cons (λ n. n) (value_at (map w g.blocks) x) (map (value_at (map w g.blocks)) xs) in
      omega (arith, i, e, p, q)

  pub reached_lighter : (w : Block → ℕ) → IsWeight w → sum_by w bs ≤ sum_by w g.blocks
  reached_lighter w is_w =
      let ws = map w g.blocks in
      let l : length ws ≡ length g.blocks = length-map g.blocks w in
      let t = total_at ws found is.whole.distinct (subst (λ m. AllBelow m found) (sym l) is.whole.below) in
      let e = weighed w is_w found is.whole.below in
      let o = total_map w g.blocks in
      omega (arith, t, e, o)
    where
      total_map : (w : Block → ℕ) (xs : List Block) → sum_by (λ n. n) (map w xs) ≡ sum_by w xs
      total_map w [] = refl
      total_map w (x ∷ xs) = let i = total_map w xs in let p = sum_by-cons (λ n. n) (w x) (map w xs) in let q = sum_by-cons w x xs in omega (arith, i, p, q)

  pub reached_few_args : (most : ℕ) → HasFewArgs g.blocks most → HasFewArgs bs most
  reached_few_args most h i = elim (cases_lt i (length bs)) [
    | inl lt ↦ let e : length (block_of bs i).args ≡ length (block_at g (get_or found i 0)).args = ap (λ (b : Block). length b.args) (at_place i (omega (arith, lt, long))) in let l = h (get_or found i 0) in omega (arith, e, l)
    | inr ge ↦ let e : length (block_of bs i).args ≡ 0 = ap (λ (b : Block). length b.args) (get_or_past bs i no_block ge) in omega (arith, e)
  ]
