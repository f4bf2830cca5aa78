-- The optimized graph of a kernel keeps what its merged graph keeps.
use Rattle.std.proofs.Common.{◌≡◌, ℕ, suc, ◌+◌, ◌-◌, ◌*◌, ◌<◌, ◌≤◌, ◌^◌, ◌∙◌, min, ℤ, pos, true, List, [], ◌∷◌, ◌++◌, map, length, get_or, refl, sym, ap, subst, arith, inl, inr}
use Rattle.std.specs.Prelude.{All, Result, Ok, Err, IfOk, nat_le}
use Rattle.std.specs.List.{list_all}
use Rattle.std.proofs.Math.Nat.{mul-le-mul}
use Rattle.std.proofs.lemmas.Bool.{leb-true, and_parts}
use Rattle.std.proofs.lemmas.List.Elements.{All-map, All-weaker, All-from_get_or}
use Rattle.std.proofs.lemmas.List.Sums.{AllPass-from_list_all}
use Rattle.el_base.specs.declared.memory.Memory.{Memory}
use Rattle.el_base.specs.declared.ty.Ty.{Ty}
use Rattle.el_base.specs.declared.ty.Scalar.{Scalar}
use Rattle.el_base.specs.Headers.{Header}
use Rattle.el_base.specs.Limits.{max_nodes}
use Rattle.el_base.specs.Numbers.{pattern}
use Rattle.el_base.specs.Widths.{ty_width}
use Rattle.el_base.proofs.PatternLemmas.{pattern-lt}
use Rattle.c_ast.specs.declared.tree.Param.{Param}
use Rattle.c_ast.specs.declared.typed.ArrayOf.{ArrayOf}
use Rattle.c_ast.specs.declared.typed.Typed.{Typed}
use Rattle.c_ast.specs.Nodes.{typed_nodes}
use Rattle.c_meaning.specs.Headers.{scalar_of, scalars_of, flat, kernel_header}
use Rattle.c_meaning.specs.KernelPatterns.{scalar_patterns, array_patterns, result_pattern}
use Rattle.c_meaning.specs.Stores.{Inputs, AreInRanges, AreArraysOf, AreFitting, scalar_type, scalar_types}
use Rattle.ir.specs.declared.graph.Block.{Block}
use Rattle.ir.specs.Accesses.{accesses_in}
use Rattle.ir.specs.Visits.{over_visits}
use Rattle.ir.specs.Graphs.{Graph, IsGraph, block_weight, weight, size}
use Rattle.ir.specs.Headers.{graph_header}
use Rattle.block_pass.specs.Fitting.{FitWidths, FitArrays, FitHeader}
use Rattle.block_pass.specs.Shares.{PassShare}
use Rattle.block_pass.specs.Laws.{LightVisits}
use Rattle.block_pass.proofs.Passing.{no_cost}
use Rattle.kernel_graph.specs.Optimized.{is_light, is_within, optimized_within, optimized}
use Rattle.kernel_graph.specs.Laws.{OptimizedGraphsPass}
use Rattle.kernel_graph.specs.Shares.{first_on, KernelRunsFollow, IsSmallGraph, GraphShare}
use Rattle.kernel_graph.proofs.Passed.{within_or_same}

-- ---- inputs that fit a kernel fit its graph

widths_more : (ds : List ℕ) (p : Param) (ps : List Param) (ts : List Ty) → map (λ (s : Scalar). ty_width s.ty) (scalars_of ps) ≡ map ty_width ts
    → map (λ (s : Scalar). ty_width s.ty) (scalar_of ds p ++ scalars_of ps) ≡ map ty_width (scalar_type ds p.ty ++ ts)
widths_more [] p ps ts e = ap (λ l. ty_width p.ty ∷ l) e
widths_more (d ∷ ds) p ps ts e = e

scalar_widths : (ps : List Param) → map (λ (s : Scalar). ty_width s.ty) (scalars_of ps) ≡ map ty_width (scalar_types ps)
scalar_widths [] = refl
scalar_widths (p ∷ ps) = widths_more p.dims p ps (scalar_types ps) (scalar_widths ps)

scalars_fit : (ts : List Ty) (zs : List ℤ) → AreInRanges ts zs → FitWidths (map ty_width ts) (scalar_patterns ts zs)
scalars_fit [] [] h = tt
scalars_fit (t ∷ ts) (z ∷ zs) h = (pattern-lt t z, scalars_fit ts zs h.1)
scalars_fit [] (z ∷ zs) h = absurd h
scalars_fit (t ∷ ts) [] h = absurd h

arrays_fit : (xs : List ArrayOf) (zss : List (List ℤ)) → AreArraysOf xs zss → FitArrays (map flat xs) (array_patterns xs zss)
arrays_fit [] [] h = tt
arrays_fit (x ∷ xs) (zs ∷ zss) h = (
  All-map (λ n. n < 2 ^ ty_width x.ty) (pattern x.ty) zs (All-from_get_or (λ z. pattern x.ty z < 2 ^ ty_width x.ty) zs (pos 0) (λ i lt. pattern-lt x.ty (get_or zs i (pos 0)))),
  arrays_fit xs zss h.2,
)
arrays_fit [] (zs ∷ zss) h = absurd h
arrays_fit (x ∷ xs) [] h = absurd h

header_fits : (k : Typed) (g : Graph) (i : Inputs) → graph_header g ≡ kernel_header k → AreFitting k.params k.arrays i
    → FitHeader g (scalar_patterns (scalar_types k.params) i.scalars) (array_patterns k.arrays i.arrays)
header_fits k g i same fit =
    let xs = scalar_patterns (scalar_types k.params) i.scalars in
    let ys = array_patterns k.arrays i.arrays in
    record {
      each_scalar = subst (λ (e : Header). FitWidths (map (λ (s : Scalar). ty_width s.ty) e.scalars) xs) (sym same) (subst (λ ws. FitWidths ws xs) (sym (scalar_widths k.params)) (scalars_fit (scalar_types k.params) i.scalars fit.each_scalar));
      each_array = subst (λ (e : Header). FitArrays e.arrays ys) (sym same) (arrays_fit k.arrays i.arrays fit.each_array);
    }

-- ---- weights

-- so many visits, each of at most so much
visits_within : (n t more heavy : ℕ) → more ≤ 2 * t → heavy ≤ suc more * (10 * n) → heavy ≤ 20 * n * (t + 1)
visits_within n t more heavy few h =
    let le : suc more ≤ 2 * t + 1 = omega arith in
    let same : 10 * n ≤ 10 * n = omega arith in
    let a : suc more * (10 * n) ≤ (2 * t + 1) * (10 * n) = mul-le-mul le same in
    let x : (2 * t + 1) * (10 * n) ≡ 20 * (n * t) + 10 * n = omega arith in
    let y : 20 * n * (t + 1) ≡ 20 * (n * t) + 20 * n = omega arith in
    omega arith

module _ (k : Typed) (m h : Graph) (share : GraphShare k m) (pass : PassShare m h) (light : LightVisits) (few : typed_nodes k ≤ max_nodes) (within : is_within (10 * typed_nodes k) h ≡ true) where
  abbrev most : ℕ
  most = 10 * typed_nodes k

  tests : (list_all (is_light most) h.blocks ≡ true) × (nat_le (size h) 8000000 ≡ true)
  tests = and_parts (list_all (is_light most) h.blocks) (nat_le (size h) 8000000) within

  each_light : All (λ b. is_light most b ≡ true) h.blocks
  each_light = AllPass-from_list_all (is_light most) h.blocks tests.0

  weights : All (λ (b : Block). block_weight b ≤ most) h.blocks
  weights = All-weaker (λ b. is_light most b ≡ true) (λ (b : Block). block_weight b ≤ most) (λ b e. leb-true (block_weight b) most (and_parts (nat_le (block_weight b) most) (nat_le (accesses_in b.steps) 1024) e).0) h.blocks each_light

  accesses : All (λ (b : Block). accesses_in b.steps ≤ 1024) h.blocks
  accesses = All-weaker (λ b. is_light most b ≡ true) (λ (b : Block). accesses_in b.steps ≤ 1024) (λ b e. leb-true (accesses_in b.steps) 1024 (and_parts (nat_le (block_weight b) most) (nat_le (accesses_in b.steps) 1024) e).1) h.blocks each_light

  light_runs : KernelRunsFollow k h
  light_runs p i out r t fit ends =
      let x = share.runs p i out r t fit ends in
      let v = first_on k i in
      let e = pass.runs (scalar_patterns (scalar_types k.params) i.scalars) (array_patterns k.arrays i.arrays) (result_pattern k.result r) (array_patterns k.arrays out) (2 * t) (header_fits k m i share.header fit)
      (record { rest = x.rest; ends = x.ends; clean = x.clean; few = x.few; cheap = (let z = no_cost (v ∷ x.rest) in omega (arith, z)) }) in
      record {
        rest = e.rest;
        ends = e.ends;
        clean = e.clean;
        few = e.few;
        cheap = visits_within (typed_nodes k) t (length e.rest) (over_visits (weight h) (v ∷ e.rest)) e.few (light h most (v ∷ e.rest) (omega arith) weights);
      }

  light_small : IsSmallGraph h
  light_small = record {
    blocks = (let a = pass.blocks in let b = share.small.blocks in omega (arith, a, b));
    bounded = leb-true (size h) 8000000 tests.1;
    steps = All-weaker (λ (b : Block). block_weight b ≤ most) (λ (b : Block). length b.steps ≤ 14336) (λ b l. omega (arith, l, few)) h.blocks weights;
    args = pass.few_args 1024 share.small.args;
    accesses = accesses;
  }

  light_share : GraphShare k h
  light_share = record {
    header = pass.header ∙ share.header;
    runs = light_runs;
    small = light_small;
    stored = λ a. (λ s. (share.stored a).0 ((pass.stored a).0 s), λ s. (pass.stored a).1 ((share.stored a).1 s));
  }

optimized_kept : (k : Typed) (m : Graph) → LightVisits → OptimizedGraphsPass → typed_nodes k ≤ max_nodes → IsGraph m → GraphShare k m → GraphShare k (optimized (typed_nodes k) m)
optimized_kept k m light law few fine share =
    let n = typed_nodes k in
    elim (within_or_same (10 * n) m) [
      | inl w ↦ light_share k m (optimized n m) share (law n m fine).share light few w
      | inr e ↦ subst (GraphShare k) (sym e) share
    ]

pub share_kept : (k : Typed) (m : Graph) (n : ℕ) (r : Result Graph Memory) → LightVisits → OptimizedGraphsPass → typed_nodes k ≤ max_nodes → IsGraph m → GraphShare k m → n ≡ typed_nodes k → IfOk r (λ h. h ≡ optimized_within (10 * n) m)
    → IfOk r (GraphShare k)
share_kept k m n (Ok h) light law few fine share count same = subst (GraphShare k) (sym (same ∙ ap (λ x. optimized_within (10 * x) m) count)) (optimized_kept k m light law few fine share)
share_kept k m n (Err e) light law few fine share count same = tt

-- the nodes that are counted are those of the kernel
pub count_is : (k : Typed) (n : ℕ) → typed_nodes k ≤ max_nodes → n ≡ min (typed_nodes k) (2 ^ 64 - 1) → n ≡ typed_nodes k
count_is k n few e = small (typed_nodes k) few e
  where
    small : (m : ℕ) → m ≤ max_nodes → n ≡ min m (2 ^ 64 - 1) → n ≡ m
    small m few e = omega arith
