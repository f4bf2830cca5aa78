-- The shares of normal forms, graphs over variables and graphs over arguments, joined.
use Rattle.std.proofs.Common.{◌≡◌, ℕ, suc, ◌+◌, ◌*◌, ◌^◌, ◌<◌, ◌≤◌, List, [], ◌∷◌, Option, length, refl, sym, ap, subst, ◌∙◌, arith, length-append}
use Rattle.std.specs.Prelude.{◌↔◌, ℤ, Result, Ok, Err, IfOk, All, sum_by}
use Rattle.std.proofs.lemmas.List.{length-map}
use Rattle.std.proofs.Math.Nat.{mul-le-mul}
use Rattle.std.proofs.lemmas.List.Elements.{All-weaker, All-from_get_or}
use Rattle.std.proofs.lemmas.List.Sums.{get_or-le-sum_by}
use Rattle.el_base.specs.declared.ty.Ty.{Ty}
use Rattle.el_base.specs.declared.memory.Memory.{Memory}
use Rattle.el_base.specs.Headers.{Header}
use Rattle.el_base.specs.Limits.{max_nodes}
use Rattle.el_base.specs.Widths.{ty_width}
use Rattle.c_ast.specs.declared.tree.Param.{Param}
use Rattle.c_ast.specs.declared.typed.Typed.{Typed}
use Rattle.c_ast.specs.declared.normal.Normal.{Normal}
use Rattle.c_ast.specs.Nodes.{typed_nodes}
use Rattle.c_meaning.specs.Stores.{AreInRanges, scalar_type, scalar_types}
use Rattle.c_meaning.specs.Headers.{scalar_of, scalars_of}
use Rattle.c_meaning.specs.KernelPatterns.{scalar_patterns, array_patterns, result_pattern}
use Rattle.c_meaning.specs.Sizes.{Sizes, form_sizes}
use Rattle.ir.specs.Accesses.{accesses_in, IsStoredTo}
use Rattle.ir.specs.Finished.{Finished}
use Rattle.ir.specs.declared.graph.Block.{Block}
use Rattle.ir.specs.Graphs.{Graph, no_block, passage, weight, size}
use Rattle.block_merge.specs.Merged.{merged}
use Rattle.block_merge.specs.Shares.{MergeShare}
use Rattle.ir.specs.Variables.{VarGraph}
use Rattle.ir.specs.Visits.{Visit, Passing}
use Rattle.c_norm.specs.Kernels.{normal_form}
use Rattle.c_norm.specs.Shares.{NormalShare, NormalSizes, SmallSizes}
use Rattle.struct_cfg.specs.Runs.{CfgShare, CfgSizes}
use Rattle.struct_cfg.specs.Kernels.{IsSmallForm, form_graph}
use Rattle.block_trim.specs.Trimming.{trimmed}
use Rattle.block_args.specs.Shares.{ArgsShare, ArgsSizes}
use Rattle.block_args.specs.Made.{IsArgued, parts}
use Rattle.kernel_graph.specs.Optimized.{optimized_within, optimized}
use Rattle.kernel_graph.specs.Composed.{kernel_var_graph, IsGraphOf}
use Rattle.kernel_graph.specs.Laws.{StoresAreAssignments}
use Rattle.kernel_graph.specs.Targets.{IsAssignedTo}
use Rattle.kernel_graph.specs.Shares.{first_on, KernelRunsFollow, IsSmallGraph, GraphShare}

-- ---- bounds

-- the three bounds of weights together
joined_shares : (n v t jumps price : ℕ) → v + 2 ≤ n → jumps ≤ 2 * t → price ≤ 13 * n * (t + 1) → (price + v) + (jumps + 1) * (2 + 3 * v) ≤ 20 * n * (t + 1)
joined_shares n v t jumps price a b c =
    let p = 2 + 3 * v in
    let le : jumps + 1 ≤ 2 * t + 1 = omega arith in
    let big : p ≤ 3 * n = omega arith in
    let h : (jumps + 1) * p ≤ (2 * t + 1) * (3 * n) = mul-le-mul le big in
    let x : (2 * t + 1) * (3 * n) ≡ 6 * (n * t) + 3 * n = omega arith in
    let y : 13 * n * (t + 1) ≡ 13 * (n * t) + 13 * n = omega arith in
    let z : 20 * n * (t + 1) ≡ 20 * (n * t) + 20 * n = omega arith in
    omega arith

finished_within : (f : Passing) (v : Visit) (r : Option ℕ) (arrays : List (List ℕ)) (cost : Visit → ℕ) (more most more2 most2 : ℕ) → more ≤ more2 → most ≤ most2
    → Finished f v r arrays cost more most → Finished f v r arrays cost more2 most2
finished_within f v r arrays cost more most more2 most2 a b h = record {
  rest = h.rest;
  ends = h.ends;
  clean = h.clean;
  few = (let l = h.few in omega arith);
  cheap = (let l = h.cheap in omega arith);
}

-- ---- headers

type_lengths : (ds : List ℕ) (p : Param) → length (scalar_type ds p.ty) ≡ length (scalar_of ds p)
type_lengths [] p = refl
type_lengths (d ∷ ds) p = refl

scalar_lengths : (ps : List Param) → length (scalar_types ps) ≡ length (scalars_of ps)
scalar_lengths [] = refl
scalar_lengths (p ∷ ps) =
    omega (arith, length-append (scalar_type p.dims p.ty) (scalar_types ps), length-append (scalar_of p.dims p) (scalars_of ps), type_lengths p.dims p, scalar_lengths ps)

pattern_lengths : (ts : List Ty) (zs : List ℤ) → AreInRanges ts zs → length (scalar_patterns ts zs) ≡ length ts
pattern_lengths [] [] h = refl
pattern_lengths [] (z ∷ zs) h = absurd h
pattern_lengths (t ∷ ts) [] h = absurd h
pattern_lengths (t ∷ ts) (z ∷ zs) h = ap suc (pattern_lengths ts zs h.1)

-- ---- what the graph keeps

abbrev steps_of : Block → ℕ
steps_of x = length x.steps

abbrev accesses_of : Block → ℕ
accesses_of x = accesses_in x.steps

module _ (k : Typed) (c : VarGraph) (g : Graph) (n : NormalShare k (normal_form k)) (z : NormalSizes (typed_nodes k) (length (normal_form k).vars) (form_sizes (normal_form k)))
    (a : CfgShare (normal_form k) c) (b : CfgSizes c (form_sizes (normal_form k))) (d : ArgsShare c g) (e : ArgsSizes c g) where
  vars_same : length c.vars ≡ length (normal_form k).vars
  vars_same = ap length a.vars ∙ length-map (normal_form k).vars ty_width

  small_size : SmallSizes (length (normal_form k).vars) (form_sizes (normal_form k)) → size g ≤ 8000000
  small_size h =
      let v = length (normal_form k).vars in
      let s = form_sizes (normal_form k) in
      let u : length c.blocks * (2 + 3 * length c.vars) ≡ s.blocks * (2 + 3 * v) = ap (λ x. x * (2 + 3 * length c.vars)) b.blocks ∙ ap (λ x. s.blocks * (2 + 3 * x)) vars_same in
      let x = e.bounded in
      let y = b.steps in
      let w = h.bounded in
      omega (arith, x, y, w, u)

  runs : KernelRunsFollow k g
  runs p i out r t fit ends =
      let v = length (normal_form k).vars in
      let m = n.runs p i out r t fit ends in
      let f = a.runs p i out r m.turns m.jumps m.price fit m.ends m.costs in
      let xs = scalar_patterns (scalar_types k.params) i.scalars in
      let s : length c.scalars ≡ length (scalars_of k.params) = ap (λ (h : Header). length h.scalars) a.header in
      let l : length xs ≡ length c.scalars = pattern_lengths (scalar_types k.params) i.scalars fit.each_scalar ∙ scalar_lengths k.params ∙ sym s in
      let w = d.runs xs (array_patterns k.arrays i.arrays) (result_pattern k.result r) (array_patterns k.arrays out) m.jumps (m.price + v) l f in
      let j : (m.price + v) + (m.jumps + 1) * (2 + 3 * length c.vars) ≡ (m.price + v) + (m.jumps + 1) * (2 + 3 * v) = ap (λ x. (m.price + v) + (m.jumps + 1) * (2 + 3 * x)) vars_same in
      let q = joined_shares (typed_nodes k) v t m.jumps m.price n.few_vars m.few m.cheap in
      finished_within (passage g) (first_on k i) (result_pattern k.result r) (array_patterns k.arrays out) (weight g) m.jumps _ (2 * t) (20 * typed_nodes k * (t + 1)) m.few (omega arith) w

  -- all steps, accesses and arguments, whatever their block
  few_steps : typed_nodes k ≤ max_nodes → sum_by steps_of g.blocks ≤ 14336
  few_steps le = let x = e.steps in let y = b.steps in let w = z.few_steps in let u = z.few_vars in omega (arith, x, y, w, u, le, vars_same)

  few_accesses : typed_nodes k ≤ max_nodes → sum_by accesses_of g.blocks ≤ 1024
  few_accesses le = let x = e.accesses in let y = b.accesses in let w = z.few_accesses in omega (arith, x, y, w, le)

  few_args : typed_nodes k ≤ max_nodes → All (λ (x : Block). length x.args ≤ 1024) g.blocks
  few_args le =
      All-weaker (λ (x : Block). length x.args ≤ length c.vars) (λ (x : Block). length x.args ≤ 1024) (λ x l. (let u = z.few_vars in omega (arith, l, u, le, vars_same))) g.blocks e.args

  -- what the merged graph keeps
  module _ (m : Graph) (share : MergeShare g m) where
    merged_runs : KernelRunsFollow k m
    merged_runs p i out r t fit ends =
        let xs = scalar_patterns (scalar_types k.params) i.scalars in
        let s : length g.scalars ≡ length (scalars_of k.params) = ap (λ (h : Header). length h.scalars) (d.header ∙ a.header) in
        let l : length xs ≡ length g.scalars = pattern_lengths (scalar_types k.params) i.scalars fit.each_scalar ∙ scalar_lengths k.params ∙ sym s in
        share.runs xs (array_patterns k.arrays i.arrays) (result_pattern k.result r) (array_patterns k.arrays out) (2 * t) (20 * typed_nodes k * (t + 1)) l (runs p i out r t fit ends)

    each_within : (w : Block → ℕ) (most : ℕ) → sum_by w m.blocks ≤ most → All (λ x. w x ≤ most) m.blocks
    each_within w most le = All-from_get_or (λ x. w x ≤ most) m.blocks no_block (λ i lt. (let x = get_or-le-sum_by w m.blocks i no_block lt in omega (arith, x, le)))

    small : typed_nodes k ≤ max_nodes → SmallSizes (length (normal_form k).vars) (form_sizes (normal_form k)) → IsSmallGraph m
    small le h =
        let y = small_size h in
        let n = share.sizes in
        record {
          blocks = (let x = e.blocks in let q = b.blocks in let w = h.blocks in let o = n.blocks in omega (arith, x, q, w, o));
          bounded = (let o = n.bounded in omega (arith, y, o));
          steps = each_within steps_of 14336 (let x = few_steps le in let o = n.steps in omega (arith, x, o));
          args = n.few_args 1024 (few_args le);
          accesses = each_within accesses_of 1024 (let x = few_accesses le in let o = n.accesses in omega (arith, x, o));
        }

    pub kept : typed_nodes k ≤ max_nodes → SmallSizes (length (normal_form k).vars) (form_sizes (normal_form k)) → ((x : ℕ) → IsStoredTo g x ↔ IsAssignedTo k x) → GraphShare k m
    kept le h s = record {
      header = share.header ∙ (d.header ∙ a.header);
      runs = merged_runs;
      small = small le h;
      stored = λ x. (λ q. (s x).0 ((share.stored x).0 q), λ q. (share.stored x).1 ((s x).1 q));
    }

pub small_form : (n : ℕ) (f : Normal) → n ≤ max_nodes → NormalSizes n (length f.vars) (form_sizes f) → IsSmallForm f
small_form n f l z =
    let a = z.few_blocks in
    let b = z.few_steps in
    let c = z.few_vars in
    omega arith

-- the variables, blocks and steps of the graph can be numbered
pub small_parts : (n : ℕ) (f : Normal) (c : VarGraph) → n ≤ max_nodes → NormalSizes n (length f.vars) (form_sizes f) → CfgShare f c → CfgSizes c (form_sizes f) → parts c < 2 ^ 32
small_parts n f c l z a s =
    let v : length c.vars ≡ length f.vars = ap length a.vars ∙ length-map f.vars ty_width in
    let x = z.few_blocks in
    let y = z.few_steps in
    let w = z.few_vars in
    let b = s.blocks in
    let t = s.steps in
    omega arith

-- the layers' answers, whatever the last one is
abbrev Layers : Typed → VarGraph → Normal → Type 0
Layers k c f = NormalShare k f × NormalSizes (typed_nodes k) (length f.vars) (form_sizes f) × CfgShare f c × CfgSizes c (form_sizes f)

-- where each layer is what its definition says, so is the graph over arguments
argued_of : (k : Typed) (f : Normal) (c : VarGraph) (g : Graph) → f ≡ normal_form k → c ≡ trimmed (form_graph f) → IsArgued c g → IsArgued (kernel_var_graph k) g
argued_of k f c g is cut made = subst (λ x. IsArgued x g) (cut ∙ ap (λ x. trimmed (form_graph x)) is) made

-- and so the graph of the kernel
pub graph_is : (k : Typed) (f : Normal) (c : VarGraph) (g m : Graph) (n : ℕ) (r : Result Graph Memory) → f ≡ normal_form k → c ≡ trimmed (form_graph f) → IsArgued c g → m ≡ merged g → n ≡ typed_nodes k
    → IfOk r (λ h. h ≡ optimized_within (10 * n) m) → IfOk r (IsGraphOf k)
graph_is k f c g m n (Ok h) is cut made of count same = record { unmerged = g; argued = argued_of k f c g is cut made; is = same ∙ ap (λ x. optimized_within (10 * x) m) count ∙ ap (optimized (typed_nodes k)) of }
graph_is k f c g m n (Err e) is cut made of count same = tt

stores_kept : (k : Typed) (f : Normal) (c : VarGraph) (g : Graph) → StoresAreAssignments → f ≡ normal_form k → c ≡ trimmed (form_graph f) → IsArgued c g → (a : ℕ) → IsStoredTo g a ↔ IsAssignedTo k a
stores_kept k f c g law is cut made = law k g (argued_of k f c g is cut made)

pub all_kept : (k : Typed) (f : Normal) (c : VarGraph) (g m : Graph) → f ≡ normal_form k → c ≡ trimmed (form_graph f) → typed_nodes k ≤ max_nodes
    → ((n v : ℕ) (z : Sizes) → n ≤ max_nodes → NormalSizes n v z → SmallSizes v z) → StoresAreAssignments
    → NormalShare k f → NormalSizes (typed_nodes k) (length f.vars) (form_sizes f) → CfgShare f c → CfgSizes c (form_sizes f)
    → IsArgued c g → ArgsShare c g → ArgsSizes c g → MergeShare g m → GraphShare k m
all_kept k f c g m is cut few law stores n z a b made d e share =
    let all = subst (Layers k c) is (n, z, a, b) in
    kept k c g all.0 all.1 all.2 all.3 d e m share few (law (typed_nodes k) (length (normal_form k).vars) (form_sizes (normal_form k)) few all.1) (stores_kept k f c g stores is cut made)

-- the graph's values can be numbered
pub can_merge : (k : Typed) (f : Normal) (c : VarGraph) (g : Graph) → f ≡ normal_form k → typed_nodes k ≤ max_nodes → ((n v : ℕ) (z : Sizes) → n ≤ max_nodes → NormalSizes n v z → SmallSizes v z)
    → NormalShare k f → NormalSizes (typed_nodes k) (length f.vars) (form_sizes f) → CfgShare f c → CfgSizes c (form_sizes f) → ArgsShare c g → ArgsSizes c g → size g < 2 ^ 32
can_merge k f c g is few law n z a b d e =
    let all = subst (Layers k c) is (n, z, a, b) in
    let s = small_size k c g all.0 all.1 all.2 all.3 d e (law (typed_nodes k) (length (normal_form k).vars) (form_sizes (normal_form k)) few all.1) in
    omega (arith, s)
