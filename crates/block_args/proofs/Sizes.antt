-- How large the graph over arguments is.
use Rattle.std.proofs.Common.{◌≡◌, ℕ, zero, suc, ◌+◌, ◌*◌, ◌≤◌, List, [], ◌∷◌, ◌++◌, map, length, get_or, drop, refl, sym, ◌∙◌, ap, arith, length-append}
use Rattle.std.specs.Prelude.{sum_by, All}
use Rattle.std.proofs.Math.Nat.{suc-mul}
use Rattle.std.proofs.lemmas.List.Sums.{sum_by-cons}
use Rattle.std.proofs.lemmas.List.{length-map, length-take, length-drop}
use Rattle.std.proofs.lemmas.List.Elements.{All-nil, All-cons}
use Rattle.ir.specs.declared.instr.Instr.{Instr}
use Rattle.ir.specs.declared.instr.Instr.TheVariants.{Const, One, Two, Select, Load, Store}
use Rattle.ir.specs.declared.graph.Block.{Block}
use Rattle.ir.specs.declared.cfg.CfgBlock.{CfgBlock}
use Rattle.ir.specs.Accesses.{is_access, accesses_in}
use Rattle.ir.specs.Renaming.{renamed}
use Rattle.ir.specs.Graphs.{block_weight}
use Rattle.ir.specs.Variables.{VarGraph, IsVarGraph}
use Rattle.block_args.specs.Tables.{Serves, held_at, listed_at}
use Rattle.block_args.specs.Arguments.{new_number, zeros, new_steps, new_block, new_blocks, argued}
use Rattle.block_args.specs.Shares.{ArgsSizes}
use Rattle.block_args.proofs.Named.{few_listed}
use Rattle.block_args.proofs.Runs.{light}

-- ---- accesses

renamed_access : (f : ℕ → ℕ) (i : Instr) → is_access (renamed f i) ≡ is_access i
renamed_access f (Const w n) = refl
renamed_access f (One op a) = refl
renamed_access f (Two op a b) = refl
renamed_access f (Select w c a b) = refl
renamed_access f (Load a p) = refl
renamed_access f (Store a p v) = refl

renamed_accesses : (f : ℕ → ℕ) (is : List Instr) → accesses_in (map (renamed f) is) ≡ accesses_in is
renamed_accesses f [] = refl
renamed_accesses f (i ∷ is) = ap (λ n. n + accesses_in (map (renamed f) is)) (renamed_access f i) ∙ ap (λ n. is_access i + n) (renamed_accesses f is)

no_accesses : (ws : List ℕ) (js : List Instr) → accesses_in (zeros ws ++ js) ≡ accesses_in js
no_accesses [] js = refl
no_accesses (w ∷ ws) js = omega (arith, no_accesses ws js)

same_accesses : (s : ℕ) (vars : List ℕ) (table : List (List ℕ)) (n : ℕ) (b : CfgBlock) → accesses_in (new_block s vars table n b).steps ≡ accesses_in b.steps
same_accesses s vars table zero b = no_accesses (drop s vars) (new_steps (held_at (length vars) table 0) b) ∙ renamed_accesses _ b.steps
same_accesses s vars table (suc n) b = renamed_accesses _ b.steps

abbrev accesses_of : CfgBlock → ℕ
accesses_of b = accesses_in b.steps

abbrev new_accesses_of : Block → ℕ
new_accesses_of b = accesses_in b.steps

all_accesses : (s : ℕ) (vars : List ℕ) (table : List (List ℕ)) (n : ℕ) (bs : List CfgBlock) → sum_by new_accesses_of (new_blocks s vars table n bs) ≡ sum_by accesses_of bs
all_accesses s vars table n [] = refl
all_accesses s vars table n (b ∷ bs) =
    let x = new_block s vars table n b in
    let xs = new_blocks s vars table (suc n) bs in
    sum_by-cons new_accesses_of x xs ∙ ap (λ k. k + sum_by new_accesses_of xs) (same_accesses s vars table n b) ∙ ap (λ k. accesses_of b + k) (all_accesses s vars table (suc n) bs) ∙ sym (sum_by-cons accesses_of b bs)

-- ---- steps: block 0 makes a 0 for each variable that is no scalar

abbrev steps_of : CfgBlock → ℕ
steps_of b = length b.steps

abbrev new_steps_of : Block → ℕ
new_steps_of b = length b.steps

later_steps : (s : ℕ) (vars : List ℕ) (table : List (List ℕ)) (n : ℕ) (bs : List CfgBlock) → sum_by new_steps_of (new_blocks s vars table (suc n) bs) ≡ sum_by steps_of bs
later_steps s vars table n [] = refl
later_steps s vars table n (b ∷ bs) =
    let x = new_block s vars table (suc n) b in
    let xs = new_blocks s vars table (suc (suc n)) bs in
    sum_by-cons new_steps_of x xs ∙ ap (λ k. k + sum_by new_steps_of xs) (length-map b.steps (renamed (new_number (held_at (length vars) table (suc n)) b.reads))) ∙ ap (λ k. steps_of b + k) (later_steps s vars table (suc n) bs)
    ∙ sym (sum_by-cons steps_of b bs)

all_steps : (s : ℕ) (vars : List ℕ) (table : List (List ℕ)) (bs : List CfgBlock) → sum_by new_steps_of (new_blocks s vars table 0 bs) ≤ sum_by steps_of bs + length vars
all_steps s vars table [] = omega arith
all_steps s vars table (b ∷ bs) =
    let held = held_at (length vars) table 0 in
    let xs = new_blocks s vars table 1 bs in
    let p = sum_by-cons new_steps_of (new_block s vars table 0 b) xs in
    let q = sum_by-cons steps_of b bs in
    let l = length-append (zeros (drop s vars)) (new_steps held b) in
    let z : length (zeros (drop s vars)) ≡ length (drop s vars) = length-map (drop s vars) (λ w. Const w 0) in
    let m : length (new_steps held b) ≡ length b.steps = length-map b.steps (renamed (new_number held b.reads)) in
    omega (arith, p, q, l, z, m, length-drop s vars, later_steps s vars table 0 bs)

-- ---- blocks and weights

many_blocks : (s : ℕ) (vars : List ℕ) (table : List (List ℕ)) (n : ℕ) (bs : List CfgBlock) → length (new_blocks s vars table n bs) ≡ length bs
many_blocks s vars table n [] = refl
many_blocks s vars table n (b ∷ bs) = ap suc (many_blocks s vars table (suc n) bs)

module _ (g : VarGraph) (fine : IsVarGraph g) (table : List (List ℕ)) (serves : Serves g table) where
  abbrev each : ℕ
  each = 2 + 3 * length g.vars

  light_blocks : (n : ℕ) (bs : List CfgBlock) → sum_by block_weight (new_blocks (length g.scalars) g.vars table n bs) ≤ sum_by (λ b. length b.steps) bs + length bs * each
  light_blocks n [] = omega arith
  light_blocks n (b ∷ bs) =
      let x = new_block (length g.scalars) g.vars table n b in
      let xs = new_blocks (length g.scalars) g.vars table (suc n) bs in
      let e : suc (length bs) * each ≡ length bs * each + each = suc-mul (length bs) each in
      let p : sum_by block_weight (x ∷ xs) ≡ block_weight x + sum_by block_weight xs = sum_by-cons block_weight x xs in
      let q : sum_by (λ (y : CfgBlock). length y.steps) (b ∷ bs) ≡ length b.steps + sum_by (λ (y : CfgBlock). length y.steps) bs = sum_by-cons (λ (y : CfgBlock). length y.steps) b bs in
      let l : block_weight x ≤ length b.steps + each = light g fine table serves n b in
      let r = light_blocks (suc n) bs in
      joined (sum_by block_weight (x ∷ xs)) (block_weight x) (sum_by block_weight xs) (sum_by (λ (y : CfgBlock). length y.steps) (b ∷ bs)) (length b.steps) (sum_by (λ (y : CfgBlock). length y.steps) bs)
      (suc (length bs) * each) (length bs * each) each p q e l r
    where
      joined : (all one rest steps first later whole part unit : ℕ) → all ≡ one + rest → steps ≡ first + later → whole ≡ part + unit → one ≤ first + unit → rest ≤ later + part → all ≤ steps + whole
      joined all one rest steps first later whole part unit p q e l r = omega arith

  few_args : (n : ℕ) (b : CfgBlock) → length (new_block (length g.scalars) g.vars table n b).args ≤ length g.vars
  few_args zero b = omega (arith, length-take (length g.scalars) g.vars)
  few_args (suc n) b = let e = length-map (listed_at table (suc n)) (λ v. get_or g.vars v 0) in omega (arith, e, few_listed g table (suc n) serves)

  all_args : (n : ℕ) (bs : List CfgBlock) → All (λ (b : Block). length b.args ≤ length g.vars) (new_blocks (length g.scalars) g.vars table n bs)
  all_args n [] = All-nil (λ (b : Block). length b.args ≤ length g.vars)
  all_args n (b ∷ bs) =
      All-cons (λ (x : Block). length x.args ≤ length g.vars) (new_block (length g.scalars) g.vars table n b) (new_blocks (length g.scalars) g.vars table (suc n) bs) (few_args n b) (all_args (suc n) bs)

  pub sizes : ArgsSizes g (argued g table)
  sizes = record {
    blocks = many_blocks (length g.scalars) g.vars table 0 g.blocks;
    bounded = light_blocks 0 g.blocks;
    steps = all_steps (length g.scalars) g.vars table g.blocks;
    accesses = all_accesses (length g.scalars) g.vars table 0 g.blocks;
    args = all_args 0 g.blocks;
  }
