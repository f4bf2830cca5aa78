-- How many edges lead to a target, and the shape of the units that are laid.
use Rattle.std.proofs.Common.{◌≡◌, ◌≢◌, ℕ, zero, suc, ◌+◌, ◌*◌, ◌<◌, ◌≤◌, List, [], ◌∷◌, ◌++◌, length, get_or, Some, None, refl, sym, subst, ◌∙◌, inl, inr, arith}
use Rattle.std.specs.Prelude.{All}
use Rattle.std.proofs.lemmas.Bool.{cases_eq, cases_lt}
use Rattle.std.proofs.lemmas.List.{get_or-set_other, get_or-set_same, set_past}
use Rattle.std.proofs.lemmas.List.Elements.{All-nil, All-cons, All-head, All-tail, All-append, All-contains}
use Rattle.std.proofs.lemmas.Option.{slice_get_within, get_or_from_slice_get}
use Rattle.ir.specs.declared.graph.Block.{Block}
use Rattle.ir.specs.declared.graph.To.{To}
use Rattle.ir.specs.declared.graph.Jump.{Jump}
use Rattle.ir.specs.declared.graph.Jump.TheVariants.{Go, Two, Return}
use Rattle.ir.specs.Graphs.{Graph, IsGraph, IsBlock, IsTarget, IsJump, shape_of}
use Rattle.ir.specs.Shapes.{Shape}
use Rattle.net_types.specs.declared.net.Unit.{Unit as Kind}
use Rattle.net_types.specs.declared.net.Unit.TheVariants.{Entry}
use Rattle.net_check.specs.Shapes.{IsCount}
use Rattle.circuit_build.specs.declared.draft.Draft.{Draft}
use Rattle.circuit_build.specs.Drafts.{number, plus, with_unit}
use Rattle.circuit_build.specs.Asks.{IsSmall}
use Rattle.circuit_build.specs.Blocks.{ins_of}
use Rattle.circuit_build.specs.Edges.{raised, sides_counted, jumps_counted, edge_counts}
use Rattle.circuit_build.specs.Uses.{zeros, handed_often}
use Rattle.circuit_build.specs.Laws.{HasShapeUnlessQueue, UnitsHaveShape}
use Rattle.circuit_build.proofs.Growth.{few_triggers}
use Rattle.circuit_build.proofs.Keeps.{Laid, Table, Handed, Forks, Few, whole_keeps}
use Rattle.circuit_build.proofs.LayHeld.{handed_many}
use Rattle.circuit_build.proofs.Remains as remains

-- ---- tables

raised_same : (t : ℕ) (table : List ℕ) → get_or (raised t table) t 0 ≤ get_or table t 0 + 1
raised_same t table =
    elim (cases_lt t (length table)) [
      | inl lt ↦ (let e = get_or-set_same table t (plus (get_or table t 0) 1) 0 lt in omega arith)
      | inr le ↦ (let e = set_past table t (plus (get_or table t 0) 1) le in subst (λ xs. get_or xs t 0 ≤ get_or table t 0 + 1) (sym e) (omega arith))
    ]

raised_other : (t u : ℕ) (table : List ℕ) → u ≢ t → get_or (raised t table) u 0 ≡ get_or table u 0
raised_other t u table ne = get_or-set_other table t u (plus (get_or table t 0) 1) 0 ne

raised_le : (t u : ℕ) (table : List ℕ) → get_or (raised t table) u 0 ≤ get_or table u 0 + 1
raised_le t u table =
    elim (cases_eq u t) [
      | inl e ↦ subst (λ v. get_or (raised t table) v 0 ≤ get_or table v 0 + 1) (sym e) (raised_same t table)
      | inr ne ↦ (let o = raised_other t u table ne in omega arith)
    ]

zero_more : (xs : List ℕ) (u : ℕ) → get_or (xs ++ 0 ∷ []) u 0 ≡ get_or xs u 0
zero_more [] zero = refl
zero_more [] (suc u) = refl
zero_more (x ∷ xs) zero = refl
zero_more (x ∷ xs) (suc u) = zero_more xs u

zeros_at : (n u : ℕ) → get_or (zeros n) u 0 ≡ 0
zeros_at zero u = refl
zeros_at (suc n) u = zero_more (zeros n) u ∙ zeros_at n u

-- ---- at most two edges for each block, and one for the entry

sides_le : (join : ℕ) (j : Jump) (table : List ℕ) (u : ℕ) → get_or (sides_counted join j table) u 0 ≤ get_or table u 0 + 2
sides_le join (Go to) table u = let a = raised_le to.block u table in omega arith
sides_le join (Two c a b) table u = let p = raised_le a.block u table in let q = raised_le b.block u (raised a.block table) in omega arith
sides_le join (Return v) table u = let a = raised_le join u table in omega arith

jumps_le : (join : ℕ) (bs : List Block) (table : List ℕ) (u : ℕ) → get_or (jumps_counted join bs table) u 0 ≤ get_or table u 0 + 2 * length bs
jumps_le join [] table u = omega arith
jumps_le join (b ∷ bs) table u = let a = sides_le join b.jump table u in let i = jumps_le join bs (sides_counted join b.jump table) u in omega arith

-- no jump leads to block 0

zero_is_less : (t : ℕ) → 0 < t → 0 ≢ t
zero_is_less t lt e = absurd (omega (arith, lt, e))

sides_zero : (g : Graph) (ws : Shape) (join : ℕ) (j : Jump) (table : List ℕ) → 0 < join → IsJump g ws j → get_or (sides_counted join j table) 0 0 ≡ get_or table 0 0
sides_zero g ws join (Go to) table some h = raised_other to.block 0 table (zero_is_less to.block h.no_entry)
sides_zero g ws join (Two c a b) table some h = raised_other b.block 0 (raised a.block table) (zero_is_less b.block h.2.no_entry) ∙ raised_other a.block 0 table (zero_is_less a.block h.1.no_entry)
sides_zero g ws join (Return v) table some h = raised_other join 0 table (zero_is_less join some)

jumps_zero : (g : Graph) (join : ℕ) (bs : List Block) (table : List ℕ) → 0 < join → All (IsBlock g) bs → get_or (jumps_counted join bs table) 0 0 ≡ get_or table 0 0
jumps_zero g join [] table some h = refl
jumps_zero g join (b ∷ bs) table some h =
    jumps_zero g join bs (sides_counted join b.jump table) some (All-tail (IsBlock g) b bs h) ∙ sides_zero g (shape_of g b) join b.jump table some (All-head (IsBlock g) b bs h).jump

pub heads_fit : (g : Graph) → IsGraph g → length g.blocks ≤ 32768 → (t : ℕ) → IsCount (ins_of (edge_counts g.blocks) t)
heads_fit g fine few zero =
    let some = slice_get_within g.blocks 0 fine.entry fine.first in
    let table = raised 0 (zeros (length g.blocks + 1)) in
    let a = jumps_zero g (number (length g.blocks)) g.blocks table (omega arith) fine.blocks in
    let b = raised_le 0 0 (zeros (length g.blocks + 1)) in
    let c = zeros_at (length g.blocks + 1) 0 in
    record { some = omega arith; most = omega arith }
heads_fit g fine few (suc t) =
    let table = raised 0 (zeros (length g.blocks + 1)) in
    let a = jumps_le (number (length g.blocks)) g.blocks table (suc t) in
    let b = raised_other 0 (suc t) (zeros (length g.blocks + 1)) (λ e. absurd (omega (arith, e))) in
    let c = zeros_at (length g.blocks + 1) (suc t) in
    record { some = omega arith; most = omega arith }

-- ---- forks: at most 14,336 steps and 1,024 arguments in a block leave room for all uses of a value

abbrev pub AtMost : ℕ → Type 0
AtMost n = n ≤ 65536

pub few_fit : Few AtMost
few_fit = record { none = omega arith; one = omega arith; two = omega arith; three = omega arith }

handed_most : (n : ℕ) (to : To) → length to.with ≤ 1024 → Table AtMost (handed_often n to)
handed_most n to few i = let a = remains.all_added_most to.with i (zeros n) in let z = zeros_at n i in omega (arith, a, z, few)

module _ (g : Graph) (small : IsSmall g) where
  target_few : (ws : Shape) (to : To) → IsTarget g.blocks ws to → length to.with ≤ 1024
  target_few ws to h =
      let m = handed_many ws to.with h.block.args h.handed in
      let f = All-contains (λ (b : Block). length b.args ≤ 1024) g.blocks h.block small.args (to.block, slice_get_within g.blocks to.block h.block h.exists, get_or_from_slice_get g.blocks to.block h.block h.block h.exists) in
      omega (arith, m, f)

  jump_few : (ws : Shape) (j : Jump) → IsJump g ws j → remains.handed_many j ≤ 1024
  jump_few ws (Go to) h = target_few ws to h
  jump_few ws (Two c a b) h = omega arith
  jump_few ws (Return v) h = omega arith

  sides_few : (ws : Shape) (j : Jump) → IsJump g ws j → Handed AtMost j
  sides_few ws (Go to) h = tt
  sides_few ws (Two c a b) h = (λ n. handed_most n a (target_few ws a h.1), λ n. handed_most n b (target_few ws b h.2))
  sides_few ws (Return v) h = tt

  block_fits : (k : Block) → IsBlock g k → length k.steps ≤ 14336 → length k.args ≤ 1024 → Forks AtMost k
  block_fits k fine steps args =
      let j = jump_few (shape_of g k) k.jump fine.jump in
      record {
        values = λ i. (let m = remains.remains_most k (length k.args) k.steps i (omega arith) (omega (arith, steps, args)) in omega (arith, m, steps, args, j));
        merges = λ b xs. (let t = few_triggers b k xs in omega (arith, t, steps, args));
        leans = λ b xs. (let t = few_triggers b k xs in omega (arith, t, steps));
        lates = λ b xs. (let t = few_triggers b k xs in omega (arith, t, steps));
        sides = sides_few (shape_of g k) k.jump fine.jump;
        feeder = omega (arith, args);
      }

  all_fit : (ks : List Block) → All (IsBlock g) ks → All (λ (b : Block). length b.steps ≤ 14336) ks → All (λ (b : Block). length b.args ≤ 1024) ks → All (Forks AtMost) ks
  all_fit [] fine steps args = All-nil (Forks AtMost)
  all_fit (k ∷ ks) fine steps args =
      All-cons (Forks AtMost) k ks
      (block_fits k (All-head (IsBlock g) k ks fine) (All-head (λ (b : Block). length b.steps ≤ 14336) k ks steps) (All-head (λ (b : Block). length b.args ≤ 1024) k ks args))
      (all_fit ks (All-tail (IsBlock g) k ks fine) (All-tail (λ (b : Block). length b.steps ≤ 14336) k ks steps) (All-tail (λ (b : Block). length b.args ≤ 1024) k ks args))

pub forks_fit : (g : Graph) → IsGraph g → IsSmall g → All (Forks AtMost) g.blocks
forks_fit g fine small = all_fit g small g.blocks fine.blocks small.steps small.args

-- ---- shapes

no_owner : {A : Type 0} (a : ℕ) → Some a ≡ None → A
no_owner a e = absurd (cc)

shaped : Laid HasShapeUnlessQueue IsCount AtMost
shaped = record {
  const = λ w n e. tt;
  op1 = λ op e. tt;
  op2 = λ op e. tt;
  select = λ w e. tt;
  fork1 = λ w e. record { some = omega arith; most = omega arith };
  forks = λ w n l o e. record { some = l; most = o };
  mux = λ w n i e. i;
  merge = λ n i e. i;
  branch = λ w e. tt;
  sink = λ w e. tt;
}

abbrev AreShaped : Draft → Type 0
AreShaped d = All HasShapeUnlessQueue d.units

more_shaped : (k : Kind) (d : Draft) → HasShapeUnlessQueue k → AreShaped d → AreShaped (with_unit k d)
more_shaped k d f h = All-append HasShapeUnlessQueue d.units (k ∷ []) h (All-cons HasShapeUnlessQueue k [] f (All-nil HasShapeUnlessQueue))

pub units_shaped : UnitsHaveShape
units_shaped g gs fine small =
    whole_keeps AreShaped HasShapeUnlessQueue IsCount AtMost shaped more_shaped (λ p q w c d h. h) (λ d e u c h. subst (All HasShapeUnlessQueue) (sym u) h) (λ a e. tt) (λ j e. tt) (λ a m ps gs e. no_owner a e) (λ e. tt) g gs (heads_fit g fine small.blocks)
    (forks_fit g fine small) few_fit (All-cons HasShapeUnlessQueue Entry [] (λ e. tt) (All-nil HasShapeUnlessQueue))
