-- The blocks stay those of a well formed graph of no great size, one after the other.
use Rattle.std.proofs.Common.{◌≡◌, ℕ, suc, ◌+◌, ◌-◌, ◌<◌, ◌≤◌, ◌&&◌, not, Bool, true, false, List, length, Option, Some, None, refl, sym, ◌∙◌, ap, subst, arith}
use Rattle.std.specs.Prelude.{set, nat_le, sum_by}
use Rattle.std.specs.Option.{option_map_or}
use Rattle.std.proofs.lemmas.Bool.{cond_both, leb-true}
use Rattle.std.proofs.lemmas.List.{length-set}
use Rattle.el_base.specs.declared.ty.Array.{Array}
use Rattle.el_base.specs.declared.ty.Scalar.{Scalar}
use Rattle.ir.specs.declared.graph.Block.{Block}
use Rattle.ir.specs.declared.graph.Jump.{Jump}
use Rattle.ir.specs.declared.graph.Jump.TheVariants.{Go, Two, Return}
use Rattle.ir.specs.Accesses.{accesses_in}
use Rattle.ir.specs.Graphs.{Graph, IsGraph, block_weight, size}
use Rattle.block_merge.specs.Renamed.{block_of}
use Rattle.block_merge.specs.Merged.{with_blocks}
use Rattle.block_pass.specs.Laws.{PassesBack}
use Rattle.block_copy.specs.declared.growing.Row.{Row}
use Rattle.block_copy.specs.Nonconstants.{nonconstants_in}
use Rattle.block_copy.specs.Growing.{best_row}
use Rattle.block_copy.specs.Copied.{ends_inside, is_small, is_taken, with_row, copied_by, copied_at, copied_blocks, copied}
use Rattle.block_copy.specs.Laws.{CopiedGraphsPass}
use Rattle.block_copy.specs.Fits.{AreSmall}
use Rattle.block_copy.proofs.CopiedPasses.{one_copied}
use Rattle.block_copy.proofs.Standing.{Given}

-- ---- one block

small_size : (most : ℕ) (bs : List Block) (k : ℕ) (b : Block) → is_small most bs k b ≡ true → sum_by block_weight (set bs k b) ≤ 8000000
small_size most bs k b h =
    by (nat_le (nonconstants_in b.steps) (nonconstants_in (block_of bs k).steps + 96)) (nat_le (block_weight b) most) (nat_le (accesses_in b.steps) 1024) (nat_le (sum_by block_weight (set bs k b)) 8000000) refl h
  where
    by : (p q r t : Bool) → nat_le (sum_by block_weight (set bs k b)) 8000000 ≡ t → p && q && r && t ≡ true → sum_by block_weight (set bs k b) ≤ 8000000
    by true true true true e f = leb-true (sum_by block_weight (set bs k b)) 8000000 e
    by true true true false e f = absurd (cc)
    by true true false t e f = absurd (cc)
    by true false r t e f = absurd (cc)
    by false q r t e f = absurd (cc)

first_part : (a b : Bool) → a && b ≡ true → a ≡ true
first_part true b h = refl
first_part false b h = absurd (cc)

at_cases : (P : List Block → Type 0) (most : ℕ) (bs : List Block) (k : ℕ) → P bs → ((b : Block) → is_small most bs k b ≡ true → P (set bs k b)) → P (copied_at most bs k)
at_cases P most bs k p q = by_jump (block_of bs k).jump
  where
    by_row : (o : Option Row) → P (with_row most bs k o)
    by_row None = p
    by_row (Some r) =
        cond_both (is_taken most bs k r) (set bs k r.block) bs P
        (λ t. q r.block (first_part (is_small most bs k r.block) (not (ends_inside bs k r.taken r.block.jump)) t)) (λ t. p)

    by_jump : (j : Jump) → P (copied_by most bs k j)
    by_jump (Go to) = by_row (best_row bs k)
    by_jump (Two c yes_part no_part) = p
    by_jump (Return v) = p

at_long : (most : ℕ) (bs : List Block) (k : ℕ) → length (copied_at most bs k) ≡ length bs
at_long most bs k = at_cases (λ l. length l ≡ length bs) most bs k refl (λ b s. length-set bs k b)

small_at : (law : Given) (most : ℕ) (bs : List Block) (k : ℕ) → AreSmall bs → AreSmall (copied_at most bs k)
small_at law most bs k are = record {
  graph = are.graph;
  fine = (one_copied law most (with_blocks are.graph bs) k are.fine).share.fine;
  small = at_cases (λ l. sum_by block_weight l ≤ 8000000) most bs k are.small (λ b s. small_size most bs k b s);
}

-- ---- all blocks

pub record AreCopying (most : ℕ) (first : List Block) (k left : ℕ) (bs : List Block) : Type 0 where
  pub are : AreSmall bs
  pub long : length bs ≡ length first
  pub rest : copied_blocks most left bs k ≡ copied_blocks most (length first) first 0

pub copying_starts : (most : ℕ) (bs : List Block) (n : ℕ) → AreSmall bs → n ≡ length bs → AreCopying most bs 0 (n - 0) bs
copying_starts most bs n are e = let z : n - 0 ≡ length bs = omega (arith, e) in record { are = are; long = refl; rest = ap (λ i. copied_blocks most i bs 0) z }

pub copying_next : (law : Given) (most : ℕ) (first bs new : List Block) (n i : ℕ) → i < n → AreCopying most first i (n - i) bs → new ≡ copied_at most bs i → AreCopying most first (i + 1) (n - (i + 1)) new
copying_next law most first bs new n i lt s e =
    let next = copied_at most bs i in
    let z : n - i ≡ suc (n - (i + 1)) = omega (arith, lt) in
    let r : copied_blocks most (n - (i + 1)) next (suc i) ≡ copied_blocks most (length first) first 0 = sym (ap (λ j. copied_blocks most j bs i) z) ∙ s.rest in
    let y : suc i ≡ i + 1 = omega arith in
    subst (AreCopying most first (i + 1) (n - (i + 1))) (sym e)
    (record { are = small_at law most bs i s.are; long = at_long most bs i ∙ s.long; rest = sym (ap (copied_blocks most (n - (i + 1)) next) y) ∙ r })

pub copying_ends : (most : ℕ) (first bs : List Block) (n i : ℕ) → n ≤ i → AreCopying most first i (n - i) bs → bs ≡ copied_blocks most (length first) first 0
copying_ends most first bs n i le s = let z : n - i ≡ 0 = omega (arith, le) in sym (ap (λ j. copied_blocks most j bs i) z) ∙ s.rest

pub set_is : (most : ℕ) (bs xs new : List Block) (k : ℕ) (o : Option Block) (b : Block) → xs ≡ bs → option_map_or (λ (x : Block). set xs k x) o xs ≡ copied_at most xs k → o ≡ Some b → new ≡ set bs k b → new ≡ copied_at most bs k
set_is most bs xs new k o b e h is n =
    n ∙ (ap (λ ys. set ys k b) (sym e) ∙ (ap (λ (p : Option Block). option_map_or (λ (x : Block). set xs k x) p xs) (sym is) ∙ (h ∙ ap (λ ys. copied_at most ys k) e)))

pub stays_is : (most : ℕ) (bs xs new : List Block) (k : ℕ) (o : Option Block) → xs ≡ bs → option_map_or (λ (x : Block). set xs k x) o xs ≡ copied_at most xs k → o ≡ None → new ≡ bs → new ≡ copied_at most bs k
stays_is most bs xs new k o e h is n =
    n ∙ (sym e ∙ (ap (λ (p : Option Block). option_map_or (λ (x : Block). set xs k x) p xs) (sym is) ∙ (h ∙ ap (λ ys. copied_at most ys k) e)))

-- ---- at the start

pub starts_small : (g : Graph) (bs : List Block) → IsGraph g → size g ≤ 8000000 → bs ≡ g.blocks → AreSmall bs
starts_small g bs fine few e = subst AreSmall (sym e) (record { graph = g; fine = fine; small = few })

-- ---- the graph

pub graph_made : (most : ℕ) (g v : Graph) (n : List ℕ) (s : List Scalar) (a : List Array) (bs made : List Block) → v ≡ g → n ≡ v.name → s ≡ v.scalars → a ≡ v.arrays → bs ≡ g.blocks
    → made ≡ copied_blocks most (length bs) bs 0 → record { name = n; scalars = s; arrays = a; result = v.result; blocks = made } ≡ copied most g
graph_made most g v n s a bs made h e_n e_s e_a e_b e =
    ap (λ (x : List ℕ). record { name = x; scalars = s; arrays = a; result = v.result; blocks = made }) e_n
    ∙ ap (λ (x : List Scalar). record { name = v.name; scalars = x; arrays = a; result = v.result; blocks = made }) e_s
    ∙ ap (λ (x : List Array). record { name = v.name; scalars = v.scalars; arrays = x; result = v.result; blocks = made }) e_a
    ∙ ap (λ (x : Graph). with_blocks x made) h
    ∙ ap (with_blocks g) (e ∙ ap (λ xs. copied_blocks most (length xs) xs 0) e_b)

pub passes_of : (most : ℕ) (g r : Graph) → CopiedGraphsPass → IsGraph g → r ≡ copied most g → PassesBack g r
passes_of most g r law fine e = subst (PassesBack g) (sym e) (law most g fine)
