-- How large the trimmed graph is.
use Rattle.std.proofs.Common.{◌≡◌, ℕ, suc, ◌+◌, ◌≤◌, List, [], ◌∷◌, map, length, refl, sym, ◌∙◌, ap, subst, arith}
use Rattle.std.specs.Prelude.{Bool, true, false, sum_by, filter, not, cond, if◌then◌else◌}
use Rattle.std.proofs.lemmas.List.{length-map}
use Rattle.std.proofs.lemmas.List.Sums.{sum_by-cons}
use Rattle.ir.specs.declared.instr.Instr.{Instr}
use Rattle.ir.specs.declared.instr.Instr.TheVariants.{Const, One, Two, Select, Load, Store}
use Rattle.ir.specs.declared.cfg.CfgBlock.{CfgBlock}
use Rattle.ir.specs.declared.cfg.Write.{Write}
use Rattle.ir.specs.Accesses.{is_access, accesses_in}
use Rattle.ir.specs.Renaming.{renamed}
use Rattle.ir.specs.Variables.{VarGraph, var_block_at}
use Rattle.block_trim.specs.Trimming.{is_used, is_written_by, is_unchanged, last_writes, kept_writes, kept_reads, trimmed_number, renamed_write, trimmed_block, trimmed, block_uses}
use Rattle.block_trim.specs.Shares.{TrimSizes}
use Rattle.block_trim.proofs.Runs.{block_at_trimmed}

renamed_access : (f : ℕ → ℕ) (i : Instr) → is_access (renamed f i) ≡ is_access i
renamed_access f (Const w n) = refl
renamed_access f (One op a) = refl
renamed_access f (Two op a b) = refl
renamed_access f (Select w c a b) = refl
renamed_access f (Load a p) = refl
renamed_access f (Store a p v) = refl

renamed_accesses : (f : ℕ → ℕ) (is : List Instr) → accesses_in (map (renamed f) is) ≡ accesses_in is
renamed_accesses f [] = refl
renamed_accesses f (i ∷ is) = ap (λ n. n + accesses_in (map (renamed f) is)) (renamed_access f i) ∙ ap (λ n. is_access i + n) (renamed_accesses f is)

few_reads : (used : List ℕ) (i : ℕ) (rs : List ℕ) → length (kept_reads used i rs) ≤ length rs
few_reads used i [] = omega arith
few_reads used i (r ∷ rs) = by (is_used used i) (few_reads used (suc i) rs)
  where
    by : (c : Bool) → length (kept_reads used (suc i) rs) ≤ length rs → length (if c then (r ∷ kept_reads used (suc i) rs) else kept_reads used (suc i) rs) ≤ suc (length rs)
    by true rest = omega arith
    by false rest = omega arith

few_last : (xs : List Write) → length (last_writes xs) ≤ length xs
few_last [] = omega arith
few_last (x ∷ xs) = by (is_written_by xs x.var) (few_last xs)
  where
    by : (c : Bool) → length (last_writes xs) ≤ length xs → length (if c then last_writes xs else (x ∷ last_writes xs)) ≤ suc (length xs)
    by true rest = omega arith
    by false rest = omega arith

few_filtered : (p : Write → Bool) (xs : List Write) → length (filter p xs) ≤ length xs
few_filtered p [] = omega arith
few_filtered p (x ∷ xs) = by (p x) (few_filtered p xs)
  where
    by : (c : Bool) → length (filter p xs) ≤ length xs → length (cond c (x ∷ filter p xs) (filter p xs)) ≤ suc (length xs)
    by true rest = omega arith
    by false rest = omega arith

few_writes : (b : CfgBlock) → length (trimmed_block b).writes ≤ length b.writes
few_writes b =
    let ks = kept_writes b.reads b.writes in
    let e : length (map (renamed_write (trimmed_number b)) ks) ≡ length ks = length-map ks (renamed_write (trimmed_number b)) in
    omega (arith, e, few_filtered (λ x. not (is_unchanged b.reads x)) (last_writes b.writes), few_last b.writes)

same_steps : (b : CfgBlock) → length (trimmed_block b).steps ≡ length b.steps
same_steps b = length-map b.steps (renamed (trimmed_number b))

same_accesses : (b : CfgBlock) → accesses_in (trimmed_block b).steps ≡ accesses_in b.steps
same_accesses b = renamed_accesses (trimmed_number b) b.steps

all_steps : (bs : List CfgBlock) → sum_by (λ (b : CfgBlock). length b.steps) (map trimmed_block bs) ≡ sum_by (λ (b : CfgBlock). length b.steps) bs
all_steps [] = refl
all_steps (b ∷ bs) =
    let count : CfgBlock → ℕ = λ x. length x.steps in
    let p : sum_by count (map trimmed_block (b ∷ bs)) ≡ count (trimmed_block b) + sum_by count (map trimmed_block bs) = sum_by-cons count (trimmed_block b) (map trimmed_block bs) in
    p ∙ ap (λ n. n + sum_by count (map trimmed_block bs)) (same_steps b) ∙ ap (λ n. count b + n) (all_steps bs) ∙ sym (sum_by-cons count b bs)

all_accesses : (bs : List CfgBlock) → sum_by (λ (b : CfgBlock). accesses_in b.steps) (map trimmed_block bs) ≡ sum_by (λ (b : CfgBlock). accesses_in b.steps) bs
all_accesses [] = refl
all_accesses (b ∷ bs) =
    let count : CfgBlock → ℕ = λ x. accesses_in x.steps in
    let p : sum_by count (map trimmed_block (b ∷ bs)) ≡ count (trimmed_block b) + sum_by count (map trimmed_block bs) = sum_by-cons count (trimmed_block b) (map trimmed_block bs) in
    p ∙ ap (λ n. n + sum_by count (map trimmed_block bs)) (same_accesses b) ∙ ap (λ n. count b + n) (all_accesses bs) ∙ sym (sum_by-cons count b bs)

pub sizes : (g : VarGraph) → TrimSizes g (trimmed g)
sizes g = record {
  blocks = length-map g.blocks trimmed_block;
  steps = λ n. ap (λ (x : CfgBlock). length x.steps) (block_at_trimmed g n) ∙ same_steps (var_block_at g n);
  accesses = λ n. ap (λ (x : CfgBlock). accesses_in x.steps) (block_at_trimmed g n) ∙ same_accesses (var_block_at g n);
  reads = λ n. subst (λ (x : CfgBlock). length x.reads ≤ length (var_block_at g n).reads) (sym (block_at_trimmed g n)) (few_reads (block_uses (var_block_at g n)) 0 (var_block_at g n).reads);
  writes = λ n. subst (λ (x : CfgBlock). length x.writes ≤ length (var_block_at g n).writes) (sym (block_at_trimmed g n)) (few_writes (var_block_at g n));
  all_steps = all_steps g.blocks;
  all_accesses = all_accesses g.blocks;
}
