-- The block that the code makes by a table of numbers is the kept block.
use Rattle.std.proofs.Common.{◌≡◌, ℕ, zero, suc, ◌+◌, ◌-◌, ◌<◌, ◌≤◌, List, [], ◌∷◌, ◌++◌, map, length, get_or, drop, sym, ◌∙◌, ap, arith, drop-cons, append_assoc}
use Rattle.std.specs.Prelude.{Bool, true, false, nat_lt, if◌then◌else◌}
use Rattle.std.proofs.lemmas.List.{length-map}
use Rattle.ir.specs.declared.instr.Instr.{Instr}
use Rattle.ir.specs.declared.graph.Block.{Block}
use Rattle.ir.specs.Renaming.{renamed}
use Rattle.block_merge.specs.Renamed.{renamed_jump}
use Rattle.block_prune.specs.Kept.{kept_steps, kept_before, new_number, kept_block}
use Rattle.block_prune.specs.Code.{Numbering, number_by, numbers_from, number_after, numbering}

-- ---- numbers

number_at : (n : ℕ) (ms : List Bool) (i : ℕ) → get_or (numbers_from n ms) i (number_after n ms) ≡ n + kept_before ms i
number_at n [] i = omega arith
number_at n (m ∷ ms) zero = omega arith
number_at n (true ∷ ms) (suc i) = let e = number_at (n + 1) ms i in omega (arith, e)
number_at n (false ∷ ms) (suc i) = let e = number_at n ms i in omega (arith, e)

number_same : (n : ℕ) (ms : List Bool) (a : ℕ) → number_by (numbering n ms) a ≡ new_number ms n a
number_same n ms a = ap (λ z. if nat_lt a n then a else z) (number_at n ms (a - n))

same_block : (x y : Block) → x.args ≡ y.args → x.steps ≡ y.steps → x.jump ≡ y.jump → x ≡ y
same_block x y a s j = λ i. record { args = a i; steps = s i; jump = j i }

pub made_kept : (ms : List Bool) (b : Block) (n : Numbering) (new : Block) → n ≡ numbering (length b.args) ms → new.args ≡ b.args
    → new.steps ≡ map (renamed (number_by n)) (kept_steps ms b.steps) → new.jump ≡ renamed_jump (number_by n) b.jump → new ≡ kept_block ms b
made_kept ms b n new e args steps jump =
    let each : (a : ℕ) → number_by n a ≡ new_number ms (length b.args) a = λ a. ap (λ m. number_by m a) e ∙ number_same (length b.args) ms a in
    let f : number_by n ≡ new_number ms (length b.args) = λ i a. each a i in
    same_block new (kept_block ms b) args (steps ∙ ap (λ (g : ℕ → ℕ). map (renamed g) (kept_steps ms b.steps)) f) (jump ∙ ap (λ (g : ℕ → ℕ). renamed_jump g b.jump) f)

-- ---- steps

-- the step at a place is the first of those from there on
pub first_of : (is : List Instr) (k : ℕ) (x d : Instr) → k < length is → x ≡ get_or is k d → drop k is ≡ x ∷ drop (suc k) is
first_of is k x d lt e = drop-cons is k d lt ∙ ap (λ y. y ∷ drop (suc k) is) (sym e)

-- one step more
pub kept_more : (g : Instr → Instr) (ms : List Bool) (is kept all : List Instr) (i : ℕ) (c : Bool) (x d : Instr) → i < length is → length ms ≡ length is → get_or ms i false ≡ c
    → x ≡ get_or is i d → kept ++ map g (kept_steps (drop i ms) (drop i is)) ≡ all
    → (if c then kept ++ g x ∷ [] else kept) ++ map g (kept_steps (drop (i + 1) ms) (drop (i + 1) is)) ≡ all
kept_more g ms is kept all i c x d lt long e at h =
    ap (λ j. (if c then kept ++ g x ∷ [] else kept) ++ map g (kept_steps (drop j ms) (drop j is))) (let q : i + 1 ≡ suc i = omega arith in q) ∙ by c e ∙ h
  where
    split : (b : Bool) → get_or ms i false ≡ b
        → kept_steps (drop i ms) (drop i is) ≡ (if b then (x ∷ kept_steps (drop (suc i) ms) (drop (suc i) is)) else kept_steps (drop (suc i) ms) (drop (suc i) is))
    split b f =
        ap (λ l. kept_steps l (drop i is)) (drop-cons ms i false (omega arith))
        ∙ ap (λ l. kept_steps (get_or ms i false ∷ drop (suc i) ms) l) (first_of is i x d lt at)
        ∙ ap (λ (b : Bool). if b then (x ∷ kept_steps (drop (suc i) ms) (drop (suc i) is)) else kept_steps (drop (suc i) ms) (drop (suc i) is)) f

    by : (b : Bool) → get_or ms i false ≡ b
        → (if b then kept ++ g x ∷ [] else kept) ++ map g (kept_steps (drop (suc i) ms) (drop (suc i) is)) ≡ kept ++ map g (kept_steps (drop i ms) (drop i is))
    by true f = append_assoc kept (g x ∷ []) (map g (kept_steps (drop (suc i) ms) (drop (suc i) is))) ∙ ap (λ l. kept ++ map g l) (sym (split true f))
    by false f = ap (λ l. kept ++ map g l) (sym (split false f))

-- ---- no more values

few_steps : (ms : List Bool) (is : List Instr) → length (kept_steps ms is) ≤ length is
few_steps [] is = omega arith
few_steps (m ∷ ms) [] = omega arith
few_steps (true ∷ ms) (i ∷ is) = let r = few_steps ms is in omega arith
few_steps (false ∷ ms) (i ∷ is) = let r = few_steps ms is in omega arith

pub few_values : (ms : List Bool) (b new : Block) → new ≡ kept_block ms b → length new.args + length new.steps ≤ length b.args + length b.steps
few_values ms b new e =
    let f = new_number ms (length b.args) in
    let args = ap (λ (x : Block). length x.args) e in
    let steps = ap (λ (x : Block). length x.steps) e ∙ length-map (kept_steps ms b.steps) (renamed f) in
    omega (arith, args, steps, few_steps ms b.steps)
