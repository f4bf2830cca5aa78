-- How the greatest value is found from those before it.
use Rattle.std.proofs.Common.{◌≡◌, ℕ, zero, suc, ◌-◌, ◌<◌, List, refl, ap, arith}
use Rattle.ir.specs.declared.instr.Instr.{Instr}
use Rattle.block_rules.specs.Reading.{step_at}
use Rattle.block_rules.specs.Tops.{any_top, top_of, top_within}

pub top_first : (n : ℕ) (steps : List Instr) (v : ℕ) → top_within 0 n steps v ≡ any_top
unfolding top_within
top_first n steps v = refl

pub top_more : (k j n : ℕ) (steps : List Instr) (v : ℕ) → j ≡ k - 1 → 0 < k → top_within k n steps v ≡ top_of (λ x. top_within j n steps x) n steps (step_at n steps v)
unfolding top_within
top_more zero j n steps v e h = absurd (omega arith)
top_more (suc k) j n steps v e h = let same : k ≡ j = omega arith in ap (λ (i : ℕ). top_of (λ x. top_within i n steps x) n steps (step_at n steps v)) same
