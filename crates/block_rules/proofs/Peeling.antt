-- Tests are taken off a condition one by one.
use Rattle.std.proofs.Common.{◌≡◌, ℕ, suc, ◌+◌, ◌-◌, ◌<◌, ◌≤◌, List, refl, ap, subst, arith}
use Rattle.ir.specs.declared.instr.Instr.{Instr}
use Rattle.block_rules.specs.declared.rewriting.Condition.{Condition}
use Rattle.block_rules.specs.Conditions.{peeled, peeled_times}

pub one_more : (k n : ℕ) (steps : List Instr) (d : Condition) → k < 8 → peeled_times (8 - (k + 1)) n steps (peeled n steps d) ≡ peeled_times (8 - k) n steps d
unfolding peeled_times
one_more k n steps d h =
    let e : suc (8 - (k + 1)) ≡ 8 - k = omega arith in
    ap (λ (j : ℕ). peeled_times j n steps d) e

pub none_left : (k n : ℕ) (steps : List Instr) (d : Condition) → 8 ≤ k → peeled_times (8 - k) n steps d ≡ d
unfolding peeled_times
none_left k n steps d h =
    let e : 0 ≡ 8 - k = omega arith in
    subst (λ (j : ℕ). peeled_times j n steps d ≡ d) e refl
