-- How many uses each value of a block has: by its jump, and by the steps that are laid.
use Rattle.std.specs.Prelude.{ℕ, zero, suc, ◌+◌, Bool, true, false, cond, List, [], ◌∷◌, ◌++◌, length, get_or, set, Some, None}
use Rattle.ir.specs.declared.graph.Block.{Block}
use Rattle.ir.specs.declared.graph.Jump.{Jump}
use Rattle.ir.specs.declared.graph.Jump.TheVariants.{Go, Two, Return}
use Rattle.ir.specs.declared.graph.To.{To}
use Rattle.ir.specs.declared.instr.Instr.{Instr}
use Rattle.ir.specs.declared.instr.Instr.TheVariants as step
use Rattle.ir.specs.Renaming.{operands}
use Rattle.circuit_build.specs.Drafts.{plus}

abbrev pub zeros : ℕ → List ℕ
zeros zero = []
zeros (suc n) = zeros n ++ 0 ∷ []

-- n more for a value
abbrev pub added : ℕ → ℕ → List ℕ → List ℕ
added v n t = set t v (plus (get_or t v 0) n)

abbrev pub all_added : List ℕ → List ℕ → List ℕ
all_added [] t = t
all_added (v ∷ vs) t = all_added vs (added v 1 t)

-- how often each of so many values is handed on
abbrev pub handed_often : ℕ → To → List ℕ
handed_often n to = all_added to.with (zeros n)

-- ---- jumps: a branch for each value that either side hands on, however often, and one for the control token

abbrev pub branch_added : ℕ → ℕ → ℕ → ℕ → List ℕ → List ℕ
branch_added c v zero zero t = t
branch_added c v (suc y) n t = added c 1 (added v 1 t)
branch_added c v zero (suc n) t = added c 1 (added v 1 t)

abbrev pub branches_added : ℕ → ℕ → List ℕ → List ℕ → List ℕ → List ℕ
branches_added c v [] ns t = t
branches_added c v (y ∷ ys) ns t = branches_added c (plus v 1) ys ns (branch_added c v y (get_or ns v 0) t)

abbrev pub jump_added : Jump → List ℕ → List ℕ
jump_added (Go to) t = all_added to.with t
jump_added (Two c yes_part no_part) t = added c 1 (branches_added c 0 (handed_often (length t) yes_part) (handed_often (length t) no_part) t)
jump_added (Return None) t = t
jump_added (Return (Some v)) t = added v 1 t

-- ---- steps, the last first: one that makes nothing but its value is laid where that is used

abbrev pub is_pure : Instr → Bool
is_pure (step.Const w n) = true
is_pure (step.One op a) = true
is_pure (step.Two op a b) = true
is_pure (step.Select w c a b) = true
is_pure (step.Load a p) = false
is_pure (step.Store a p v) = false

abbrev pub is_used : ℕ → Bool
is_used zero = false
is_used (suc n) = true

-- is the step of a value with n uses laid
abbrev pub is_laid : Instr → ℕ → Bool
is_laid i n = cond (is_pure i) (is_used n) true

-- what a step of value v uses
abbrev pub step_added : ℕ → Instr → List ℕ → List ℕ
step_added v i t = cond (is_laid i (get_or t v 0)) (all_added (operands i) t) t

abbrev pub steps_added : ℕ → List Instr → List ℕ → List ℕ
steps_added v [] t = t
steps_added v (i ∷ is) t = step_added v i (steps_added (suc v) is t)

abbrev pub uses : Block → List ℕ
uses b = steps_added (length b.args) b.steps (jump_added b.jump (zeros (length b.args + length b.steps)))

-- 1 for a constant with so many uses, where it has some
abbrev pub constant_of : Instr → ℕ → ℕ
constant_of (step.Const w n) u = cond (is_used u) 1 0
constant_of (step.One op a) u = 0
constant_of (step.Two op a b) u = 0
constant_of (step.Select w c a b) u = 0
constant_of (step.Load a p) u = 0
constant_of (step.Store a p v) u = 0

-- the constants that are laid, of the steps whose values are numbered from v on
abbrev pub constants : ℕ → List Instr → List ℕ → ℕ
constants v [] us = 0
constants v (i ∷ is) us = constant_of i (get_or us v 0) + constants (suc v) is us
