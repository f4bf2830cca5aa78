-- Steps that are no constants.
use Rattle.std.specs.Prelude.{ℕ, ◌+◌, List, [], ◌∷◌}
use Rattle.ir.specs.declared.instr.Instr.{Instr}
use Rattle.ir.specs.declared.instr.Instr.TheVariants.{Const, One, Two, Select, Load, Store}

-- 1 for a step that is no constant
abbrev pub is_nonconstant : Instr → ℕ
is_nonconstant (Const w n) = 0
is_nonconstant (One op a) = 1
is_nonconstant (Two op a b) = 1
is_nonconstant (Select w c a b) = 1
is_nonconstant (Load a p) = 1
is_nonconstant (Store a p v) = 1

-- how many of the steps are no constants
abbrev pub nonconstants_in : List Instr → ℕ
nonconstants_in [] = 0
nonconstants_in (i ∷ is) = is_nonconstant i + nonconstants_in is
