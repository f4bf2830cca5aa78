-- What the steps of a block do with its values and with the arrays.
use Rattle.std.specs.Prelude.{ℕ, ◌+◌, List, [], ◌∷◌, ◌++◌, length, get_or, set, nat_lt, ◌==◌, if◌then◌else◌}
use Rattle.ir.specs.declared.instr.Instr.{Instr}
use Rattle.ir.specs.declared.instr.Instr.TheVariants.{Const, One, Two, Select, Load, Store}
use Rattle.word_ops.specs.Operations.{op1_result, op2_result}

-- the values so far, the arrays, and how many loads and stores went past an array
pub record Work : Type 0 where
  pub values : List ℕ
  pub arrays : List (List ℕ)
  pub strays : ℕ

abbrev pub value_at : List ℕ → ℕ → ℕ
value_at vs v = get_or vs v 0

-- the first where the condition is not 0, else the second
abbrev pub chosen_of : ℕ → ℕ → ℕ → ℕ
chosen_of c a b = if c == 0 then b else a

abbrev pub cells : List (List ℕ) → ℕ → List ℕ
cells arrays a = get_or arrays a []

-- the value of a step: a load past its array gives 0, and a store has none, for which 0 stands
abbrev pub step_value : Instr → List ℕ → List (List ℕ) → ℕ
step_value (Const w n) vs arrays = n
step_value (One op a) vs arrays = op1_result op (value_at vs a)
step_value (Two op a b) vs arrays = op2_result op (value_at vs a) (value_at vs b)
step_value (Select w c a b) vs arrays = chosen_of (value_at vs c) (value_at vs a) (value_at vs b)
step_value (Load a p) vs arrays = get_or (cells arrays a) (value_at vs p) 0
step_value (Store a p v) vs arrays = 0

-- the arrays after a step: a store past its array writes nothing
abbrev pub step_arrays : Instr → List ℕ → List (List ℕ) → List (List ℕ)
step_arrays (Const w n) vs arrays = arrays
step_arrays (One op a) vs arrays = arrays
step_arrays (Two op a b) vs arrays = arrays
step_arrays (Select w c a b) vs arrays = arrays
step_arrays (Load a p) vs arrays = arrays
step_arrays (Store a p v) vs arrays = set arrays a (set (cells arrays a) (value_at vs p) (value_at vs v))

-- one stray for an access past its array
abbrev pub strays_past : List ℕ → ℕ → ℕ
strays_past cs p = if nat_lt p (length cs) then 0 else 1

abbrev pub step_strays : Instr → List ℕ → List (List ℕ) → ℕ
step_strays (Const w n) vs arrays = 0
step_strays (One op a) vs arrays = 0
step_strays (Two op a b) vs arrays = 0
step_strays (Select w c a b) vs arrays = 0
step_strays (Load a p) vs arrays = strays_past (cells arrays a) (value_at vs p)
step_strays (Store a p v) vs arrays = strays_past (cells arrays a) (value_at vs p)

abbrev pub after_step : Instr → Work → Work
after_step i w = record { values = w.values ++ step_value i w.values w.arrays ∷ []; arrays = step_arrays i w.values w.arrays; strays = w.strays + step_strays i w.values w.arrays }

abbrev pub through : List Instr → Work → Work
through [] w = w
through (i ∷ is) w = through is (after_step i w)

-- the beginning of a visit
abbrev pub beginning : List ℕ → List (List ℕ) → Work
beginning vs arrays = record { values = vs; arrays = arrays; strays = 0 }
