-- Steps whose operands get other numbers: what a renaming has to keep so that the steps do the same.
use Rattle.std.specs.Prelude.{◌≡◌, ℕ, Bool, true, suc, ◌+◌, ◌<◌, ◌⊎◌, List, [], ◌∷◌, map, length}
use Rattle.el_base.specs.declared.ty.Array.{Array}
use Rattle.ir.specs.declared.instr.Instr.{Instr}
use Rattle.ir.specs.declared.instr.Instr.TheVariants.{Const, One, Two, Select, Load, Store}
use Rattle.ir.specs.Steps.{Work, value_at, through}
use Rattle.ir.specs.Shapes.{Shape, IsOfWidth, StepsFit, shape_after}

-- the step with each operand a as f a
abbrev pub renamed : (ℕ → ℕ) → Instr → Instr
renamed f (Const w n) = Const w n
renamed f (One op a) = One op (f a)
renamed f (Two op a b) = Two op (f a) (f b)
renamed f (Select w c a b) = Select w (f c) (f a) (f b)
renamed f (Load a p) = Load a (f p)
renamed f (Store a p v) = Store a (f p) (f v)

abbrev pub operands : Instr → List ℕ
operands (Const w n) = []
operands (One op a) = a ∷ []
operands (Two op a b) = a ∷ b ∷ []
operands (Select w c a b) = c ∷ a ∷ b ∷ []
operands (Load a p) = p ∷ []
operands (Store a p v) = p ∷ v ∷ []

-- ---- which values may be named: of the first n values those that are kept, and the values of steps

-- a number that may be named after k steps
abbrev pub MayName : (ℕ → Bool) → ℕ → ℕ → ℕ → Type 0
MayName kept n k a = ((a < n) × (kept a ≡ true)) ⊎ ((i : ℕ) × (i < k) × (a ≡ n + i))

abbrev pub AllMayBeNamed : (ℕ → Bool) → ℕ → ℕ → List ℕ → Type 0
AllMayBeNamed kept n k [] = Unit {0}
AllMayBeNamed kept n k (a ∷ more) = MayName kept n k a × AllMayBeNamed kept n k more

-- the steps, of which k came before, name no other values
abbrev pub StepsName : (ℕ → Bool) → ℕ → ℕ → List Instr → Type 0
StepsName kept n k [] = Unit {0}
StepsName kept n k (i ∷ is) = AllMayBeNamed kept n k (operands i) × StepsName kept n (suc k) is

-- each of the first n values that the steps name is kept
abbrev pub AreKept : (ℕ → Bool) → ℕ → List ℕ → Type 0
AreKept kept n [] = Unit {0}
AreKept kept n (a ∷ more) = (a < n → kept a ≡ true) × AreKept kept n more

abbrev pub OperandsAreKept : (ℕ → Bool) → ℕ → List Instr → Type 0
OperandsAreKept kept n [] = Unit {0}
OperandsAreKept kept n (i ∷ is) = AreKept kept n (operands i) × OperandsAreKept kept n is

-- values of steps stay values of steps, behind m first values in place of n
abbrev pub Shifts : (ℕ → ℕ) → ℕ → ℕ → Type 0
Shifts f n m = (i : ℕ) → f (n + i) ≡ m + i

-- what two blocks made after k steps each: w has the kept ones of v's first n values by their new numbers, which are below m,
-- the values of the k steps behind its first m, and the same arrays and strays
pub record SameWork (kept : ℕ → Bool) (f : ℕ → ℕ) (n m k : ℕ) (v w : Work) : Type 0 where
  pub long : length v.values ≡ n + k
  pub long_new : length w.values ≡ m + k
  pub arrays : w.arrays ≡ v.arrays
  pub strays : w.strays ≡ v.strays
  pub first : (a : ℕ) → a < n → kept a ≡ true → (f a < m) × (value_at w.values (f a) ≡ value_at v.values a)
  pub steps : (i : ℕ) → i < k → value_at w.values (m + i) ≡ value_at v.values (n + i)

-- ---- the laws

-- renamed steps do the same
abbrev pub RenamedStepsDoTheSame : Type 0
RenamedStepsDoTheSame = (kept : ℕ → Bool) (f : ℕ → ℕ) (n m : ℕ) → Shifts f n m
    → (is : List Instr) (k : ℕ) (v w : Work) → SameWork kept f n m k v w → StepsName kept n k is
    → SameWork kept f n m (k + length is) (through is v) (through (map (renamed f) is) w)

-- and a value that may be named afterwards is the same under its new number
abbrev pub RenamedValuesAreTheSame : Type 0
RenamedValuesAreTheSame = (kept : ℕ → Bool) (f : ℕ → ℕ) (n m : ℕ) → Shifts f n m
    → (k : ℕ) (v w : Work) (a : ℕ) → SameWork kept f n m k v w → MayName kept n k a
    → value_at w.values (f a) ≡ value_at v.values a

-- each value of the one shape has the same width in the other under its new number
abbrev pub KeepsWidths : (ℕ → Bool) → (ℕ → ℕ) → ℕ → ℕ → Shape → Shape → Type 0
KeepsWidths kept f n k ws us = (a w : ℕ) → MayName kept n k a → IsOfWidth ws a w → IsOfWidth us (f a) w

-- renamed steps fit, and the widths of what may be named are kept after them
pub record RenamedFit (kept : ℕ → Bool) (f : ℕ → ℕ) (n k : ℕ) (arrays : List Array) (ws us : Shape) (is : List Instr) : Type 0 where
  pub steps : StepsFit arrays us (map (renamed f) is)
  pub widths : KeepsWidths kept f n (k + length is) (shape_after arrays ws is) (shape_after arrays us (map (renamed f) is))

-- where the widths of n first values and k steps are kept, they are behind m first values after further steps
abbrev pub RenamedStepsFit : Type 0
RenamedStepsFit = (kept : ℕ → Bool) (f : ℕ → ℕ) (n m : ℕ) → Shifts f n m
    → (arrays : List Array) (is : List Instr) (k : ℕ) (ws us : Shape) → length ws ≡ n + k → length us ≡ m + k
    → KeepsWidths kept f n k ws us → StepsName kept n k is → StepsFit arrays ws is
    → RenamedFit kept f n k arrays ws us is

-- steps that fit name earlier values alone
abbrev pub FittingStepsName : Type 0
FittingStepsName = (kept : ℕ → Bool) (n : ℕ) (arrays : List Array) (is : List Instr) (k : ℕ) (ws : Shape) → length ws ≡ n + k
    → OperandsAreKept kept n is → StepsFit arrays ws is → StepsName kept n k is
