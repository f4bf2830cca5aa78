-- The law of the rules: what a step becomes has the step's width and value.
use Rattle.std.specs.Prelude.{◌≡◌, ℕ, suc, ◌+◌, ◌≤◌, List, [], length, All, Some, ◌==◌, not, cond}
use Rattle.el_base.specs.declared.ty.Array.{Array}
use Rattle.ir.specs.declared.instr.Instr.{Instr}
use Rattle.ir.specs.Shapes.{Shape, IsWidth, IsOfWidth, StepFits, StepsFit, step_width, shape_after}
use Rattle.ir.specs.Steps.{value_at, through, beginning}
use Rattle.block_rules.specs.declared.rewriting.Rewriting.{Rewriting}
use Rattle.block_rules.specs.declared.rewriting.Rewriting.TheVariants.{Kept, Value, Steps}
use Rattle.block_rules.specs.declared.rewriting.Condition.{Condition}
use Rattle.block_rules.specs.Known.{IsPure, pure_value, AreValues}
use Rattle.block_rules.specs.Tops.{top_within}
use Rattle.block_rules.specs.Rules.{rewritten, stripped}

-- these steps are pure, fit behind the shape, and their last value is x of width w
pub record AreRight (arrays : List Array) (ws : Shape) (vs : List ℕ) (is : List Instr) (w x : ℕ) : Type 0 where
  pub last : ℕ
  pub some : length is ≡ suc last
  pub pure : All IsPure is
  pub fit : StepsFit arrays ws is
  pub width : IsOfWidth (shape_after arrays ws is) (length ws + last) w
  pub value : value_at (through is (beginning vs [])).values (length ws + last) ≡ x

-- what becomes of a step of width w and value x
abbrev pub IsRight : List Array → Shape → List ℕ → ℕ → ℕ → Rewriting → Type 0
IsRight arrays ws vs w x Kept = Unit {0}
IsRight arrays ws vs w x (Value v) = IsOfWidth ws v w × (value_at vs v ≡ x)
IsRight arrays ws vs w x (Steps is) = AreRight arrays ws vs is w x

abbrev pub RewritingsAreRight : Type 0
RewritingsAreRight = (arrays : List Array) (n : ℕ) (steps : List Instr) (ws : Shape) (vs : List ℕ) (i : Instr) (w : ℕ) → AreValues arrays n steps ws vs
    → IsPure i → StepFits arrays ws i → step_width arrays i ≡ Some w → IsRight arrays ws vs w (pure_value i vs) (rewritten n steps i)

-- a condition is 0 exactly where the other is, or exactly where the other is not
pub record DecidesAlike (ws : Shape) (vs : List ℕ) (c : ℕ) (d : Condition) : Type 0 where
  pub width : IsOfWidth ws d.value 32
  pub decides : (value_at vs c == 0) ≡ cond d.turned (not (value_at vs d.value == 0)) (value_at vs d.value == 0)

abbrev pub ConditionsAreRight : Type 0
ConditionsAreRight = (arrays : List Array) (n : ℕ) (steps : List Instr) (ws : Shape) (vs : List ℕ) (c : ℕ) → AreValues arrays n steps ws vs
    → IsOfWidth ws c 32 → DecidesAlike ws vs c (stripped n steps c)

-- no value is greater than what the steps before it tell
abbrev pub ValuesAreBounded : Type 0
ValuesAreBounded = (arrays : List Array) (n : ℕ) (steps : List Instr) (ws : Shape) (vs : List ℕ) → AreValues arrays n steps ws vs
    → (k v w : ℕ) → IsWidth w → IsOfWidth ws v w → value_at vs v ≤ top_within k n steps v
