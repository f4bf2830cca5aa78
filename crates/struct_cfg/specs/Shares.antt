-- What is said of the laying of each lawful expression.
use Rattle.std.specs.Prelude.{◌≡◌, ℕ, ◌<◌, ◌≤◌, List, length, map, All, ℤ, true, false, Some}
use Rattle.el_base.specs.Numbers.{pattern}
use Rattle.c_ast.specs.declared.typed.ArrayOf.{ArrayOf}
use Rattle.c_ast.specs.declared.typed.TypedExpr.{TypedExpr}
use Rattle.ir.specs.Steps.{Work, through}
use Rattle.c_meaning.specs.Operators.{is_zero}
use Rattle.c_meaning.specs.Stores.{Store, Objects, elements, place, set_element}
use Rattle.c_meaning.specs.Expressions.{value, val, meaning, values, all_values}
use Rattle.c_meaning.specs.Lawful.{AreDimensions}
use Rattle.el_base.specs.Limits.{max_elements}
use Rattle.struct_cfg.specs.Layings.{Laid}
use Rattle.struct_cfg.specs.Exprs.{expr_laying, condition_laying, store_laying}
use Rattle.struct_cfg.specs.Seen.{Sees, Makes}

-- an array has at least one dimension, at most three, none of them 0, and not too many elements
pub record IsSmallArray (x : ArrayOf) : Type 0 where
  pub some : 0 < length x.dims
  pub dimensions : AreDimensions x.dims
  pub few : elements x.dims ≤ max_elements

abbrev pub AreSmallArrays : List ArrayOf → Type 0
AreSmallArrays arrays = All IsSmallArray arrays

-- where a store is seen in which the expression has a value, its laying makes the pattern of that value
pub record GivesValue (k : Objects) (env : List ℕ) (e : TypedExpr) : Type 0 where
  pub gives : (w : Work) (s : Store) (x : ℤ) (t : ℕ) → Sees k env w s → val k s e ≡ value x t → Makes w (expr_laying k.arrays env e (length w.values)) (pattern e.ty x)

-- a value of 32 bits that is 0 exactly where a number is
pub record IsTruthOf (w : Work) (l : Laid) (x : ℤ) : Type 0 where
  pub flag : ℕ
  pub makes : Makes w l flag
  pub none : is_zero x ≡ true → flag ≡ 0
  pub some : is_zero x ≡ false → 0 < flag

pub record GivesTruth (k : Objects) (env : List ℕ) (e : TypedExpr) : Type 0 where
  pub gives : (w : Work) (s : Store) (x : ℤ) (t : ℕ) → Sees k env w s → val k s e ≡ value x t → IsTruthOf w (condition_laying k.arrays env e (length w.values)) x

-- the store after an element is stored: it is seen after the steps of its indices, its value and the store
pub record GivesStore (k : Objects) (env : List ℕ) (a : ℕ) (indices : List TypedExpr) (e : TypedExpr) : Type 0 where
  pub gives : (w : Work) (s : Store) (is : List ℤ) (t at : ℕ) (z : ℤ) (u : ℕ) → Sees k env w s → all_values (map (meaning k) indices) s ≡ values is t → place k.arrays a is ≡ Some at → val k s e ≡ value z u
      → Sees k env (through (store_laying k.arrays env a indices e (length w.values)).steps w) (set_element a at z s)
