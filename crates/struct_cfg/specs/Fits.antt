-- Which laid steps fit: each operand has the width that is needed there, defined or not.
use Rattle.std.specs.Prelude.{◌≡◌, ℕ, List, length, get_or, slice_get, Some}
use Rattle.el_base.specs.declared.ty.Ty.{Ty}
use Rattle.el_base.specs.declared.ty.Array.{Array}
use Rattle.el_base.specs.Widths.{ty_width}
use Rattle.c_ast.specs.declared.typed.ArrayOf.{ArrayOf}
use Rattle.ir.specs.Shapes.{Shape, IsOfWidth, StepsFit, shape_after}
use Rattle.c_meaning.specs.Stores.{Objects}
use Rattle.struct_cfg.specs.Layings.{Laid, Laying}

-- each variable's value has its width
pub record EnvFits (vars env : List ℕ) (ws : Shape) : Type 0 where
  pub by : (x w : ℕ) → slice_get vars x ≡ Some w → IsOfWidth ws (get_or env x 0) w

-- laid steps fit, and their value has a width
pub record Fits (arrays : List Array) (ws : Shape) (l : Laid) (w : ℕ) : Type 0 where
  pub steps : StepsFit arrays ws l.steps
  pub width : IsOfWidth (shape_after arrays ws l.steps) l.value w

-- a graph has the variables of a kernel by their widths, and its arrays by the types of their elements
pub record HasObjects (k : Objects) (vars : List ℕ) (arrays : List Array) : Type 0 where
  pub vars_are : (v : ℕ) (t : Ty) → slice_get k.vars v ≡ Some t → slice_get vars v ≡ Some (ty_width t)
  pub arrays_are : (a : ℕ) (x : ArrayOf) → slice_get k.arrays a ≡ Some x → (y : Array) × (slice_get arrays a ≡ Some y) × (y.ty ≡ x.ty)

-- wherever each variable's value has its width, what is laid fits
pub record AlwaysFits (vars : List ℕ) (arrays : List Array) (env : List ℕ) (a : Laying) (w : ℕ) : Type 0 where
  pub fits : (ws : Shape) → EnvFits vars env ws → Fits arrays ws (a (length ws)) w
