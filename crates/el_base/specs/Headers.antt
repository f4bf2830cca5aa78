-- What a kernel, its block graph and its circuit have in common to the outside.
use Rattle.std.specs.Prelude.{ℕ, List, Option}
use Rattle.el_base.specs.declared.ty.Ty.{Ty}
use Rattle.el_base.specs.declared.ty.Scalar.{Scalar}
use Rattle.el_base.specs.declared.ty.Array.{Array}

-- a name, the scalars, the arrays, and the type of the result where there is one
pub record Header : Type 0 where
  pub name : List ℕ
  pub scalars : List Scalar
  pub arrays : List Array
  pub result : Option Ty
