-- What variables and arrays hold while a kernel runs.
use Rattle.std.specs.Prelude.{ℕ, zero, suc, ◌*◌, ◌+◌, ◌-◌, List, [], ◌∷◌, ◌++◌, map, length, get_or, set, slice_get, replicate, ℤ, pos, negsuc, nat_lt, if◌then◌else◌, Option, Some, None, option_and_then, ◌≡◌, All}
use Rattle.el_base.specs.declared.ty.Ty.{Ty}
use Rattle.el_base.specs.Numbers.{IsInRange}
use Rattle.c_ast.specs.declared.tree.Param.{Param}
use Rattle.c_ast.specs.declared.typed.ArrayOf.{ArrayOf}
use Rattle.c_meaning.specs.declared.profile.Profile.{Profile}

-- A store: of each variable a number, or None where it is unset; of each array its elements in row-major order.
pub record Store : Type 0 where
  pub vars : List (Option ℤ)
  pub arrays : List (List ℤ)

-- What a kernel is read by: the profile; the type of each variable; name, type and dimensions of each array.
pub record Objects : Type 0 where
  pub profile : Profile
  pub vars : List Ty
  pub arrays : List ArrayOf

-- a number for each scalar parameter, and the elements of each array, in order
pub record Inputs : Type 0 where
  pub scalars : List ℤ
  pub arrays : List (List ℤ)

-- the number of elements of an array
abbrev pub elements : List ℕ → ℕ
elements [] = 1
elements (d ∷ ds) = d * elements ds

-- numbers lie in the ranges of types, one for one
abbrev pub AreInRanges : List Ty → List ℤ → Type 0
AreInRanges [] [] = Unit {0}
AreInRanges (t ∷ ts) (z ∷ zs) = IsInRange t z × AreInRanges ts zs
AreInRanges [] (z ∷ zs) = ⊥
AreInRanges (t ∷ ts) [] = ⊥

-- arrays have as many elements as their dimensions say, each in the range of its type
abbrev pub AreArraysOf : List ArrayOf → List (List ℤ) → Type 0
AreArraysOf [] [] = Unit {0}
AreArraysOf (x ∷ xs) (zs ∷ zss) = (length zs ≡ elements x.dims) × All (IsInRange x.ty) zs × AreArraysOf xs zss
AreArraysOf [] (zs ∷ zss) = ⊥
AreArraysOf (x ∷ xs) [] = ⊥

-- the types of the parameters that are no arrays: those without dimensions
abbrev pub scalar_type : List ℕ → Ty → List Ty
scalar_type [] t = t ∷ []
scalar_type (d ∷ ds) t = []

abbrev pub scalar_types : List Param → List Ty
scalar_types [] = []
scalar_types (p ∷ ps) = scalar_type p.dims p.ty ++ scalar_types ps

-- inputs fit the parameters and arrays of a kernel
pub record AreFitting (params : List Param) (arrays : List ArrayOf) (i : Inputs) : Type 0 where
  pub each_scalar : AreInRanges (scalar_types params) i.scalars
  pub each_array : AreArraysOf arrays i.arrays

-- a variable that is set has a number in the range of its type
abbrev pub IsSetIn : Ty → Option ℤ → Type 0
IsSetIn t None = Unit {0}
IsSetIn t (Some z) = IsInRange t z

-- one for one
abbrev pub AreSetIn : List Ty → List (Option ℤ) → Type 0
AreSetIn [] [] = Unit {0}
AreSetIn (t ∷ ts) (x ∷ xs) = IsSetIn t x × AreSetIn ts xs
AreSetIn [] (x ∷ xs) = ⊥
AreSetIn (t ∷ ts) [] = ⊥

-- a store fits a kernel: it has its variables and its arrays, and each number lies in the range of its type
pub record IsFitting (k : Objects) (s : Store) : Type 0 where
  pub vars : AreSetIn k.vars s.vars
  pub arrays : AreArraysOf k.arrays s.arrays

-- All parameters are set, and all other variables are unset.
abbrev pub opening : Objects → Inputs → Store
opening k i = record { vars = map Some i.scalars ++ replicate (length k.vars - length i.scalars) None; arrays = i.arrays }

-- a variable is unset, or set to a number
abbrev pub unset_var : ℕ → Store → Store
unset_var v s = record s { vars = set s.vars v None }

abbrev pub set_var : ℕ → ℤ → Store → Store
set_var v z s = record s { vars = set s.vars v (Some z) }

abbrev pub unset_vars : List ℕ → Store → Store
unset_vars [] s = s
unset_vars (v ∷ vs) s = unset_vars vs (unset_var v s)

-- the number of a variable, undefined where it is unset
abbrev pub read_var : Store → ℕ → Option ℤ
read_var s v = get_or s.vars v None

-- an index of a dimension of length d: undefined outside 0 to d - 1
abbrev pub index_within : ℕ → ℤ → Option ℕ
index_within d (pos i) = if nat_lt i d then Some i else None
index_within d (negsuc i) = None

-- the place of an element in row-major order: at is the place in the dimensions before; one index for each dimension
abbrev pub place_from : ℕ → List ℕ → List ℤ → Option ℕ
place_from at [] [] = Some at
place_from at (d ∷ ds) (i ∷ is) = option_and_then (λ j. place_from (at * d + j) ds is) (index_within d i)
place_from at [] (i ∷ is) = None
place_from at (d ∷ ds) [] = None

abbrev pub dims_of : List ArrayOf → ℕ → List ℕ
dims_of [] a = []
dims_of (x ∷ xs) zero = x.dims
dims_of (x ∷ xs) (suc a) = dims_of xs a

-- the place of an element of an array, by its indices
abbrev pub place : List ArrayOf → ℕ → List ℤ → Option ℕ
place arrays a indices = place_from 0 (dims_of arrays a) indices

abbrev pub read_element : Store → ℕ → ℕ → Option ℤ
read_element s a at = slice_get (get_or s.arrays a []) at

abbrev pub set_element : ℕ → ℕ → ℤ → Store → Store
set_element a at z s = record s { arrays = set s.arrays a (set (get_or s.arrays a []) at z) }
