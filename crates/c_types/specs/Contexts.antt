-- Private: the declarations in force as a walk over a block holds them, the contexts of casts that they stand for, and what parameters declare.
-- The walk does not hold the dimensions of arrays: they are given by their numbers.
use Rattle.std.specs.Prelude.{◌≡◌, ℕ, ◌<◌, List, [], ◌∷◌, ◌++◌, length, Some}
use Rattle.el_base.specs.declared.ty.Ty.{Ty}
use Rattle.c_ast.specs.declared.tree.Param.{Param}
use Rattle.c_ast.specs.declared.typed.ArrayOf.{ArrayOf}
use Rattle.c_ast.specs.declared.typed.Object.{Object}
use Rattle.c_ast.specs.declared.typed.Object.TheVariants as object
use Rattle.c_ast.specs.Casts.{Declared, a_var, an_array, Context, Parameters, with_param}
use Rattle.c_types.specs.declared.known.Binding.{Binding}
use Rattle.c_types.specs.declared.known.Binding.TheVariants as binding
use Rattle.c_types.specs.declared.known.Known.{Known}
use Rattle.c_types.specs.Scopes.{declared_in, scopes_by}

-- ---- contexts

abbrev pub Bindings : Type 0
Bindings = List (List (List ℕ × Binding))

-- what a name stands for, where the dimensions of arrays are given by their numbers
abbrev pub declared_by : (ℕ → List ℕ) → Binding → Declared
declared_by dims (binding.Var v t) = a_var v t
declared_by dims (binding.Array a t) = an_array a t (dims a)

abbrev pub context_in : (ℕ → List ℕ) → Bindings → List Ty → Context
context_in dims scopes types = record { scopes = scopes_by (declared_by dims) scopes; types = types }

abbrev pub context_of : (ℕ → List ℕ) → Known → Context
context_of dims k = context_in dims k.scopes k.types

-- ---- objects

-- what a name with so many indices stands for, and the type of it or of its elements
pub data IsObject (scopes : Bindings) (x : List ℕ) : ℕ → Object → Ty → Type 0 where
  a_variable : (n v : ℕ) (t : Ty) → n ≡ 0 → declared_in scopes x ≡ Some (binding.Var v t) → IsObject scopes x n (object.Var v) t
  an_element : (n a : ℕ) (t : Ty) → 0 < n → declared_in scopes x ≡ Some (binding.Array a t) → IsObject scopes x n (object.Array a) t

-- ---- parameters

-- the array of a parameter
abbrev pub array_as : Param → ArrayOf
array_as p = record { name = p.name; ty = p.ty; dims = p.dims }

-- the dimensions of each array by its number
pub record Tells (dims : ℕ → List ℕ) (arrays : List ArrayOf) : Type 0 where
  pub told : (before : List ArrayOf) (x : ArrayOf) (after : List ArrayOf) → arrays ≡ before ++ x ∷ after → dims (length before) ≡ x.dims

-- what parameters declare
pub record AreParameters (k : Known) (arrays : List ArrayOf) (q : Parameters) : Type 0 where
  pub types_are : k.types ≡ q.types
  pub arrays_are : arrays ≡ q.arrays
  pub scopes_are : (dims : ℕ → List ℕ) → Tells dims arrays → scopes_by (declared_by dims) k.scopes ≡ q.scope ∷ []

-- one more parameter after any others
pub record IsOneMore (k : Known) (arrays : List ArrayOf) (p : Param) (l : Known) (arrays2 : List ArrayOf) : Type 0 where
  pub parameters : (q : Parameters) → AreParameters k arrays q → AreParameters l arrays2 (with_param p p.dims q)
