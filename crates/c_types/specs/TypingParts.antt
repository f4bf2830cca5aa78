-- Private: declarations in force in the words of the typing rules, and a name that keeps them. The dimensions of arrays are given by their numbers.
use Rattle.std.specs.Prelude.{ℕ, List, length}
use Rattle.c_ast.specs.Typing.{Sort, a_scalar, Names, IsUsable}
use Rattle.c_ast.specs.Typing as typing
use Rattle.c_ast.specs.Casts.{Declared, a_var, an_array, Scope}
use Rattle.c_types.specs.Scopes.{scopes_by}
use Rattle.c_types.specs.Contexts.{Bindings, declared_by}

-- what a name stands for, in the words of the rules
abbrev pub sort_as : Declared → Sort
sort_as (a_var v t) = a_scalar
sort_as (an_array a t ds) = typing.an_array (length ds)

abbrev pub names_as : List Scope → Names
names_as scopes = scopes_by sort_as scopes

abbrev pub names_in : (ℕ → List ℕ) → Bindings → Names
names_in dims scopes = names_as (scopes_by (declared_by dims) scopes)

-- a name with so many indices
pub record TypingUseIn (scopes : Bindings) (x : List ℕ) (indices : ℕ) : Type 0 where
  pub dims : ℕ → List ℕ
  pub usable : IsUsable (names_in dims scopes) x indices
