-- What a name stands for where the rules have it declared and used as they ask, and that it is new where they have it new.
use Rattle.std.proofs.Common.{◌≡◌, ℕ, true, false, List, [], ◌∷◌, length, Option, Some, None, IsSome, refl, sym, ap, subst, ◌∙◌}
use Rattle.std.specs.Prelude.{option_map}
use Rattle.std.specs.Map.{lookup}
use Rattle.el_base.specs.declared.ty.Ty.{Ty}
use Rattle.c_ast.specs.Typing.{sort_of, IsNew}
use Rattle.c_ast.specs.declared.typed.Object.{Object}
use Rattle.c_ast.specs.declared.typed.Object.TheVariants as object
use Rattle.c_types.specs.declared.known.Binding.{Binding}
use Rattle.c_types.specs.declared.known.Binding.TheVariants as binding
use Rattle.c_types.specs.Scopes.{declared_in, is_new_in, scope_by, scopes_by}
use Rattle.c_types.specs.Contexts.{Bindings, declared_by, IsObject, a_variable, an_element}
use Rattle.c_types.specs.TypingParts.{sort_as, names_in, TypingUseIn}
use Rattle.c_types.proofs.Lookups.{same_name}
use Rattle.c_types.proofs.Renamed.{lookup-scope_by, found-scopes_by, by_none}

pub sort_is : (dims : ℕ → List ℕ) (v : Bindings) (x : List ℕ) (r : Option Binding) → declared_in v x ≡ r → sort_of (names_in dims v) x ≡ option_map sort_as (option_map (declared_by dims) r)
sort_is dims v x r is =
    found-scopes_by sort_as (scopes_by (declared_by dims) v) x ∙ ap (option_map sort_as) (found-scopes_by (declared_by dims) v x ∙ ap (option_map (declared_by dims)) is)

pub declared_name : (v : Bindings) (x : List ℕ) (n : ℕ) → TypingUseIn v x n → declared_in v x ≡ None → ⊥
declared_name v x n h none =
    let unknown : false ≡ true = subst IsSome (sort_is h.dims v x None none) h.usable.rule_20_declared in
    absurd (cc)

pub variable_name : (v : Bindings) (x : List ℕ) (n i : ℕ) (t : Ty) (o : Object) → TypingUseIn v x n → declared_in v x ≡ Some (binding.Var i t) → o ≡ object.Var i → IsObject v x n o t
variable_name v x n i t o h is made =
    subst (λ o. IsObject v x n o t) (sym made) (a_variable n i t (h.usable.rule_22_scalar_has_none (sort_is h.dims v x (Some (binding.Var i t)) is)) is)

pub array_name : (v : Bindings) (x : List ℕ) (n i : ℕ) (t : Ty) (o : Object) → TypingUseIn v x n → declared_in v x ≡ Some (binding.Array i t) → o ≡ object.Array i → IsObject v x n o t
array_name v x n i t o h is made =
    subst (λ o. IsObject v x n o t) (sym made)
    (an_element n i t (h.usable.rule_23_array_has_some (length (h.dims i)) (sort_is h.dims v x (Some (binding.Array i t)) is)) is)

pub new_in : (dims : ℕ → List ℕ) (v : Bindings) (x : List ℕ) → IsNew (names_in dims v) x → is_new_in v x ≡ true
new_in dims [] x h = refl
new_in dims (s ∷ ss) x h =
    by_none (declared_by dims) (lookup (same_name x) s)
    (none_inside (option_map (declared_by dims) (lookup (same_name x) s))
    (ap (option_map sort_as) (sym (lookup-scope_by (declared_by dims) (same_name x) s)) ∙ sym (lookup-scope_by sort_as (same_name x) (scope_by (declared_by dims) s)) ∙ h))
  where
    none_inside : (r : Option _) → option_map sort_as r ≡ None → r ≡ None
    none_inside None h = refl
    none_inside (Some d) h = absurd (cc)
