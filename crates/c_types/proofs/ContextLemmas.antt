-- Contexts of casts by the declarations in force: where a name is looked up or declared, and where a scope begins or ends.
use Rattle.std.proofs.Common.{◌≡◌, ℕ, ◌<◌, true, List, [], ◌∷◌, ◌++◌, length, Some, None, refl, ap, ◌∙◌, if◌then◌else◌, arith}
use Rattle.std.specs.Prelude.{option_map}
use Rattle.el_base.specs.declared.ty.Ty.{Ty}
use Rattle.c_ast.specs.declared.typed.Object.{Object}
use Rattle.c_ast.specs.declared.typed.Object.TheVariants as object
use Rattle.c_ast.specs.Casts.{Scope, Context, declared_as, into_innermost, with_var, opened, closed}
use Rattle.c_ast.specs.Casts as rule
use Rattle.c_types.specs.declared.known.Binding.{Binding}
use Rattle.c_types.specs.declared.known.Binding.TheVariants as binding
use Rattle.c_types.specs.declared.known.Known.{Known}
use Rattle.c_types.specs.Scopes.{declared_in, is_new_in, with_entry, without_innermost, scopes_by}
use Rattle.c_types.specs.Contexts.{Bindings, declared_by, context_in, context_of, IsObject, a_variable, an_element}
use Rattle.c_types.proofs.Renamed.{found-scopes_by}

abbrev pub context_with : List Scope → List Ty → Context
context_with ss ts = record { scopes = ss; types = ts }

pub found : (dims : ℕ → List ℕ) (types : List Ty) (scopes : Bindings) (x : List ℕ) (b : Binding) → declared_in scopes x ≡ Some b → declared_as (context_in dims scopes types) x ≡ Some (declared_by dims b)
found dims types scopes x b h = found-scopes_by (declared_by dims) scopes x ∙ ap (option_map (declared_by dims)) h

pub unfound : (dims : ℕ → List ℕ) (types : List Ty) (scopes : Bindings) (x : List ℕ) → declared_in scopes x ≡ None → declared_as (context_in dims scopes types) x ≡ None
unfound dims types scopes x h = found-scopes_by (declared_by dims) scopes x ∙ ap (option_map (declared_by dims)) h

pub entered : (dims : ℕ → List ℕ) (x : List ℕ) (b : Binding) (v : Bindings) → is_new_in v x ≡ true
    → scopes_by (declared_by dims) (with_entry x b v) ≡ into_innermost (x, declared_by dims b) (scopes_by (declared_by dims) v)
entered dims x b [] h = refl
entered dims x b (s ∷ ss) h = ap (λ n. scopes_by (declared_by dims) ((if n then (x, b) ∷ s else s) ∷ ss)) h

pub with_var_is : (dims : ℕ → List ℕ) (k l : Known) (x : List ℕ) (t : Ty) → is_new_in k.scopes x ≡ true → l.scopes ≡ with_entry x (binding.Var (length k.types) t) k.scopes
    → l.types ≡ k.types ++ t ∷ [] → context_of dims l ≡ with_var x t (context_of dims k)
with_var_is dims k l x t new scopes types =
    ap (λ v. context_with (scopes_by (declared_by dims) v) l.types) scopes
    ∙ ap (λ v. context_with v l.types) (entered dims x (binding.Var (length k.types) t) k.scopes new)
    ∙ ap (λ ts. context_with (into_innermost (x, rule.a_var (length k.types) t) (scopes_by (declared_by dims) k.scopes)) ts) types

opened_is : (dims : ℕ → List ℕ) (k l : Known) → l.scopes ≡ [] ∷ k.scopes → l.types ≡ k.types → context_of dims l ≡ opened (context_of dims k)
opened_is dims k l scopes types =
    ap (λ v. context_with (scopes_by (declared_by dims) v) l.types) scopes
    ∙ ap (λ ts. context_with ([] ∷ scopes_by (declared_by dims) k.scopes) ts) types

-- ---- scopes that begin and end

abbrev pub outside : List Scope → List Scope
outside [] = []
outside (s ∷ ss) = ss

pub innermost_outside : (e : List ℕ × rule.Declared) (ss : List Scope) → outside (into_innermost e ss) ≡ outside ss
innermost_outside e [] = refl
innermost_outside e (s ∷ ss) = refl

leaves : (dims : ℕ → List ℕ) (v w : Bindings) → outside (scopes_by (declared_by dims) w) ≡ scopes_by (declared_by dims) v → 0 < length v
    → scopes_by (declared_by dims) (without_innermost w) ≡ scopes_by (declared_by dims) v
leaves dims [] w h some = absurd (omega arith)
leaves dims (s ∷ ss) [] h some = absurd (cc)
leaves dims (s ∷ ss) (x ∷ []) h some = absurd (cc)
leaves dims (s ∷ ss) (x ∷ y ∷ ys) h some = h

closed_is : (dims : ℕ → List ℕ) (k m l : Known) → outside (scopes_by (declared_by dims) m.scopes) ≡ scopes_by (declared_by dims) k.scopes → 0 < length k.scopes
    → l.scopes ≡ without_innermost m.scopes → l.types ≡ m.types → context_of dims l ≡ closed (context_of dims k) (context_of dims m)
closed_is dims k m l out some scopes types =
    ap (λ v. context_with (scopes_by (declared_by dims) v) l.types) scopes
    ∙ ap (λ v. context_with v l.types) (leaves dims k.scopes m.scopes out some)
    ∙ ap (λ ts. context_with (scopes_by (declared_by dims) k.scopes) ts) types

-- a scope that was begun
pub record IsOpened (k m : Known) : Type 0 where
  pub scopes_are : m.scopes ≡ [] ∷ k.scopes
  pub types_are : m.types ≡ k.types
  pub some : 0 < length k.scopes

-- a scope that was ended
pub record IsLeft (m l : Known) : Type 0 where
  pub scopes_are : l.scopes ≡ without_innermost m.scopes
  pub types_are : l.types ≡ m.types

pub opening : (k m : Known) → m.scopes ≡ [] ∷ k.scopes → m.types ≡ k.types → 0 < length k.scopes → IsOpened k m
opening k m p q r = record { scopes_are = p; types_are = q; some = r }

pub leaving : (m l : Known) → l.scopes ≡ without_innermost m.scopes → l.types ≡ m.types → IsLeft m l
leaving m l p q = record { scopes_are = p; types_are = q }

pub in_opened : (dims : ℕ → List ℕ) (k m : Known) → IsOpened k m → context_of dims m ≡ opened (context_of dims k)
in_opened dims k m o = opened_is dims k m o.scopes_are o.types_are

pub after_left : (dims : ℕ → List ℕ) (k m l : Known) → 0 < length k.scopes → IsLeft m l → outside (scopes_by (declared_by dims) m.scopes) ≡ scopes_by (declared_by dims) k.scopes
    → context_of dims l ≡ closed (context_of dims k) (context_of dims m)
after_left dims k m l some left out = closed_is dims k m l out some left.scopes_are left.types_are

-- ---- objects

pub no_dims : ℕ → List ℕ
no_dims n = []

pub variable_of : {scopes : Bindings} {x : List ℕ} {n : ℕ} {o : Object} {t : Ty} (v : ℕ) → IsObject scopes x n o t → o ≡ object.Var v → declared_in scopes x ≡ Some (binding.Var v t)
variable_of v (a_variable n w t none is) same = cc
variable_of v (an_element n a t some is) same = absurd (cc)

pub array_of : {scopes : Bindings} {x : List ℕ} {n : ℕ} {o : Object} {t : Ty} (a : ℕ) → IsObject scopes x n o t → o ≡ object.Array a → declared_in scopes x ≡ Some (binding.Array a t)
array_of a (a_variable n v t none is) same = absurd (cc)
array_of a (an_element n b t some is) same = cc

pub no_index : {scopes : Bindings} {x : List ℕ} {n : ℕ} {o : Object} {t : Ty} (v : ℕ) → IsObject scopes x n o t → o ≡ object.Var v → n ≡ 0
no_index v (a_variable n w t none is) same = none
no_index v (an_element n a t some is) same = absurd (cc)
