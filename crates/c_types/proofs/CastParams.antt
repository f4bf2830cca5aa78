-- What the parameters of a kernel declare.
use Rattle.std.proofs.Common.{◌≡◌, ℕ, zero, suc, true, false, List, [], ◌∷◌, ◌++◌, length, refl, sym, ap, subst, ◌∙◌, append_assoc}
use Rattle.std.proofs.lemmas.Bool.{false≢true}
use Rattle.std.specs.Prelude.{◌==◌}
use Rattle.c_ast.specs.declared.tree.Param.{Param}
use Rattle.c_ast.specs.declared.typed.ArrayOf.{ArrayOf}
use Rattle.c_ast.specs.Casts.{into_innermost, a_var, an_array, Parameters, with_param, with_params, parameters, first_context}
use Rattle.c_types.specs.declared.known.Binding.TheVariants as binding
use Rattle.c_types.specs.declared.known.Known.{Known}
use Rattle.c_types.specs.Scopes.{is_new_in, with_entry, scopes_by}
use Rattle.c_types.specs.Contexts.{array_as, declared_by, context_of, Tells, AreParameters, IsOneMore}
use Rattle.c_types.proofs.ContextLemmas.{context_with, entered}

with_params-append : (ps : List Param) (p : Param) (q : Parameters) → with_params (ps ++ p ∷ []) q ≡ with_param p p.dims (with_params ps q)
with_params-append [] p q = refl
with_params-append (r ∷ ps) p q = with_params-append ps p (with_param r r.dims q)

pub one_more_param : (k l : Known) (xs ys : List ArrayOf) (ps us : List Param) (p : Param) → us ≡ ps ++ p ∷ [] → AreParameters k xs (parameters ps) → IsOneMore k xs p l ys
    → AreParameters l ys (parameters us)
one_more_param k l xs ys ps us p is h more =
    subst (λ us. AreParameters l ys (parameters us)) (sym is)
    (subst (λ q. AreParameters l ys q) (sym (with_params-append ps p (record { scope = []; types = []; arrays = [] }))) (more.parameters (parameters ps) h))

-- a parameter without dimensions
pub var_param : (k l : Known) (xs : List ArrayOf) (p : Param) → p.dims ≡ [] → is_new_in k.scopes p.name ≡ true → l.scopes ≡ with_entry p.name (binding.Var (length k.types) p.ty) k.scopes
    → l.types ≡ k.types ++ p.ty ∷ [] → IsOneMore k xs p l xs
var_param k l xs p none new scopes types =
    record {
      parameters = λ q h.
          subst (λ ds. AreParameters l xs (with_param p ds q)) (sym none)
          (record {
            types_are = types ∙ ap (λ ts. ts ++ p.ty ∷ []) h.types_are;
            arrays_are = h.arrays_are;
            scopes_are = λ dims tells.
                ap (scopes_by (declared_by dims)) scopes
                ∙ entered dims p.name (binding.Var (length k.types) p.ty) k.scopes new
                ∙ ap (into_innermost (p.name, a_var (length k.types) p.ty)) (h.scopes_are dims tells)
                ∙ ap (λ ts. ((p.name, a_var (length ts) p.ty) ∷ q.scope) ∷ []) h.types_are;
          });
    }

abbrev with_array : Param → Parameters → Parameters
with_array p q = record { scope = (p.name, an_array (length q.arrays) p.ty p.dims) ∷ q.scope; types = q.types; arrays = q.arrays ++ array_as p ∷ [] }

with_array_is : (p : Param) (ds : List ℕ) (q : Parameters) → (length ds == 0) ≡ false → with_param p ds q ≡ with_array p q
with_array_is p [] q some = absurd (false≢true (sym some))
with_array_is p (d ∷ ds) q some = refl

tells_less : (dims : ℕ → List ℕ) (xs ys : List ArrayOf) (y : ArrayOf) → ys ≡ xs ++ y ∷ [] → Tells dims ys → Tells dims xs
tells_less dims xs ys y is t =
    record { told = λ before x after e. t.told before x (after ++ y ∷ []) (is ∙ ap (λ v. v ++ y ∷ []) e ∙ append_assoc before (x ∷ after) (y ∷ [])) }

array_param_in : (k l : Known) (xs ys : List ArrayOf) (p : Param) (n : ℕ) (q : Parameters) → n ≡ length xs → is_new_in k.scopes p.name ≡ true
    → l.scopes ≡ with_entry p.name (binding.Array n p.ty) k.scopes → l.types ≡ k.types → ys ≡ xs ++ array_as p ∷ [] → AreParameters k xs q → AreParameters l ys (with_array p q)
array_param_in k l xs ys p n q number new scopes types more h =
    record {
      types_are = types ∙ h.types_are;
      arrays_are = more ∙ ap (λ v. v ++ array_as p ∷ []) h.arrays_are;
      scopes_are = λ dims tells.
          ap (scopes_by (declared_by dims)) scopes
          ∙ entered dims p.name (binding.Array n p.ty) k.scopes new
          ∙ ap (into_innermost (p.name, an_array n p.ty (dims n))) (h.scopes_are dims (tells_less dims xs ys (array_as p) more tells))
          ∙ ap (λ n. ((p.name, an_array n p.ty (dims n)) ∷ q.scope) ∷ []) number
          ∙ ap (λ ds. ((p.name, an_array (length xs) p.ty ds) ∷ q.scope) ∷ []) (tells.told xs (array_as p) [] more)
          ∙ ap (λ v. ((p.name, an_array (length v) p.ty p.dims) ∷ q.scope) ∷ []) h.arrays_are;
    }

pub array_param : (k l : Known) (xs ys : List ArrayOf) (p : Param) (n : ℕ) → (length p.dims == 0) ≡ false → n ≡ length xs → is_new_in k.scopes p.name ≡ true
    → l.scopes ≡ with_entry p.name (binding.Array n p.ty) k.scopes → l.types ≡ k.types → ys ≡ xs ++ array_as p ∷ [] → IsOneMore k xs p l ys
array_param k l xs ys p n some number new scopes types more =
    record {
      parameters = λ q h. subst (λ q. AreParameters l ys q) (sym (with_array_is p p.dims q some)) (array_param_in k l xs ys p n q number new scopes types more h);
    }

-- ---- the context of a block

-- the dimensions of the array of a number
abbrev pub dims_in : List ArrayOf → ℕ → List ℕ
dims_in [] n = []
dims_in (x ∷ xs) zero = x.dims
dims_in (x ∷ xs) (suc n) = dims_in xs n

told_in : (before : List ArrayOf) (x : ArrayOf) (after : List ArrayOf) → dims_in (before ++ x ∷ after) (length before) ≡ x.dims
told_in [] x after = refl
told_in (y ∷ before) x after = told_in before x after

pub dims_tell : (xs : List ArrayOf) → Tells (dims_in xs) xs
dims_tell xs = record { told = λ before x after is. ap (λ v. dims_in v (length before)) is ∙ told_in before x after }

pub first_is : (k : Known) (xs : List ArrayOf) (ps : List Param) → AreParameters k xs (parameters ps) → context_of (dims_in xs) k ≡ first_context ps
first_is k xs ps h =
    ap (λ v. context_with v k.types) (h.scopes_are (dims_in xs) (dims_tell xs)) ∙ ap (λ ts. context_with ((parameters ps).scope ∷ []) ts) h.types_are
