-- A parameter of a block that keeps the typing rules is new after those before it; and all can be numbered.
use Rattle.std.proofs.Common.{◌≡◌, ℕ, ◌+◌, ◌<◌, ◌≤◌, true, List, [], ◌∷◌, ◌++◌, length, take, drop, get_or, None, refl, sym, ap, subst, ◌∙◌, arith, length-append}
use Rattle.std.proofs.lemmas.List.{take-append-drop}
use Rattle.std.proofs.lemmas.List.Sums.{sum_by-cons}
use Rattle.el_base.specs.Limits.{IsNumbered}
use Rattle.c_ast.specs.declared.tree.Param.{Param}
use Rattle.c_ast.specs.declared.typed.ArrayOf.{ArrayOf}
use Rattle.c_ast.specs.Nodes.{param_nodes, params_nodes}
use Rattle.c_ast.specs.Typing.{Sort, sort_in, sort_of_dims, elements_of, IsNew, TypingParams, scope_of}
use Rattle.c_ast.specs.Typing as typing
use Rattle.c_ast.specs.Casts.{Parameters, with_param, with_params, parameters}
use Rattle.c_types.specs.declared.known.Known.{Known}
use Rattle.c_types.specs.Scopes.{is_new_in, scope_by}
use Rattle.c_types.specs.Contexts.{AreParameters}
use Rattle.c_types.specs.TypingParts.{sort_as, names_as, names_in}
use Rattle.c_types.proofs.CastParams.{dims_in, dims_tell}
use Rattle.c_types.proofs.UsedNames.{new_in}
use Rattle.c_types.proofs.Items.{item_here}

-- ---- names

grows : (p : Param) (ds : List ℕ) (q : Parameters) → p.dims ≡ ds → scope_by sort_as (with_param p ds q).scope ≡ (p.name, sort_of_dims ds) ∷ scope_by sort_as q.scope
grows p [] q is = refl
grows p (d ∷ ds) q is = ap (λ ds. (p.name, typing.an_array (length ds)) ∷ scope_by sort_as q.scope) is

scope_after : (ps : List Param) (q : Parameters) → scope_by sort_as (with_params ps q).scope ≡ scope_of ps (scope_by sort_as q.scope)
scope_after [] q = refl
scope_after (p ∷ ps) q = scope_after ps (with_param p p.dims q) ∙ ap (scope_of ps) (grows p p.dims q refl)

pub names_after : (k : Known) (xs : List ArrayOf) (ps : List Param) → AreParameters k xs (parameters ps) → names_in (dims_in xs) k.scopes ≡ scope_of ps [] ∷ []
names_after k xs ps h = ap names_as (h.scopes_are (dims_in xs) (dims_tell xs)) ∙ ap (λ s. s ∷ []) (scope_after ps (record { scope = []; types = []; arrays = [] }))

new_after : (us : List Param) (p : Param) (rest : List Param) (scope : List (List ℕ × Sort)) (n : ℕ) → TypingParams (us ++ p ∷ rest) scope n → sort_in (scope_of us scope) p.name ≡ None
new_after [] p rest scope n k = k.0.rule_21_new
new_after (u ∷ us) p rest scope n k = new_after us p rest ((u.name, sort_of_dims u.dims) ∷ scope) (n + elements_of u.dims) k.1

-- ---- numbers

one_more : (p : Param) (ds : List ℕ) (q : Parameters) → length (with_param p ds q).types + length (with_param p ds q).arrays ≡ length q.types + length q.arrays + 1
one_more p [] q = omega (arith, length-append q.types (p.ty ∷ []))
one_more p (d ∷ ds) q = omega (arith, length-append q.arrays (record { name = p.name; ty = p.ty; dims = p.dims } ∷ []))

pub declared : (ps : List Param) (q : Parameters) → length (with_params ps q).types + length (with_params ps q).arrays ≡ length q.types + length q.arrays + length ps
declared [] q = omega arith
declared (p ∷ ps) q = omega (arith, declared ps (with_param p p.dims q), one_more p p.dims q)

pub counted_by_nodes : (ps : List Param) → length ps ≤ params_nodes ps
counted_by_nodes [] = omega arith
counted_by_nodes (p ∷ ps) = omega (arith, counted_by_nodes ps, sum_by-cons param_nodes p ps)

-- ---- one parameter after others

-- the items before one of a list that is gone over, it, and those after it
pub split_item : (ps : List Param) (i : ℕ) (p : Param) → i < length ps → p ≡ get_or ps i p → ps ≡ take i ps ++ p ∷ drop (i + 1) ps
split_item ps i p lt is = sym (take-append-drop i ps) ∙ ap (λ rest. take i ps ++ rest) (item_here ps i p lt is)

pub new_param : (k : Known) (xs : List ArrayOf) (ps us rest : List Param) (p : Param) → ps ≡ us ++ p ∷ rest → TypingParams ps [] 0 → AreParameters k xs (parameters us) → is_new_in k.scopes p.name ≡ true
new_param k xs ps us rest p is keep h =
    new_in (dims_in xs) k.scopes p.name
    (subst (λ names. IsNew names p.name) (sym (names_after k xs us h)) (new_after us p rest [] 0 (subst (λ ps. TypingParams ps [] 0) is keep)))

pub few_vars : (k : Known) (xs : List ArrayOf) (ps us rest : List Param) (p : Param) → ps ≡ us ++ p ∷ rest → IsNumbered (length ps) → AreParameters k xs (parameters us) → IsNumbered (length k.types)
few_vars k xs ps us rest p is few h =
    let types : length k.types ≡ length (parameters us).types = ap length h.types_are in
    omega (arith, few, types, ap length is, length-append us (p ∷ rest), declared us (record { scope = []; types = []; arrays = [] }))

pub few_arrays : (k : Known) (xs : List ArrayOf) (ps us rest : List Param) (p : Param) → ps ≡ us ++ p ∷ rest → IsNumbered (length ps) → AreParameters k xs (parameters us) → IsNumbered (length xs)
few_arrays k xs ps us rest p is few h =
    let arrays : length xs ≡ length (parameters us).arrays = ap length h.arrays_are in
    omega (arith, few, arrays, ap length is, length-append us (p ∷ rest), declared us (record { scope = []; types = []; arrays = [] }))
