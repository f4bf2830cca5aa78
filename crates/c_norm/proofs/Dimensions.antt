-- No array has more than three dimensions.
use Rattle.std.proofs.Common.{◌≡◌, ℕ, zero, suc, ◌≤◌, List, [], ◌∷◌, length, Some, sym, subst, arith}
use Rattle.std.specs.Prelude.{All, slice_get}
use Rattle.std.proofs.lemmas.List.Elements.{All-head, All-tail, All-append, All-cons, All-nil}
use Rattle.std.proofs.lemmas.Option.{same_Some}
use Rattle.el_base.specs.declared.ty.Ty.{Ty}
use Rattle.c_ast.specs.Casts.{Parameters, with_param, with_params}
use Rattle.c_ast.specs.declared.tree.Param.{Param}
use Rattle.c_ast.specs.declared.typed.ArrayOf.{ArrayOf}
use Rattle.c_ast.specs.declared.typed.Object.{Object}
use Rattle.c_ast.specs.declared.typed.Object.TheVariants as object
use Rattle.c_meaning.specs.Stores.{Objects}
use Rattle.c_meaning.specs.Lawful.{LawfulHeader, AreDimensions, IsObject}

abbrev pub FewDimensions : Objects → Type 0
FewDimensions k = (a : ℕ) (x : ArrayOf) → slice_get k.arrays a ≡ Some x → length x.dims ≤ 3

-- so no target has more than three indices
pub at_most_three : (k : Objects) → FewDimensions k → (to : Object) (n : ℕ) (ty : Ty) → IsObject k to n ty → n ≤ 3
at_most_three k flat (object.Var v) n ty h = let e = h.1 in omega arith
at_most_three k flat (object.Array a) n ty h = let e = h.3 in let q = flat a h.0 h.1 in omega arith

abbrev IsFlat : ArrayOf → Type 0
IsFlat x = AreDimensions x.dims

with_param_flat : (p : Param) (ds : List ℕ) (q : Parameters) → AreDimensions p.dims → All IsFlat q.arrays → All IsFlat (with_param p ds q).arrays
with_param_flat p [] q a h = h
with_param_flat p (d ∷ ds) q a h =
    let x : ArrayOf = record { name = p.name; ty = p.ty; dims = p.dims } in
    All-append IsFlat q.arrays (x ∷ []) h (All-cons IsFlat x [] a (All-nil IsFlat))

with_params_flat : (ps : List Param) (q : Parameters) → All (λ p. AreDimensions p.dims) ps → All IsFlat q.arrays → All IsFlat (with_params ps q).arrays
with_params_flat [] q d h = h
with_params_flat (p ∷ ps) q d h = with_params_flat ps (with_param p p.dims q) (All-tail (λ p. AreDimensions p.dims) p ps d) (with_param_flat p p.dims q (All-head (λ p. AreDimensions p.dims) p ps d) h)

flat_at : (xs : List ArrayOf) (a : ℕ) (x : ArrayOf) → All IsFlat xs → slice_get xs a ≡ Some x → length x.dims ≤ 3
flat_at [] a x h e = absurd (cc)
flat_at (y ∷ ys) zero x h e = let i : y ≡ x = same_Some y x e in subst (λ z. length z.dims ≤ 3) i (All-head IsFlat y ys h).0
flat_at (y ∷ ys) (suc a) x h e = flat_at ys a x (All-tail IsFlat y ys h) e

pub few_dimensions : (ps : List Param) (k : Objects) → LawfulHeader ps k → FewDimensions k
few_dimensions ps k h a x e =
    flat_at k.arrays a x (subst (All IsFlat) (sym h.arrays_are) (with_params_flat ps (record { scope = []; types = []; arrays = [] }) h.dimensions (All-nil IsFlat))) e
