-- What is written to a store that fits leaves it fitting, and the opening store fits.
use Rattle.std.proofs.Common.{◌≡◌, ℕ, zero, suc, ◌-◌, List, [], ◌∷◌, ◌++◌, map, length, get_or, set, take, replicate, Option, Some, None, sym, ◌∙◌, subst, arith, length-set}
use Rattle.std.specs.Prelude.{ℤ, All}
use Rattle.std.proofs.lemmas.List.Elements.{All-set}
use Rattle.el_base.specs.declared.ty.Ty.{Ty}
use Rattle.el_base.specs.declared.ty.Ty.TheVariants.{I32}
use Rattle.el_base.specs.Numbers.{IsInRange}
use Rattle.c_ast.specs.declared.typed.ArrayOf.{ArrayOf}
use Rattle.c_meaning.specs.Stores.{Store, Objects, Inputs, elements, IsSetIn, AreSetIn, AreInRanges, AreArraysOf, IsFitting, scalar_types, unset_vars, opening}
use Rattle.c_meaning.specs.Statements.{array_type, Place, of_var, of_element, write_place, objects}
use Rattle.c_meaning.specs.Normals.{normal_objects}
use Rattle.c_meaning.specs.Ranges.{OpeningFits, NormalOpeningFits}

-- ---- variables

put_in : (ts : List Ty) (xs : List (Option ℤ)) (v : ℕ) (x : Option ℤ) → AreSetIn ts xs → IsSetIn (get_or ts v I32) x → AreSetIn ts (set xs v x)
put_in [] [] v x h i = tt
put_in (t ∷ ts) (y ∷ ys) zero x h i = (i, h.1)
put_in (t ∷ ts) (y ∷ ys) (suc v) x h i = (h.0, put_in ts ys v x h.1 i)
put_in [] (y ∷ ys) v x h i = absurd h
put_in (t ∷ ts) [] v x h i = absurd h

pub unset_fits : (k : Objects) (vs : List ℕ) (s : Store) → IsFitting k s → IsFitting k (unset_vars vs s)
unset_fits k [] s f = f
unset_fits k (v ∷ vs) s f = unset_fits k vs (record s { vars = set s.vars v None }) (record { vars = put_in k.vars s.vars v None f.vars tt; arrays = f.arrays })

-- ---- elements

array_put : (x : ArrayOf) (zs : List ℤ) (at : ℕ) (z : ℤ) → length zs ≡ elements x.dims → All (IsInRange x.ty) zs → IsInRange x.ty z → (length (set zs at z) ≡ elements x.dims) × All (IsInRange x.ty) (set zs at z)
array_put x zs at z l h i = (length-set zs at z ∙ l, All-set (IsInRange x.ty) zs at z i h)

arrays_put : (xs : List ArrayOf) (zss : List (List ℤ)) (a at : ℕ) (z : ℤ) → AreArraysOf xs zss → IsInRange (array_type xs a) z → AreArraysOf xs (set zss a (set (get_or zss a []) at z))
arrays_put [] [] a at z h i = tt
arrays_put (x ∷ xs) (zs ∷ zss) zero at z h i = let p = array_put x zs at z h.0 h.1 i in (p.0, p.1, h.2)
arrays_put (x ∷ xs) (zs ∷ zss) (suc a) at z h i = (h.0, h.1, arrays_put xs zss a at z h.2 i)
arrays_put [] (zs ∷ zss) a at z h i = absurd h
arrays_put (x ∷ xs) [] a at z h i = absurd h

-- ---- places

abbrev pub place_type : Objects → Place → Ty
place_type k (of_var v) = get_or k.vars v I32
place_type k (of_element a at) = array_type k.arrays a

pub write_fits : (k : Objects) (p : Place) (z : ℤ) (s : Store) → IsInRange (place_type k p) z → IsFitting k s → IsFitting k (write_place p z s)
write_fits k (of_var v) z s r f = record { vars = put_in k.vars s.vars v (Some z) f.vars r; arrays = f.arrays }
write_fits k (of_element a at) z s r f = record { vars = f.vars; arrays = arrays_put k.arrays s.arrays a at z f.arrays r }

-- ---- the opening store

unset_all : (ts : List Ty) → AreSetIn ts (replicate (length ts) None)
unset_all [] = tt
unset_all (t ∷ ts) = (tt, unset_all ts)

one_less : (a b : ℕ) → suc a - suc b ≡ a - b
one_less a b = omega arith

opened : (ts vars : List Ty) (zs : List ℤ) → take (length ts) vars ≡ ts → AreInRanges ts zs → AreSetIn vars (map Some zs ++ replicate (length vars - length zs) None)
opened [] vars [] e h = let n : length vars - 0 ≡ length vars = omega arith in subst (λ m. AreSetIn vars (replicate m None)) (sym n) (unset_all vars)
opened (t ∷ ts) [] (z ∷ zs) e h = cc
opened (t ∷ ts) (v ∷ vars) (z ∷ zs) e h =
    let same : v ≡ t = cc in
    let rest : take (length ts) vars ≡ ts = cc in
    (subst (λ u. IsInRange u z) (sym same) h.0, subst (λ m. AreSetIn vars (map Some zs ++ replicate m None)) (sym (one_less (length vars) (length zs))) (opened ts vars zs rest h.1))
opened [] vars (z ∷ zs) e h = absurd h
opened (t ∷ ts) vars [] e h = absurd h

opening_of : (k : Objects) (ts : List Ty) (i : Inputs) → take (length ts) k.vars ≡ ts → AreInRanges ts i.scalars → AreArraysOf k.arrays i.arrays → IsFitting k (opening k i)
opening_of k ts i e h a = record { vars = opened ts k.vars i.scalars e h; arrays = a }

pub opening_fits : OpeningFits
opening_fits k p i l f = opening_of (objects p k) (scalar_types k.params) i (l.header p).first_vars f.each_scalar f.each_array

pub normal_opening_fits : NormalOpeningFits
normal_opening_fits k p i l f = opening_of (normal_objects p k) (scalar_types k.params) i (l.header p).first_vars f.each_scalar f.each_array
