-- What is written into cells.
use Rattle.std.proofs.Common.{◌≡◌, ℕ, zero, suc, ◌^◌, ◌<◌, ◌≤◌, List, [], ◌∷◌, map, length, get_or, set, Option, Some, None, refl, sym, ◌∙◌, ap, subst, arith, min}
use Rattle.std.specs.Prelude.{ℤ, slice_get}
use Rattle.std.proofs.lemmas.Bool.{cases_lt}
use Rattle.std.proofs.lemmas.List.Elements.{All-set}
use Rattle.std.proofs.lemmas.List.{map-set}
use Rattle.std.proofs.Common.{⊎_elim}
use Rattle.el_base.specs.declared.ty.Ty.{Ty}
use Rattle.el_base.specs.Numbers.{number}
use Rattle.el_base.specs.Widths.{ty_width}
use Rattle.c_ast.specs.declared.typed.ArrayOf.{ArrayOf}
use Rattle.c_meaning.specs.Stores.{Store, Objects, set_var, set_element, unset_var}
use Rattle.ref_interp.specs.declared.cells.Cells.{Cells}
use Rattle.ref_interp.specs.Answers.{most}
use Rattle.ref_interp.specs.Cells.{AreCells, AreVarCells, AreArrayCells, IsCell, cell_number, var_numbers, array_numbers, store_of}
use Rattle.ref_interp.specs.Machines.{cell_list}

pub set_beyond : {A : Type 0} (xs : List A) (i : ℕ) (x : A) → length xs ≤ i → set xs i x ≡ xs
set_beyond [] i x h = refl
set_beyond (y ∷ xs) zero x h = absurd (omega arith)
set_beyond (y ∷ xs) (suc i) x h = ap (λ l. y ∷ l) (set_beyond xs i x (omega arith))

-- ---- variables

vars_set : (ts : List Ty) (cs : List (Option ℕ)) (v : ℕ) (t : Ty) (c : Option ℕ) → slice_get ts v ≡ Some t → AreVarCells ts cs → IsCell t c → (var_numbers ts (set cs v c) ≡ set (var_numbers ts cs) v (cell_number t c)) × AreVarCells ts (set cs v c)
vars_set [] cs v t c e all is = absurd (cc)
vars_set (u ∷ ts) [] v t c e all is = absurd all
vars_set (u ∷ ts) (x ∷ cs) zero t c e all is =
    let s : t ≡ u = cc in
    (ap (λ t. cell_number t c ∷ var_numbers ts cs) (sym s), (subst (λ t. IsCell t c) s is, all.1))
vars_set (u ∷ ts) (x ∷ cs) (suc v) t c e all is =
    let h = vars_set ts cs v t c e all.1 is in
    (ap (λ zs. cell_number u x ∷ zs) h.0, (all.0, h.1))

-- unsetting asks for no type
vars_unset : (ts : List Ty) (cs : List (Option ℕ)) (v : ℕ) → AreVarCells ts cs → (var_numbers ts (set cs v None) ≡ set (var_numbers ts cs) v None) × AreVarCells ts (set cs v None)
vars_unset [] [] v all = (refl, tt)
vars_unset [] (x ∷ cs) v all = absurd all
vars_unset (u ∷ ts) [] v all = absurd all
vars_unset (u ∷ ts) (x ∷ cs) zero all = (refl, (tt, all.1))
vars_unset (u ∷ ts) (x ∷ cs) (suc v) all =
    let h = vars_unset ts cs v all.1 in
    (ap (λ zs. cell_number u x ∷ zs) h.0, (all.0, h.1))

pub record Stands (k : Objects) (new : Cells) (s : Store) : Type 0 where
  pub is : store_of k new ≡ s
  pub cells : AreCells k new

pub var_written : (k : Objects) (old new : Cells) (v : ℕ) (t : Ty) (p : ℕ) (z : ℤ) → slice_get k.vars v ≡ Some t → AreCells k old → number t p ≡ z → p < 2 ^ ty_width t → new.vars ≡ set old.vars v (Some p) → new.arrays ≡ old.arrays → Stands k new (set_var v z (store_of k old))
var_written k old new v t p z is cells e below vs as_of =
    let h = vars_set k.vars old.vars v t (Some p) is cells.vars below in
    record {
      is = ap (λ (vs : List (Option ℕ)). record { vars = var_numbers k.vars vs; arrays = array_numbers k.arrays new.arrays }) vs
          ∙ ap (λ (as_of : List (List ℕ)). record { vars = var_numbers k.vars (set old.vars v (Some p)); arrays = array_numbers k.arrays as_of }) as_of
          ∙ ap (λ (zs : List (Option ℤ)). record { vars = zs; arrays = array_numbers k.arrays old.arrays }) (h.0 ∙ ap (λ z. set (var_numbers k.vars old.vars) v (Some z)) e);
      cells = record { vars = subst (AreVarCells k.vars) (sym vs) h.1; arrays = subst (AreArrayCells k.arrays) (sym as_of) cells.arrays };
    }

pub var_unset : (k : Objects) (old new : Cells) (v : ℕ) → AreCells k old → new.vars ≡ set old.vars v None → new.arrays ≡ old.arrays → Stands k new (unset_var v (store_of k old))
var_unset k old new v cells vs as_of =
    let h = vars_unset k.vars old.vars v cells.vars in
    record {
      is = ap (λ (vs : List (Option ℕ)). record { vars = var_numbers k.vars vs; arrays = array_numbers k.arrays new.arrays }) vs
          ∙ ap (λ (as_of : List (List ℕ)). record { vars = var_numbers k.vars (set old.vars v None); arrays = array_numbers k.arrays as_of }) as_of
          ∙ ap (λ (zs : List (Option ℤ)). record { vars = zs; arrays = array_numbers k.arrays old.arrays }) h.0;
      cells = record { vars = subst (AreVarCells k.vars) (sym vs) h.1; arrays = subst (AreArrayCells k.arrays) (sym as_of) cells.arrays };
    }

-- ---- elements

arrays_set : (xs : List ArrayOf) (pss : List (List ℕ)) (a : ℕ) (x : ArrayOf) (i p : ℕ) (z : ℤ) → slice_get xs a ≡ Some x → AreArrayCells xs pss → number x.ty p ≡ z → p < 2 ^ ty_width x.ty
    → (array_numbers xs (set pss a (set (cell_list pss a) i p)) ≡ set (array_numbers xs pss) a (set (get_or (array_numbers xs pss) a []) i z)) × AreArrayCells xs (set pss a (set (cell_list pss a) i p))
arrays_set [] pss a x i p z e all is below = absurd (cc)
arrays_set (y ∷ xs) [] a x i p z e all is below = absurd all
arrays_set (y ∷ xs) (ps ∷ pss) zero x i p z e all is below =
    let s : x ≡ y = cc in
    let n : number y.ty p ≡ z = ap (λ (y : ArrayOf). number y.ty p) (sym s) ∙ is in
    (ap (λ zs. zs ∷ array_numbers xs pss) (map-set (number y.ty) ps i p ∙ ap (set (map (number y.ty) ps) i) n), (All-set (λ p. p < 2 ^ ty_width y.ty) ps i p (subst (λ (x : ArrayOf). p < 2 ^ ty_width x.ty) s below) all.0, all.1))
arrays_set (y ∷ xs) (ps ∷ pss) (suc a) x i p z e all is below =
    let h = arrays_set xs pss a x i p z e all.1 is below in
    (ap (λ zs. map (number y.ty) ps ∷ zs) h.0, (all.0, h.1))

-- a place of 64 bits past its array writes nothing, as the place that it stands for
set_seen : (ps : List ℕ) (n q p : ℕ) → length ps ≤ most → q ≡ min n most → set ps q p ≡ set ps n p
set_seen ps n q p few e =
    ⊎_elim
    (λ big. set_beyond ps q p (omega (arith, big, few, e)) ∙ sym (set_beyond ps n p (omega (arith, big, few))))
    (λ small. ap (λ q. set ps q p) (omega (arith, small, e)))
    (cases_lt most n)

pub element_written : (k : Objects) (old new : Cells) (a : ℕ) (x : ArrayOf) (n q p : ℕ) (z : ℤ) → slice_get k.arrays a ≡ Some x → AreCells k old → number x.ty p ≡ z → p < 2 ^ ty_width x.ty → length (cell_list old.arrays a) ≤ most → q ≡ min n most
    → new.arrays ≡ set old.arrays a (set (cell_list old.arrays a) q p) → new.vars ≡ old.vars → Stands k new (set_element a n z (store_of k old))
element_written k old new a x n q p z is cells e below few seen as_of vs =
    let at = as_of ∙ ap (set old.arrays a) (set_seen (cell_list old.arrays a) n q p few seen) in
    let h = arrays_set k.arrays old.arrays a x n p z is cells.arrays e below in
    record {
      is = ap (λ (vs : List (Option ℕ)). record { vars = var_numbers k.vars vs; arrays = array_numbers k.arrays new.arrays }) vs
          ∙ ap (λ (pss : List (List ℕ)). record { vars = var_numbers k.vars old.vars; arrays = array_numbers k.arrays pss }) at
          ∙ ap (λ (zss : List (List ℤ)). record { vars = var_numbers k.vars old.vars; arrays = zss }) h.0;
      cells = record { vars = subst (AreVarCells k.vars) (sym vs) cells.vars; arrays = subst (AreArrayCells k.arrays) (sym at) h.1 };
    }
