-- Further steps leave earlier values and widths as they are; steps without accesses leave all else, too.
use Rattle.std.proofs.Common.{List, Some, [], ap, arith, length, length-append, map, refl, suc, zero, ℕ, ◌++◌, ◌+◌, ◌<◌, ◌∙◌, ◌∷◌, ◌≡◌}
use Rattle.std.specs.Prelude.{slice_get}
use Rattle.std.specs.List.{flat_map}
use Rattle.std.proofs.lemmas.Option.{slice_get_within}
use Rattle.std.proofs.lemmas.List.{get_or_append_left}
use Rattle.el_base.specs.declared.ty.Array.{Array}
use Rattle.ir.specs.declared.instr.Instr.{Instr}
use Rattle.ir.specs.declared.instr.Instr.TheVariants.{Const, One, Two, Select, Load, Store}
use Rattle.ir.specs.Accesses.{is_access, accesses_in}
use Rattle.ir.specs.Steps.{Work, value_at, step_value, step_arrays, step_strays, after_step, through}
use Rattle.ir.specs.Shapes.{Shape, IsOfWidth, step_width, shape_after}
use Rattle.ir.specs.Graphs.{AreHanded}
use Rattle.block_merge.specs.Found.{stored_by}

-- ---- values and widths stay

pub value_kept : (is : List Instr) (w : Work) (a : ℕ) → a < length w.values → value_at (through is w).values a ≡ value_at w.values a
value_kept [] w a lt = refl
value_kept (i ∷ is) w a lt =
    let x = step_value i w.values w.arrays in
    value_kept is (after_step i w) a (omega (arith, lt, length-append w.values (x ∷ []))) ∙ get_or_append_left w.values (x ∷ []) 0 a lt

pub in_front : (ws us : Shape) (a w : ℕ) → IsOfWidth ws a w → IsOfWidth (ws ++ us) a w
in_front ws us a w h = front ws us a (slice_get_within ws a (Some w) h) ∙ h
  where
    front : (ws us : Shape) (a : ℕ) → a < length ws → slice_get (ws ++ us) a ≡ slice_get ws a
    front [] us a lt = absurd (omega arith)
    front (x ∷ ws) us zero lt = refl
    front (x ∷ ws) us (suc a) lt = front ws us a (omega arith)

pub width_kept : (arrays : List Array) (ws : Shape) (is : List Instr) (a w : ℕ) → IsOfWidth ws a w → IsOfWidth (shape_after arrays ws is) a w
width_kept arrays ws [] a w h = h
width_kept arrays ws (i ∷ is) a w h = width_kept arrays (ws ++ step_width arrays i ∷ []) is a w (in_front ws (step_width arrays i ∷ []) a w h)

pub hands_kept : (arrays : List Array) (ws : Shape) (is : List Instr) (vs args : List ℕ) → AreHanded ws vs args → AreHanded (shape_after arrays ws is) vs args
hands_kept arrays ws is [] [] h = tt
hands_kept arrays ws is (v ∷ vs) (w ∷ args) h = (width_kept arrays ws is v w h.0, hands_kept arrays ws is vs args h.1)
hands_kept arrays ws is [] (w ∷ args) h = absurd h
hands_kept arrays ws is (v ∷ vs) [] h = absurd h

-- what is handed on stays
pub values_kept : (is : List Instr) (w : Work) (ws : Shape) (vs args : List ℕ) → length w.values ≡ length ws → AreHanded ws vs args
    → map (value_at (through is w).values) vs ≡ map (value_at w.values) vs
values_kept is w ws [] [] long h = refl
values_kept is w ws (v ∷ vs) (x ∷ args) long h =
    let l = slice_get_within ws v (Some x) h.0 in
    ap (λ n. n ∷ map (value_at (through is w).values) vs) (value_kept is w v (omega (arith, l, long)))
    ∙ ap (λ ns. value_at w.values v ∷ ns) (values_kept is w ws vs args long h.1)
values_kept is w ws [] (x ∷ args) long h = absurd h
values_kept is w ws (v ∷ vs) [] long h = absurd h

-- ---- steps without accesses

record Quiet (i : Instr) (w : Work) : Type 0 where
  arrays : step_arrays i w.values w.arrays ≡ w.arrays
  strays : w.strays + step_strays i w.values w.arrays ≡ w.strays
  stores : stored_by i ≡ []

quiet : (i : Instr) (w : Work) → is_access i ≡ 0 → Quiet i w
quiet (Const x n) w h = record { arrays = refl; strays = omega arith; stores = refl }
quiet (One op a) w h = record { arrays = refl; strays = omega arith; stores = refl }
quiet (Two op a b) w h = record { arrays = refl; strays = omega arith; stores = refl }
quiet (Select x c a b) w h = record { arrays = refl; strays = omega arith; stores = refl }
quiet (Load a p) w h = absurd (omega (arith, h))
quiet (Store a p v) w h = absurd (omega (arith, h))

pub quiet_arrays : (is : List Instr) (w : Work) → accesses_in is ≡ 0 → (through is w).arrays ≡ w.arrays
quiet_arrays [] w h = refl
quiet_arrays (i ∷ is) w h = quiet_arrays is (after_step i w) (omega (arith, h)) ∙ (quiet i w (omega (arith, h))).arrays

pub quiet_strays : (is : List Instr) (w : Work) → accesses_in is ≡ 0 → (through is w).strays ≡ w.strays
quiet_strays [] w h = refl
quiet_strays (i ∷ is) w h = quiet_strays is (after_step i w) (omega (arith, h)) ∙ (quiet i w (omega (arith, h))).strays

pub quiet_stores : (is : List Instr) → accesses_in is ≡ 0 → flat_map stored_by is ≡ []
quiet_stores [] h = refl
quiet_stores (i ∷ is) h =
    let q = quiet i (record { values = []; arrays = []; strays = 0 }) (omega (arith, h)) in
    ap (λ xs. xs ++ flat_map stored_by is) q.stores ∙ quiet_stores is (omega (arith, h))
