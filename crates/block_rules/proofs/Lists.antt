-- Steps in a row, each with its width and value, are right where the last has those of a step.
use Rattle.std.proofs.Common.{◌≡◌, ℕ, zero, suc, ◌+◌, ◌^◌, ◌<◌, List, [], ◌∷◌, ◌++◌, length, Option, Some, get_or, refl, sym, ◌∙◌, ap, subst, append_assoc, append-nil, arith, length-append}
use Rattle.std.specs.Prelude.{slice_get}
use Rattle.std.proofs.lemmas.Option.{slice_get_within}
use Rattle.std.proofs.lemmas.List.{get_or-append-add}
use Rattle.std.proofs.Math.ListN.{get_or-append}
use Rattle.el_base.specs.declared.ty.Array.{Array}
use Rattle.el_base.specs.declared.operation.Op1.{Op1}
use Rattle.el_base.specs.declared.operation.Op2.{Op2}
use Rattle.el_base.specs.Widths.{op1_in, op1_out, op2_in, op2_out}
use Rattle.word_ops.specs.Operations.{op1_result, op2_result}
use Rattle.ir.specs.declared.instr.Instr.{Instr}
use Rattle.ir.specs.declared.instr.Instr.TheVariants.{Const, One, Two, Select, Load, Store}
use Rattle.ir.specs.Shapes.{Shape, IsOfWidth, IsWidth, StepFits, step_width, shape_after}
use Rattle.ir.specs.Steps.{Work, value_at, after_step, beginning, through}
use Rattle.block_rules.specs.declared.change.Change.TheVariants.{Becomes}
use Rattle.block_rules.specs.Known.{IsPure, pure_value}
use Rattle.block_rules.specs.Laws.{AreRight}
use Rattle.block_rules.proofs.Changed.{IsStep, change_right}

-- steps behind others, which have these widths and values behind those of the block
abbrev pub AreSteps : List Array → Shape → List ℕ → Shape → List ℕ → ℕ → ℕ → List Instr → Type 0
AreSteps arrays ws vs us xs w x [] = ⊥
AreSteps arrays ws vs us xs w x (i ∷ []) = IsStep arrays (ws ++ us) (vs ++ xs) w x i
AreSteps arrays ws vs us xs w x (i ∷ j ∷ is) =
    (u : ℕ) × (y : ℕ) × IsStep arrays (ws ++ us) (vs ++ xs) u y i × AreSteps arrays ws vs (us ++ Some u ∷ []) (xs ++ y ∷ []) w x (j ∷ is)

pure_after : (i : Instr) (vs : List ℕ) → IsPure i → after_step i (beginning vs []) ≡ beginning (vs ++ pure_value i vs ∷ []) []
pure_after (Const w n) vs h = refl
pure_after (One op a) vs h = refl
pure_after (Two op a b) vs h = refl
pure_after (Select w c a b) vs h = refl
pure_after (Load a p) vs h = absurd h
pure_after (Store a p v) vs h = absurd h

module _ (arrays : List Array) where
  -- one step more in front
  more : (ws : Shape) (vs : List ℕ) (w x : ℕ) (i : Instr) (is : List Instr) → IsPure i → StepFits arrays ws i
      → AreRight arrays (ws ++ step_width arrays i ∷ []) (vs ++ pure_value i vs ∷ []) is w x → AreRight arrays ws vs (i ∷ is) w x
  more ws vs w x i is pure fits r =
      let o = step_width arrays i in
      let us = ws ++ o ∷ [] in
      let there : length us + r.last ≡ length ws + suc r.last = omega (arith, length-append ws (o ∷ [])) in
      let width : IsOfWidth (shape_after arrays us is) (length ws + suc r.last) w = subst (λ (k : ℕ). IsOfWidth (shape_after arrays us is) k w) there r.width in
      let inner : value_at (through is (beginning (vs ++ pure_value i vs ∷ []) [])).values (length ws + suc r.last) ≡ x =
      subst (λ (k : ℕ). value_at (through is (beginning (vs ++ pure_value i vs ∷ []) [])).values k ≡ x) there r.value in
      record {
        last = suc r.last;
        some = ap suc r.some;
        pure = all_pure;
        fit = (fits, r.fit);
        width = width;
        value = ap (λ (v : Work). value_at (through is v).values (length ws + suc r.last)) (pure_after i vs pure) ∙ inner;
      }
    where
      all_pure : (k : ℕ) (d : Instr) → k < length (i ∷ is) → IsPure (get_or (i ∷ is) k d)
      all_pure zero d h = pure
      all_pure (suc k) d h = r.pure k d (omega arith)

  steps_law : (ws : Shape) (vs : List ℕ) (us : Shape) (xs : List ℕ) (w x : ℕ) (is : List Instr) → length (ws ++ us) ≡ length (vs ++ xs)
      → AreSteps arrays ws vs us xs w x is → AreRight arrays (ws ++ us) (vs ++ xs) is w x
  steps_law ws vs us xs w x [] long h = absurd h
  steps_law ws vs us xs w x (i ∷ []) long h = change_right arrays (ws ++ us) (vs ++ xs) w x (Becomes i) long h
  steps_law ws vs us xs w x (i ∷ j ∷ is) long h =
      let s = h.2 in
      let next_long : length (ws ++ (us ++ Some h.0 ∷ [])) ≡ length (vs ++ (xs ++ h.1 ∷ [])) =
      omega (arith, length-append (ws ++ us) (Some h.0 ∷ []), length-append (vs ++ xs) (h.1 ∷ []), ap length (append_assoc ws us (Some h.0 ∷ [])), ap length (append_assoc vs xs (h.1 ∷ [])), long) in
      let r = steps_law ws vs (us ++ Some h.0 ∷ []) (xs ++ h.1 ∷ []) w x (j ∷ is) next_long h.3 in
      let shape : ws ++ (us ++ Some h.0 ∷ []) ≡ (ws ++ us) ++ step_width arrays i ∷ [] = sym (append_assoc ws us (Some h.0 ∷ [])) ∙ ap (λ (o : Option ℕ). (ws ++ us) ++ o ∷ []) (sym s.width) in
      let values : vs ++ (xs ++ h.1 ∷ []) ≡ (vs ++ xs) ++ pure_value i (vs ++ xs) ∷ [] = sym (append_assoc vs xs (h.1 ∷ [])) ∙ ap (λ (v : ℕ). (vs ++ xs) ++ v ∷ []) (sym s.value) in
      let first = subst (λ (t : Shape). AreRight arrays t (vs ++ (xs ++ h.1 ∷ [])) (j ∷ is) w x) shape r in
      let second = subst (λ (t : List ℕ). AreRight arrays ((ws ++ us) ++ step_width arrays i ∷ []) t (j ∷ is) w x) values first in
      more (ws ++ us) (vs ++ xs) w x i (j ∷ is) s.pure s.fits second

  pub steps_right : (ws : Shape) (vs : List ℕ) (w x : ℕ) (is : List Instr) → length ws ≡ length vs → AreSteps arrays ws vs [] [] w x is → AreRight arrays ws vs is w x
  steps_right ws vs w x is long h =
      let r = steps_law ws vs [] [] w x is (ap length (append-nil ws) ∙ long ∙ sym (ap length (append-nil vs))) h in
      let first = subst (λ (t : Shape). AreRight arrays t (vs ++ []) is w x) (append-nil ws) r in
      subst (λ (t : List ℕ). AreRight arrays ws t is w x) (append-nil vs) first

-- ---- the values by number

at_end : (ws us : Shape) (k j : ℕ) → k ≡ length ws + j → slice_get (ws ++ us) k ≡ slice_get us j
at_end [] us k j e = let same : k ≡ j = omega (arith, e) in ap (slice_get us) same
at_end (x ∷ ws) us zero j e = absurd (omega (arith, e))
at_end (x ∷ ws) us (suc k) j e = at_end ws us k j (omega (arith, e))

in_front : (ws us : Shape) (a w : ℕ) → IsOfWidth ws a w → IsOfWidth (ws ++ us) a w
in_front [] us a w h = absurd (omega (arith, slice_get_within [] a (Some w) h))
in_front (x ∷ ws) us zero w h = h
in_front (x ∷ ws) us (suc a) w h = in_front ws us a w h

-- a value of the block or of the steps before
pub record At (ws : Shape) (vs : List ℕ) (us : Shape) (xs : List ℕ) (k w y : ℕ) : Type 0 where
  pub width : IsOfWidth (ws ++ us) k w
  pub value : value_at (vs ++ xs) k ≡ y

module _ (arrays : List Array) (ws : Shape) (vs : List ℕ) (long : length ws ≡ length vs) where
  pub old : (us : Shape) (xs : List ℕ) (a w : ℕ) → IsOfWidth ws a w → At ws vs us xs a w (value_at vs a)
  old us xs a w h =
      let lt : a < length vs = omega (arith, slice_get_within ws a (Some w) h, long) in
      record { width = in_front ws us a w h; value = get_or-append vs xs 0 a lt }

  pub new : (us : Shape) (xs : List ℕ) (k j w : ℕ) → k ≡ length ws + j → slice_get us j ≡ Some (Some w) → At ws vs us xs k w (value_at xs j)
  new us xs k j w e h =
      let there : k ≡ length vs + j = omega (arith, e, long) in
      record { width = at_end ws us k j e ∙ h; value = ap (value_at (vs ++ xs)) there ∙ get_or-append-add vs xs j 0 }

  pub unary : (op : Op1) (us : Shape) (xs : List ℕ) (a y : ℕ) → At ws vs us xs a (op1_in op) y → IsStep arrays (ws ++ us) (vs ++ xs) (op1_out op) (op1_result op y) (One op a)
  unary op us xs a y p = record { pure = tt; fits = p.width; width = refl; value = ap (op1_result op) p.value }

  pub binary : (op : Op2) (us : Shape) (xs : List ℕ) (a b y z : ℕ) → At ws vs us xs a (op2_in op) y → At ws vs us xs b (op2_in op) z
      → IsStep arrays (ws ++ us) (vs ++ xs) (op2_out op) (op2_result op y z) (Two op a b)
  binary op us xs a b y z p q = record { pure = tt; fits = (p.width, q.width); width = refl; value = λ i. op2_result op (p.value i) (q.value i) }

  pub number : (us : Shape) (xs : List ℕ) (w c : ℕ) → IsWidth w → c < 2 ^ w → IsStep arrays (ws ++ us) (vs ++ xs) w c (Const w c)
  number us xs w c h lt = record { pure = tt; fits = (h, lt); width = refl; value = refl }

-- a step of another value that is equal
pub with_value : (arrays : List Array) (ws : Shape) (vs : List ℕ) (w x y : ℕ) (i : Instr) → IsStep arrays ws vs w x i → x ≡ y → IsStep arrays ws vs w y i
with_value arrays ws vs w x y i s e = subst (λ (z : ℕ). IsStep arrays ws vs w z i) e s
