-- What tests of truth make: flags, tests for zero, && and ||, whatever the types of their sides.
use Rattle.std.proofs.Common.{◌≡◌, ℕ, ◌+◌, ⊎_elim, ◌^◌, ◌<◌, length, refl, ◌∙◌, ap, arith}
use Rattle.std.specs.Prelude.{Bool, true, false, ◌==◌}
use Rattle.std.specs.Int.{from_bool}
use Rattle.std.proofs.lemmas.Bool.{ne_eqb}
use Rattle.std.proofs.Math.Nat.{mod-eq_of_lt, eq-zero-or-pos}
use Rattle.el_base.specs.declared.ty.Ty.{Ty}
use Rattle.el_base.specs.declared.ty.Ty.TheVariants.{I8, U8, I16, U16, I32, U32, I64, U64}
use Rattle.el_base.specs.declared.operation.Op1.{Op1}
use Rattle.el_base.specs.declared.operation.Op1.TheVariants.{Zero32, Zero64, U8to32, U16to32}
use Rattle.el_base.specs.Widths.{ty_width}
use Rattle.word_ops.specs.Operations.{op1_on, op1_result}
use Rattle.ir.specs.Steps.{Work, through}
use Rattle.ir.specs.Accesses.{accesses_in}
use Rattle.ir.specs.declared.instr.Instr.TheVariants.{One}
use Rattle.struct_cfg.specs.Layings.{Laid, Laying, one_step, after}
use Rattle.struct_cfg.specs.Operators.{flag, zero_test, truth_of, first_else, first_then, both_laid, either_laid}
use Rattle.struct_cfg.specs.Seen.{IsValue, Makes}
use Rattle.struct_cfg.proofs.Bounds.{accesses_append}
use Rattle.struct_cfg.proofs.Works.{one_makes, no_step_makes, makes_equal, select_zero, select_more, after_makes, after_any, later, steps_add}

-- ---- the operations

zero32_none : op1_result Zero32 0 ≡ 1
unfolding op1_result op1_on
zero32_none = refl

zero64_none : op1_result Zero64 0 ≡ 1
unfolding op1_result op1_on
zero64_none = refl

zero32_some : (p : ℕ) → 0 < p → p < 2 ^ 32 → op1_result Zero32 p ≡ 0
unfolding op1_result op1_on
zero32_some p h b = ap (λ m. from_bool (m == 0)) (mod-eq_of_lt b) ∙ ap from_bool (ne_eqb p 0 (λ e. omega (arith, e)))

zero64_some : (p : ℕ) → 0 < p → p < 2 ^ 64 → op1_result Zero64 p ≡ 0
unfolding op1_result op1_on
zero64_some p h b = ap (λ m. from_bool (m == 0)) (mod-eq_of_lt b) ∙ ap from_bool (ne_eqb p 0 (λ e. omega (arith, e)))

extended8 : (p : ℕ) → p < 2 ^ 8 → op1_result U8to32 p ≡ p
unfolding op1_result op1_on
extended8 p b = mod-eq_of_lt b

extended16 : (p : ℕ) → p < 2 ^ 16 → op1_result U16to32 p ≡ p
unfolding op1_result op1_on
extended16 p b = mod-eq_of_lt b

-- ---- truth of one value

-- a value of 32 bits that is 0 exactly where p is
pub record FlagOf (w : Work) (l : Laid) (p : ℕ) : Type 0 where
  pub value : ℕ
  pub makes : Makes w l value
  pub small : value < 2 ^ 32
  pub zero_kept : p ≡ 0 → value ≡ 0
  pub more_kept : 0 < p → 0 < value

flag_same : (w : Work) (l : Laid) (p : ℕ) → Makes w l p → p < 2 ^ 32 → FlagOf w l p
flag_same w l p m b = record { value = p; makes = m; small = b; zero_kept = λ e. e; more_kept = λ h. h }

twice : (w : Work) (v p q r : ℕ) → IsValue w v p → op1_result Zero64 p ≡ q → op1_result Zero32 q ≡ r → Makes w (after (one_step (One Zero64 v)) (λ z. one_step (One Zero32 z)) (length w.values)) r
twice w v p q r i e f =
    after_makes (one_step (One Zero64 v)) (λ z. one_step (One Zero32 z)) w q r (makes_equal w _ _ _ e (one_makes Zero64 w v p i))
    (λ z u a j. makes_equal u _ _ _ f (one_makes Zero32 u z q j))

flag64 : (w : Work) (v p : ℕ) → p < 2 ^ 64 → IsValue w v p → FlagOf w (after (one_step (One Zero64 v)) (λ z. one_step (One Zero32 z)) (length w.values)) p
flag64 w v p b i =
    ⊎_elim
    (λ e. record { value = 0; makes = twice w v p 1 0 i (ap (op1_result Zero64) e ∙ zero64_none) (zero32_some 1 (omega arith) (omega arith)); small = omega arith; zero_kept = λ z. refl; more_kept = λ h. absurd (omega (arith, e, h)) })
    (λ h. record { value = 1; makes = twice w v p 0 1 i (zero64_some p h b) zero32_none; small = omega arith; zero_kept = λ z. absurd (omega (arith, z, h)); more_kept = λ z. omega arith })
    (eq-zero-or-pos p)

pub flag_makes : (t : Ty) (w : Work) (v p : ℕ) → p < 2 ^ ty_width t → IsValue w v p → FlagOf w (flag t v (length w.values)) p
flag_makes I8 w v p b i = flag_same w _ p (makes_equal w _ _ _ (extended8 p b) (one_makes U8to32 w v p i)) (omega arith)
flag_makes U8 w v p b i = flag_same w _ p (makes_equal w _ _ _ (extended8 p b) (one_makes U8to32 w v p i)) (omega arith)
flag_makes I16 w v p b i = flag_same w _ p (makes_equal w _ _ _ (extended16 p b) (one_makes U16to32 w v p i)) (omega arith)
flag_makes U16 w v p b i = flag_same w _ p (makes_equal w _ _ _ (extended16 p b) (one_makes U16to32 w v p i)) (omega arith)
flag_makes I32 w v p b i = flag_same w _ p (no_step_makes w v p (length w.values) i) b
flag_makes U32 w v p b i = flag_same w _ p (no_step_makes w v p (length w.values) i) b
flag_makes I64 w v p b i = flag64 w v p b i
flag_makes U64 w v p b i = flag64 w v p b i

-- 1 where a value is 0, else 0
pub record TestOf (w : Work) (l : Laid) (p : ℕ) : Type 0 where
  pub none : p ≡ 0 → Makes w l 1
  pub some : 0 < p → Makes w l 0

test32 : (w : Work) (v p : ℕ) → p < 2 ^ 32 → IsValue w v p → TestOf w (one_step (One Zero32 v) (length w.values)) p
test32 w v p b i = record {
  none = λ e. makes_equal w _ _ _ (ap (op1_result Zero32) e ∙ zero32_none) (one_makes Zero32 w v p i);
  some = λ h. makes_equal w _ _ _ (zero32_some p h b) (one_makes Zero32 w v p i);
}

test64 : (w : Work) (v p : ℕ) → p < 2 ^ 64 → IsValue w v p → TestOf w (one_step (One Zero64 v) (length w.values)) p
test64 w v p b i = record {
  none = λ e. makes_equal w _ _ _ (ap (op1_result Zero64) e ∙ zero64_none) (one_makes Zero64 w v p i);
  some = λ h. makes_equal w _ _ _ (zero64_some p h b) (one_makes Zero64 w v p i);
}

test_narrow : (op : Op1) (w : Work) (v p : ℕ) → p < 2 ^ 32 → op1_result op p ≡ p → IsValue w v p → TestOf w (after (one_step (One op v)) (λ f. one_step (One Zero32 f)) (length w.values)) p
test_narrow op w v p b e i =
    let m = makes_equal w _ _ _ e (one_makes op w v p i) in
    record {
      none = λ z. after_makes (one_step (One op v)) (λ f. one_step (One Zero32 f)) w p 1 m (λ f u a j. let t = test32 u f p b j in t.none z);
      some = λ h. after_makes (one_step (One op v)) (λ f. one_step (One Zero32 f)) w p 0 m (λ f u a j. let t = test32 u f p b j in t.some h);
    }

pub test_makes : (t : Ty) (w : Work) (v p : ℕ) → p < 2 ^ ty_width t → IsValue w v p → TestOf w (zero_test t v (length w.values)) p
test_makes I8 w v p b i = test_narrow U8to32 w v p (omega arith) (extended8 p b) i
test_makes U8 w v p b i = test_narrow U8to32 w v p (omega arith) (extended8 p b) i
test_makes I16 w v p b i = test_narrow U16to32 w v p (omega arith) (extended16 p b) i
test_makes U16 w v p b i = test_narrow U16to32 w v p (omega arith) (extended16 p b) i
test_makes I32 w v p b i = test32 w v p b i
test_makes U32 w v p b i = test32 w v p b i
test_makes I64 w v p b i = test64 w v p b i
test_makes U64 w v p b i = test64 w v p b i

truth_makes : (w : Work) (v p q r : ℕ) → IsValue w v p → op1_result Zero32 p ≡ q → op1_result Zero32 q ≡ r → Makes w (truth_of v (length w.values)) r
truth_makes w v p q r i e f =
    after_makes (one_step (One Zero32 v)) (λ z. one_step (One Zero32 z)) w q r (makes_equal w _ _ _ e (one_makes Zero32 w v p i))
    (λ z u a j. makes_equal u _ _ _ f (one_makes Zero32 u z q j))

truth_none : (w : Work) (v p : ℕ) → IsValue w v p → p ≡ 0 → Makes w (truth_of v (length w.values)) 0
truth_none w v p i e = truth_makes w v p 1 0 i (ap (op1_result Zero32) e ∙ zero32_none) (zero32_some 1 (omega arith) (omega arith))

truth_some : (w : Work) (v p : ℕ) → IsValue w v p → 0 < p → p < 2 ^ 32 → Makes w (truth_of v (length w.values)) 1
truth_some w v p i h b = truth_makes w v p 0 1 i (zero32_some p h b) zero32_none

-- ---- steps of tests are no loads and no stores

free_after : (a : Laying) (f : ℕ → Laying) (n : ℕ) → accesses_in (a n).steps ≡ 0 → ((v m : ℕ) → accesses_in (f v m).steps ≡ 0) → accesses_in (after a f n).steps ≡ 0
unfolding after
free_after a f n e g = accesses_append (a n).steps (f (a n).value (n + length (a n).steps)).steps ∙ (omega (arith, e, g (a n).value (n + length (a n).steps)))

pub flag_free : (t : Ty) (v n : ℕ) → accesses_in (flag t v n).steps ≡ 0
flag_free I64 v n = free_after (one_step (One Zero64 v)) (λ z. one_step (One Zero32 z)) n refl (λ z m. refl)
flag_free U64 v n = free_after (one_step (One Zero64 v)) (λ z. one_step (One Zero32 z)) n refl (λ z m. refl)
flag_free t v n = refl

pub test_free : (t : Ty) (v n : ℕ) → accesses_in (zero_test t v n).steps ≡ 0
test_free I8 v n = free_after (one_step (One U8to32 v)) (λ z. one_step (One Zero32 z)) n refl (λ z m. refl)
test_free U8 v n = free_after (one_step (One U8to32 v)) (λ z. one_step (One Zero32 z)) n refl (λ z m. refl)
test_free I16 v n = free_after (one_step (One U16to32 v)) (λ z. one_step (One Zero32 z)) n refl (λ z m. refl)
test_free U16 v n = free_after (one_step (One U16to32 v)) (λ z. one_step (One Zero32 z)) n refl (λ z m. refl)
test_free t v n = refl

-- ---- && and ||: of the side that is not needed nothing is known

module _ (t u : Ty) (w : Work) (a b p : ℕ) (small : p < 2 ^ ty_width t) (left : IsValue w a p) where
  abbrev both_at : Bool → Laid
  both_at nb = both_laid nb t u a b (length w.values)

  abbrev either_at : Bool → Laid
  either_at nb = either_laid nb t u a b (length w.values)

  pub both_none : (nb : Bool) → p ≡ 0 → Makes w (both_at nb) 0
  both_none true e =
      let f = flag_makes t w a p small left in
      after_makes (flag t a) (λ f. after (flag u b) (λ g. after (first_then f g) truth_of)) w f.value 0 f.makes
      (λ i w1 a1 j. let is0 : IsValue w1 i 0 = record { below = j.below; is = j.is ∙ f.zero_kept e } in
      after_any (flag u b) (λ g. after (first_then i g) truth_of) w1 0 (steps_add _ w1 (flag_free u b (length w1.values)))
      (let w2 = through (flag u b (length w1.values)).steps w1 in
      let a2 = steps_add (flag u b (length w1.values)).steps w1 (flag_free u b (length w1.values)) in
      let g = (flag u b (length w1.values)).value in
      let is2 = later w1 w2 i 0 a2 is0 in
      after_makes (first_then i g) truth_of w2 0 0 (select_zero w2 32 i g i 0 is2 is2) (λ s w3 a3 k. truth_none w3 s 0 k refl)))
  both_none false e =
      let f = test_makes t w a p small left in
      after_makes (zero_test t a) (λ f. after (zero_test u b) (λ g. after (first_else f g) (λ s. one_step (One Zero32 s)))) w 1 0 (f.none e)
      (λ i w1 a1 j.
      after_any (zero_test u b) (λ g. after (first_else i g) (λ s. one_step (One Zero32 s))) w1 0 (steps_add _ w1 (test_free u b (length w1.values)))
      (let w2 = through (zero_test u b (length w1.values)).steps w1 in
      let a2 = steps_add (zero_test u b (length w1.values)).steps w1 (test_free u b (length w1.values)) in
      let g = (zero_test u b (length w1.values)).value in
      let is2 = later w1 w2 i 1 a2 j in
      after_makes (first_else i g) (λ s. one_step (One Zero32 s)) w2 1 0 (select_more w2 32 i i g 1 1 (omega arith) is2 is2)
      (λ s w3 a3 k. let z = test32 w3 s 1 (omega arith) k in z.some (omega arith))))

  pub either_some : (nb : Bool) → 0 < p → Makes w (either_at nb) 1
  either_some true h =
      let f = flag_makes t w a p small left in
      after_makes (flag t a) (λ f. after (flag u b) (λ g. after (first_else f g) truth_of)) w f.value 1 f.makes
      (λ i w1 a1 j.
      after_any (flag u b) (λ g. after (first_else i g) truth_of) w1 1 (steps_add _ w1 (flag_free u b (length w1.values)))
      (let w2 = through (flag u b (length w1.values)).steps w1 in
      let a2 = steps_add (flag u b (length w1.values)).steps w1 (flag_free u b (length w1.values)) in
      let g = (flag u b (length w1.values)).value in
      let is2 = later w1 w2 i f.value a2 j in
      after_makes (first_else i g) truth_of w2 f.value 1 (select_more w2 32 i i g f.value f.value (f.more_kept h) is2 is2) (λ s w3 a3 k. truth_some w3 s f.value k (f.more_kept h) f.small)))
  either_some false h =
      let f = test_makes t w a p small left in
      after_makes (zero_test t a) (λ f. after (zero_test u b) (λ g. after (first_then f g) (λ s. one_step (One Zero32 s)))) w 0 1 (f.some h)
      (λ i w1 a1 j.
      after_any (zero_test u b) (λ g. after (first_then i g) (λ s. one_step (One Zero32 s))) w1 1 (steps_add _ w1 (test_free u b (length w1.values)))
      (let w2 = through (zero_test u b (length w1.values)).steps w1 in
      let a2 = steps_add (zero_test u b (length w1.values)).steps w1 (test_free u b (length w1.values)) in
      let g = (zero_test u b (length w1.values)).value in
      let is2 = later w1 w2 i 0 a2 j in
      after_makes (first_then i g) (λ s. one_step (One Zero32 s)) w2 0 1 (select_zero w2 32 i g i 0 is2 is2)
      (λ s w3 a3 k. let z = test32 w3 s 0 (omega arith) k in z.none refl)))

  -- ---- where the left side does not decide, the right one does

  module _ (q : ℕ) (small2 : q < 2 ^ ty_width u) (right : IsValue w b q) where
    pub both_zero : (nb : Bool) → 0 < p → q ≡ 0 → Makes w (both_at nb) 0
    both_zero true h e =
        let f = flag_makes t w a p small left in
        after_makes (flag t a) (λ f. after (flag u b) (λ g. after (first_then f g) truth_of)) w f.value 0 f.makes
        (λ i w1 a1 j. let r = flag_makes u w1 b q small2 (later w w1 b q a1 right) in
        after_makes (flag u b) (λ g. after (first_then i g) truth_of) w1 r.value 0 r.makes
        (λ g w2 a2 k. after_makes (first_then i g) truth_of w2 r.value 0 (select_more w2 32 i g i f.value r.value (f.more_kept h) (later w1 w2 i f.value a2 j) k)
        (λ s w3 a3 l. truth_none w3 s r.value l (r.zero_kept e))))
    both_zero false h e =
        let f = test_makes t w a p small left in
        after_makes (zero_test t a) (λ f. after (zero_test u b) (λ g. after (first_else f g) (λ s. one_step (One Zero32 s)))) w 0 0 (f.some h)
        (λ i w1 a1 j. let r = test_makes u w1 b q small2 (later w w1 b q a1 right) in
        after_makes (zero_test u b) (λ g. after (first_else i g) (λ s. one_step (One Zero32 s))) w1 1 0 (r.none e)
        (λ g w2 a2 k. after_makes (first_else i g) (λ s. one_step (One Zero32 s)) w2 1 0 (select_zero w2 32 i i g 1 (later w1 w2 i 0 a2 j) k)
        (λ s w3 a3 l. let z = test32 w3 s 1 (omega arith) l in z.some (omega arith))))

    pub both_some : (nb : Bool) → 0 < p → 0 < q → Makes w (both_at nb) 1
    both_some true h e =
        let f = flag_makes t w a p small left in
        after_makes (flag t a) (λ f. after (flag u b) (λ g. after (first_then f g) truth_of)) w f.value 1 f.makes
        (λ i w1 a1 j. let r = flag_makes u w1 b q small2 (later w w1 b q a1 right) in
        after_makes (flag u b) (λ g. after (first_then i g) truth_of) w1 r.value 1 r.makes
        (λ g w2 a2 k. after_makes (first_then i g) truth_of w2 r.value 1 (select_more w2 32 i g i f.value r.value (f.more_kept h) (later w1 w2 i f.value a2 j) k)
        (λ s w3 a3 l. truth_some w3 s r.value l (r.more_kept e) r.small)))
    both_some false h e =
        let f = test_makes t w a p small left in
        after_makes (zero_test t a) (λ f. after (zero_test u b) (λ g. after (first_else f g) (λ s. one_step (One Zero32 s)))) w 0 1 (f.some h)
        (λ i w1 a1 j. let r = test_makes u w1 b q small2 (later w w1 b q a1 right) in
        after_makes (zero_test u b) (λ g. after (first_else i g) (λ s. one_step (One Zero32 s))) w1 0 1 (r.some e)
        (λ g w2 a2 k. after_makes (first_else i g) (λ s. one_step (One Zero32 s)) w2 0 1 (select_zero w2 32 i i g 0 (later w1 w2 i 0 a2 j) k)
        (λ s w3 a3 l. let z = test32 w3 s 0 (omega arith) l in z.none refl)))

    pub either_zero : (nb : Bool) → p ≡ 0 → q ≡ 0 → Makes w (either_at nb) 0
    either_zero true h e =
        let f = flag_makes t w a p small left in
        after_makes (flag t a) (λ f. after (flag u b) (λ g. after (first_else f g) truth_of)) w f.value 0 f.makes
        (λ i w1 a1 j. let r = flag_makes u w1 b q small2 (later w w1 b q a1 right) in
        let is0 : IsValue w1 i 0 = record { below = j.below; is = j.is ∙ f.zero_kept h } in
        after_makes (flag u b) (λ g. after (first_else i g) truth_of) w1 r.value 0 r.makes
        (λ g w2 a2 k. after_makes (first_else i g) truth_of w2 r.value 0 (select_zero w2 32 i i g r.value (later w1 w2 i 0 a2 is0) k)
        (λ s w3 a3 l. truth_none w3 s r.value l (r.zero_kept e))))
    either_zero false h e =
        let f = test_makes t w a p small left in
        after_makes (zero_test t a) (λ f. after (zero_test u b) (λ g. after (first_then f g) (λ s. one_step (One Zero32 s)))) w 1 0 (f.none h)
        (λ i w1 a1 j. let r = test_makes u w1 b q small2 (later w w1 b q a1 right) in
        after_makes (zero_test u b) (λ g. after (first_then i g) (λ s. one_step (One Zero32 s))) w1 1 0 (r.none e)
        (λ g w2 a2 k. after_makes (first_then i g) (λ s. one_step (One Zero32 s)) w2 1 0 (select_more w2 32 i g i 1 1 (omega arith) (later w1 w2 i 1 a2 j) k)
        (λ s w3 a3 l. let z = test32 w3 s 1 (omega arith) l in z.some (omega arith))))

    pub either_more : (nb : Bool) → p ≡ 0 → 0 < q → Makes w (either_at nb) 1
    either_more true h e =
        let f = flag_makes t w a p small left in
        after_makes (flag t a) (λ f. after (flag u b) (λ g. after (first_else f g) truth_of)) w f.value 1 f.makes
        (λ i w1 a1 j. let r = flag_makes u w1 b q small2 (later w w1 b q a1 right) in
        let is0 : IsValue w1 i 0 = record { below = j.below; is = j.is ∙ f.zero_kept h } in
        after_makes (flag u b) (λ g. after (first_else i g) truth_of) w1 r.value 1 r.makes
        (λ g w2 a2 k. after_makes (first_else i g) truth_of w2 r.value 1 (select_zero w2 32 i i g r.value (later w1 w2 i 0 a2 is0) k)
        (λ s w3 a3 l. truth_some w3 s r.value l (r.more_kept e) r.small)))
    either_more false h e =
        let f = test_makes t w a p small left in
        after_makes (zero_test t a) (λ f. after (zero_test u b) (λ g. after (first_then f g) (λ s. one_step (One Zero32 s)))) w 1 1 (f.none h)
        (λ i w1 a1 j. let r = test_makes u w1 b q small2 (later w w1 b q a1 right) in
        after_makes (zero_test u b) (λ g. after (first_then i g) (λ s. one_step (One Zero32 s))) w1 0 1 (r.some e)
        (λ g w2 a2 k. after_makes (first_then i g) (λ s. one_step (One Zero32 s)) w2 0 1 (select_more w2 32 i g i 1 0 (omega arith) (later w1 w2 i 1 a2 j) k)
        (λ s w3 a3 l. let z = test32 w3 s 0 (omega arith) l in z.none refl)))
