-- Renamed steps do the same.
use Rattle.std.proofs.Common.{◌≡◌, ℕ, suc, ◌+◌, ◌<◌, List, [], ◌∷◌, ◌++◌, map, length, get_or, refl, sym, ◌∙◌, ap, subst, arith, length-append, ⊎_elim}
use Rattle.std.specs.Prelude.{set, Bool}
use Rattle.std.proofs.Math.Seq.{get_or-append_seam}
use Rattle.std.proofs.lemmas.List.{get_or_append_left}
use Rattle.std.proofs.lemmas.Bool.{cases_eq}
use Rattle.word_ops.specs.Operations.{op1_result, op2_result}
use Rattle.ir.specs.declared.instr.Instr.{Instr}
use Rattle.ir.specs.declared.instr.Instr.TheVariants.{Const, One, Two, Select, Load, Store}
use Rattle.ir.specs.Steps.{Work, value_at, chosen_of, cells, strays_past, step_value, step_arrays, step_strays, after_step, through}
use Rattle.ir.specs.Renaming.{renamed, operands, MayName, AllMayBeNamed, StepsName, Shifts, SameWork, RenamedStepsDoTheSame, RenamedValuesAreTheSame}

-- a step that gives the same value, and changes arrays and strays alike
pub record Alike (i j : Instr) (v w : Work) : Type 0 where
  pub value : step_value j w.values w.arrays ≡ step_value i v.values v.arrays
  pub arrays : step_arrays j w.values w.arrays ≡ step_arrays i v.values v.arrays
  pub strays : step_strays j w.values w.arrays ≡ step_strays i v.values v.arrays

module _ (kept : ℕ → Bool) (f : ℕ → ℕ) (n m : ℕ) (shift : Shifts f n m) where
  pub operand : (k : ℕ) (v w : Work) (a : ℕ) → SameWork kept f n m k v w → MayName kept n k a → value_at w.values (f a) ≡ value_at v.values a
  operand k v w a s h =
      ⊎_elim (λ p. (s.first a p.0 p.1).1)
      (λ q. ap (λ b. value_at w.values (f b)) q.2 ∙ ap (value_at w.values) (shift q.0) ∙ s.steps q.0 q.1 ∙ ap (value_at v.values) (sym q.2)) h

  alike : (k : ℕ) (v w : Work) (i : Instr) → SameWork kept f n m k v w → AllMayBeNamed kept n k (operands i) → Alike i (renamed f i) v w
  alike k v w (Const x c) s h = record { value = refl; arrays = s.arrays; strays = refl }
  alike k v w (One op a) s h = record { value = ap (op1_result op) (operand k v w a s h.0); arrays = s.arrays; strays = refl }
  alike k v w (Two op a b) s h = let x = operand k v w a s h.0 in let y = operand k v w b s h.1.0 in record { value = ap (λ c. op2_result op c (value_at w.values (f b))) x ∙ ap (op2_result op (value_at v.values a)) y; arrays = s.arrays; strays = refl }
  alike k v w (Select x c a b) s h =
      let p = operand k v w c s h.0 in let q = operand k v w a s h.1.0 in let r = operand k v w b s h.1.1.0 in
      record { value = ap (λ z. chosen_of z (value_at w.values (f a)) (value_at w.values (f b))) p ∙ ap (λ z. chosen_of (value_at v.values c) z (value_at w.values (f b))) q ∙ ap (chosen_of (value_at v.values c) (value_at v.values a)) r; arrays = s.arrays; strays = refl }
  alike k v w (Load a p) s h =
      let x = operand k v w p s h.0 in
      record { value = ap (λ z. get_or (cells z a) (value_at w.values (f p)) 0) s.arrays ∙ ap (λ z. get_or (cells v.arrays a) z 0) x; arrays = s.arrays; strays = ap (λ z. strays_past (cells z a) (value_at w.values (f p))) s.arrays ∙ ap (strays_past (cells v.arrays a)) x }
  alike k v w (Store a p u) s h =
      let x = operand k v w p s h.0 in let y = operand k v w u s h.1.0 in
      record {
        value = refl;
        arrays = ap (λ z. set z a (set (cells z a) (value_at w.values (f p)) (value_at w.values (f u)))) s.arrays ∙ ap (λ z. set v.arrays a (set (cells v.arrays a) z (value_at w.values (f u)))) x ∙ ap (λ z. set v.arrays a (set (cells v.arrays a) (value_at v.values p) z)) y;
        strays = ap (λ z. strays_past (cells z a) (value_at w.values (f p))) s.arrays ∙ ap (strays_past (cells v.arrays a)) x;
      }

  one_more : (k : ℕ) (v w : Work) (i : Instr) → SameWork kept f n m k v w → AllMayBeNamed kept n k (operands i) → SameWork kept f n m (suc k) (after_step i v) (after_step (renamed f i) w)
  one_more k v w i s h =
      let a = alike k v w i s h in
      let x = step_value i v.values v.arrays in
      let y = step_value (renamed f i) w.values w.arrays in
      record {
        long = omega (arith, s.long, length-append v.values (x ∷ []));
        long_new = omega (arith, s.long_new, length-append w.values (y ∷ []));
        arrays = a.arrays;
        strays = omega (arith, s.strays, a.strays);
        first = λ b lt p.
            let z = s.first b lt p in
            (z.0, get_or_append_left w.values (y ∷ []) 0 (f b) (omega (arith, s.long_new, z.0)) ∙ z.1 ∙ sym (get_or_append_left v.values (x ∷ []) 0 b (omega (arith, s.long))));
        steps = λ j lt.
            ⊎_elim
            (λ e.
            let p : value_at (w.values ++ y ∷ []) (m + k) ≡ y = ap (value_at (w.values ++ y ∷ [])) (sym s.long_new) ∙ get_or-append_seam w.values y [] 0 in
            let q : value_at (v.values ++ x ∷ []) (n + k) ≡ x = ap (value_at (v.values ++ x ∷ [])) (sym s.long) ∙ get_or-append_seam v.values x [] 0 in
            ap (λ j. value_at (w.values ++ y ∷ []) (m + j)) e ∙ p ∙ a.value ∙ sym q ∙ ap (λ j. value_at (v.values ++ x ∷ []) (n + j)) (sym e))
            (λ ne. let below : j < k = omega arith in get_or_append_left w.values (y ∷ []) 0 (m + j) (omega (arith, s.long_new)) ∙ s.steps j below ∙ sym (get_or_append_left v.values (x ∷ []) 0 (n + j) (omega (arith, s.long))))
            (cases_eq j k);
      }

  -- all steps
  pub through_renamed : (is : List Instr) (k : ℕ) (v w : Work) → SameWork kept f n m k v w → StepsName kept n k is → SameWork kept f n m (k + length is) (through is v) (through (map (renamed f) is) w)
  through_renamed [] k v w s h = let e : k ≡ k + 0 = omega arith in subst (λ j. SameWork kept f n m j v w) e s
  through_renamed (i ∷ is) k v w s h =
      let e : suc k + length is ≡ k + suc (length is) = omega arith in
      subst (λ j. SameWork kept f n m j (through is (after_step i v)) (through (map (renamed f) is) (after_step (renamed f i) w))) e (through_renamed is (suc k) (after_step i v) (after_step (renamed f i) w) (one_more k v w i s h.0) h.1)

pub renamed_steps : RenamedStepsDoTheSame
renamed_steps kept f n m shift is k v w s h = through_renamed kept f n m shift is k v w s h

pub renamed_values : RenamedValuesAreTheSame
renamed_values kept f n m shift k v w a s h = operand kept f n m shift k v w a s h
