-- A condition without tests around it decides as it did.
use Rattle.std.proofs.Common.{◌≡◌, ℕ, zero, suc, ◌%◌, ◌^◌, Bool, true, false, cond, List, Option, Some, None, refl, ◌∙◌, ap, subst, eqb}
use Rattle.std.specs.Prelude.{◌==◌, not, ◌&&◌}
use Rattle.std.specs.Int.{from_bool}
use Rattle.std.proofs.lemmas.Bool.{false≢true, and_parts}
use Rattle.std.proofs.lemmas.Option.{none-some, cond_some}
use Rattle.std.proofs.Math.Bool.{not-not}
use Rattle.std.proofs.Math.Nat.{mod-eq_of_lt}
use borrow.Author.Tests.{eqb-true}
use Rattle.el_base.specs.declared.ty.Array.{Array}
use Rattle.el_base.specs.Widths.{op1_in, op2_in}
use Rattle.ir.specs.declared.instr.Instr.{Instr}
use Rattle.ir.specs.declared.instr.Instr.TheVariants.{Const, One, Two, Select, Load, Store}
use Rattle.ir.specs.Shapes.{Shape, IsOfWidth}
use Rattle.ir.specs.Steps.{value_at}
use Rattle.block_rules.specs.declared.rewriting.Condition.{Condition}
use Rattle.block_rules.specs.Known.{AreValues}
use Rattle.block_rules.specs.Laws.{DecidesAlike}
use Rattle.block_rules.specs.Kinds.{bits, word_of, kind_of, is_zero, is_unequal}
use Rattle.block_rules.specs.Reading.{step_at, const_at}
use Rattle.block_rules.specs.Conditions.{is_constant, inside, within, peeled, peeled_times, stripped}
use Rattle.block_rules.proofs.Operations.{zero-result, unequal-result, result-below}
use Rattle.block_rules.proofs.Identities.{bit-zero}
use Rattle.block_rules.proofs.Facts.{below, made, constant}

-- a constant that is that number
pub constant_is : (c : ℕ) (o : Option ℕ) → is_constant c o ≡ true → o ≡ Some c
constant_is c None h = absurd (false≢true h)
constant_is c (Some x) h = ap (λ (k : ℕ). Some k) (eqb-true x c h)

turned_twice : (t u b : Bool) → cond t (not (cond u (not b) b)) (cond u (not b) b) ≡ cond (cond u (not t) t) (not b) b
turned_twice true true b = not-not b
turned_twice true false b = refl
turned_twice false true b = refl
turned_twice false false b = refl

module _ (arrays : List Array) (n : ℕ) (steps : List Instr) (ws : Shape) (vs : List ℕ) (known : AreValues arrays n steps ws vs) where
  inside_law : (v : ℕ) (o : Option Instr) → step_at n steps v ≡ o → (e : Condition) → inside n steps o ≡ Some e → DecidesAlike ws vs v e
  inside_law v None s e h = absurd (none-some e h)
  inside_law v (Some (Const w c)) s e h = absurd (none-some e h)
  inside_law v (Some (One op a)) s e h =
      let d : Condition = record { value = a; turned = true } in
      let p = cond_some (is_zero op && eqb (op1_in op) 32) d e h in
      let q = and_parts (is_zero op) (eqb (op1_in op) 32) p.0 in
      let m = made arrays n steps ws vs known v (One op a) s in
      let x = value_at vs a in
      let wide = eqb-true (op1_in op) 32 q.1 in
      let small : x % 2 ^ op1_in op ≡ x = mod-eq_of_lt (below arrays n steps ws vs known a (op1_in op) m.fits) in
      let is : value_at vs v ≡ from_bool (x == 0) = m.value tt ∙ zero-result op q.0 x ∙ ap (λ (k : ℕ). from_bool (k == 0)) small in
      let inner : DecidesAlike ws vs v d = record {
        width = subst (λ (u : ℕ). IsOfWidth ws a u) wide m.fits;
        decides = ap (λ (k : ℕ). k == 0) is ∙ bit-zero (x == 0);
      } in
      subst (λ (f : Condition). DecidesAlike ws vs v f) p.1 inner
  inside_law v (Some (Two op a b)) s e h =
      let d : Condition = record { value = a; turned = false } in
      let p = cond_some ((is_unequal (kind_of op) && eqb (op2_in op) 32) && is_constant 0 (const_at n steps b)) d e h in
      let q = and_parts (is_unequal (kind_of op) && eqb (op2_in op) 32) (is_constant 0 (const_at n steps b)) p.0 in
      let r = and_parts (is_unequal (kind_of op)) (eqb (op2_in op) 32) q.0 in
      let m = made arrays n steps ws vs known v (Two op a b) s in
      let x = value_at vs a in
      let y = value_at vs b in
      let wide = eqb-true (op2_in op) 32 r.1 in
      let zero_is = constant arrays n steps ws vs known b (op2_in op) 0 (constant_is 0 (const_at n steps b) q.1) m.fits.1 in
      let lx = below arrays n steps ws vs known a (op2_in op) m.fits.0 in
      let ly = below arrays n steps ws vs known b (op2_in op) m.fits.1 in
      let is : value_at vs v ≡ from_bool (not (x == 0)) = m.value tt ∙ result-below op x y lx ly ∙ unequal-result (kind_of op) r.0 (bits (word_of (op2_in op))) x y
      ∙ ap (λ (k : ℕ). from_bool (not (x == k))) zero_is.value in
      let inner : DecidesAlike ws vs v d = record {
        width = subst (λ (u : ℕ). IsOfWidth ws a u) wide m.fits.0;
        decides = ap (λ (k : ℕ). k == 0) is ∙ bit-zero (not (x == 0)) ∙ not-not (x == 0);
      } in
      subst (λ (f : Condition). DecidesAlike ws vs v f) p.1 inner
  inside_law v (Some (Select w c a b)) s e h = absurd (none-some e h)
  inside_law v (Some (Load a p)) s e h = absurd (none-some e h)
  inside_law v (Some (Store a p x)) s e h = absurd (none-some e h)

  within_law : (c : ℕ) (d : Condition) → DecidesAlike ws vs c d → (o : Option Condition) → ((e : Condition) → o ≡ Some e → DecidesAlike ws vs d.value e) → DecidesAlike ws vs c (within d o)
  within_law c d h None f = h
  within_law c d h (Some e) f =
      let g = f e refl in
      record {
        width = g.width;
        decides = h.decides ∙ ap (λ (z : Bool). cond d.turned (not z) z) g.decides ∙ turned_twice d.turned e.turned (value_at vs e.value == 0);
      }

  peel_law : (c : ℕ) (d : Condition) → DecidesAlike ws vs c d → DecidesAlike ws vs c (peeled n steps d)
  unfolding peeled
  peel_law c d h = within_law c d h (inside n steps (step_at n steps d.value)) (λ e s. inside_law d.value (step_at n steps d.value) refl e s)

  times_law : (k c : ℕ) (d : Condition) → DecidesAlike ws vs c d → DecidesAlike ws vs c (peeled_times k n steps d)
  unfolding peeled_times
  times_law zero c d h = h
  times_law (suc k) c d h = times_law k c (peeled n steps d) (peel_law c d h)

  pub strip_law : (c : ℕ) → IsOfWidth ws c 32 → DecidesAlike ws vs c (stripped n steps c)
  unfolding stripped
  strip_law c h = times_law 8 c (record { value = c; turned = false }) (record { width = h; decides = refl })
