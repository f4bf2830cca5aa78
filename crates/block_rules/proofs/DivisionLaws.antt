-- What a division by a constant becomes is right.
use Rattle.std.proofs.Common.{◌≡◌, ℕ, ◌+◌, ◌-◌, ◌^◌, ◌<◌, Bool, true, false, cond, List, [], ◌∷◌, Option, Some, None, refl, sym, ◌∙◌, ap, subst, eqb, arith}
use Rattle.std.specs.Prelude.{nat_lt, ◌&&◌}
use Rattle.std.specs.Int.{IsPowerOfTwo}
use Rattle.std.proofs.lemmas.Option.{same_Some}
use Rattle.std.proofs.lemmas.Bool.{cond_both, cond-true, cond-false}
use borrow.Author.Tests.{ltb-true, eqb-true, eqb-false}
use Rattle.el_base.specs.declared.ty.Array.{Array}
use Rattle.el_base.specs.declared.operation.Op1.TheVariants.{S32to64, Cut64to32}
use Rattle.el_base.specs.declared.operation.Op2.TheVariants.{Add32, Add64, Sub32, Sub64, Mul32, Mul64, And32, And64, Shru32, Shru64, Shrs32, Shrs64, Divu32, Divu64, Remu32, Remu64, Divs32, Divs64, Rems32, Rems64}
use Rattle.word_ops.specs.Operations.{op2_result}
use Rattle.word_rules.specs.Magic.{reciprocal}
use Rattle.word_rules.specs.Amounts.{quotient_with, unsigned_amount, signed_amount}
use Rattle.word_rules.specs.Quotients.{biased32, biased64}
use Rattle.word_rules.proofs.LeastAmounts.{unsigned_amounts_serve, unsigned_quotients_are_made, wide_quotients_are_made, signed_amounts_serve, signed_quotients_are_made}
use Rattle.word_rules.proofs.Powers.{divs32, divs64, rems32, rems64}
use Rattle.word_rules.proofs.Signs.{same_divs32, same_divs64, same_rems32, same_rems64, left_remu32, left_remu64, left_rems32}
use Rattle.word_rules.proofs.Reciprocals.{reciprocals_fit_words}
use Rattle.ir.specs.declared.instr.Instr.{Instr}
use Rattle.ir.specs.declared.instr.Instr.TheVariants.{Const, One, Two}
use Rattle.ir.specs.Shapes.{Shape}
use Rattle.ir.specs.Steps.{value_at}
use Rattle.block_rules.specs.declared.division.Division.{Division}
use Rattle.block_rules.specs.declared.kind.Kind.{Kind}
use Rattle.block_rules.specs.declared.kind.Kind.TheVariants.{Add, Sub, Mul, And, Or, Xor, Shl, Shru, Shrs, Divu, Remu, Divs, Rems, Eq, Ne, Ltu, Leu, Lts, Les}
use Rattle.block_rules.specs.declared.kind.Word.{Word}
use Rattle.block_rules.specs.declared.kind.Word.TheVariants.{Word32, Word64}
use Rattle.block_rules.specs.Kinds.{bits, operation}
use Rattle.block_rules.specs.Divisions.{quotient32, has_factor, quotient64, unsigned_quotient, signed32, by_quotient, unsigned_remainder, power_quotient, power_remainder, no_power_quotient, no_power_remainder, large_quotient, large_remainder, signed_quotient, signed_remainder, divided}
use Rattle.block_rules.specs.TwoRules.{exponent_of}
use Rattle.block_rules.specs.Laws.{AreRight, IsRight}
use Rattle.block_rules.specs.declared.rewriting.Rewriting.{Rewriting}
use Rattle.block_rules.specs.declared.rewriting.Rewriting.TheVariants.{Kept, Steps}
use Rattle.block_rules.proofs.Operations.{kind_on, width_out, operation-below}
use Rattle.block_rules.proofs.Changed.{two_step, change_right}
use Rattle.block_rules.specs.declared.change.Change.TheVariants.{Becomes}
use Rattle.block_rules.proofs.Lists.{AreSteps, steps_right}
use Rattle.block_rules.proofs.DivisionSteps as made
use Rattle.block_rules.proofs.DivisionSteps.{IsDivision}
use Rattle.block_rules.proofs.Exponents.{exponent_law, places_below, half_below, no_power}

module _ (arrays : List Array) (ws : Shape) (vs : List ℕ) where
  -- an operation of the word on the two values, by the constant
  on_divisor : (k : Kind) (w : Word) (x : Division) → IsDivision ws vs w x → op2_result (operation k w) (value_at vs x.left) (value_at vs x.right) ≡ op2_result (operation k w) (value_at vs x.left) x.divisor
  on_divisor k w x r = ap (op2_result (operation k w) (value_at vs x.left)) r.is

  -- one of two rewritings, by a test
  given : (w z : ℕ) (t : Bool) (p q : Rewriting) → (t ≡ true → IsRight arrays ws vs w z p) → (t ≡ false → IsRight arrays ws vs w z q) → IsRight arrays ws vs w z (cond t p q)
  given w z t p q f g = cond_both t p q (IsRight arrays ws vs w z) f g

  unsigned32 : (x : Division) → IsDivision ws vs Word32 x → (o : Option ℕ) → unsigned_amount x.top x.divisor ≡ o → AreRight arrays ws vs (quotient32 x o) 32 (op2_result Divu32 (value_at vs x.left) x.divisor)
  unsigned32 x r o e =
      let n = value_at vs x.left in
      let d = x.divisor in
      let some : 0 < d = omega (arith, r.some) in
      let less : d < 2 ^ 32 = half_below Word32 d r.half in
      let is : quotient_with o d n ≡ op2_result Divu32 n d = ap (λ (a : Option ℕ). quotient_with a d n) (sym e) ∙ unsigned_quotients_are_made x.top d n some less r.top_below r.most in
      steps_right arrays ws vs 32 (op2_result Divu32 n d) (quotient32 x o) r.long (by32 o e is)
    where
      by32 : (o : Option ℕ) → unsigned_amount x.top x.divisor ≡ o → quotient_with o x.divisor (value_at vs x.left) ≡ op2_result Divu32 (value_at vs x.left) x.divisor
          → AreSteps arrays ws vs [] [] 32 (op2_result Divu32 (value_at vs x.left) x.divisor) (quotient32 x o)
      by32 None e is = made.long_steps arrays ws vs x r (op2_result Divu32 (value_at vs x.left) x.divisor) is
      by32 (Some s) e is =
          let some : 0 < x.divisor = omega (arith, r.some) in
          let f = unsigned_amounts_serve x.top x.divisor s some e in
          made.short_steps arrays ws vs x s r f.2 f.1.amount (op2_result Divu32 (value_at vs x.left) x.divisor) is

  unsigned64 : (x : Division) → IsDivision ws vs Word64 x → (o : Option ℕ) → unsigned_amount x.top x.divisor ≡ o → IsRight arrays ws vs 64 (op2_result Divu64 (value_at vs x.left) x.divisor) (quotient64 x o)
  unsigned64 x r None e = tt
  unsigned64 x r (Some s) e =
      let n = value_at vs x.left in
      let d = x.divisor in
      let some : 0 < d = omega (arith, r.some) in
      let f = unsigned_amounts_serve x.top d s some e in
      let z = op2_result Divu64 n d in
      let m = x.next in
      let is = wide_quotients_are_made x.top d s n some (half_below Word64 d r.half) r.top_below r.most e in
      let list : List Instr = Const 64 (reciprocal d s) ∷ Two Mul64 x.left m ∷ Const 64 s ∷ Two Shru64 (m + 1) (m + 2) ∷ [] in
      given 64 z (nat_lt (reciprocal d s) (2 ^ 32)) (Steps list) Kept
      (λ t. steps_right arrays ws vs 64 z list r.long (made.wide_steps arrays ws vs x s r f.2 f.1.amount z is)) (λ t. tt)

  rest_law : (k : Kind) (w : Word) (x : Division) (z : ℕ) → IsDivision ws vs w x → AreSteps arrays ws vs [] [] (bits w) z (by_quotient k w x) → AreRight arrays ws vs (by_quotient k w x) (bits w) z
  rest_law k w x z r h = steps_right arrays ws vs (bits w) z (by_quotient k w x) r.long h

  -- the remainder from the quotient, by the value of the divisor
  unsigned_rest32 : (x : Division) → IsDivision ws vs Word32 x → AreRight arrays ws vs (by_quotient Divu Word32 x) 32 (op2_result Remu32 (value_at vs x.left) x.divisor)
  unsigned_rest32 x r =
      let n = value_at vs x.left in
      let some : 0 < x.divisor = omega (arith, r.some) in
      let z = op2_result Remu32 n x.divisor in
      let is = left_remu32 n x.divisor (op2_result Divu32 n x.divisor) r.left.below some (half_below Word32 x.divisor r.half) refl in
      rest_law Divu Word32 x z r (made.rest_divu32 arrays ws vs x r z (ap (λ (v : ℕ). op2_result Sub32 n (op2_result Mul32 (op2_result Divu32 n v) v)) r.is ∙ is))

  unsigned_rest64 : (x : Division) → IsDivision ws vs Word64 x → AreRight arrays ws vs (by_quotient Divu Word64 x) 64 (op2_result Remu64 (value_at vs x.left) x.divisor)
  unsigned_rest64 x r =
      let n = value_at vs x.left in
      let some : 0 < x.divisor = omega (arith, r.some) in
      let z = op2_result Remu64 n x.divisor in
      let is = left_remu64 n x.divisor (op2_result Divu64 n x.divisor) r.left.below some (half_below Word64 x.divisor r.half) refl in
      rest_law Divu Word64 x z r (made.rest_divu64 arrays ws vs x r z (ap (λ (v : ℕ). op2_result Sub64 n (op2_result Mul64 (op2_result Divu64 n v) v)) r.is ∙ is))

  signed_rest32 : (x : Division) → IsDivision ws vs Word32 x → AreRight arrays ws vs (by_quotient Divs Word32 x) 32 (op2_result Rems32 (value_at vs x.left) x.divisor)
  signed_rest32 x r =
      let n = value_at vs x.left in
      let some : 0 < x.divisor = omega (arith, r.some) in
      let z = op2_result Rems32 n x.divisor in
      let is = left_rems32 n x.divisor (op2_result Divs32 n x.divisor) r.left.below some (half_below Word32 x.divisor r.half) refl in
      rest_law Divs Word32 x z r (made.rest_divs32 arrays ws vs x r z (ap (λ (v : ℕ). op2_result Sub32 n (op2_result Mul32 (op2_result Divs32 n v) v)) r.is ∙ is))

  unsigned_law : (w : Word) (x : Division) → IsDivision ws vs w x → IsRight arrays ws vs (bits w) (op2_result (operation Divu w) (value_at vs x.left) x.divisor) (unsigned_quotient w x)
  unfolding unsigned_quotient
  unsigned_law Word32 x r = unsigned32 x r (unsigned_amount x.top x.divisor) refl
  unsigned_law Word64 x r =
      given 64 (op2_result Divu64 (value_at vs x.left) x.divisor) (nat_lt x.top (2 ^ 32)) (quotient64 x (unsigned_amount x.top x.divisor)) Kept
      (λ t. unsigned64 x r (unsigned_amount x.top x.divisor) refl) (λ t. tt)

  unsigned_rest_law : (w : Word) (x : Division) → IsDivision ws vs w x → IsRight arrays ws vs (bits w) (op2_result (operation Remu w) (value_at vs x.left) x.divisor) (unsigned_remainder w x)
  unfolding unsigned_remainder
  unsigned_rest_law Word32 x r = unsigned_rest32 x r
  unsigned_rest_law Word64 x r =
      given 64 (op2_result Remu64 (value_at vs x.left) x.divisor) (nat_lt x.top (2 ^ 32) && has_factor x.divisor (unsigned_amount x.top x.divisor)) (Steps (by_quotient Divu Word64 x)) Kept
      (λ t. unsigned_rest64 x r) (λ t. tt)

  signed_quot32 : (x : Division) → IsDivision ws vs Word32 x → ¬ IsPowerOfTwo x.divisor → (o : Option ℕ) → signed_amount x.divisor ≡ o
      → IsRight arrays ws vs 32 (op2_result Divs32 (value_at vs x.left) x.divisor) (signed32 x o)
  signed_quot32 x r odd None e = tt
  signed_quot32 x r odd (Some s) e =
      let n = value_at vs x.left in
      let d = x.divisor in
      let f = signed_amounts_serve d r.some r.half odd in
      let same : s ≡ f.0 = same_Some s f.0 (sym e ∙ f.1) in
      let ls : s < 64 = omega (arith, same, f.5) in
      let d_some : 0 < d = omega (arith, r.some) in
      let z = op2_result Divs32 n d in
      let m = x.next in
      let is = signed_quotients_are_made d s n r.some r.half odd r.left.below e in
      let list : List Instr = One S32to64 x.left ∷ Const 64 (reciprocal d s) ∷ Two Mul64 m (m + 1) ∷ Const 64 s ∷ Two Shrs64 (m + 2) (m + 3) ∷ One Cut64to32 (m + 4)
      ∷ Const 32 31 ∷ Two Shrs32 x.left (m + 6) ∷ Two Sub32 (m + 5) (m + 7) ∷ [] in
      steps_right arrays ws vs 32 z list r.long (made.signed_steps arrays ws vs x s r (reciprocals_fit_words d s d_some ls) ls z is)

  no_power_law : (w : Word) (x : Division) → IsDivision ws vs w x → ¬ IsPowerOfTwo x.divisor → IsRight arrays ws vs (bits w) (op2_result (operation Divs w) (value_at vs x.left) x.divisor) (no_power_quotient w x)
  no_power_law Word32 x r odd = signed_quot32 x r odd (signed_amount x.divisor) refl
  no_power_law Word64 x r odd = tt

  no_power_rest_law : (w : Word) (x : Division) → IsDivision ws vs w x → IsRight arrays ws vs (bits w) (op2_result (operation Rems w) (value_at vs x.left) x.divisor) (no_power_remainder w x)
  no_power_rest_law Word32 x r = signed_rest32 x r
  no_power_rest_law Word64 x r = tt

  power_divs32 : (x : Division) (k : ℕ) → IsDivision ws vs Word32 x → 0 < k → k < 31 → x.divisor ≡ 2 ^ k → AreRight arrays ws vs (power_quotient Word32 x k) 32 (op2_result Divs32 (value_at vs x.left) x.divisor)
  power_divs32 x k r low high e =
      let n = value_at vs x.left in
      let z = op2_result Divs32 n x.divisor in
      let is : op2_result Shrs32 (biased32 n k) k ≡ z = divs32 n k r.left.below low high ∙ ap (op2_result Divs32 n) (sym e) in
      let one_list : List Instr = (Const 32 31 ∷ Two Shru32 x.left x.next ∷ Two Add32 x.left (x.next + 1) ∷ Const 32 1 ∷ Two Shrs32 (x.next + 2) (x.next + 3) ∷ []) in
      let more_list : List Instr = (Const 32 31 ∷ Two Shrs32 x.left x.next ∷ Const 32 (32 - k) ∷ Two Shru32 (x.next + 1) (x.next + 2) ∷ Two Add32 x.left (x.next + 3) ∷ Const 32 k ∷ Two Shrs32 (x.next + 4) (x.next + 5) ∷ []) in
      cond_both (eqb k 1) one_list more_list (λ (t : List Instr). AreRight arrays ws vs t 32 z)
      (λ t. let one : k ≡ 1 = eqb-true k 1 t in
      let pick : cond (eqb k 1) n (op2_result Shrs32 n 31) ≡ n = cond-true (eqb k 1) n (op2_result Shrs32 n 31) t in
      let same : op2_result Shrs32 (op2_result Add32 n (op2_result Shru32 n (32 - 1))) 1 ≡ z = (λ i. op2_result Shrs32 (op2_result Add32 n (op2_result Shru32 (sym pick i) (32 - (sym one i)))) (sym one i)) ∙ is in
      steps_right arrays ws vs 32 z one_list r.long (made.quotient_two32 arrays ws vs x r z same))
      (λ t. let other : ¬ (k ≡ 1) = λ q. eqb-false k 1 t q in
      let many : 1 < k = omega (arith, other) in
      let pick : cond (eqb k 1) n (op2_result Shrs32 n 31) ≡ op2_result Shrs32 n 31 = cond-false (eqb k 1) n (op2_result Shrs32 n 31) t in
      let same : op2_result Shrs32 (op2_result Add32 n (op2_result Shru32 (op2_result Shrs32 n 31) (32 - k))) k ≡ z = (λ i. op2_result Shrs32 (op2_result Add32 n (op2_result Shru32 (sym pick i) (32 - k))) k) ∙ is in
      steps_right arrays ws vs 32 z more_list r.long (made.quotient_power32 arrays ws vs x r k many (omega arith) z same))

  power_rems32 : (x : Division) (k : ℕ) → IsDivision ws vs Word32 x → 0 < k → k < 31 → x.divisor ≡ 2 ^ k → AreRight arrays ws vs (power_remainder Word32 x k) 32 (op2_result Rems32 (value_at vs x.left) x.divisor)
  power_rems32 x k r low high e =
      let n = value_at vs x.left in
      let z = op2_result Rems32 n x.divisor in
      let is : op2_result Sub32 n (op2_result And32 (biased32 n k) (2 ^ 32 - 2 ^ k)) ≡ z = rems32 n k r.left.below low high ∙ ap (op2_result Rems32 n) (sym e) in
      let one_list : List Instr = (Const 32 31 ∷ Two Shru32 x.left x.next ∷ Two Add32 x.left (x.next + 1) ∷ Const 32 (2 ^ 32 - 2) ∷ Two And32 (x.next + 2) (x.next + 3) ∷ Two Sub32 x.left (x.next + 4) ∷ []) in
      let more_list : List Instr = (Const 32 31 ∷ Two Shrs32 x.left x.next ∷ Const 32 (32 - k) ∷ Two Shru32 (x.next + 1) (x.next + 2) ∷ Two Add32 x.left (x.next + 3) ∷ Const 32 (2 ^ 32 - x.divisor) ∷ Two And32 (x.next + 4) (x.next + 5) ∷ Two Sub32 x.left (x.next + 6) ∷ []) in
      cond_both (eqb k 1) one_list more_list (λ (t : List Instr). AreRight arrays ws vs t 32 z)
      (λ t. let one : k ≡ 1 = eqb-true k 1 t in
      let pick : cond (eqb k 1) n (op2_result Shrs32 n 31) ≡ n = cond-true (eqb k 1) n (op2_result Shrs32 n 31) t in
      let same : op2_result Sub32 n (op2_result And32 (op2_result Add32 n (op2_result Shru32 n (32 - 1))) (2 ^ 32 - 2 ^ 1)) ≡ z = (λ i. op2_result Sub32 n (op2_result And32 (op2_result Add32 n (op2_result Shru32 (sym pick i) (32 - (sym one i)))) (2 ^ 32 - 2 ^ (sym one i)))) ∙ is in
      steps_right arrays ws vs 32 z one_list r.long (made.rest_two32 arrays ws vs x r z same))
      (λ t. let other : ¬ (k ≡ 1) = λ q. eqb-false k 1 t q in
      let many : 1 < k = omega (arith, other) in
      let pick : cond (eqb k 1) n (op2_result Shrs32 n 31) ≡ op2_result Shrs32 n 31 = cond-false (eqb k 1) n (op2_result Shrs32 n 31) t in
      let same : op2_result Sub32 n (op2_result And32 (op2_result Add32 n (op2_result Shru32 (op2_result Shrs32 n 31) (32 - k))) (2 ^ 32 - x.divisor)) ≡ z = (λ i. op2_result Sub32 n (op2_result And32 (op2_result Add32 n (op2_result Shru32 (sym pick i) (32 - k))) (2 ^ 32 - e i))) ∙ is in
      steps_right arrays ws vs 32 z more_list r.long (made.rest_power32 arrays ws vs x r k many (omega arith) z same))

  power_divs64 : (x : Division) (k : ℕ) → IsDivision ws vs Word64 x → 0 < k → k < 63 → x.divisor ≡ 2 ^ k → AreRight arrays ws vs (power_quotient Word64 x k) 64 (op2_result Divs64 (value_at vs x.left) x.divisor)
  power_divs64 x k r low high e =
      let n = value_at vs x.left in
      let z = op2_result Divs64 n x.divisor in
      let is : op2_result Shrs64 (biased64 n k) k ≡ z = divs64 n k r.left.below low high ∙ ap (op2_result Divs64 n) (sym e) in
      let one_list : List Instr = (Const 64 63 ∷ Two Shru64 x.left x.next ∷ Two Add64 x.left (x.next + 1) ∷ Const 64 1 ∷ Two Shrs64 (x.next + 2) (x.next + 3) ∷ []) in
      let more_list : List Instr = (Const 64 63 ∷ Two Shrs64 x.left x.next ∷ Const 64 (64 - k) ∷ Two Shru64 (x.next + 1) (x.next + 2) ∷ Two Add64 x.left (x.next + 3) ∷ Const 64 k ∷ Two Shrs64 (x.next + 4) (x.next + 5) ∷ []) in
      cond_both (eqb k 1) one_list more_list (λ (t : List Instr). AreRight arrays ws vs t 64 z)
      (λ t. let one : k ≡ 1 = eqb-true k 1 t in
      let pick : cond (eqb k 1) n (op2_result Shrs64 n 63) ≡ n = cond-true (eqb k 1) n (op2_result Shrs64 n 63) t in
      let same : op2_result Shrs64 (op2_result Add64 n (op2_result Shru64 n (64 - 1))) 1 ≡ z = (λ i. op2_result Shrs64 (op2_result Add64 n (op2_result Shru64 (sym pick i) (64 - (sym one i)))) (sym one i)) ∙ is in
      steps_right arrays ws vs 64 z one_list r.long (made.quotient_two64 arrays ws vs x r z same))
      (λ t. let other : ¬ (k ≡ 1) = λ q. eqb-false k 1 t q in
      let many : 1 < k = omega (arith, other) in
      let pick : cond (eqb k 1) n (op2_result Shrs64 n 63) ≡ op2_result Shrs64 n 63 = cond-false (eqb k 1) n (op2_result Shrs64 n 63) t in
      let same : op2_result Shrs64 (op2_result Add64 n (op2_result Shru64 (op2_result Shrs64 n 63) (64 - k))) k ≡ z = (λ i. op2_result Shrs64 (op2_result Add64 n (op2_result Shru64 (sym pick i) (64 - k))) k) ∙ is in
      steps_right arrays ws vs 64 z more_list r.long (made.quotient_power64 arrays ws vs x r k many (omega arith) z same))

  power_rems64 : (x : Division) (k : ℕ) → IsDivision ws vs Word64 x → 0 < k → k < 63 → x.divisor ≡ 2 ^ k → AreRight arrays ws vs (power_remainder Word64 x k) 64 (op2_result Rems64 (value_at vs x.left) x.divisor)
  power_rems64 x k r low high e =
      let n = value_at vs x.left in
      let z = op2_result Rems64 n x.divisor in
      let is : op2_result Sub64 n (op2_result And64 (biased64 n k) (2 ^ 64 - 2 ^ k)) ≡ z = rems64 n k r.left.below low high ∙ ap (op2_result Rems64 n) (sym e) in
      let one_list : List Instr = (Const 64 63 ∷ Two Shru64 x.left x.next ∷ Two Add64 x.left (x.next + 1) ∷ Const 64 (2 ^ 64 - 2) ∷ Two And64 (x.next + 2) (x.next + 3) ∷ Two Sub64 x.left (x.next + 4) ∷ []) in
      let more_list : List Instr = (Const 64 63 ∷ Two Shrs64 x.left x.next ∷ Const 64 (64 - k) ∷ Two Shru64 (x.next + 1) (x.next + 2) ∷ Two Add64 x.left (x.next + 3) ∷ Const 64 (2 ^ 64 - x.divisor) ∷ Two And64 (x.next + 4) (x.next + 5) ∷ Two Sub64 x.left (x.next + 6) ∷ []) in
      cond_both (eqb k 1) one_list more_list (λ (t : List Instr). AreRight arrays ws vs t 64 z)
      (λ t. let one : k ≡ 1 = eqb-true k 1 t in
      let pick : cond (eqb k 1) n (op2_result Shrs64 n 63) ≡ n = cond-true (eqb k 1) n (op2_result Shrs64 n 63) t in
      let same : op2_result Sub64 n (op2_result And64 (op2_result Add64 n (op2_result Shru64 n (64 - 1))) (2 ^ 64 - 2 ^ 1)) ≡ z = (λ i. op2_result Sub64 n (op2_result And64 (op2_result Add64 n (op2_result Shru64 (sym pick i) (64 - (sym one i)))) (2 ^ 64 - 2 ^ (sym one i)))) ∙ is in
      steps_right arrays ws vs 64 z one_list r.long (made.rest_two64 arrays ws vs x r z same))
      (λ t. let other : ¬ (k ≡ 1) = λ q. eqb-false k 1 t q in
      let many : 1 < k = omega (arith, other) in
      let pick : cond (eqb k 1) n (op2_result Shrs64 n 63) ≡ op2_result Shrs64 n 63 = cond-false (eqb k 1) n (op2_result Shrs64 n 63) t in
      let same : op2_result Sub64 n (op2_result And64 (op2_result Add64 n (op2_result Shru64 (op2_result Shrs64 n 63) (64 - k))) (2 ^ 64 - x.divisor)) ≡ z = (λ i. op2_result Sub64 n (op2_result And64 (op2_result Add64 n (op2_result Shru64 (sym pick i) (64 - k))) (2 ^ 64 - e i))) ∙ is in
      steps_right arrays ws vs 64 z more_list r.long (made.rest_power64 arrays ws vs x r k many (omega arith) z same))

  power_law : (w : Word) (x : Division) (k : ℕ) → IsDivision ws vs w x → 0 < k → k < bits w - 1 → x.divisor ≡ 2 ^ k
      → AreRight arrays ws vs (power_quotient w x k) (bits w) (op2_result (operation Divs w) (value_at vs x.left) x.divisor)
  power_law Word32 x k r low high e = power_divs32 x k r low high e
  power_law Word64 x k r low high e = power_divs64 x k r low high e

  power_rest_law : (w : Word) (x : Division) (k : ℕ) → IsDivision ws vs w x → 0 < k → k < bits w - 1 → x.divisor ≡ 2 ^ k
      → AreRight arrays ws vs (power_remainder w x k) (bits w) (op2_result (operation Rems w) (value_at vs x.left) x.divisor)
  power_rest_law Word32 x k r low high e = power_rems32 x k r low high e
  power_rest_law Word64 x k r low high e = power_rems64 x k r low high e

  large_law : (w : Word) (x : Division) → IsDivision ws vs w x → (o : Option ℕ) → exponent_of x.divisor ≡ o
      → IsRight arrays ws vs (bits w) (op2_result (operation Divs w) (value_at vs x.left) x.divisor) (large_quotient w x o)
  large_law w x r None e = no_power_law w x r (no_power w x.divisor r.some r.half e)
  large_law w x r (Some k) e = let p = exponent_law x.divisor k e in power_law w x k r p.some (places_below w x.divisor k e r.half) p.is

  large_rest_law : (w : Word) (x : Division) → IsDivision ws vs w x → (o : Option ℕ) → exponent_of x.divisor ≡ o
      → IsRight arrays ws vs (bits w) (op2_result (operation Rems w) (value_at vs x.left) x.divisor) (large_remainder w x o)
  large_rest_law w x r None e = no_power_rest_law w x r
  large_rest_law w x r (Some k) e = let p = exponent_law x.divisor k e in power_rest_law w x k r p.some (places_below w x.divisor k e r.half) p.is

  same_quotient : (w : Word) (n d : ℕ) → n < 2 ^ (bits w - 1) → d < 2 ^ (bits w - 1) → op2_result (operation Divs w) n d ≡ op2_result (operation Divu w) n d
  same_quotient Word32 n d h g = same_divs32 n d h g
  same_quotient Word64 n d h g = same_divs64 n d h g

  same_remainder : (w : Word) (n d : ℕ) → n < 2 ^ (bits w - 1) → d < 2 ^ (bits w - 1) → op2_result (operation Rems w) n d ≡ op2_result (operation Remu w) n d
  same_remainder Word32 n d h g = same_rems32 n d h g
  same_remainder Word64 n d h g = same_rems64 n d h g

  -- the unsigned operation, where it gives the same
  plain : (k : Kind) (w : Word) (x : Division) (z : ℕ) → IsDivision ws vs w x → width_out k (bits w) ≡ bits w → z ≡ op2_result (operation k w) (value_at vs x.left) x.divisor
      → AreRight arrays ws vs (Two (operation k w) x.left x.right ∷ []) (bits w) z
  plain k w x z r wide e =
      let n = value_at vs x.left in
      let less : value_at vs x.right < 2 ^ bits w = subst (λ (v : ℕ). v < 2 ^ bits w) (sym r.is) (half_below w x.divisor r.half) in
      let is : kind_on k (bits w) n (value_at vs x.right) ≡ z = sym (operation-below k w n (value_at vs x.right) r.left.below less) ∙ on_divisor k w x r ∙ sym e in
      let s = two_step arrays ws vs k w x.left x.right z r.left.width r.right r.left.below less is in
      subst (λ (u : ℕ). AreRight arrays ws vs (Two (operation k w) x.left x.right ∷ []) u z) wide
      (change_right arrays ws vs (width_out k (bits w)) z (Becomes (Two (operation k w) x.left x.right)) r.long s)

  signed_law : (w : Word) (x : Division) → IsDivision ws vs w x → IsRight arrays ws vs (bits w) (op2_result (operation Divs w) (value_at vs x.left) x.divisor) (signed_quotient w x)
  unfolding signed_quotient
  signed_law w x r =
      let z = op2_result (operation Divs w) (value_at vs x.left) x.divisor in
      given (bits w) z (nat_lt x.top (2 ^ (bits w - 1))) (Steps (Two (operation Divu w) x.left x.right ∷ [])) (large_quotient w x (exponent_of x.divisor))
      (λ t. let low : value_at vs x.left < 2 ^ (bits w - 1) = omega (arith, ltb-true x.top (2 ^ (bits w - 1)) t, r.most) in
      plain Divu w x z r refl (same_quotient w (value_at vs x.left) x.divisor low r.half))
      (λ t. large_law w x r (exponent_of x.divisor) refl)

  signed_rest_law : (w : Word) (x : Division) → IsDivision ws vs w x → IsRight arrays ws vs (bits w) (op2_result (operation Rems w) (value_at vs x.left) x.divisor) (signed_remainder w x)
  unfolding signed_remainder
  signed_rest_law w x r =
      let z = op2_result (operation Rems w) (value_at vs x.left) x.divisor in
      given (bits w) z (nat_lt x.top (2 ^ (bits w - 1))) (Steps (Two (operation Remu w) x.left x.right ∷ [])) (large_remainder w x (exponent_of x.divisor))
      (λ t. let low : value_at vs x.left < 2 ^ (bits w - 1) = omega (arith, ltb-true x.top (2 ^ (bits w - 1)) t, r.most) in
      plain Remu w x z r refl (same_remainder w (value_at vs x.left) x.divisor low r.half))
      (λ t. large_rest_law w x r (exponent_of x.divisor) refl)

  pub divided_law : (k : Kind) (w : Word) (x : Division) → IsDivision ws vs w x → IsRight arrays ws vs (width_out k (bits w)) (op2_result (operation k w) (value_at vs x.left) x.divisor) (divided k w x)
  unfolding divided
  divided_law Add w x r = tt
  divided_law Sub w x r = tt
  divided_law Mul w x r = tt
  divided_law And w x r = tt
  divided_law Or w x r = tt
  divided_law Xor w x r = tt
  divided_law Shl w x r = tt
  divided_law Shru w x r = tt
  divided_law Shrs w x r = tt
  divided_law Divu w x r = unsigned_law w x r
  divided_law Remu w x r = unsigned_rest_law w x r
  divided_law Divs w x r = signed_law w x r
  divided_law Rems w x r = signed_rest_law w x r
  divided_law Eq w x r = tt
  divided_law Ne w x r = tt
  divided_law Ltu w x r = tt
  divided_law Leu w x r = tt
  divided_law Lts w x r = tt
  divided_law Les w x r = tt
