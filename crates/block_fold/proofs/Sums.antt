-- Two addresses with one base and different constants have different values.
use Rattle.std.proofs.Common.{◌≡◌, ℕ, ◌+◌, ◌-◌, ◌*◌, ◌^◌, ◌%◌, ◌<◌, List, Option, Some, None, refl, sym, ◌∙◌, ap, subst, arith, inl, inr}
use Rattle.std.specs.Prelude.{slice_get, ◌==◌, not, Bool, true, false, if◌then◌else◌, pos, ◌+ℤ◌}
use Rattle.std.proofs.lemmas.Bool.{cases_lt, lt-ltb, le-ltb, and_parts, eqb-true, eqb-false, not-true}
use Rattle.el_base.specs.declared.ty.Array.{Array}
use Rattle.el_base.specs.declared.operation.Op2.{Op2}
use Rattle.el_base.specs.declared.operation.Op2.TheVariants.{Add64}
use Rattle.word_ops.specs.Operations.{op2_result, op2_on}
use Rattle.word_ops.proofs.Residues.{residue_away}
use borrow.Author.Differences.{same_in, same_out, sum_is_lem}
use Rattle.ir.specs.declared.instr.Instr.{Instr}
use Rattle.ir.specs.declared.instr.Instr.TheVariants.{Const, One, Two, Select, Load, Store}
use Rattle.ir.specs.Steps.{value_at}
use Rattle.ir.specs.Shapes.{Shape, IsOfWidth}
use Rattle.block_pass.proofs.Values.{fit_at}
use Rattle.block_rules.specs.Known.{AreValues}
use Rattle.block_rules.specs.Reading.{step_at, constant_of, const_at}
use Rattle.block_fold.specs.declared.known.Sum.{Sum}
use Rattle.block_fold.specs.Addresses.{alone, sum_with, is_sum, sum_of_step, sum_at, same_base, differ}
use Rattle.block_fold.proofs.Equal.{op2_same}

-- ---- the step of a value

pub record IsStepAt (n : ℕ) (steps : List Instr) (v : ℕ) (i : Instr) : Type 0 where
  pub place : ℕ
  pub number : n + place ≡ v
  pub is_step : slice_get steps place ≡ Some i

pub step_found : (n : ℕ) (steps : List Instr) (v : ℕ) (i : Instr) → step_at n steps v ≡ Some i → IsStepAt n steps v i
step_found n steps v i h = elim (cases_lt v n) [
  | inl lt ↦
      let none : step_at n steps v ≡ None = ap (λ (b : Bool). if b then None else slice_get steps (v - n)) (lt-ltb v n lt) in
      absurd (cc)
  | inr ge ↦
      let some : step_at n steps v ≡ slice_get steps (v - n) = ap (λ (b : Bool). if b then None else slice_get steps (v - n)) (le-ltb v n ge) in
      record { place = v - n; number = omega arith; is_step = sym some ∙ h }
]

pub constant_is : (o : Option Instr) (c : ℕ) → constant_of o ≡ Some c → (w : ℕ) × (o ≡ Some (Const w c))
constant_is None c h = absurd (cc)
constant_is (Some (Const w x)) c h = let e : x ≡ c = cc in (w, ap (λ y. Some (Const w y)) e)
constant_is (Some (One op a)) c h = absurd (cc)
constant_is (Some (Two op a b)) c h = absurd (cc)
constant_is (Some (Select w x a b)) c h = absurd (cc)
constant_is (Some (Load a p)) c h = absurd (cc)
constant_is (Some (Store a p v)) c h = absurd (cc)

constant_step : (n : ℕ) (steps : List Instr) (v w c : ℕ) → step_at n steps v ≡ Some (Const w c) → const_at n steps v ≡ Some c
unfolding const_at
constant_step n steps v w c h = ap constant_of h

module _ (xs : List Array) (n : ℕ) (steps : List Instr) (ws : Shape) (vs : List ℕ) (known : AreValues xs n steps ws vs) where
  pub constant_value : (v c : ℕ) → const_at n steps v ≡ Some c → value_at vs v ≡ c
  unfolding const_at
  constant_value v c h =
      let k = constant_is (step_at n steps v) c h in
      let at = step_found n steps v (Const k.0 c) k.1 in
      ap (value_at vs) (sym at.number) ∙ known.each at.place (Const k.0 c) at.is_step tt

  constant_step_below : (v w c : ℕ) → step_at n steps v ≡ Some (Const w c) → IsOfWidth ws v 64 → c < 2 ^ 64
  constant_step_below v w c h wide =
      let at = step_found n steps v (Const w c) h in
      let x = known.widths at.place (Const w c) at.is_step in
      let y : slice_get ws v ≡ Some (Some w) = subst (λ m. slice_get ws m ≡ Some (Some w)) at.number x in
      let e : w ≡ 64 = cc in
      subst (λ z. c < 2 ^ z) e (known.fits at.place (Const w c) at.is_step).1

  constant_below : (v c : ℕ) → const_at n steps v ≡ Some c → IsOfWidth ws v 64 → c < 2 ^ 64
  unfolding const_at
  constant_below v c h wide = let k = constant_is (step_at n steps v) c h in constant_step_below v k.0 c k.1 wide

-- ---- sums

abbrev base_value : List ℕ → Option ℕ → ℕ
base_value vs None = 0
base_value vs (Some x) = value_at vs x

-- the value is the sum modulo 2 ^ 64
record IsSum (vs : List ℕ) (v : ℕ) (t : Sum) : Type 0 where
  below : t.constant < 2 ^ 64
  less : ℕ
  more : ℕ
  wraps : value_at vs v + less * 2 ^ 64 ≡ (base_value vs t.base + t.constant) + more * 2 ^ 64

sum_wraps : (a b : ℕ) → a < 2 ^ 64 → b < 2 ^ 64 → (j : ℕ) × (k : ℕ) × (op2_result Add64 a b + j * 2 ^ 64 ≡ (a + b) + k * 2 ^ 64)
unfolding op2_result op2_on
sum_wraps a b low_a low_b =
    let r = residue_away 64 (pos (a % 2 ^ 64) +ℤ pos (b % 2 ^ 64)) in
    (r.0, r.1, omega (arith, same_in, same_out, sum_is_lem, r.2))

alone_is : (vs : List ℕ) (v : ℕ) → IsSum vs v (alone v)
alone_is vs v = record { below = omega arith; less = 0; more = 0; wraps = omega arith }

module _ (xs : List Array) (n : ℕ) (steps : List Instr) (ws : Shape) (vs : List ℕ) (known : AreValues xs n steps ws vs) where
  sum_with_is : (v x y : ℕ) → IsOfWidth ws x 64 → IsOfWidth ws y 64 → value_at vs v ≡ op2_result Add64 (value_at vs x) (value_at vs y)
      → (o : Option ℕ) → const_at n steps y ≡ o → IsSum vs v (sum_with v x o)
  sum_with_is v x y wide_x wide_y value None e = alone_is vs v
  sum_with_is v x y wide_x wide_y value (Some c) e =
      let low_x = fit_at ws vs x 64 known.fit wide_x in
      let low_y = fit_at ws vs y 64 known.fit wide_y in
      let is_c = constant_value xs n steps ws vs known y c e in
      let r = sum_wraps (value_at vs x) (value_at vs y) low_x low_y in
      record {
        below = constant_below xs n steps ws vs known y c e wide_y;
        less = r.0;
        more = r.1;
        wraps = ap (λ z. z + r.0 * 2 ^ 64) value ∙ r.2 ∙ ap (λ z. (value_at vs x + z) + r.1 * 2 ^ 64) is_c;
      }

  step_is : (v : ℕ) → IsOfWidth ws v 64 → (o : Option Instr) → step_at n steps v ≡ o → IsSum vs v (sum_of_step n steps v o)
  step_is v wide None e = alone_is vs v
  step_is v wide (Some (Const w c)) e =
      let is_c = constant_value xs n steps ws vs known v c (constant_step n steps v w c e) in
      record { below = constant_step_below xs n steps ws vs known v w c e wide; less = 0; more = 0; wraps = omega (arith, is_c) }
  step_is v wide (Some (One op x)) e = alone_is vs v
  step_is v wide (Some (Two op x y)) e = by (is_sum op) refl
    where
      by : (t : Bool) → is_sum op ≡ t → IsSum vs v (if t then sum_with v x (const_at n steps y) else alone v)
      by false h = alone_is vs v
      by true h =
          let same : op ≡ Add64 = op2_same op Add64 h in
          let f : step_at n steps v ≡ Some (Two Add64 x y) = e ∙ ap (λ (o : Op2). Some (Two o x y)) same in
          let at = step_found n steps v (Two Add64 x y) f in
          let fits = known.fits at.place (Two Add64 x y) at.is_step in
          let value = ap (value_at vs) (sym at.number) ∙ known.each at.place (Two Add64 x y) at.is_step tt in
          sum_with_is v x y fits.0 fits.1 value (const_at n steps y) refl
  step_is v wide (Some (Select w c x y)) e = alone_is vs v
  step_is v wide (Some (Load a p)) e = alone_is vs v
  step_is v wide (Some (Store a p x)) e = alone_is vs v

  same_base_is : (x y : Option ℕ) → same_base x y ≡ true → x ≡ y
  same_base_is None None h = refl
  same_base_is (Some x) (Some y) h = ap Some (eqb-true x y h)
  same_base_is None (Some y) h = absurd (cc)
  same_base_is (Some x) None h = absurd (cc)

  apart : (b c d v u j k l m : ℕ) → c < 2 ^ 64 → d < 2 ^ 64 → v + j * 2 ^ 64 ≡ (b + c) + k * 2 ^ 64 → u + l * 2 ^ 64 ≡ (b + d) + m * 2 ^ 64 → v ≡ u → c ≡ d
  apart b c d v u j k l m low_c low_d e f same = omega arith

  pub differ_apart : (p q : ℕ) → IsOfWidth ws p 64 → IsOfWidth ws q 64 → differ n steps p q ≡ true → value_at vs p ≡ value_at vs q → ⊥
  differ_apart p q wide_p wide_q h same =
      let s = sum_at n steps p in
      let t = sum_at n steps q in
      let both = and_parts (same_base s.base t.base) (not (s.constant == t.constant)) h in
      let base : s.base ≡ t.base = same_base_is s.base t.base both.0 in
      let is_p = step_is p wide_p (step_at n steps p) refl in
      let is_q = step_is q wide_q (step_at n steps q) refl in
      let e : value_at vs q + is_q.less * 2 ^ 64 ≡ (base_value vs s.base + t.constant) + is_q.more * 2 ^ 64 =
      is_q.wraps ∙ ap (λ o. (base_value vs o + t.constant) + is_q.more * 2 ^ 64) (sym base) in
      eqb-false s.constant t.constant (not-true (s.constant == t.constant) both.1)
      (apart (base_value vs s.base) s.constant t.constant (value_at vs p) (value_at vs q) is_p.less is_p.more is_q.less is_q.more is_p.below is_q.below is_p.wraps e same)
