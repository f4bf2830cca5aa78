-- What an operation on one value becomes has its value.
use Rattle.std.proofs.Common.{◌≡◌, ℕ, Bool, true, List, Option, Some, None, refl, sym, ◌∙◌, ap, subst, eqb, ltb, leb}
use Rattle.std.specs.Prelude.{not, ◌&&◌, int_lt, int_le}
use Rattle.std.specs.Int.{from_bool}
use Rattle.std.proofs.lemmas.Bool.{and_parts}
use Rattle.std.proofs.Math.Bool.{not-not}
use Rattle.el_base.specs.declared.ty.Array.{Array}
use Rattle.el_base.specs.declared.operation.Op1.{Op1}
use Rattle.el_base.specs.Numbers.{signed_number}
use Rattle.el_base.specs.Widths.{op1_in, op1_out, op2_in}
use Rattle.word_ops.specs.Operations.{op1_result}
use Rattle.word_ops.proofs.Below.{below_width1}
use Rattle.ir.specs.declared.instr.Instr.{Instr}
use Rattle.ir.specs.declared.instr.Instr.TheVariants.{Const, One, Two, Select, Load, Store}
use Rattle.block_rules.specs.declared.change.Change.TheVariants.{Stays, Is}
use Rattle.block_rules.specs.declared.kind.Kind.{Kind}
use Rattle.block_rules.specs.declared.kind.Kind.TheVariants.{Add, Sub, Mul, And, Or, Xor, Shl, Shru, Shrs, Divu, Remu, Divs, Rems, Eq, Ne, Ltu, Leu, Lts, Les}
use Rattle.block_rules.specs.declared.kind.Word.{Word}
use Rattle.ir.specs.Shapes.{Shape, IsOfWidth}
use Rattle.ir.specs.Steps.{value_at}
use Rattle.block_rules.specs.Known.{AreValues}
use Rattle.block_rules.specs.Kinds.{bits, word_of, kind_of, is_zero}
use Rattle.block_rules.specs.Reading.{step_at, const_at, is_test}
use Rattle.block_rules.specs.OneRules.{zero_of_kind, zero_of_step, of_one, one_change}
use Rattle.block_rules.proofs.Operations.{kind_on, op1-width, zero-out, zero-bit, result-below}
use Rattle.block_rules.proofs.Identities.{not-ltb, not-leb, not-int_lt, not-int_le}
use Rattle.block_rules.proofs.Facts.{below, made, constant, test}
use Rattle.block_rules.proofs.Changed.{IsChange, two_step}
use Rattle.block_rules.proofs.TwoLaws.{IsOperand, operand, given, number}

turned : (op : Op1) → is_zero op ≡ true → (b c : Bool) → not b ≡ c → from_bool c ≡ op1_result op (from_bool b)
turned op h b c e = ap from_bool (sym e) ∙ sym (zero-bit op h b)

module _ (arrays : List Array) (ws : Shape) (vs : List ℕ) (op : Op1) (h : is_zero op ≡ true) (w : Word) (a b : ℕ) (left : IsOperand ws vs w a) (right : IsOperand ws vs w b) where
  kind_law : (k : Kind) → IsChange arrays ws vs 32 (op1_result op (kind_on k (bits w) (value_at vs a) (value_at vs b))) (zero_of_kind k w a b)
  unfolding zero_of_kind
  kind_law Add = tt
  kind_law Sub = tt
  kind_law Mul = tt
  kind_law And = tt
  kind_law Or = tt
  kind_law Xor = tt
  kind_law Shl = tt
  kind_law Shru = tt
  kind_law Shrs = tt
  kind_law Divu = tt
  kind_law Remu = tt
  kind_law Divs = tt
  kind_law Rems = tt
  kind_law Eq =
      two_step arrays ws vs Ne w a b (op1_result op (kind_on Eq (bits w) (value_at vs a) (value_at vs b))) left.width right.width left.below right.below (turned op h (eqb (value_at vs a) (value_at vs b)) (not (eqb (value_at vs a) (value_at vs b))) refl)
  kind_law Ne =
      two_step arrays ws vs Eq w a b (op1_result op (kind_on Ne (bits w) (value_at vs a) (value_at vs b))) left.width right.width left.below right.below (turned op h (not (eqb (value_at vs a) (value_at vs b))) (eqb (value_at vs a) (value_at vs b)) (not-not (eqb (value_at vs a) (value_at vs b))))
  kind_law Ltu =
      two_step arrays ws vs Leu w b a (op1_result op (kind_on Ltu (bits w) (value_at vs a) (value_at vs b))) right.width left.width right.below left.below (turned op h (ltb (value_at vs a) (value_at vs b)) (leb (value_at vs b) (value_at vs a)) (not-ltb (value_at vs a) (value_at vs b)))
  kind_law Leu =
      two_step arrays ws vs Ltu w b a (op1_result op (kind_on Leu (bits w) (value_at vs a) (value_at vs b))) right.width left.width right.below left.below (turned op h (leb (value_at vs a) (value_at vs b)) (ltb (value_at vs b) (value_at vs a)) (not-leb (value_at vs a) (value_at vs b)))
  kind_law Lts =
      two_step arrays ws vs Les w b a (op1_result op (kind_on Lts (bits w) (value_at vs a) (value_at vs b))) right.width left.width right.below left.below (turned op h (int_lt (signed_number (bits w) (value_at vs a)) (signed_number (bits w) (value_at vs b))) (int_le (signed_number (bits w) (value_at vs b)) (signed_number (bits w) (value_at vs a))) (not-int_lt (signed_number (bits w) (value_at vs a)) (signed_number (bits w) (value_at vs b))))
  kind_law Les =
      two_step arrays ws vs Lts w b a (op1_result op (kind_on Les (bits w) (value_at vs a) (value_at vs b))) right.width left.width right.below left.below (turned op h (int_le (signed_number (bits w) (value_at vs a)) (signed_number (bits w) (value_at vs b))) (int_lt (signed_number (bits w) (value_at vs b)) (signed_number (bits w) (value_at vs a))) (not-int_le (signed_number (bits w) (value_at vs a)) (signed_number (bits w) (value_at vs b))))

module _ (arrays : List Array) (n : ℕ) (steps : List Instr) (ws : Shape) (vs : List ℕ) (known : AreValues arrays n steps ws vs) where
  zero_law : (op : Op1) → is_zero op ≡ true → (a : ℕ) (o : Option Instr) → step_at n steps a ≡ o → IsChange arrays ws vs 32 (op1_result op (value_at vs a)) (zero_of_step n steps o)
  zero_law op h a None e = tt
  zero_law op h a (Some (Const w c)) e = tt
  zero_law op h a (Some (One p x)) e =
      given arrays ws vs 32 (op1_result op (value_at vs a)) (is_zero p && is_test n steps x) (Is x) Stays
      (λ g. let q = and_parts (is_zero p) (is_test n steps x) g in
      let t = test arrays n steps ws vs known x q.1 in
      let m = made arrays n steps ws vs known a (One p x) e in
      let inner : value_at vs a ≡ from_bool (not t.bit) = m.value tt ∙ ap (op1_result p) t.value ∙ zero-bit p q.0 t.bit in
      (t.width, t.value ∙ ap from_bool (sym (not-not t.bit)) ∙ sym (zero-bit op h (not t.bit)) ∙ ap (op1_result op) (sym inner)))
      (λ g. tt)
  zero_law op h a (Some (Two p x y)) e =
      let m = made arrays n steps ws vs known a (Two p x y) e in
      let lx = below arrays n steps ws vs known x (op2_in p) m.fits.0 in
      let ly = below arrays n steps ws vs known y (op2_in p) m.fits.1 in
      let w = word_of (op2_in p) in
      let c = zero_of_kind (kind_of p) w x y in
      let inner : value_at vs a ≡ kind_on (kind_of p) (bits w) (value_at vs x) (value_at vs y) = m.value tt ∙ result-below p (value_at vs x) (value_at vs y) lx ly in
      subst (λ (v : ℕ). IsChange arrays ws vs 32 (op1_result op v) c) (sym inner)
      (kind_law arrays ws vs op h w x y (operand arrays ws vs p x m.fits.0 lx) (operand arrays ws vs p y m.fits.1 ly) (kind_of p))
  zero_law op h a (Some (Select w c x y)) e = tt
  zero_law op h a (Some (Load x p)) e = tt
  zero_law op h a (Some (Store x p v)) e = tt

  one_by : (op : Op1) (a : ℕ) → IsOfWidth ws a (op1_in op) → (o : Option ℕ) → const_at n steps a ≡ o → IsChange arrays ws vs (op1_out op) (op1_result op (value_at vs a)) (of_one n steps op a o)
  one_by op a fits (Some x) e =
      let c = constant arrays n steps ws vs known a (op1_in op) x e fits in
      number arrays ws vs (op1_out op) (op1_result op x) (op1_result op (value_at vs a)) (op1-width op) (below_width1 op x) (ap (op1_result op) (sym c.value))
  one_by op a fits None e =
      let z = op1_result op (value_at vs a) in
      let c = zero_of_step n steps (step_at n steps a) in
      given arrays ws vs (op1_out op) z (is_zero op) c Stays
      (λ h. subst (λ (u : ℕ). IsChange arrays ws vs u z c) (sym (zero-out op h)) (zero_law op h a (step_at n steps a) refl)) (λ h. tt)

  pub one_law : (op : Op1) (a : ℕ) → IsOfWidth ws a (op1_in op) → IsChange arrays ws vs (op1_out op) (op1_result op (value_at vs a)) (one_change n steps op a)
  unfolding one_change
  one_law op a fits = one_by op a fits (const_at n steps a) refl
