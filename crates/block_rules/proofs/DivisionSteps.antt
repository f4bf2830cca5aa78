-- What a division by a constant becomes has its value.
use Rattle.std.proofs.Common.{◌≡◌, ℕ, ◌+◌, ◌-◌, ◌^◌, ◌<◌, ◌≤◌, List, [], ◌∷◌, ◌++◌, length, Some, None, refl, arith}
use Rattle.el_base.specs.declared.ty.Array.{Array}
use Rattle.el_base.specs.declared.operation.Op1.TheVariants.{S32to64, U32to64, Cut64to32}
use Rattle.el_base.specs.declared.operation.Op2.TheVariants.{Add32, Add64, Sub32, Sub64, Mul32, Mul64, And32, And64, Shru32, Shru64, Shrs32, Shrs64, Divu32, Divu64, Divs32}
use Rattle.word_ops.specs.Operations.{op1_result, op2_result}
use Rattle.word_rules.specs.Magic.{reciprocal, binary_digits}
use Rattle.word_rules.specs.Quotients.{shifted_product32, shifted_product64, shifted_long_product, shifted_signed_product}
use Rattle.word_rules.proofs.Reciprocals.{reciprocals_fit_words}
use Rattle.ir.specs.declared.instr.Instr.TheVariants.{Const, One, Two}
use Rattle.ir.specs.Shapes.{Shape, IsOfWidth}
use Rattle.ir.specs.Steps.{value_at}
use Rattle.block_rules.specs.declared.division.Division.{Division}
use Rattle.block_rules.specs.declared.kind.Kind.TheVariants.{Divu, Divs}
use Rattle.block_rules.specs.declared.kind.Word.{Word}
use Rattle.block_rules.specs.declared.kind.Word.TheVariants.{Word32, Word64}
use Rattle.block_rules.specs.Kinds.{bits}
use Rattle.block_rules.specs.Divisions.{quotient32, by_quotient}
use Rattle.block_rules.proofs.Operations.{word-width}
use Rattle.block_rules.proofs.TwoLaws.{IsOperand}
use Rattle.block_rules.proofs.Factors.{digits_are_few}
use Rattle.block_rules.proofs.Lists.{AreSteps, old, new, unary, binary, number, with_value}

-- what is known of a division by a constant
pub record IsDivision (ws : Shape) (vs : List ℕ) (w : Word) (x : Division) : Type 0 where
  pub long : length ws ≡ length vs
  pub next : x.next ≡ length ws
  pub left : IsOperand ws vs w x.left
  pub right : IsOfWidth ws x.right (bits w)
  pub is : value_at vs x.right ≡ x.divisor
  pub some : 1 < x.divisor
  pub half : x.divisor < 2 ^ (bits w - 1)
  pub most : value_at vs x.left ≤ x.top
  pub top_below : x.top < 2 ^ bits w

module _ (arrays : List Array) (ws : Shape) (vs : List ℕ) where
  pub short_steps : (x : Division) (s : ℕ) → IsDivision ws vs Word32 x → reciprocal x.divisor s < 2 ^ 64 → s < 64 → (z : ℕ) → shifted_product32 (value_at vs x.left) (reciprocal x.divisor s) s ≡ z → AreSteps arrays ws vs [] [] 32 z (quotient32 x (Some s))
  short_steps x s r lf ls z e =
      let n = value_at vs x.left in
      let m = x.next in
      let f = reciprocal x.divisor s in
      let u0 : Shape = [] in
      let x0 : List ℕ = [] in
      let y0 : ℕ = op1_result U32to64 n in
      let u1 : Shape = Some 64 ∷ [] in
      let x1 : List ℕ = y0 ∷ [] in
      let u2 : Shape = Some 64 ∷ Some 64 ∷ [] in
      let x2 : List ℕ = y0 ∷ f ∷ [] in
      let y2 : ℕ = op2_result Mul64 y0 f in
      let u3 : Shape = Some 64 ∷ Some 64 ∷ Some 64 ∷ [] in
      let x3 : List ℕ = y0 ∷ f ∷ y2 ∷ [] in
      let u4 : Shape = Some 64 ∷ Some 64 ∷ Some 64 ∷ Some 64 ∷ [] in
      let x4 : List ℕ = y0 ∷ f ∷ y2 ∷ s ∷ [] in
      let y4 : ℕ = op2_result Shru64 y2 s in
      let u5 : Shape = Some 64 ∷ Some 64 ∷ Some 64 ∷ Some 64 ∷ Some 64 ∷ [] in
      let x5 : List ℕ = y0 ∷ f ∷ y2 ∷ s ∷ y4 ∷ [] in
      let y5 : ℕ = op1_result Cut64to32 y4 in (
        64,
        y0,
        unary arrays ws vs r.long U32to64 u0 x0 x.left n (old arrays ws vs r.long u0 x0 x.left 32 r.left.width),
        (
          64,
          f,
          number arrays ws vs r.long u1 x1 64 f (word-width Word64) (lf),
          (
            64,
            y2,
            binary arrays ws vs r.long Mul64 u2 x2 m (m + 1) y0 f (new arrays ws vs r.long u2 x2 m 0 64 (omega (arith, r.next)) refl) (new arrays ws vs r.long u2 x2 (m + 1) 1 64 (omega (arith, r.next)) refl),
            (
              64,
              s,
              number arrays ws vs r.long u3 x3 64 s (word-width Word64) (omega arith),
              (
                64,
                y4,
                binary arrays ws vs r.long Shru64 u4 x4 (m + 2) (m + 3) y2 s (new arrays ws vs r.long u4 x4 (m + 2) 2 64 (omega (arith, r.next)) refl) (new arrays ws vs r.long u4 x4 (m + 3) 3 64 (omega (arith, r.next)) refl),
                with_value arrays (ws ++ u5) (vs ++ x5) 32 y5 z (One Cut64to32 (m + 4)) (unary arrays ws vs r.long Cut64to32 u5 x5 (m + 4) y4 (new arrays ws vs r.long u5 x5 (m + 4) 4 64 (omega (arith, r.next)) refl)) e,
              ),
            ),
          ),
        ),
      )

  pub long_steps : (x : Division) → IsDivision ws vs Word32 x → (z : ℕ) → shifted_long_product (value_at vs x.left) (reciprocal x.divisor (32 + binary_digits (x.divisor - 1)) - 2 ^ 32) (binary_digits (x.divisor - 1)) ≡ z → AreSteps arrays ws vs [] [] 32 z (quotient32 x None)
  long_steps x r z e =
      let n = value_at vs x.left in
      let m = x.next in
      let t = binary_digits (x.divisor - 1) in
      let few : t < 32 = digits_are_few x.divisor r.some r.half in
      let d_some : 0 < x.divisor = omega (arith, r.some) in
      let lf : reciprocal x.divisor (32 + t) < 2 ^ 64 = reciprocals_fit_words x.divisor (32 + t) d_some (omega (arith, few)) in
      let f = reciprocal x.divisor (32 + t) - 2 ^ 32 in
      let u0 : Shape = [] in
      let x0 : List ℕ = [] in
      let y0 : ℕ = op1_result U32to64 n in
      let u1 : Shape = Some 64 ∷ [] in
      let x1 : List ℕ = y0 ∷ [] in
      let u2 : Shape = Some 64 ∷ Some 64 ∷ [] in
      let x2 : List ℕ = y0 ∷ f ∷ [] in
      let y2 : ℕ = op2_result Mul64 y0 f in
      let u3 : Shape = Some 64 ∷ Some 64 ∷ Some 64 ∷ [] in
      let x3 : List ℕ = y0 ∷ f ∷ y2 ∷ [] in
      let u4 : Shape = Some 64 ∷ Some 64 ∷ Some 64 ∷ Some 64 ∷ [] in
      let x4 : List ℕ = y0 ∷ f ∷ y2 ∷ 32 ∷ [] in
      let y4 : ℕ = op2_result Shru64 y2 32 in
      let u5 : Shape = Some 64 ∷ Some 64 ∷ Some 64 ∷ Some 64 ∷ Some 64 ∷ [] in
      let x5 : List ℕ = y0 ∷ f ∷ y2 ∷ 32 ∷ y4 ∷ [] in
      let y5 : ℕ = op2_result Add64 y4 y0 in
      let u6 : Shape = Some 64 ∷ Some 64 ∷ Some 64 ∷ Some 64 ∷ Some 64 ∷ Some 64 ∷ [] in
      let x6 : List ℕ = y0 ∷ f ∷ y2 ∷ 32 ∷ y4 ∷ y5 ∷ [] in
      let u7 : Shape = Some 64 ∷ Some 64 ∷ Some 64 ∷ Some 64 ∷ Some 64 ∷ Some 64 ∷ Some 64 ∷ [] in
      let x7 : List ℕ = y0 ∷ f ∷ y2 ∷ 32 ∷ y4 ∷ y5 ∷ t ∷ [] in
      let y7 : ℕ = op2_result Shru64 y5 t in
      let u8 : Shape = Some 64 ∷ Some 64 ∷ Some 64 ∷ Some 64 ∷ Some 64 ∷ Some 64 ∷ Some 64 ∷ Some 64 ∷ [] in
      let x8 : List ℕ = y0 ∷ f ∷ y2 ∷ 32 ∷ y4 ∷ y5 ∷ t ∷ y7 ∷ [] in
      let y8 : ℕ = op1_result Cut64to32 y7 in (
        64,
        y0,
        unary arrays ws vs r.long U32to64 u0 x0 x.left n (old arrays ws vs r.long u0 x0 x.left 32 r.left.width),
        (
          64,
          f,
          number arrays ws vs r.long u1 x1 64 f (word-width Word64) (omega (arith, lf)),
          (
            64,
            y2,
            binary arrays ws vs r.long Mul64 u2 x2 m (m + 1) y0 f (new arrays ws vs r.long u2 x2 m 0 64 (omega (arith, r.next)) refl) (new arrays ws vs r.long u2 x2 (m + 1) 1 64 (omega (arith, r.next)) refl),
            (
              64,
              32,
              number arrays ws vs r.long u3 x3 64 32 (word-width Word64) (omega arith),
              (
                64,
                y4,
                binary arrays ws vs r.long Shru64 u4 x4 (m + 2) (m + 3) y2 32 (new arrays ws vs r.long u4 x4 (m + 2) 2 64 (omega (arith, r.next)) refl) (new arrays ws vs r.long u4 x4 (m + 3) 3 64 (omega (arith, r.next)) refl),
                (
                  64,
                  y5,
                  binary arrays ws vs r.long Add64 u5 x5 (m + 4) m y4 y0 (new arrays ws vs r.long u5 x5 (m + 4) 4 64 (omega (arith, r.next)) refl) (new arrays ws vs r.long u5 x5 m 0 64 (omega (arith, r.next)) refl),
                  (
                    64,
                    t,
                    number arrays ws vs r.long u6 x6 64 t (word-width Word64) (omega (arith, few)),
                    (
                      64,
                      y7,
                      binary arrays ws vs r.long Shru64 u7 x7 (m + 5) (m + 6) y5 t (new arrays ws vs r.long u7 x7 (m + 5) 5 64 (omega (arith, r.next)) refl) (new arrays ws vs r.long u7 x7 (m + 6) 6 64 (omega (arith, r.next)) refl),
                      with_value arrays (ws ++ u8) (vs ++ x8) 32 y8 z (One Cut64to32 (m + 7)) (unary arrays ws vs r.long Cut64to32 u8 x8 (m + 7) y7 (new arrays ws vs r.long u8 x8 (m + 7) 7 64 (omega (arith, r.next)) refl)) e,
                    ),
                  ),
                ),
              ),
            ),
          ),
        ),
      )

  pub wide_steps : (x : Division) (s : ℕ) → IsDivision ws vs Word64 x → reciprocal x.divisor s < 2 ^ 64 → s < 64 → (z : ℕ) → shifted_product64 (value_at vs x.left) (reciprocal x.divisor s) s ≡ z → AreSteps arrays ws vs [] [] 64 z (Const 64 (reciprocal x.divisor s) ∷ Two Mul64 x.left x.next ∷ Const 64 s ∷ Two Shru64 (x.next + 1) (x.next + 2) ∷ [])
  wide_steps x s r lf ls z e =
      let n = value_at vs x.left in
      let m = x.next in
      let f = reciprocal x.divisor s in
      let u0 : Shape = [] in
      let x0 : List ℕ = [] in
      let u1 : Shape = Some 64 ∷ [] in
      let x1 : List ℕ = f ∷ [] in
      let y1 : ℕ = op2_result Mul64 n f in
      let u2 : Shape = Some 64 ∷ Some 64 ∷ [] in
      let x2 : List ℕ = f ∷ y1 ∷ [] in
      let u3 : Shape = Some 64 ∷ Some 64 ∷ Some 64 ∷ [] in
      let x3 : List ℕ = f ∷ y1 ∷ s ∷ [] in
      let y3 : ℕ = op2_result Shru64 y1 s in (
        64,
        f,
        number arrays ws vs r.long u0 x0 64 f (word-width Word64) (lf),
        (
          64,
          y1,
          binary arrays ws vs r.long Mul64 u1 x1 x.left m n f (old arrays ws vs r.long u1 x1 x.left 64 r.left.width) (new arrays ws vs r.long u1 x1 m 0 64 (omega (arith, r.next)) refl),
          (
            64,
            s,
            number arrays ws vs r.long u2 x2 64 s (word-width Word64) (omega arith),
            with_value arrays (ws ++ u3) (vs ++ x3) 64 y3 z (Two Shru64 (m + 1) (m + 2)) (binary arrays ws vs r.long Shru64 u3 x3 (m + 1) (m + 2) y1 s (new arrays ws vs r.long u3 x3 (m + 1) 1 64 (omega (arith, r.next)) refl) (new arrays ws vs r.long u3 x3 (m + 2) 2 64 (omega (arith, r.next)) refl)) e,
          ),
        ),
      )

  pub signed_steps : (x : Division) (s : ℕ) → IsDivision ws vs Word32 x → reciprocal x.divisor s < 2 ^ 64 → s < 64 → (z : ℕ) → shifted_signed_product (value_at vs x.left) (reciprocal x.divisor s) s ≡ z → AreSteps arrays ws vs [] [] 32 z (One S32to64 x.left ∷ Const 64 (reciprocal x.divisor s) ∷ Two Mul64 x.next (x.next + 1) ∷ Const 64 s ∷ Two Shrs64 (x.next + 2) (x.next + 3) ∷ One Cut64to32 (x.next + 4) ∷ Const 32 31 ∷ Two Shrs32 x.left (x.next + 6) ∷ Two Sub32 (x.next + 5) (x.next + 7) ∷ [])
  signed_steps x s r lf ls z e =
      let n = value_at vs x.left in
      let m = x.next in
      let f = reciprocal x.divisor s in
      let u0 : Shape = [] in
      let x0 : List ℕ = [] in
      let y0 : ℕ = op1_result S32to64 n in
      let u1 : Shape = Some 64 ∷ [] in
      let x1 : List ℕ = y0 ∷ [] in
      let u2 : Shape = Some 64 ∷ Some 64 ∷ [] in
      let x2 : List ℕ = y0 ∷ f ∷ [] in
      let y2 : ℕ = op2_result Mul64 y0 f in
      let u3 : Shape = Some 64 ∷ Some 64 ∷ Some 64 ∷ [] in
      let x3 : List ℕ = y0 ∷ f ∷ y2 ∷ [] in
      let u4 : Shape = Some 64 ∷ Some 64 ∷ Some 64 ∷ Some 64 ∷ [] in
      let x4 : List ℕ = y0 ∷ f ∷ y2 ∷ s ∷ [] in
      let y4 : ℕ = op2_result Shrs64 y2 s in
      let u5 : Shape = Some 64 ∷ Some 64 ∷ Some 64 ∷ Some 64 ∷ Some 64 ∷ [] in
      let x5 : List ℕ = y0 ∷ f ∷ y2 ∷ s ∷ y4 ∷ [] in
      let y5 : ℕ = op1_result Cut64to32 y4 in
      let u6 : Shape = Some 64 ∷ Some 64 ∷ Some 64 ∷ Some 64 ∷ Some 64 ∷ Some 32 ∷ [] in
      let x6 : List ℕ = y0 ∷ f ∷ y2 ∷ s ∷ y4 ∷ y5 ∷ [] in
      let u7 : Shape = Some 64 ∷ Some 64 ∷ Some 64 ∷ Some 64 ∷ Some 64 ∷ Some 32 ∷ Some 32 ∷ [] in
      let x7 : List ℕ = y0 ∷ f ∷ y2 ∷ s ∷ y4 ∷ y5 ∷ 31 ∷ [] in
      let y7 : ℕ = op2_result Shrs32 n 31 in
      let u8 : Shape = Some 64 ∷ Some 64 ∷ Some 64 ∷ Some 64 ∷ Some 64 ∷ Some 32 ∷ Some 32 ∷ Some 32 ∷ [] in
      let x8 : List ℕ = y0 ∷ f ∷ y2 ∷ s ∷ y4 ∷ y5 ∷ 31 ∷ y7 ∷ [] in
      let y8 : ℕ = op2_result Sub32 y5 y7 in (
        64,
        y0,
        unary arrays ws vs r.long S32to64 u0 x0 x.left n (old arrays ws vs r.long u0 x0 x.left 32 r.left.width),
        (
          64,
          f,
          number arrays ws vs r.long u1 x1 64 f (word-width Word64) (lf),
          (
            64,
            y2,
            binary arrays ws vs r.long Mul64 u2 x2 m (m + 1) y0 f (new arrays ws vs r.long u2 x2 m 0 64 (omega (arith, r.next)) refl) (new arrays ws vs r.long u2 x2 (m + 1) 1 64 (omega (arith, r.next)) refl),
            (
              64,
              s,
              number arrays ws vs r.long u3 x3 64 s (word-width Word64) (omega arith),
              (
                64,
                y4,
                binary arrays ws vs r.long Shrs64 u4 x4 (m + 2) (m + 3) y2 s (new arrays ws vs r.long u4 x4 (m + 2) 2 64 (omega (arith, r.next)) refl) (new arrays ws vs r.long u4 x4 (m + 3) 3 64 (omega (arith, r.next)) refl),
                (
                  32,
                  y5,
                  unary arrays ws vs r.long Cut64to32 u5 x5 (m + 4) y4 (new arrays ws vs r.long u5 x5 (m + 4) 4 64 (omega (arith, r.next)) refl),
                  (
                    32,
                    31,
                    number arrays ws vs r.long u6 x6 32 31 (word-width Word32) (omega arith),
                    (
                      32,
                      y7,
                      binary arrays ws vs r.long Shrs32 u7 x7 x.left (m + 6) n 31 (old arrays ws vs r.long u7 x7 x.left 32 r.left.width) (new arrays ws vs r.long u7 x7 (m + 6) 6 32 (omega (arith, r.next)) refl),
                      with_value arrays (ws ++ u8) (vs ++ x8) 32 y8 z (Two Sub32 (m + 5) (m + 7)) (binary arrays ws vs r.long Sub32 u8 x8 (m + 5) (m + 7) y5 y7 (new arrays ws vs r.long u8 x8 (m + 5) 5 32 (omega (arith, r.next)) refl) (new arrays ws vs r.long u8 x8 (m + 7) 7 32 (omega (arith, r.next)) refl)) e,
                    ),
                  ),
                ),
              ),
            ),
          ),
        ),
      )

  pub rest_divu32 : (x : Division) → IsDivision ws vs Word32 x → (z : ℕ) → op2_result Sub32 (value_at vs x.left) (op2_result Mul32 (op2_result Divu32 (value_at vs x.left) (value_at vs x.right)) (value_at vs x.right)) ≡ z → AreSteps arrays ws vs [] [] 32 z (by_quotient Divu Word32 x)
  rest_divu32 x r z e =
      let n = value_at vs x.left in
      let m = x.next in
      let u0 : Shape = [] in
      let x0 : List ℕ = [] in
      let y0 : ℕ = op2_result Divu32 n (value_at vs x.right) in
      let u1 : Shape = Some 32 ∷ [] in
      let x1 : List ℕ = y0 ∷ [] in
      let y1 : ℕ = op2_result Mul32 y0 (value_at vs x.right) in
      let u2 : Shape = Some 32 ∷ Some 32 ∷ [] in
      let x2 : List ℕ = y0 ∷ y1 ∷ [] in
      let y2 : ℕ = op2_result Sub32 n y1 in (
        32,
        y0,
        binary arrays ws vs r.long Divu32 u0 x0 x.left x.right n (value_at vs x.right) (old arrays ws vs r.long u0 x0 x.left 32 r.left.width) (old arrays ws vs r.long u0 x0 x.right 32 r.right),
        (
          32,
          y1,
          binary arrays ws vs r.long Mul32 u1 x1 m x.right y0 (value_at vs x.right) (new arrays ws vs r.long u1 x1 m 0 32 (omega (arith, r.next)) refl) (old arrays ws vs r.long u1 x1 x.right 32 r.right),
          with_value arrays (ws ++ u2) (vs ++ x2) 32 y2 z (Two Sub32 x.left (m + 1)) (binary arrays ws vs r.long Sub32 u2 x2 x.left (m + 1) n y1 (old arrays ws vs r.long u2 x2 x.left 32 r.left.width) (new arrays ws vs r.long u2 x2 (m + 1) 1 32 (omega (arith, r.next)) refl)) e,
        ),
      )

  pub rest_divu64 : (x : Division) → IsDivision ws vs Word64 x → (z : ℕ) → op2_result Sub64 (value_at vs x.left) (op2_result Mul64 (op2_result Divu64 (value_at vs x.left) (value_at vs x.right)) (value_at vs x.right)) ≡ z → AreSteps arrays ws vs [] [] 64 z (by_quotient Divu Word64 x)
  rest_divu64 x r z e =
      let n = value_at vs x.left in
      let m = x.next in
      let u0 : Shape = [] in
      let x0 : List ℕ = [] in
      let y0 : ℕ = op2_result Divu64 n (value_at vs x.right) in
      let u1 : Shape = Some 64 ∷ [] in
      let x1 : List ℕ = y0 ∷ [] in
      let y1 : ℕ = op2_result Mul64 y0 (value_at vs x.right) in
      let u2 : Shape = Some 64 ∷ Some 64 ∷ [] in
      let x2 : List ℕ = y0 ∷ y1 ∷ [] in
      let y2 : ℕ = op2_result Sub64 n y1 in (
        64,
        y0,
        binary arrays ws vs r.long Divu64 u0 x0 x.left x.right n (value_at vs x.right) (old arrays ws vs r.long u0 x0 x.left 64 r.left.width) (old arrays ws vs r.long u0 x0 x.right 64 r.right),
        (
          64,
          y1,
          binary arrays ws vs r.long Mul64 u1 x1 m x.right y0 (value_at vs x.right) (new arrays ws vs r.long u1 x1 m 0 64 (omega (arith, r.next)) refl) (old arrays ws vs r.long u1 x1 x.right 64 r.right),
          with_value arrays (ws ++ u2) (vs ++ x2) 64 y2 z (Two Sub64 x.left (m + 1)) (binary arrays ws vs r.long Sub64 u2 x2 x.left (m + 1) n y1 (old arrays ws vs r.long u2 x2 x.left 64 r.left.width) (new arrays ws vs r.long u2 x2 (m + 1) 1 64 (omega (arith, r.next)) refl)) e,
        ),
      )

  pub rest_divs32 : (x : Division) → IsDivision ws vs Word32 x → (z : ℕ) → op2_result Sub32 (value_at vs x.left) (op2_result Mul32 (op2_result Divs32 (value_at vs x.left) (value_at vs x.right)) (value_at vs x.right)) ≡ z → AreSteps arrays ws vs [] [] 32 z (by_quotient Divs Word32 x)
  rest_divs32 x r z e =
      let n = value_at vs x.left in
      let m = x.next in
      let u0 : Shape = [] in
      let x0 : List ℕ = [] in
      let y0 : ℕ = op2_result Divs32 n (value_at vs x.right) in
      let u1 : Shape = Some 32 ∷ [] in
      let x1 : List ℕ = y0 ∷ [] in
      let y1 : ℕ = op2_result Mul32 y0 (value_at vs x.right) in
      let u2 : Shape = Some 32 ∷ Some 32 ∷ [] in
      let x2 : List ℕ = y0 ∷ y1 ∷ [] in
      let y2 : ℕ = op2_result Sub32 n y1 in (
        32,
        y0,
        binary arrays ws vs r.long Divs32 u0 x0 x.left x.right n (value_at vs x.right) (old arrays ws vs r.long u0 x0 x.left 32 r.left.width) (old arrays ws vs r.long u0 x0 x.right 32 r.right),
        (
          32,
          y1,
          binary arrays ws vs r.long Mul32 u1 x1 m x.right y0 (value_at vs x.right) (new arrays ws vs r.long u1 x1 m 0 32 (omega (arith, r.next)) refl) (old arrays ws vs r.long u1 x1 x.right 32 r.right),
          with_value arrays (ws ++ u2) (vs ++ x2) 32 y2 z (Two Sub32 x.left (m + 1)) (binary arrays ws vs r.long Sub32 u2 x2 x.left (m + 1) n y1 (old arrays ws vs r.long u2 x2 x.left 32 r.left.width) (new arrays ws vs r.long u2 x2 (m + 1) 1 32 (omega (arith, r.next)) refl)) e,
        ),
      )

  pub quotient_two32 : (x : Division) → IsDivision ws vs Word32 x → (z : ℕ) → op2_result Shrs32 (op2_result Add32 (value_at vs x.left) (op2_result Shru32 (value_at vs x.left) 31)) 1 ≡ z → AreSteps arrays ws vs [] [] 32 z (Const 32 31 ∷ Two Shru32 x.left x.next ∷ Two Add32 x.left (x.next + 1) ∷ Const 32 1 ∷ Two Shrs32 (x.next + 2) (x.next + 3) ∷ [])
  quotient_two32 x r z e =
      let n = value_at vs x.left in
      let m = x.next in
      let u0 : Shape = [] in
      let x0 : List ℕ = [] in
      let u1 : Shape = Some 32 ∷ [] in
      let x1 : List ℕ = 31 ∷ [] in
      let y1 : ℕ = op2_result Shru32 n 31 in
      let u2 : Shape = Some 32 ∷ Some 32 ∷ [] in
      let x2 : List ℕ = 31 ∷ y1 ∷ [] in
      let y2 : ℕ = op2_result Add32 n y1 in
      let u3 : Shape = Some 32 ∷ Some 32 ∷ Some 32 ∷ [] in
      let x3 : List ℕ = 31 ∷ y1 ∷ y2 ∷ [] in
      let u4 : Shape = Some 32 ∷ Some 32 ∷ Some 32 ∷ Some 32 ∷ [] in
      let x4 : List ℕ = 31 ∷ y1 ∷ y2 ∷ 1 ∷ [] in
      let y4 : ℕ = op2_result Shrs32 y2 1 in (
        32,
        31,
        number arrays ws vs r.long u0 x0 32 31 (word-width Word32) (omega arith),
        (
          32,
          y1,
          binary arrays ws vs r.long Shru32 u1 x1 x.left m n 31 (old arrays ws vs r.long u1 x1 x.left 32 r.left.width) (new arrays ws vs r.long u1 x1 m 0 32 (omega (arith, r.next)) refl),
          (
            32,
            y2,
            binary arrays ws vs r.long Add32 u2 x2 x.left (m + 1) n y1 (old arrays ws vs r.long u2 x2 x.left 32 r.left.width) (new arrays ws vs r.long u2 x2 (m + 1) 1 32 (omega (arith, r.next)) refl),
            (
              32,
              1,
              number arrays ws vs r.long u3 x3 32 1 (word-width Word32) (omega arith),
              with_value arrays (ws ++ u4) (vs ++ x4) 32 y4 z (Two Shrs32 (m + 2) (m + 3)) (binary arrays ws vs r.long Shrs32 u4 x4 (m + 2) (m + 3) y2 1 (new arrays ws vs r.long u4 x4 (m + 2) 2 32 (omega (arith, r.next)) refl) (new arrays ws vs r.long u4 x4 (m + 3) 3 32 (omega (arith, r.next)) refl)) e,
            ),
          ),
        ),
      )

  pub quotient_power32 : (x : Division) → IsDivision ws vs Word32 x → (k : ℕ) → 1 < k → k < 32 → (z : ℕ) → op2_result Shrs32 (op2_result Add32 (value_at vs x.left) (op2_result Shru32 (op2_result Shrs32 (value_at vs x.left) 31) (32 - k))) k ≡ z → AreSteps arrays ws vs [] [] 32 z (Const 32 31 ∷ Two Shrs32 x.left x.next ∷ Const 32 (32 - k) ∷ Two Shru32 (x.next + 1) (x.next + 2) ∷ Two Add32 x.left (x.next + 3) ∷ Const 32 k ∷ Two Shrs32 (x.next + 4) (x.next + 5) ∷ [])
  quotient_power32 x r k low high z e =
      let n = value_at vs x.left in
      let m = x.next in
      let places : 32 - k < 2 ^ 32 = omega arith in
      let fits : k < 2 ^ 32 = omega arith in
      let opposite : 2 ^ 32 - x.divisor < 2 ^ 32 = omega (arith, r.some) in
      let u0 : Shape = [] in
      let x0 : List ℕ = [] in
      let u1 : Shape = Some 32 ∷ [] in
      let x1 : List ℕ = 31 ∷ [] in
      let y1 : ℕ = op2_result Shrs32 n 31 in
      let u2 : Shape = Some 32 ∷ Some 32 ∷ [] in
      let x2 : List ℕ = 31 ∷ y1 ∷ [] in
      let u3 : Shape = Some 32 ∷ Some 32 ∷ Some 32 ∷ [] in
      let x3 : List ℕ = 31 ∷ y1 ∷ (32 - k) ∷ [] in
      let y3 : ℕ = op2_result Shru32 y1 (32 - k) in
      let u4 : Shape = Some 32 ∷ Some 32 ∷ Some 32 ∷ Some 32 ∷ [] in
      let x4 : List ℕ = 31 ∷ y1 ∷ (32 - k) ∷ y3 ∷ [] in
      let y4 : ℕ = op2_result Add32 n y3 in
      let u5 : Shape = Some 32 ∷ Some 32 ∷ Some 32 ∷ Some 32 ∷ Some 32 ∷ [] in
      let x5 : List ℕ = 31 ∷ y1 ∷ (32 - k) ∷ y3 ∷ y4 ∷ [] in
      let u6 : Shape = Some 32 ∷ Some 32 ∷ Some 32 ∷ Some 32 ∷ Some 32 ∷ Some 32 ∷ [] in
      let x6 : List ℕ = 31 ∷ y1 ∷ (32 - k) ∷ y3 ∷ y4 ∷ k ∷ [] in
      let y6 : ℕ = op2_result Shrs32 y4 k in (
        32,
        31,
        number arrays ws vs r.long u0 x0 32 31 (word-width Word32) (omega arith),
        (
          32,
          y1,
          binary arrays ws vs r.long Shrs32 u1 x1 x.left m n 31 (old arrays ws vs r.long u1 x1 x.left 32 r.left.width) (new arrays ws vs r.long u1 x1 m 0 32 (omega (arith, r.next)) refl),
          (
            32,
            (32 - k),
            number arrays ws vs r.long u2 x2 32 (32 - k) (word-width Word32) (places),
            (
              32,
              y3,
              binary arrays ws vs r.long Shru32 u3 x3 (m + 1) (m + 2) y1 (32 - k) (new arrays ws vs r.long u3 x3 (m + 1) 1 32 (omega (arith, r.next)) refl) (new arrays ws vs r.long u3 x3 (m + 2) 2 32 (omega (arith, r.next)) refl),
              (
                32,
                y4,
                binary arrays ws vs r.long Add32 u4 x4 x.left (m + 3) n y3 (old arrays ws vs r.long u4 x4 x.left 32 r.left.width) (new arrays ws vs r.long u4 x4 (m + 3) 3 32 (omega (arith, r.next)) refl),
                (
                  32,
                  k,
                  number arrays ws vs r.long u5 x5 32 k (word-width Word32) (fits),
                  with_value arrays (ws ++ u6) (vs ++ x6) 32 y6 z (Two Shrs32 (m + 4) (m + 5)) (binary arrays ws vs r.long Shrs32 u6 x6 (m + 4) (m + 5) y4 k (new arrays ws vs r.long u6 x6 (m + 4) 4 32 (omega (arith, r.next)) refl) (new arrays ws vs r.long u6 x6 (m + 5) 5 32 (omega (arith, r.next)) refl)) e,
                ),
              ),
            ),
          ),
        ),
      )

  pub rest_two32 : (x : Division) → IsDivision ws vs Word32 x → (z : ℕ) → op2_result Sub32 (value_at vs x.left) (op2_result And32 (op2_result Add32 (value_at vs x.left) (op2_result Shru32 (value_at vs x.left) 31)) (2 ^ 32 - 2)) ≡ z → AreSteps arrays ws vs [] [] 32 z (Const 32 31 ∷ Two Shru32 x.left x.next ∷ Two Add32 x.left (x.next + 1) ∷ Const 32 (2 ^ 32 - 2) ∷ Two And32 (x.next + 2) (x.next + 3) ∷ Two Sub32 x.left (x.next + 4) ∷ [])
  rest_two32 x r z e =
      let n = value_at vs x.left in
      let m = x.next in
      let u0 : Shape = [] in
      let x0 : List ℕ = [] in
      let u1 : Shape = Some 32 ∷ [] in
      let x1 : List ℕ = 31 ∷ [] in
      let y1 : ℕ = op2_result Shru32 n 31 in
      let u2 : Shape = Some 32 ∷ Some 32 ∷ [] in
      let x2 : List ℕ = 31 ∷ y1 ∷ [] in
      let y2 : ℕ = op2_result Add32 n y1 in
      let u3 : Shape = Some 32 ∷ Some 32 ∷ Some 32 ∷ [] in
      let x3 : List ℕ = 31 ∷ y1 ∷ y2 ∷ [] in
      let u4 : Shape = Some 32 ∷ Some 32 ∷ Some 32 ∷ Some 32 ∷ [] in
      let x4 : List ℕ = 31 ∷ y1 ∷ y2 ∷ (2 ^ 32 - 2) ∷ [] in
      let y4 : ℕ = op2_result And32 y2 (2 ^ 32 - 2) in
      let u5 : Shape = Some 32 ∷ Some 32 ∷ Some 32 ∷ Some 32 ∷ Some 32 ∷ [] in
      let x5 : List ℕ = 31 ∷ y1 ∷ y2 ∷ (2 ^ 32 - 2) ∷ y4 ∷ [] in
      let y5 : ℕ = op2_result Sub32 n y4 in (
        32,
        31,
        number arrays ws vs r.long u0 x0 32 31 (word-width Word32) (omega arith),
        (
          32,
          y1,
          binary arrays ws vs r.long Shru32 u1 x1 x.left m n 31 (old arrays ws vs r.long u1 x1 x.left 32 r.left.width) (new arrays ws vs r.long u1 x1 m 0 32 (omega (arith, r.next)) refl),
          (
            32,
            y2,
            binary arrays ws vs r.long Add32 u2 x2 x.left (m + 1) n y1 (old arrays ws vs r.long u2 x2 x.left 32 r.left.width) (new arrays ws vs r.long u2 x2 (m + 1) 1 32 (omega (arith, r.next)) refl),
            (
              32,
              (2 ^ 32 - 2),
              number arrays ws vs r.long u3 x3 32 (2 ^ 32 - 2) (word-width Word32) (omega arith),
              (
                32,
                y4,
                binary arrays ws vs r.long And32 u4 x4 (m + 2) (m + 3) y2 (2 ^ 32 - 2) (new arrays ws vs r.long u4 x4 (m + 2) 2 32 (omega (arith, r.next)) refl) (new arrays ws vs r.long u4 x4 (m + 3) 3 32 (omega (arith, r.next)) refl),
                with_value arrays (ws ++ u5) (vs ++ x5) 32 y5 z (Two Sub32 x.left (m + 4)) (binary arrays ws vs r.long Sub32 u5 x5 x.left (m + 4) n y4 (old arrays ws vs r.long u5 x5 x.left 32 r.left.width) (new arrays ws vs r.long u5 x5 (m + 4) 4 32 (omega (arith, r.next)) refl)) e,
              ),
            ),
          ),
        ),
      )

  pub rest_power32 : (x : Division) → IsDivision ws vs Word32 x → (k : ℕ) → 1 < k → k < 32 → (z : ℕ) → op2_result Sub32 (value_at vs x.left) (op2_result And32 (op2_result Add32 (value_at vs x.left) (op2_result Shru32 (op2_result Shrs32 (value_at vs x.left) 31) (32 - k))) (2 ^ 32 - x.divisor)) ≡ z → AreSteps arrays ws vs [] [] 32 z (Const 32 31 ∷ Two Shrs32 x.left x.next ∷ Const 32 (32 - k) ∷ Two Shru32 (x.next + 1) (x.next + 2) ∷ Two Add32 x.left (x.next + 3) ∷ Const 32 (2 ^ 32 - x.divisor) ∷ Two And32 (x.next + 4) (x.next + 5) ∷ Two Sub32 x.left (x.next + 6) ∷ [])
  rest_power32 x r k low high z e =
      let n = value_at vs x.left in
      let m = x.next in
      let places : 32 - k < 2 ^ 32 = omega arith in
      let fits : k < 2 ^ 32 = omega arith in
      let opposite : 2 ^ 32 - x.divisor < 2 ^ 32 = omega (arith, r.some) in
      let u0 : Shape = [] in
      let x0 : List ℕ = [] in
      let u1 : Shape = Some 32 ∷ [] in
      let x1 : List ℕ = 31 ∷ [] in
      let y1 : ℕ = op2_result Shrs32 n 31 in
      let u2 : Shape = Some 32 ∷ Some 32 ∷ [] in
      let x2 : List ℕ = 31 ∷ y1 ∷ [] in
      let u3 : Shape = Some 32 ∷ Some 32 ∷ Some 32 ∷ [] in
      let x3 : List ℕ = 31 ∷ y1 ∷ (32 - k) ∷ [] in
      let y3 : ℕ = op2_result Shru32 y1 (32 - k) in
      let u4 : Shape = Some 32 ∷ Some 32 ∷ Some 32 ∷ Some 32 ∷ [] in
      let x4 : List ℕ = 31 ∷ y1 ∷ (32 - k) ∷ y3 ∷ [] in
      let y4 : ℕ = op2_result Add32 n y3 in
      let u5 : Shape = Some 32 ∷ Some 32 ∷ Some 32 ∷ Some 32 ∷ Some 32 ∷ [] in
      let x5 : List ℕ = 31 ∷ y1 ∷ (32 - k) ∷ y3 ∷ y4 ∷ [] in
      let u6 : Shape = Some 32 ∷ Some 32 ∷ Some 32 ∷ Some 32 ∷ Some 32 ∷ Some 32 ∷ [] in
      let x6 : List ℕ = 31 ∷ y1 ∷ (32 - k) ∷ y3 ∷ y4 ∷ (2 ^ 32 - x.divisor) ∷ [] in
      let y6 : ℕ = op2_result And32 y4 (2 ^ 32 - x.divisor) in
      let u7 : Shape = Some 32 ∷ Some 32 ∷ Some 32 ∷ Some 32 ∷ Some 32 ∷ Some 32 ∷ Some 32 ∷ [] in
      let x7 : List ℕ = 31 ∷ y1 ∷ (32 - k) ∷ y3 ∷ y4 ∷ (2 ^ 32 - x.divisor) ∷ y6 ∷ [] in
      let y7 : ℕ = op2_result Sub32 n y6 in (
        32,
        31,
        number arrays ws vs r.long u0 x0 32 31 (word-width Word32) (omega arith),
        (
          32,
          y1,
          binary arrays ws vs r.long Shrs32 u1 x1 x.left m n 31 (old arrays ws vs r.long u1 x1 x.left 32 r.left.width) (new arrays ws vs r.long u1 x1 m 0 32 (omega (arith, r.next)) refl),
          (
            32,
            (32 - k),
            number arrays ws vs r.long u2 x2 32 (32 - k) (word-width Word32) (places),
            (
              32,
              y3,
              binary arrays ws vs r.long Shru32 u3 x3 (m + 1) (m + 2) y1 (32 - k) (new arrays ws vs r.long u3 x3 (m + 1) 1 32 (omega (arith, r.next)) refl) (new arrays ws vs r.long u3 x3 (m + 2) 2 32 (omega (arith, r.next)) refl),
              (
                32,
                y4,
                binary arrays ws vs r.long Add32 u4 x4 x.left (m + 3) n y3 (old arrays ws vs r.long u4 x4 x.left 32 r.left.width) (new arrays ws vs r.long u4 x4 (m + 3) 3 32 (omega (arith, r.next)) refl),
                (
                  32,
                  (2 ^ 32 - x.divisor),
                  number arrays ws vs r.long u5 x5 32 (2 ^ 32 - x.divisor) (word-width Word32) (opposite),
                  (
                    32,
                    y6,
                    binary arrays ws vs r.long And32 u6 x6 (m + 4) (m + 5) y4 (2 ^ 32 - x.divisor) (new arrays ws vs r.long u6 x6 (m + 4) 4 32 (omega (arith, r.next)) refl) (new arrays ws vs r.long u6 x6 (m + 5) 5 32 (omega (arith, r.next)) refl),
                    with_value arrays (ws ++ u7) (vs ++ x7) 32 y7 z (Two Sub32 x.left (m + 6)) (binary arrays ws vs r.long Sub32 u7 x7 x.left (m + 6) n y6 (old arrays ws vs r.long u7 x7 x.left 32 r.left.width) (new arrays ws vs r.long u7 x7 (m + 6) 6 32 (omega (arith, r.next)) refl)) e,
                  ),
                ),
              ),
            ),
          ),
        ),
      )

  pub quotient_two64 : (x : Division) → IsDivision ws vs Word64 x → (z : ℕ) → op2_result Shrs64 (op2_result Add64 (value_at vs x.left) (op2_result Shru64 (value_at vs x.left) 63)) 1 ≡ z → AreSteps arrays ws vs [] [] 64 z (Const 64 63 ∷ Two Shru64 x.left x.next ∷ Two Add64 x.left (x.next + 1) ∷ Const 64 1 ∷ Two Shrs64 (x.next + 2) (x.next + 3) ∷ [])
  quotient_two64 x r z e =
      let n = value_at vs x.left in
      let m = x.next in
      let u0 : Shape = [] in
      let x0 : List ℕ = [] in
      let u1 : Shape = Some 64 ∷ [] in
      let x1 : List ℕ = 63 ∷ [] in
      let y1 : ℕ = op2_result Shru64 n 63 in
      let u2 : Shape = Some 64 ∷ Some 64 ∷ [] in
      let x2 : List ℕ = 63 ∷ y1 ∷ [] in
      let y2 : ℕ = op2_result Add64 n y1 in
      let u3 : Shape = Some 64 ∷ Some 64 ∷ Some 64 ∷ [] in
      let x3 : List ℕ = 63 ∷ y1 ∷ y2 ∷ [] in
      let u4 : Shape = Some 64 ∷ Some 64 ∷ Some 64 ∷ Some 64 ∷ [] in
      let x4 : List ℕ = 63 ∷ y1 ∷ y2 ∷ 1 ∷ [] in
      let y4 : ℕ = op2_result Shrs64 y2 1 in (
        64,
        63,
        number arrays ws vs r.long u0 x0 64 63 (word-width Word64) (omega arith),
        (
          64,
          y1,
          binary arrays ws vs r.long Shru64 u1 x1 x.left m n 63 (old arrays ws vs r.long u1 x1 x.left 64 r.left.width) (new arrays ws vs r.long u1 x1 m 0 64 (omega (arith, r.next)) refl),
          (
            64,
            y2,
            binary arrays ws vs r.long Add64 u2 x2 x.left (m + 1) n y1 (old arrays ws vs r.long u2 x2 x.left 64 r.left.width) (new arrays ws vs r.long u2 x2 (m + 1) 1 64 (omega (arith, r.next)) refl),
            (
              64,
              1,
              number arrays ws vs r.long u3 x3 64 1 (word-width Word64) (omega arith),
              with_value arrays (ws ++ u4) (vs ++ x4) 64 y4 z (Two Shrs64 (m + 2) (m + 3)) (binary arrays ws vs r.long Shrs64 u4 x4 (m + 2) (m + 3) y2 1 (new arrays ws vs r.long u4 x4 (m + 2) 2 64 (omega (arith, r.next)) refl) (new arrays ws vs r.long u4 x4 (m + 3) 3 64 (omega (arith, r.next)) refl)) e,
            ),
          ),
        ),
      )

  pub quotient_power64 : (x : Division) → IsDivision ws vs Word64 x → (k : ℕ) → 1 < k → k < 64 → (z : ℕ) → op2_result Shrs64 (op2_result Add64 (value_at vs x.left) (op2_result Shru64 (op2_result Shrs64 (value_at vs x.left) 63) (64 - k))) k ≡ z → AreSteps arrays ws vs [] [] 64 z (Const 64 63 ∷ Two Shrs64 x.left x.next ∷ Const 64 (64 - k) ∷ Two Shru64 (x.next + 1) (x.next + 2) ∷ Two Add64 x.left (x.next + 3) ∷ Const 64 k ∷ Two Shrs64 (x.next + 4) (x.next + 5) ∷ [])
  quotient_power64 x r k low high z e =
      let n = value_at vs x.left in
      let m = x.next in
      let places : 64 - k < 2 ^ 64 = omega arith in
      let fits : k < 2 ^ 64 = omega arith in
      let opposite : 2 ^ 64 - x.divisor < 2 ^ 64 = omega (arith, r.some) in
      let u0 : Shape = [] in
      let x0 : List ℕ = [] in
      let u1 : Shape = Some 64 ∷ [] in
      let x1 : List ℕ = 63 ∷ [] in
      let y1 : ℕ = op2_result Shrs64 n 63 in
      let u2 : Shape = Some 64 ∷ Some 64 ∷ [] in
      let x2 : List ℕ = 63 ∷ y1 ∷ [] in
      let u3 : Shape = Some 64 ∷ Some 64 ∷ Some 64 ∷ [] in
      let x3 : List ℕ = 63 ∷ y1 ∷ (64 - k) ∷ [] in
      let y3 : ℕ = op2_result Shru64 y1 (64 - k) in
      let u4 : Shape = Some 64 ∷ Some 64 ∷ Some 64 ∷ Some 64 ∷ [] in
      let x4 : List ℕ = 63 ∷ y1 ∷ (64 - k) ∷ y3 ∷ [] in
      let y4 : ℕ = op2_result Add64 n y3 in
      let u5 : Shape = Some 64 ∷ Some 64 ∷ Some 64 ∷ Some 64 ∷ Some 64 ∷ [] in
      let x5 : List ℕ = 63 ∷ y1 ∷ (64 - k) ∷ y3 ∷ y4 ∷ [] in
      let u6 : Shape = Some 64 ∷ Some 64 ∷ Some 64 ∷ Some 64 ∷ Some 64 ∷ Some 64 ∷ [] in
      let x6 : List ℕ = 63 ∷ y1 ∷ (64 - k) ∷ y3 ∷ y4 ∷ k ∷ [] in
      let y6 : ℕ = op2_result Shrs64 y4 k in (
        64,
        63,
        number arrays ws vs r.long u0 x0 64 63 (word-width Word64) (omega arith),
        (
          64,
          y1,
          binary arrays ws vs r.long Shrs64 u1 x1 x.left m n 63 (old arrays ws vs r.long u1 x1 x.left 64 r.left.width) (new arrays ws vs r.long u1 x1 m 0 64 (omega (arith, r.next)) refl),
          (
            64,
            (64 - k),
            number arrays ws vs r.long u2 x2 64 (64 - k) (word-width Word64) (places),
            (
              64,
              y3,
              binary arrays ws vs r.long Shru64 u3 x3 (m + 1) (m + 2) y1 (64 - k) (new arrays ws vs r.long u3 x3 (m + 1) 1 64 (omega (arith, r.next)) refl) (new arrays ws vs r.long u3 x3 (m + 2) 2 64 (omega (arith, r.next)) refl),
              (
                64,
                y4,
                binary arrays ws vs r.long Add64 u4 x4 x.left (m + 3) n y3 (old arrays ws vs r.long u4 x4 x.left 64 r.left.width) (new arrays ws vs r.long u4 x4 (m + 3) 3 64 (omega (arith, r.next)) refl),
                (
                  64,
                  k,
                  number arrays ws vs r.long u5 x5 64 k (word-width Word64) (fits),
                  with_value arrays (ws ++ u6) (vs ++ x6) 64 y6 z (Two Shrs64 (m + 4) (m + 5)) (binary arrays ws vs r.long Shrs64 u6 x6 (m + 4) (m + 5) y4 k (new arrays ws vs r.long u6 x6 (m + 4) 4 64 (omega (arith, r.next)) refl) (new arrays ws vs r.long u6 x6 (m + 5) 5 64 (omega (arith, r.next)) refl)) e,
                ),
              ),
            ),
          ),
        ),
      )

  pub rest_two64 : (x : Division) → IsDivision ws vs Word64 x → (z : ℕ) → op2_result Sub64 (value_at vs x.left) (op2_result And64 (op2_result Add64 (value_at vs x.left) (op2_result Shru64 (value_at vs x.left) 63)) (2 ^ 64 - 2)) ≡ z → AreSteps arrays ws vs [] [] 64 z (Const 64 63 ∷ Two Shru64 x.left x.next ∷ Two Add64 x.left (x.next + 1) ∷ Const 64 (2 ^ 64 - 2) ∷ Two And64 (x.next + 2) (x.next + 3) ∷ Two Sub64 x.left (x.next + 4) ∷ [])
  rest_two64 x r z e =
      let n = value_at vs x.left in
      let m = x.next in
      let u0 : Shape = [] in
      let x0 : List ℕ = [] in
      let u1 : Shape = Some 64 ∷ [] in
      let x1 : List ℕ = 63 ∷ [] in
      let y1 : ℕ = op2_result Shru64 n 63 in
      let u2 : Shape = Some 64 ∷ Some 64 ∷ [] in
      let x2 : List ℕ = 63 ∷ y1 ∷ [] in
      let y2 : ℕ = op2_result Add64 n y1 in
      let u3 : Shape = Some 64 ∷ Some 64 ∷ Some 64 ∷ [] in
      let x3 : List ℕ = 63 ∷ y1 ∷ y2 ∷ [] in
      let u4 : Shape = Some 64 ∷ Some 64 ∷ Some 64 ∷ Some 64 ∷ [] in
      let x4 : List ℕ = 63 ∷ y1 ∷ y2 ∷ (2 ^ 64 - 2) ∷ [] in
      let y4 : ℕ = op2_result And64 y2 (2 ^ 64 - 2) in
      let u5 : Shape = Some 64 ∷ Some 64 ∷ Some 64 ∷ Some 64 ∷ Some 64 ∷ [] in
      let x5 : List ℕ = 63 ∷ y1 ∷ y2 ∷ (2 ^ 64 - 2) ∷ y4 ∷ [] in
      let y5 : ℕ = op2_result Sub64 n y4 in (
        64,
        63,
        number arrays ws vs r.long u0 x0 64 63 (word-width Word64) (omega arith),
        (
          64,
          y1,
          binary arrays ws vs r.long Shru64 u1 x1 x.left m n 63 (old arrays ws vs r.long u1 x1 x.left 64 r.left.width) (new arrays ws vs r.long u1 x1 m 0 64 (omega (arith, r.next)) refl),
          (
            64,
            y2,
            binary arrays ws vs r.long Add64 u2 x2 x.left (m + 1) n y1 (old arrays ws vs r.long u2 x2 x.left 64 r.left.width) (new arrays ws vs r.long u2 x2 (m + 1) 1 64 (omega (arith, r.next)) refl),
            (
              64,
              (2 ^ 64 - 2),
              number arrays ws vs r.long u3 x3 64 (2 ^ 64 - 2) (word-width Word64) (omega arith),
              (
                64,
                y4,
                binary arrays ws vs r.long And64 u4 x4 (m + 2) (m + 3) y2 (2 ^ 64 - 2) (new arrays ws vs r.long u4 x4 (m + 2) 2 64 (omega (arith, r.next)) refl) (new arrays ws vs r.long u4 x4 (m + 3) 3 64 (omega (arith, r.next)) refl),
                with_value arrays (ws ++ u5) (vs ++ x5) 64 y5 z (Two Sub64 x.left (m + 4)) (binary arrays ws vs r.long Sub64 u5 x5 x.left (m + 4) n y4 (old arrays ws vs r.long u5 x5 x.left 64 r.left.width) (new arrays ws vs r.long u5 x5 (m + 4) 4 64 (omega (arith, r.next)) refl)) e,
              ),
            ),
          ),
        ),
      )

  pub rest_power64 : (x : Division) → IsDivision ws vs Word64 x → (k : ℕ) → 1 < k → k < 64 → (z : ℕ) → op2_result Sub64 (value_at vs x.left) (op2_result And64 (op2_result Add64 (value_at vs x.left) (op2_result Shru64 (op2_result Shrs64 (value_at vs x.left) 63) (64 - k))) (2 ^ 64 - x.divisor)) ≡ z → AreSteps arrays ws vs [] [] 64 z (Const 64 63 ∷ Two Shrs64 x.left x.next ∷ Const 64 (64 - k) ∷ Two Shru64 (x.next + 1) (x.next + 2) ∷ Two Add64 x.left (x.next + 3) ∷ Const 64 (2 ^ 64 - x.divisor) ∷ Two And64 (x.next + 4) (x.next + 5) ∷ Two Sub64 x.left (x.next + 6) ∷ [])
  rest_power64 x r k low high z e =
      let n = value_at vs x.left in
      let m = x.next in
      let places : 64 - k < 2 ^ 64 = omega arith in
      let fits : k < 2 ^ 64 = omega arith in
      let opposite : 2 ^ 64 - x.divisor < 2 ^ 64 = omega (arith, r.some) in
      let u0 : Shape = [] in
      let x0 : List ℕ = [] in
      let u1 : Shape = Some 64 ∷ [] in
      let x1 : List ℕ = 63 ∷ [] in
      let y1 : ℕ = op2_result Shrs64 n 63 in
      let u2 : Shape = Some 64 ∷ Some 64 ∷ [] in
      let x2 : List ℕ = 63 ∷ y1 ∷ [] in
      let u3 : Shape = Some 64 ∷ Some 64 ∷ Some 64 ∷ [] in
      let x3 : List ℕ = 63 ∷ y1 ∷ (64 - k) ∷ [] in
      let y3 : ℕ = op2_result Shru64 y1 (64 - k) in
      let u4 : Shape = Some 64 ∷ Some 64 ∷ Some 64 ∷ Some 64 ∷ [] in
      let x4 : List ℕ = 63 ∷ y1 ∷ (64 - k) ∷ y3 ∷ [] in
      let y4 : ℕ = op2_result Add64 n y3 in
      let u5 : Shape = Some 64 ∷ Some 64 ∷ Some 64 ∷ Some 64 ∷ Some 64 ∷ [] in
      let x5 : List ℕ = 63 ∷ y1 ∷ (64 - k) ∷ y3 ∷ y4 ∷ [] in
      let u6 : Shape = Some 64 ∷ Some 64 ∷ Some 64 ∷ Some 64 ∷ Some 64 ∷ Some 64 ∷ [] in
      let x6 : List ℕ = 63 ∷ y1 ∷ (64 - k) ∷ y3 ∷ y4 ∷ (2 ^ 64 - x.divisor) ∷ [] in
      let y6 : ℕ = op2_result And64 y4 (2 ^ 64 - x.divisor) in
      let u7 : Shape = Some 64 ∷ Some 64 ∷ Some 64 ∷ Some 64 ∷ Some 64 ∷ Some 64 ∷ Some 64 ∷ [] in
      let x7 : List ℕ = 63 ∷ y1 ∷ (64 - k) ∷ y3 ∷ y4 ∷ (2 ^ 64 - x.divisor) ∷ y6 ∷ [] in
      let y7 : ℕ = op2_result Sub64 n y6 in (
        64,
        63,
        number arrays ws vs r.long u0 x0 64 63 (word-width Word64) (omega arith),
        (
          64,
          y1,
          binary arrays ws vs r.long Shrs64 u1 x1 x.left m n 63 (old arrays ws vs r.long u1 x1 x.left 64 r.left.width) (new arrays ws vs r.long u1 x1 m 0 64 (omega (arith, r.next)) refl),
          (
            64,
            (64 - k),
            number arrays ws vs r.long u2 x2 64 (64 - k) (word-width Word64) (places),
            (
              64,
              y3,
              binary arrays ws vs r.long Shru64 u3 x3 (m + 1) (m + 2) y1 (64 - k) (new arrays ws vs r.long u3 x3 (m + 1) 1 64 (omega (arith, r.next)) refl) (new arrays ws vs r.long u3 x3 (m + 2) 2 64 (omega (arith, r.next)) refl),
              (
                64,
                y4,
                binary arrays ws vs r.long Add64 u4 x4 x.left (m + 3) n y3 (old arrays ws vs r.long u4 x4 x.left 64 r.left.width) (new arrays ws vs r.long u4 x4 (m + 3) 3 64 (omega (arith, r.next)) refl),
                (
                  64,
                  (2 ^ 64 - x.divisor),
                  number arrays ws vs r.long u5 x5 64 (2 ^ 64 - x.divisor) (word-width Word64) (opposite),
                  (
                    64,
                    y6,
                    binary arrays ws vs r.long And64 u6 x6 (m + 4) (m + 5) y4 (2 ^ 64 - x.divisor) (new arrays ws vs r.long u6 x6 (m + 4) 4 64 (omega (arith, r.next)) refl) (new arrays ws vs r.long u6 x6 (m + 5) 5 64 (omega (arith, r.next)) refl),
                    with_value arrays (ws ++ u7) (vs ++ x7) 64 y7 z (Two Sub64 x.left (m + 6)) (binary arrays ws vs r.long Sub64 u7 x7 x.left (m + 6) n y6 (old arrays ws vs r.long u7 x7 x.left 64 r.left.width) (new arrays ws vs r.long u7 x7 (m + 6) 6 64 (omega (arith, r.next)) refl)) e,
                  ),
                ),
              ),
            ),
          ),
        ),
      )
