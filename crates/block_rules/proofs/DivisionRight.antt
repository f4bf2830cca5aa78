-- What a division by a constant becomes is right in its block.
use Rattle.std.proofs.Common.{◌≡◌, ℕ, ◌+◌, ◌-◌, ◌^◌, List, length, Option, Some, None, refl, sym, ◌∙◌, ap, subst}
use Rattle.std.specs.Prelude.{nat_lt, ◌&&◌}
use Rattle.std.proofs.lemmas.Bool.{cond_both, and_parts}
use Rattle.std.proofs.lemmas.Option.{same_Some}
use borrow.Author.Tests.{ltb-true}
use Rattle.el_base.specs.declared.ty.Array.{Array}
use Rattle.el_base.specs.declared.operation.Op2.{Op2}
use Rattle.el_base.specs.declared.operation.Op2.TheVariants.{Add32, Add64, Sub32, Sub64, Mul32, Mul64, And32, And64, Or32, Or64, Xor32, Xor64, Shl32, Shl64, Shru32, Shru64, Shrs32, Shrs64, Divu32, Divu64, Remu32, Remu64, Divs32, Divs64, Rems32, Rems64, Eq32, Eq64, Ne32, Ne64, Ltu32, Ltu64, Leu32, Leu64, Lts32, Lts64, Les32, Les64}
use Rattle.el_base.specs.Widths.{op2_in, op2_out}
use Rattle.word_ops.specs.Operations.{op2_result}
use Rattle.ir.specs.declared.instr.Instr.{Instr}
use Rattle.ir.specs.declared.instr.Instr.TheVariants.{Const, One, Two, Select, Load, Store}
use Rattle.ir.specs.Shapes.{Shape, IsOfWidth, StepFits, step_width}
use Rattle.ir.specs.Steps.{value_at}
use Rattle.block_rules.specs.declared.change.Change.{Change}
use Rattle.block_rules.specs.declared.change.Change.TheVariants.{Stays, Is, Becomes, BecomesTwo}
use Rattle.block_rules.specs.declared.division.Division.{Division}
use Rattle.block_rules.specs.declared.rewriting.Rewriting.{Rewriting}
use Rattle.block_rules.specs.declared.rewriting.Rewriting.TheVariants.{Kept}
use Rattle.block_rules.specs.Known.{pure_value, AreValues}
use Rattle.block_rules.specs.Kinds.{bits, word_of, kind_of, operation, is_division}
use Rattle.block_rules.specs.Reading.{const_at}
use Rattle.block_rules.specs.Changes.{rewriting_of}
use Rattle.block_rules.specs.Tops.{narrowed, top_within}
use Rattle.block_rules.specs.Divisions.{divided}
use Rattle.block_rules.specs.Rules.{divided_by, by_divisor, division_of, or_else}
use Rattle.block_rules.specs.Laws.{IsRight}
use Rattle.block_rules.proofs.Operations.{in-word, result-out, width_out, word-width}
use Rattle.block_rules.proofs.Facts.{long, below, constant}
use Rattle.block_rules.proofs.TwoLaws.{operand}
use Rattle.block_rules.proofs.TopLaw.{up_to, top_law}
use Rattle.block_rules.proofs.DivisionSteps.{IsDivision}
use Rattle.block_rules.proofs.DivisionLaws.{divided_law}

operation-kind : (op : Op2) → operation (kind_of op) (word_of (op2_in op)) ≡ op
operation-kind Add32 = refl
operation-kind Add64 = refl
operation-kind Sub32 = refl
operation-kind Sub64 = refl
operation-kind Mul32 = refl
operation-kind Mul64 = refl
operation-kind And32 = refl
operation-kind And64 = refl
operation-kind Or32 = refl
operation-kind Or64 = refl
operation-kind Xor32 = refl
operation-kind Xor64 = refl
operation-kind Shl32 = refl
operation-kind Shl64 = refl
operation-kind Shru32 = refl
operation-kind Shru64 = refl
operation-kind Shrs32 = refl
operation-kind Shrs64 = refl
operation-kind Divu32 = refl
operation-kind Divu64 = refl
operation-kind Remu32 = refl
operation-kind Remu64 = refl
operation-kind Divs32 = refl
operation-kind Divs64 = refl
operation-kind Rems32 = refl
operation-kind Rems64 = refl
operation-kind Eq32 = refl
operation-kind Eq64 = refl
operation-kind Ne32 = refl
operation-kind Ne64 = refl
operation-kind Ltu32 = refl
operation-kind Ltu64 = refl
operation-kind Leu32 = refl
operation-kind Leu64 = refl
operation-kind Lts32 = refl
operation-kind Lts64 = refl
operation-kind Les32 = refl
operation-kind Les64 = refl

module _ (arrays : List Array) (n : ℕ) (steps : List Instr) (ws : Shape) (vs : List ℕ) (known : AreValues arrays n steps ws vs) where
  by_right : (op : Op2) (a b d : ℕ) → StepFits arrays ws (Two op a b) → const_at n steps b ≡ Some d → IsRight arrays ws vs (op2_out op) (op2_result op (value_at vs a) (value_at vs b)) (divided_by n steps op a b d)
  unfolding divided_by
  by_right op a b d fits e =
      let k = kind_of op in
      let w = word_of (op2_in op) in
      let m = n + length steps in
      let top = narrowed (bits w) (top_within 8 n steps a) in
      let x : Division = record { next = m; left = a; right = b; divisor = d; top = top } in
      let z = op2_result op (value_at vs a) (value_at vs b) in
      let la = below arrays n steps ws vs known a (op2_in op) fits.0 in
      let left = operand arrays ws vs op a fits.0 la in
      let c = constant arrays n steps ws vs known b (op2_in op) d e fits.1 in
      let most = up_to (bits w) (value_at vs a) (top_within 8 n steps a) (word-width w) (top_law arrays n steps ws vs known 8 a (bits w) (word-width w) left.width) left.below in
      let value : op2_result (operation k w) (value_at vs a) d ≡ z = ap (λ (o : Op2). op2_result o (value_at vs a) d) (operation-kind op) ∙ ap (op2_result op (value_at vs a)) (sym c.value) in
      cond_both (((is_division k && nat_lt 1 d) && nat_lt d (2 ^ (bits w - 1))) && nat_lt m (2 ^ 32 - 16)) (divided k w x) Kept (IsRight arrays ws vs (op2_out op) z)
      (λ t. let p = and_parts ((is_division k && nat_lt 1 d) && nat_lt d (2 ^ (bits w - 1))) (nat_lt m (2 ^ 32 - 16)) t in
      let q = and_parts (is_division k && nat_lt 1 d) (nat_lt d (2 ^ (bits w - 1))) p.0 in
      let s = and_parts (is_division k) (nat_lt 1 d) q.0 in
      let r : IsDivision ws vs w x = record {
        long = long arrays n steps ws vs known;
        next = sym known.long;
        left = left;
        right = subst (λ (u : ℕ). IsOfWidth ws b u) (in-word op) fits.1;
        is = c.value;
        some = ltb-true 1 d s.1;
        half = ltb-true d (2 ^ (bits w - 1)) q.1;
        most = most.most;
        top_below = most.below;
      } in
      let law = divided_law arrays ws vs k w x r in
      let first = subst (λ (v : ℕ). IsRight arrays ws vs (width_out k (bits w)) v (divided k w x)) value law in
      subst (λ (u : ℕ). IsRight arrays ws vs u z (divided k w x)) (sym (result-out op)) first)
      (λ t. tt)

  by_constant_right : (op : Op2) (a b : ℕ) (o : Option ℕ) → StepFits arrays ws (Two op a b) → const_at n steps b ≡ o
      → IsRight arrays ws vs (op2_out op) (op2_result op (value_at vs a) (value_at vs b)) (by_divisor n steps op a b o)
  by_constant_right op a b None fits e = tt
  by_constant_right op a b (Some d) fits e = by_right op a b d fits e

  pub division_right : (w : ℕ) (i : Instr) → StepFits arrays ws i → step_width arrays i ≡ Some w → IsRight arrays ws vs w (pure_value i vs) (division_of n steps i)
  unfolding division_of
  division_right w (Const u c) fits width = tt
  division_right w (One op a) fits width = tt
  division_right w (Two op a b) fits width =
      let z = op2_result op (value_at vs a) (value_at vs b) in
      subst (λ (u : ℕ). IsRight arrays ws vs u z (by_divisor n steps op a b (const_at n steps b))) (same_Some (op2_out op) w width) (by_constant_right op a b (const_at n steps b) fits refl)
  division_right w (Select u c a b) fits width = tt
  division_right w (Load a p) fits width = tt
  division_right w (Store a p v) fits width = tt

pub or_else_right : (arrays : List Array) (ws : Shape) (vs : List ℕ) (w x : ℕ) (c : Change) (r : Rewriting) → IsRight arrays ws vs w x (rewriting_of c) → IsRight arrays ws vs w x r
    → IsRight arrays ws vs w x (or_else c r)
or_else_right arrays ws vs w x Stays r h g = g
or_else_right arrays ws vs w x (Is v) r h g = h
or_else_right arrays ws vs w x (Becomes i) r h g = h
or_else_right arrays ws vs w x (BecomesTwo i j) r h g = h
