use Rattle.std.proofs.Common.{◌≡◌, ℕ, ◌+◌, List, length, Some, sym, subst}
use Rattle.std.proofs.lemmas.Option.{same_Some}
use Rattle.el_base.specs.declared.ty.Array.{Array}
use Rattle.el_base.specs.Widths.{op1_out, op2_in, op2_out}
use Rattle.word_ops.specs.Operations.{op1_result, op2_result}
use Rattle.ir.specs.declared.instr.Instr.{Instr}
use Rattle.ir.specs.declared.instr.Instr.TheVariants.{Const, One, Two, Select, Load, Store}
use Rattle.ir.specs.Shapes.{Shape, StepFits, step_width}
use Rattle.ir.specs.Steps.{value_at}
use Rattle.block_rules.specs.Known.{IsPure, pure_value, AreValues}
use Rattle.block_rules.specs.Reading.{const_at, is_test}
use Rattle.block_rules.specs.OneRules.{one_change}
use Rattle.block_rules.specs.Rules.{rewritten, changed, two_change, division_of}
use Rattle.block_rules.proofs.Facts.{long, below, constant, test}
use Rattle.block_rules.proofs.Changed.{IsChange, change_right}
use Rattle.block_rules.proofs.OneLaws.{one_law}
use Rattle.block_rules.proofs.TwoLaws.{two_law}
use Rattle.block_rules.proofs.SelectLaws.{select_law}
use Rattle.block_rules.proofs.ConditionLaws.{strip_law}
use Rattle.block_rules.proofs.DivisionRight.{division_right, or_else_right}
use Rattle.block_rules.proofs.laws.rewritings_are_right.Goals as goal

module _ (arrays : List Array) (n : ℕ) (steps : List Instr) (ws : Shape) (vs : List ℕ) (known : AreValues arrays n steps ws vs) where
  changed_right : (w : ℕ) (i : Instr) → IsPure i → StepFits arrays ws i → step_width arrays i ≡ Some w → IsChange arrays ws vs w (pure_value i vs) (changed n steps i)
  unfolding changed two_change
  changed_right w (Const u c) pure fits width = tt
  changed_right w (One op a) pure fits width =
      let z = op1_result op (value_at vs a) in
      subst (λ (u : ℕ). IsChange arrays ws vs u z (one_change n steps op a)) (same_Some (op1_out op) w width) (one_law arrays n steps ws vs known op a fits)
  changed_right w (Two op a b) pure fits width =
      let z = op2_result op (value_at vs a) (value_at vs b) in
      let u = op2_in op in
      subst (λ (k : ℕ). IsChange arrays ws vs k z (two_change n steps op a b)) (same_Some (op2_out op) w width)
      (two_law arrays ws vs op (n + length steps) a b (const_at n steps a) (const_at n steps b) (is_test n steps a) (long arrays n steps ws vs known) (sym known.long)
      (record {
        first = fits.0;
        second = fits.1;
        first_below = below arrays n steps ws vs known a u fits.0;
        second_below = below arrays n steps ws vs known b u fits.1;
      })
      (λ c e. constant arrays n steps ws vs known a u c e fits.0) (λ c e. constant arrays n steps ws vs known b u c e fits.1) (λ e. test arrays n steps ws vs known a e))
  changed_right w (Select u c a b) pure fits width =
      subst (λ (k : ℕ). IsChange arrays ws vs k (pure_value (Select u c a b) vs) (changed n steps (Select u c a b))) (same_Some u w width)
      (select_law arrays n steps ws vs known u c a b fits.0 fits.1 fits.2 fits.3)
  changed_right w (Load a p) pure fits width = absurd pure
  changed_right w (Store a p v) pure fits width = absurd pure

pub returns-clause-steps : goal.returns-clause-steps
unfolding rewritten
returns-clause-steps c =
    λ arrays n steps ws vs i w known pure fits width.
    let x = pure_value i vs in
    let first = change_right arrays ws vs w x (changed n steps i) (long arrays n steps ws vs known) (changed_right arrays n steps ws vs known w i pure fits width) in
    or_else_right arrays ws vs w x (changed n steps i) (division_of n steps i) first (division_right arrays n steps ws vs known w i fits width)

pub returns-clause-conditions : goal.returns-clause-conditions
returns-clause-conditions c = λ arrays n steps ws vs d known width. strip_law arrays n steps ws vs known d width
