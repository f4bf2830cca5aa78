-- One laying after another, as the code puts them.
use Rattle.std.proofs.Common.{◌≡◌, ℕ, ◌+◌, List, ◌++◌, length, sym, ◌∙◌, ap, arith, length-append, append_assoc}
use Rattle.std.specs.Prelude.{Result, IfOk}
use Rattle.std.proofs.Common.{subst}
use Rattle.el_base.specs.declared.memory.Memory.{Memory}
use Rattle.el_base.specs.declared.ty.Ty.{Ty}
use Rattle.el_base.specs.declared.operation.Op1.{Op1}
use Rattle.el_base.specs.declared.operation.Op2.{Op2}
use Rattle.el_base.specs.declared.operation.Op2.TheVariants.{Shl32, Shl64, Shru32, Shru64, Shrs32, Shrs64}
use Rattle.c_ast.specs.declared.tree.Binary.{Binary}
use Rattle.c_ast.specs.declared.tree.Binary.TheVariants.{Shl, Shr}
use Rattle.c_meaning.specs.Patterns.{by_type}
use Rattle.ir.specs.declared.instr.Instr.{Instr}
use Rattle.ir.specs.declared.instr.Instr.TheVariants.{One, Two}
use Rattle.struct_cfg.specs.Layings.{Laying, one_step, after}
use Rattle.struct_cfg.specs.Operators.{flag, zero_test, converted, joined}
use Rattle.struct_cfg.specs.Code.{IsLaid}

pub laid_after : (a : Laying) (f : ℕ → Laying) (env : List ℕ) (old mid new : List Instr) (v u : ℕ) → IsLaid a env old mid v → IsLaid (f v) env mid new u → IsLaid (after a f) env old new u
unfolding after
laid_after a f env old mid new v u p q =
    let n = length env + length old in
    let x = a n in
    let l : length env + length mid ≡ n + length x.steps = omega (arith, ap length p.steps ∙ length-append old x.steps) in
    let same : f v (length env + length mid) ≡ f x.value (n + length x.steps) = ap (λ i. f i (length env + length mid)) p.value ∙ ap (f x.value) l in
    record {
      steps = q.steps ∙ ap (λ s. s ++ (f v (length env + length mid)).steps) p.steps ∙ append_assoc old x.steps (f v (length env + length mid)).steps ∙ ap (λ y. old ++ (x.steps ++ y.steps)) same;
      value = q.value ∙ ap (λ y. y.value) same;
    }

pub twice_laid : (first second : Op1) (value : ℕ) (env : List ℕ) (old mid new : List Instr) (v u : ℕ) → IsLaid (one_step (One first value)) env old mid v → IsLaid (one_step (One second v)) env mid new u → IsLaid (after (one_step (One first value)) (λ z. one_step (One second z))) env old new u
twice_laid first second value env old mid new v u p q = laid_after (one_step (One first value)) (λ z. one_step (One second z)) env old mid new v u p q

-- a type's own laying
pub flag_as : (t t2 : Ty) (value : ℕ) (r : Result ℕ Memory) (env : List ℕ) (old new : List Instr) → t ≡ t2 → IfOk r (λ v. IsLaid (flag t2 value) env old new v) → IfOk r (λ v. IsLaid (flag t value) env old new v)
flag_as t t2 value r env old new e h = subst (λ u. IfOk r (λ v. IsLaid (flag u value) env old new v)) (sym e) h

pub test_as : (t t2 : Ty) (value : ℕ) (r : Result ℕ Memory) (env : List ℕ) (old new : List Instr) → t ≡ t2 → IfOk r (λ v. IsLaid (zero_test t2 value) env old new v) → IfOk r (λ v. IsLaid (zero_test t value) env old new v)
test_as t t2 value r env old new e h = subst (λ u. IfOk r (λ v. IsLaid (zero_test u value) env old new v)) (sym e) h

-- two sides, a selection by them, and what is made of it
pub sides_laid : (a b : Laying) (f : ℕ → ℕ → Laying) (g : ℕ → Laying) (env : List ℕ) (s0 s1 s2 s3 s4 : List Instr) (x y z u : ℕ) → IsLaid a env s0 s1 x → IsLaid b env s1 s2 y → IsLaid (f x y) env s2 s3 z → IsLaid (g z) env s3 s4 u
    → IsLaid (after a (λ x. after b (λ y. after (f x y) g))) env s0 s4 u
sides_laid a b f g env s0 s1 s2 s3 s4 x y z u p q r t =
    laid_after a (λ x. after b (λ y. after (f x y) g)) env s0 s1 s4 x u p (laid_after b (λ y. after (f x y) g) env s1 s2 s4 y u q (laid_after (f x y) g env s2 s3 s4 z u r t))

-- shifts, by their operation
pub left_as : (op : Binary) (t u : Ty) (a b : ℕ) (o : Op2) (r : Result ℕ Memory) (env : List ℕ) (old new : List Instr) → op ≡ Shl → o ≡ by_type t Shl32 Shl32 Shl64 Shl64
    → IfOk r (λ v. IsLaid (after (converted u t b) (λ c. one_step (Two o a c))) env old new v) → IfOk r (λ v. IsLaid (joined op t u a b) env old new v)
left_as op t u a b o r env old new e f h =
    subst (λ i. IfOk r (λ v. IsLaid (joined i t u a b) env old new v)) (sym e) (subst (λ i. IfOk r (λ v. IsLaid (after (converted u t b) (λ c. one_step (Two i a c))) env old new v)) f h)

pub right_as : (op : Binary) (t u : Ty) (a b : ℕ) (o : Op2) (r : Result ℕ Memory) (env : List ℕ) (old new : List Instr) → op ≡ Shr → o ≡ by_type t Shrs32 Shru32 Shrs64 Shru64
    → IfOk r (λ v. IsLaid (after (converted u t b) (λ c. one_step (Two o a c))) env old new v) → IfOk r (λ v. IsLaid (joined op t u a b) env old new v)
right_as op t u a b o r env old new e f h =
    subst (λ i. IfOk r (λ v. IsLaid (joined i t u a b) env old new v)) (sym e) (subst (λ i. IfOk r (λ v. IsLaid (after (converted u t b) (λ c. one_step (Two i a c))) env old new v)) f h)
