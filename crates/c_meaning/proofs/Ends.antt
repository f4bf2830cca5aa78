-- What is over ends in the same way within more turns, and so in one way.
use Rattle.std.proofs.Common.{◌≡◌, ℕ, ◌+◌, Option, Some, None, sym, ◌∙◌, ap, subst, arith}
use Rattle.std.specs.Prelude.{ℤ}
use Rattle.el_base.specs.declared.ty.Ty.{Ty}
use Rattle.el_base.specs.declared.span.Span.{Span}
use Rattle.c_ast.specs.declared.typed.TypedExpr.{TypedExpr}
use Rattle.c_ast.specs.declared.normal.NormalStmtKind.{NormalStmtKind}
use Rattle.c_ast.specs.declared.typed.TypedStmtKind.{TypedStmtKind}
use Rattle.c_meaning.specs.declared.profile.Profile.{Profile}
use Rattle.c_meaning.specs.Operators.{binary_value}
use Rattle.c_meaning.specs.Stores.{Objects, opening}
use Rattle.c_meaning.specs.Expressions.{meaning}
use Rattle.c_meaning.specs.Runs.{How, normally, by_break, by_continue, by_return, undefined, out_of_turns, Ended, Run}
use Rattle.c_meaning.specs.Statements.{kind_act, objects, body_run, kernel_end, with_kernel_end, kernel_run, IsResult, EndsBy}
use Rattle.c_meaning.specs.Normals.{normal_kind_act, normal_objects, normal_body_run, normal_run}
use Rattle.c_meaning.specs.Bounds.{IsOver, with_more, KeepsEnd, StatementsKeepEnds, KernelsKeepEnds, NormalStatementsKeepEnds, NormalsKeepEnds, IsOne, EndsIsOne, NormalEndsIsOne}
use Rattle.c_meaning.proofs.Growth.{Allows, Grows, SameMeaning, same_val, same_number}
use Rattle.c_meaning.proofs.StatementGrowth as statement
use Rattle.c_meaning.proofs.StatementGrowth.{OperatorsAgree}

pub over_rule : Allows IsOver
over_rule = record { on_normally = tt; on_break = tt; on_continue = tt; in_turns = λ o. o }

operators_agree : (p : Profile) → OperatorsAgree IsOver p p
operators_agree p op t at x y = same_number IsOver at (binary_value p op t x y)

expressions_agree : (k : Objects) (e : TypedExpr) → SameMeaning IsOver (meaning k e) (meaning k e)
expressions_agree k e s = same_val IsOver (meaning k e s)

pub kind_grows : (k : Objects) (x : TypedStmtKind) → Grows IsOver (kind_act k x).run (kind_act k x).run
kind_grows k x = (statement.kind_grows IsOver over_rule k.profile k.profile k.vars k.arrays (operators_agree k.profile) (expressions_agree k) x).grows

pub normal_kind_grows : (k : Objects) (x : NormalStmtKind) → Grows IsOver (normal_kind_act k x).run (normal_kind_act k x).run
normal_kind_grows k x = (statement.normal_kind_grows IsOver over_rule k.profile k.profile k.vars k.arrays (operators_agree k.profile) (expressions_agree k) x).grows

pub does_grows : StatementsKeepEnds
does_grows k x s n m o = kind_grows k x.kind s n m o

pub normal_does_grows : NormalStatementsKeepEnds
normal_does_grows k x s n m o = normal_kind_grows k x.kind s n m o

-- ---- kernels

pub kernel_end_over : (r : Option Ty) (at : Span) (h : How) → IsOver (kernel_end r at h) → IsOver h
kernel_end_over (Some t) at normally o = tt
kernel_end_over None at normally o = tt
kernel_end_over r at by_break o = tt
kernel_end_over r at by_continue o = tt
kernel_end_over r at (by_return v) o = tt
kernel_end_over r at (undefined p) o = tt
kernel_end_over r at out_of_turns o = o

kernel_end_grows : (r : Option Ty) (at : Span) (a : Run) → Grows IsOver a a → Grows IsOver (λ s n. with_kernel_end r at (a s n)) (λ s n. with_kernel_end r at (a s n))
kernel_end_grows r at a g s n m o = ap (with_kernel_end r at) (g s n m (kernel_end_over r at (a s n).how o))

pub kernel_grows : KernelsKeepEnds
kernel_grows k p i n m o =
    kernel_end_grows k.result k.at (body_run (objects p k) k.body) (statement.body_grows IsOver over_rule p p k.vars k.arrays (operators_agree p) (expressions_agree (objects p k)) k.body) (opening (objects p k) i) n m o

pub normal_grows : NormalsKeepEnds
normal_grows k p i n m o =
    kernel_end_grows k.result k.at (normal_body_run (normal_objects p k) k.body) (statement.normal_body_grows IsOver over_rule p p k.vars k.arrays (operators_agree p) (expressions_agree (normal_objects p k)) k.body) (opening (normal_objects p k) i) n m o

-- ---- the end is one

pub result_over : (t : Option Ty) (h : How) (r : Option ℤ) → IsResult t h r → IsOver h
result_over None normally r e = tt
result_over (Some t) normally r e = tt
result_over t by_break r e = tt
result_over t by_continue r e = tt
result_over t (by_return v) r e = tt
result_over t (undefined at) r e = tt
result_over None out_of_turns r e = e
result_over (Some t) out_of_turns r e = e

result_one : (t : Option Ty) (h : How) (r q : Option ℤ) → IsResult t h r → IsResult t h q → r ≡ q
result_one None normally r q e f = e ∙ sym f
result_one (Some t) normally r q e f = absurd e
result_one None by_break r q e f = absurd e
result_one (Some t) by_break r q e f = absurd e
result_one None by_continue r q e f = absurd e
result_one (Some t) by_continue r q e f = absurd e
result_one None (by_return v) r q e f = e ∙ sym f
result_one (Some t) (by_return v) r q e f = e ∙ sym f
result_one None (undefined at) r q e f = absurd e
result_one (Some t) (undefined at) r q e f = absurd e
result_one None out_of_turns r q e f = absurd e
result_one (Some t) out_of_turns r q e f = absurd e

pub one_end : (t : Option Ty) (run : ℕ → Ended) → KeepsEnd run → IsOne (EndsBy t run)
one_end ty run keeps out p r q t u a b =
    let x = run a.bound in
    let y = run b.bound in
    let swap : a.bound + b.bound ≡ b.bound + a.bound = omega arith in
    let left = keeps a.bound b.bound (result_over ty x.how r a.result) in
    let right = keeps b.bound a.bound (result_over ty y.how q b.result) in
    let same : with_more b.bound x ≡ with_more a.bound y = sym left ∙ ap run swap ∙ right in
    let lefts : x.left + b.bound ≡ y.left + a.bound = ap (λ e. e.left) same in
    let ta = a.all_turns in
    let tb = b.all_turns in
    (a.arrays ∙ ap (λ e. e.store.arrays) same ∙ sym b.arrays, result_one ty y.how r q (subst (λ h. IsResult ty h r) (ap (λ e. e.how) same) a.result) b.result, omega arith)

pub ends_one : EndsIsOne
ends_one k p i = one_end k.result (kernel_run k p i) (kernel_grows k p i)

pub normal_ends_one : NormalEndsIsOne
normal_ends_one k p i = one_end k.result (normal_run k p i) (normal_grows k p i)
