-- What ends under Plain ends in the same way under Wrap.
use Rattle.std.proofs.Common.{◌≡◌, ℕ, ◌+◌, List, Option, Some, None, sym, ◌∙◌, ap, subst, arith}
use Rattle.std.specs.Prelude.{ℤ}
use Rattle.el_base.specs.declared.ty.Ty.{Ty}
use Rattle.el_base.specs.declared.span.Span.{Span}
use Rattle.c_meaning.specs.declared.profile.Profile.TheVariants.{Plain, Wrap}
use Rattle.c_meaning.specs.Stores.{Store, opening}
use Rattle.c_meaning.specs.Expressions.{Val, undefined_value, value, val}
use Rattle.c_meaning.specs.Runs.{How, normally, by_break, by_continue, by_return, undefined, out_of_turns, Ended, Run}
use Rattle.c_meaning.specs.Statements.{objects, act, body_run, kernel_end, with_kernel_end, kernel_run, IsResult, EndsBy}
use Rattle.c_meaning.specs.Normals.{normal_objects, normal_act, normal_body_run, normal_run}
use Rattle.c_meaning.specs.Profiles.{IsDefined, under, WrapKeepsValues, WrapKeepsStatements, WrapKeepsNormalStatements, WrapKeepsEnds, WrapKeepsNormalEnds}
use Rattle.c_meaning.specs.Bounds.{with_more}
use Rattle.c_meaning.proofs.Growth.{Grows, SameVal}
use Rattle.c_meaning.proofs.StatementGrowth.{kind_grows, body_grows, normal_kind_grows, normal_body_grows}
use Rattle.c_meaning.proofs.ProfileExpressions.{StaysInRange, defined_rule, operators_agree, expressions_agree}

no_more : (e : Ended) → with_more 0 e ≡ e
no_more e = let l : e.left + 0 ≡ e.left = omega arith in ap (λ n. record e { left = n }) l

-- within the same turns
at_once : (a b : Run) → Grows IsDefined a b → (s : Store) (n : ℕ) → IsDefined (a s n).how → b s n ≡ a s n
at_once a b g s n o =
    let l : n + 0 ≡ n = omega arith in
    ap (b s) (sym l) ∙ g s n 0 o ∙ no_more (a s n)

same_value : (v w : Val) (z : ℤ) (t : ℕ) → SameVal IsDefined v w → v ≡ value z t → w ≡ value z t
same_value (undefined_value at) w z t q e = cc
same_value (value x u) w z t q e = q ∙ e

kernel_end_defined : (r : Option Ty) (at : Span) (h : How) → IsDefined (kernel_end r at h) → IsDefined h
kernel_end_defined (Some t) at normally o = tt
kernel_end_defined None at normally o = tt
kernel_end_defined r at by_break o = tt
kernel_end_defined r at by_continue o = tt
kernel_end_defined r at (by_return v) o = tt
kernel_end_defined r at (undefined p) o = o
kernel_end_defined r at out_of_turns o = o

result_defined : (t : Option Ty) (h : How) (r : Option ℤ) → IsResult t h r → IsDefined h
result_defined None normally r e = tt
result_defined (Some t) normally r e = tt
result_defined t by_break r e = tt
result_defined t by_continue r e = tt
result_defined t (by_return v) r e = tt
result_defined None (undefined at) r e = e
result_defined (Some t) (undefined at) r e = e
result_defined None out_of_turns r e = e
result_defined (Some t) out_of_turns r e = e

-- two runs of which the second does what the first does where that is defined
ends_too : (t : Option Ty) (a b : ℕ → Ended) → ((n : ℕ) → IsDefined (a n).how → b n ≡ a n) → (out : List (List ℤ)) (r : Option ℤ) (turns : ℕ) → EndsBy t a out r turns → EndsBy t b out r turns
ends_too t a b g out r turns e =
    let is : a e.bound ≡ b e.bound = sym (g e.bound (result_defined t (a e.bound).how r e.result)) in
    record {
      bound = e.bound;
      all_turns = subst (λ (u : Ended). u.left + turns ≡ e.bound) is e.all_turns;
      arrays = subst (λ (u : Ended). out ≡ u.store.arrays) is e.arrays;
      result = subst (λ (u : Ended). IsResult t u.how r) is e.result;
    }

module _ (stays : StaysInRange) where
  pub values_kept : WrapKeepsValues
  values_kept k s e z t h = same_value (val (under Plain k) s e) (val (under Wrap k) s e) z t (expressions_agree stays k.vars k.arrays e s) h

  pub statements_kept : WrapKeepsStatements
  statements_kept k x s n o =
      at_once (act (under Plain k) x).run (act (under Wrap k) x).run
      (kind_grows IsDefined defined_rule Plain Wrap k.vars k.arrays (operators_agree stays) (expressions_agree stays k.vars k.arrays) x.kind).grows s n o

  pub normal_statements_kept : WrapKeepsNormalStatements
  normal_statements_kept k x s n o =
      at_once (normal_act (under Plain k) x).run (normal_act (under Wrap k) x).run
      (normal_kind_grows IsDefined defined_rule Plain Wrap k.vars k.arrays (operators_agree stays) (expressions_agree stays k.vars k.arrays) x.kind).grows s n o

  pub ends_kept : WrapKeepsEnds
  ends_kept k i = ends_too k.result (kernel_run k Plain i) (kernel_run k Wrap i)
      (λ n o. ap (with_kernel_end k.result k.at)
      (at_once (body_run (objects Plain k) k.body) (body_run (objects Wrap k) k.body)
      (body_grows IsDefined defined_rule Plain Wrap k.vars k.arrays (operators_agree stays) (expressions_agree stays k.vars k.arrays) k.body) (opening (objects Plain k) i) n
      (kernel_end_defined k.result k.at (body_run (objects Plain k) k.body (opening (objects Plain k) i) n).how o)))

  pub normal_ends_kept : WrapKeepsNormalEnds
  normal_ends_kept k i = ends_too k.result (normal_run k Plain i) (normal_run k Wrap i)
      (λ n o. ap (with_kernel_end k.result k.at)
      (at_once (normal_body_run (normal_objects Plain k) k.body) (normal_body_run (normal_objects Wrap k) k.body)
      (normal_body_grows IsDefined defined_rule Plain Wrap k.vars k.arrays (operators_agree stays) (expressions_agree stays k.vars k.arrays) k.body) (opening (normal_objects Plain k) i) n
      (kernel_end_defined k.result k.at (normal_body_run (normal_objects Plain k) k.body (opening (normal_objects Plain k) i) n).how o)))
