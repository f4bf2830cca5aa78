-- A worked program that is lawful, and two that are not.
use Rattle.std.proofs.Common.{◌≡◌, ℕ, zero, suc, ◌<◌, List, [], ◌∷◌, Some, None, refl, arith, ◌⊎◌, inl, inr}
use Rattle.std.specs.Prelude.{false, Contains}
use Rattle.std.proofs.lemmas.Bool.{false≢true}
use Rattle.std.proofs.lemmas.List.Elements.{All-nil, All-cons}
use Rattle.el_base.specs.declared.ty.Ty.TheVariants.{I32}
use Rattle.c_ast.specs.declared.tree.Binary.TheVariants as op
use Rattle.c_ast.specs.declared.tree.Param.{Param}
use Rattle.c_ast.specs.declared.program.ProgExprKind.TheVariants as tree
use Rattle.c_ast.specs.declared.program.ProgStmt.{ProgStmt}
use Rattle.c_ast.specs.declared.program.ProgStmtKind.TheVariants as act
use Rattle.c_ast.specs.declared.program.TypedHelper.{TypedHelper}
use Rattle.c_meaning.specs.Lawful.{AreDimensions}
use Rattle.c_calls.specs.Meanings.{helper_objects, prog_objects}
use Rattle.c_calls.specs.Lawful.{Signature, signature_of, LawfulCallStmt, LawfulHelper}
use Rattle.c_calls.specs.Worked.{p_at, a_var, a_call, a_stmt, a_param, a_helper, a_kernel, TwiceIsLawful, CallInASide, ReadBehindItsBlock}
use Rattle.c_calls.proofs.Lists.{no_member, here, there, member_cases}
use Rattle.c_calls.proofs.TreeRows.{prog_expr_rows, prog_stmt_rows}

not_in : (v w : ℕ) → (w ≡ v → ⊥) → Contains (v ∷ []) w → ⊥
not_in v w n c = by_cases (member_cases v [] w c)
  where
    by_cases : (w ≡ v) ⊎ Contains [] w → ⊥
    by_cases (inl e) = n e
    by_cases (inr d) = no_member w d

abbrev doubles : ProgStmt
doubles = a_stmt 10 (act.Declare 1 (Some (p_at 11 (tree.Binary op.Add (a_var 12 0) (a_var 13 0)))))

abbrev twice : TypedHelper
twice = a_helper (doubles ∷ []) (a_var 14 1)

used_at : (v : ℕ) → v < 2 → (v < 1) ⊎ Contains (1 ∷ []) v
used_at zero l = inl (omega arith)
used_at (suc zero) l = inr (here 1 [])
used_at (suc (suc v)) l = absurd (omega arith)

zero_in : Contains {X = ℕ} (1 ∷ 0 ∷ []) 0
zero_in = there 1 (0 ∷ []) 0 (here 0 [])

twice_lawful : LawfulHelper [] twice
twice_lawful = unfold prog_expr_rows prog_stmt_rows in record {
  scalars = All-cons (λ (q : Param). q.dims ≡ []) a_param [] refl (All-nil (λ (q : Param). q.dims ≡ []));
  first_vars = refl;
  used = used_at;
  statements = λ p. All-cons (λ (s : ProgStmt). LawfulCallStmt (helper_objects p twice) [] None false s.kind) doubles [] (refl, ((refl, refl, refl), refl, refl)) (All-nil (λ (s : ProgStmt). LawfulCallStmt (helper_objects p twice) [] None false s.kind));
  result = λ p. refl;
  typed = refl;
  scoped = record { once = (not_in 1 0 (λ e. omega arith), ((λ c. no_member 1 c), tt)); scoped = ((not_in 0 1 (λ e. omega arith), (zero_in, zero_in)), tt) };
  reads = here 1 (0 ∷ []);
}

abbrev returns_it : ProgStmt
returns_it = a_stmt 20 (act.Return (Some (p_at 21 (tree.Binary op.Add (a_call 22 0 (a_call 23 0 (a_var 24 0))) (a_var 25 0)))))

abbrev known : List Signature
known = signature_of twice ∷ []

pub twice_is_lawful : TwiceIsLawful
twice_is_lawful = unfold prog_expr_rows prog_stmt_rows in record {
  helpers = (twice_lawful, tt);
  header = λ p. record {
    distinct = ((λ m. absurd (omega (arith, m.1))), tt);
    dimensions = All-cons (λ (q : Param). AreDimensions q.dims) a_param [] (omega arith, All-nil (λ d. 0 < d)) (All-nil (λ (q : Param). AreDimensions q.dims));
    few_elements = omega arith;
    first_vars = refl;
    arrays_are = refl;
  };
  used = λ v l. inl l;
  statements = λ p. All-cons (λ (s : ProgStmt). LawfulCallStmt (prog_objects p (a_kernel (returns_it ∷ []))) known (Some (Some I32)) false s.kind) returns_it []
      (refl, ((refl, refl, refl), ((refl, (signature_of twice, refl, refl, refl)), (((refl, (signature_of twice, refl, refl, refl)), (refl, tt)), tt)), refl))
      (All-nil (λ (s : ProgStmt). LawfulCallStmt (prog_objects p (a_kernel (returns_it ∷ []))) known (Some (Some I32)) false s.kind));
  scoped = record { once = ((λ c. no_member 0 c), tt); scoped = ((((here 0 [], tt), tt), here 0 []), tt) };
}

pub call_in_a_side : CallInASide
call_in_a_side k h = unfold prog_expr_rows prog_stmt_rows in false≢true h.2.0.0

pub read_behind_its_block : ReadBehindItsBlock
read_behind_its_block h = unfold prog_expr_rows prog_stmt_rows in not_in 0 1 (λ e. omega arith) h.scoped.1.0
