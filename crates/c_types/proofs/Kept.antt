-- A tree, and a program, keeps the typing rules exactly where it has no fault.
use Rattle.std.proofs.Common.{◌≡◌, ◌≢◌, ℕ, ◌+◌, ◌<◌, ◌≤◌, Bool, true, false, not, ◌||◌, nat_lt, nat_eq, List, [], ◌∷◌, ◌++◌, length, All, Option, Some, None, IsSome, refl, sym, ap, subst, ◌∙◌, if◌then◌else◌, arith}
use Rattle.std.proofs.lemmas.Bool.Decides.{nat_tests}
use Rattle.std.proofs.lemmas.List.Elements.{All-nil, All-cons, All-head, All-tail}
use Rattle.std.proofs.lemmas.Bool.{not-true, ltb-false}
use Rattle.std.specs.Prelude.{option_map}
use Rattle.std.specs.List.{list_any}
use Rattle.std.specs.Map.{lookup}
use mathlib.Core.Former.{Count}
use mathlib.Core.Logic.{◌↔◌}
use Rattle.el_base.specs.declared.span.Span.{Span}
use Rattle.el_base.specs.declared.ty.Ty.{Ty}
use Rattle.el_base.specs.Limits.{max_dimensions, max_elements}
use Rattle.c_ast.specs.declared.tree.Tree.{Tree}
use Rattle.c_ast.specs.declared.tree.Param.{Param}
use Rattle.c_ast.specs.declared.tree.Target.{Target}
use Rattle.c_ast.specs.declared.tree.Expr.{Expr}
use Rattle.c_ast.specs.declared.tree.ExprKind.{ExprKind, Row_of-Expr, end_of-Expr, more_of-Expr}
use Rattle.c_ast.specs.declared.tree.ExprKind as expr
use Rattle.c_ast.specs.declared.tree.Stmt.{Stmt}
use Rattle.c_ast.specs.declared.tree.StmtKind.{StmtKind, Row_of-Stmt, end_of-Stmt, more_of-Stmt, Held-StmtKind-If-2}
use Rattle.c_ast.specs.declared.tree.StmtKind as stmt
use Rattle.c_ast.specs.Typing as typing
use Rattle.c_ast.specs.Typing.{Names, a_scalar, an_array, sort_of, with_name, IsNew, IsUsable, IsCallable, a_helper, IsReturnable, row_length, TypingKind, TypingRow, TypingExpr, TypingOption, TypingTarget, names_after, names_after_row, TypingStmt, TypingHeld, TypingStmts, TypingList, elements_of, IsParameter, TypingParams, scope_of, Typing}
use Rattle.c_types.specs.declared.fault.Rule.{Rule}
use Rattle.c_types.specs.declared.fault.Rule.TheVariants as rule
use Rattle.c_types.specs.declared.fault.Fault.{Fault}
use Rattle.c_types.specs.declared.sort.Sort.{Sort}
use Rattle.c_types.specs.declared.sort.Sort.TheVariants as sort
use Rattle.c_types.specs.Places.{first_bytes}
use Rattle.c_types.specs.Scopes.{declared_in, is_new_in, with_entry, scope_by, scopes_by}
use Rattle.c_types.proofs.Renamed.{lookup-scope_by, found-scopes_by, none_by, by_none}
use Rattle.c_types.specs.Faults.{Sorts, broken_by_use, broken_by_call, call_faults, if_broken, use_faults, kind_faults, row_faults, expr_faults, exprs_faults, option_faults, target_faults, unless, is_returnable, sorts_after, sorts_after_row, act_faults, held_faults, acts_faults, stmt_faults, stmts_faults, sort_of_dims, param_faults, params_faults, sorts_after_params, block_faults, tree_faults, sorts_after_all, sorts_at_end}
use Rattle.c_types.proofs.Lookups.{same_name}
use Rattle.c_ast.specs.Programs.{joins_both, where_whole, CallsStand, CallsStandIn, StandsAt, StandsIfAny, CallsStandStmt, CallsStandHeld, CallsStandStmts, names_after_list, TypingHelper, TypingHelpers, known_after, TypingProgram}
use Rattle.c_types.specs.CallPlaces.{call_places, kind_places, row_places, expr_places, exprs_places, option_places, target_places, act_places, held_places, acts_places, stmt_places, stmts_places, helper_places, helpers_places, program_places}
use Rattle.c_ast.specs.declared.tree.Helper.{Helper}
use Rattle.c_ast.specs.declared.tree.Program.{Program}
use Rattle.c_types.specs.ProgramFaults.{helper_faults, sorts_after_helper, helpers_faults, sorts_after_helpers, kernel_faults, declared_faults, program_faults}

-- ---- lists without items

pub first_empty : {A : Type 0} (xs ys : List A) → xs ++ ys ≡ [] → xs ≡ []
first_empty [] ys h = refl
first_empty (x ∷ xs) ys h = absurd (cc)

pub second_empty : {A : Type 0} (xs ys : List A) → xs ++ ys ≡ [] → ys ≡ []
second_empty [] ys h = h
second_empty (x ∷ xs) ys h = absurd (cc)

pub both_empty : {A : Type 0} (xs ys : List A) → xs ≡ [] → ys ≡ [] → xs ++ ys ≡ []
both_empty xs ys h h2 = rw h h2

pub holds_unless : (b : Bool) (r : Rule) (s : Span) → unless b r s ≡ [] → b ≡ true
holds_unless true r s h = refl
holds_unless false r s h = absurd (cc)

pub unless_holds : (b : Bool) (r : Rule) (s : Span) → b ≡ true → unless b r s ≡ []
unless_holds b r s h = rw h refl

pub unless_keeps : (b : Bool) (r : Rule) (s : Span) → (unless b r s ≡ []) ↔ (b ≡ true)
unless_keeps b r s = (holds_unless b r s, unless_holds b r s)

abbrev AreNone : List Fault → Type 0
AreNone faults = faults ≡ []

pub none_keeps : AreNone [] ↔ Unit {0}
none_keeps = (λ h. tt, λ k. refl)

-- rules that two lists of faults keep, the second where the first does
pub then_keeps : {A B : Type 0} (xs ys : List Fault) → (xs ≡ []) ↔ A → (A → (ys ≡ []) ↔ B) → (xs ++ ys ≡ []) ↔ (A × B)
then_keeps xs ys p q = (
  λ h. let a = p.0 (first_empty xs ys h) in (a, (q a).0 (second_empty xs ys h)),
  λ k. both_empty xs ys (p.1 k.0) ((q k.0).1 k.1),
)

pub both_keep : {A B : Type 0} (xs ys : List Fault) → (xs ≡ []) ↔ A → (ys ≡ []) ↔ B → (xs ++ ys ≡ []) ↔ (A × B)
both_keep xs ys p q = then_keeps xs ys p (λ a. q)

pub three_keep : {A B C : Type 0} (xs ys zs : List Fault) → (xs ≡ []) ↔ A → (ys ≡ []) ↔ B → (zs ≡ []) ↔ C → (xs ++ (ys ++ zs) ≡ []) ↔ (A × B × C)
three_keep xs ys zs p q r =
    let both = both_keep xs (ys ++ zs) p (both_keep ys zs q r) in
    (λ h. let k = both.0 h in (k.0, k.1.0, k.1.1), λ k. both.1 (k.0, (k.1, k.2)))

pub all_keep : {A : Type 0} (P : A → Type 0) (a : A) (more : List A) (xs ys : List Fault) → (xs ≡ []) ↔ P a → (ys ≡ []) ↔ All P more → (xs ++ ys ≡ []) ↔ All P (a ∷ more)
all_keep P a more xs ys p q =
    let both = both_keep xs ys p q in
    (λ h. All-cons P a more (both.0 h).0 (both.0 h).1, λ k. both.1 (All-head P a more k, All-tail P a more k))

or_first : (a b : Bool) → (a || b) ≡ false → a ≡ false
or_first true b h = absurd (cc)
or_first false b h = refl

or_second : (a b : Bool) → (a || b) ≡ false → b ≡ false
or_second true b h = absurd (cc)
or_second false b h = h

both_false : (a b : Bool) → a ≡ false → b ≡ false → (a || b) ≡ false
both_false a b h h2 = rw (h, h2) refl

-- ---- the names in force, in the words of the rules

abbrev pub sort_for : Sort → typing.Sort
sort_for sort.Scalar = a_scalar
sort_for (sort.Array n) = an_array n
sort_for (sort.Helper n) = a_helper n

abbrev pub scope_for : List (List ℕ × Sort) → List (List ℕ × typing.Sort)
scope_for s = scope_by sort_for s

abbrev pub names_of : Sorts → Names
names_of v = scopes_by sort_for v

sort_for_name : (v : Sorts) (x : List ℕ) → sort_of (names_of v) x ≡ option_map sort_for (declared_in v x)
sort_for_name v x = found-scopes_by sort_for v x

pub is_new : (v : Sorts) (x : List ℕ) → is_new_in v x ≡ true → IsNew (names_of v) x
is_new [] x h = tt
is_new (s ∷ ss) x h = lookup-scope_by sort_for (same_name x) s ∙ none_by sort_for (lookup (same_name x) s) h

pub new_is : (v : Sorts) (x : List ℕ) → IsNew (names_of v) x → is_new_in v x ≡ true
new_is [] x h = refl
new_is (s ∷ ss) x h = by_none sort_for (lookup (same_name x) s) (sym (lookup-scope_by sort_for (same_name x) s) ∙ h)

pub with_new : (v : Sorts) (x : List ℕ) → is_new_in v x ≡ true → names_of (with_entry x sort.Scalar v) ≡ with_name x (names_of v)
with_new [] x h = refl
with_new (s ∷ ss) x h = ap (λ b. scope_for (if b then (x, sort.Scalar) ∷ s else s) ∷ names_of ss) h

-- ---- uses

equal : (a b : ℕ) → nat_eq a b ≡ true → a ≡ b
equal a b h = grind (arith, nat_tests)

unequal : (a b : ℕ) → nat_eq a b ≡ false → a ≢ b
unequal a b h = grind (arith, nat_tests)

equal_is : (a b : ℕ) → a ≡ b → nat_eq a b ≡ true
equal_is a b h = grind (arith, nat_tests)

usable : (names : Names) (x : List ℕ) (r : Option Sort) (n : ℕ) → sort_of names x ≡ option_map sort_for r → broken_by_use r n ≡ None → IsUsable names x n
usable names x None n is h = absurd (cc)
usable names x (Some sort.Scalar) n is h = by (nat_eq n 0) refl
  where
    by : (b : Bool) → nat_eq n 0 ≡ b → IsUsable names x n
    by true e = record {
      rule_20_declared = subst IsSome (sym is) refl;
      rule_22_scalar_has_none = λ s. equal n 0 e;
      rule_23_array_has_some = λ m s. absurd (cc);
      rule_24_one_for_each = λ m s lt. absurd (cc);
      rule_23_no_helper = λ m s. cc;
    }
    by false e = let k = rw e at h in absurd (cc)
usable names x (Some (sort.Array d)) n is h = by (nat_eq n 0) (nat_eq n d) refl refl
  where
    by : (b b2 : Bool) → nat_eq n 0 ≡ b → nat_eq n d ≡ b2 → IsUsable names x n
    by true b2 e e2 = let k = rw e at h in absurd (cc)
    by false false e e2 = let k = rw (e, e2) at h in absurd (cc)
    by false true e e2 = record {
      rule_20_declared = subst IsSome (sym is) refl;
      rule_22_scalar_has_none = λ s. absurd (cc);
      rule_23_array_has_some = λ m s. (let ne : n ≢ 0 = unequal n 0 e in omega arith);
      rule_24_one_for_each = λ m s lt. (let d_is : d ≡ m = cc in equal n d e2 ∙ d_is);
      rule_23_no_helper = λ m s. cc;
    }
usable names x (Some (sort.Helper d)) n is h = absurd (cc)

unbroken : (names : Names) (x : List ℕ) (r : Option Sort) (n : ℕ) → sort_of names x ≡ option_map sort_for r → IsUsable names x n → broken_by_use r n ≡ None
unbroken names x None n is u = let h : false ≡ true = subst IsSome is u.rule_20_declared in absurd (cc)
unbroken names x (Some sort.Scalar) n is u = rw (equal_is n 0 (u.rule_22_scalar_has_none is)) refl
unbroken names x (Some (sort.Array d)) n is u = by (nat_eq n 0) refl
  where
    some : 0 < n
    some = u.rule_23_array_has_some d is

    by : (b : Bool) → nat_eq n 0 ≡ b → broken_by_use (Some (sort.Array d)) n ≡ None
    by true e = let z : n ≡ 0 = equal n 0 e in absurd (omega (arith, some))
    by false e = rw (e, equal_is n d (u.rule_24_one_for_each d is some)) refl
unbroken names x (Some (sort.Helper d)) n is u = absurd (u.rule_23_no_helper d is)

callable : (names : Names) (x : List ℕ) (r : Option Sort) (n : ℕ) → sort_of names x ≡ option_map sort_for r → broken_by_call r n ≡ None → IsCallable names x n
callable names x None n is h = absurd (cc)
callable names x (Some sort.Scalar) n is h = absurd (cc)
callable names x (Some (sort.Array d)) n is h = absurd (cc)
callable names x (Some (sort.Helper d)) n is h = by (nat_eq n d) refl
  where
    by : (b : Bool) → nat_eq n d ≡ b → IsCallable names x n
    by true e = record {
      rule_20_declared = subst IsSome (sym is) refl;
      rule_17_no_scalar = λ s. cc;
      rule_17_no_array = λ m s. cc;
      rule_29_one_for_each = λ m s. (let d_is : d ≡ m = cc in equal n d e ∙ d_is);
    }
    by false e = let k = rw e at h in absurd (cc)

uncalled : (names : Names) (x : List ℕ) (r : Option Sort) (n : ℕ) → sort_of names x ≡ option_map sort_for r → IsCallable names x n → broken_by_call r n ≡ None
uncalled names x None n is u = let h : false ≡ true = subst IsSome is u.rule_20_declared in absurd (cc)
uncalled names x (Some sort.Scalar) n is u = absurd (u.rule_17_no_scalar is)
uncalled names x (Some (sort.Array d)) n is u = absurd (u.rule_17_no_array d is)
uncalled names x (Some (sort.Helper d)) n is u = rw (equal_is n d (u.rule_29_one_for_each d is)) refl

unbroken_none : (r : Option Rule) (s : Span) → if_broken r s ≡ [] → r ≡ None
unbroken_none None s h = refl
unbroken_none (Some r) s h = absurd (cc)

use_keeps : (v : Sorts) (x : List ℕ) (n : ℕ) (at : Span) → (use_faults v x n at ≡ []) ↔ IsUsable (names_of v) x n
use_keeps v x n at =
    let is = sort_for_name v x in (
      λ h. usable (names_of v) x (declared_in v x) n is (unbroken_none (broken_by_use (declared_in v x) n) (first_bytes (length x) at) h),
      λ u. rw (unbroken (names_of v) x (declared_in v x) n is u) refl,
    )

call_keeps : (v : Sorts) (x : List ℕ) (n : ℕ) (at : Span) → (call_faults v x n at ≡ []) ↔ IsCallable (names_of v) x n
call_keeps v x n at =
    let is = sort_for_name v x in (
      λ h. callable (names_of v) x (declared_in v x) n is (unbroken_none (broken_by_call (declared_in v x) n) (first_bytes (length x) at) h),
      λ u. rw (uncalled (names_of v) x (declared_in v x) n is u) refl,
    )

-- ---- expressions

mutual
  pub kind_keeps : (v : Sorts) (e : ExprKind) (at : Span) → (kind_faults v e at ≡ []) ↔ TypingKind (names_of v) e
  kind_keeps v (expr.Number n t) at = none_keeps
  kind_keeps v (expr.Name x) at = use_keeps v x 0 at
  kind_keeps v (expr.Element' x n row) at = both_keep (use_faults v x (row_length row) at) (row_faults v row) (use_keeps v x (row_length row) at) (row_keeps v row)
  kind_keeps v (expr.Call' x n row) at = both_keep (call_faults v x (row_length row) at) (row_faults v row) (call_keeps v x (row_length row) at) (row_keeps v row)
  kind_keeps v (expr.Unary' op b (more_of-Expr e s end_of-Expr)) at = kind_keeps v e s
  kind_keeps v (expr.Cast' t b (more_of-Expr e s end_of-Expr)) at = kind_keeps v e s
  kind_keeps v (expr.Binary' op b (more_of-Expr e s end_of-Expr) b2 (more_of-Expr e2 s2 end_of-Expr)) at =
      both_keep (kind_faults v e s) (kind_faults v e2 s2) (kind_keeps v e s) (kind_keeps v e2 s2)
  kind_keeps v (expr.Choose' b (more_of-Expr e s end_of-Expr) b2 (more_of-Expr e2 s2 end_of-Expr) b3 (more_of-Expr e3 s3 end_of-Expr)) at =
      three_keep (kind_faults v e s) (kind_faults v e2 s2) (kind_faults v e3 s3) (kind_keeps v e s) (kind_keeps v e2 s2) (kind_keeps v e3 s3)

  row_keeps : {n : Count} (v : Sorts) (row : Row_of-Expr n) → (row_faults v row ≡ []) ↔ TypingRow (names_of v) row
  row_keeps v end_of-Expr = none_keeps
  row_keeps v (more_of-Expr e at row) = both_keep (kind_faults v e at) (row_faults v row) (kind_keeps v e at) (row_keeps v row)

option_keeps : (v : Sorts) (o : Option Expr) → (option_faults v o ≡ []) ↔ TypingOption (names_of v) o
option_keeps v None = none_keeps
option_keeps v (Some e) = kind_keeps v e.kind e.at

exprs_keep : (v : Sorts) (es : List Expr) → (exprs_faults v es ≡ []) ↔ All (TypingExpr (names_of v)) es
exprs_keep v [] = (λ h. All-nil (TypingExpr (names_of v)), λ k. refl)
exprs_keep v (e ∷ es) = all_keep (TypingExpr (names_of v)) e es (expr_faults v e) (exprs_faults v es) (kind_keeps v e.kind e.at) (exprs_keep v es)

target_keeps : (v : Sorts) (t : Target) → (target_faults v t ≡ []) ↔ TypingTarget (names_of v) t
target_keeps v t = both_keep (use_faults v t.name (length t.indices) t.at) (exprs_faults v t.indices) (use_keeps v t.name (length t.indices) t.at) (exprs_keep v t.indices)

returnable_keeps : (r : Option Ty) (e : Option Expr) (at : Span) → (unless (is_returnable r e) rule.ReturnKind at ≡ []) ↔ IsReturnable r e
returnable_keeps None None at = none_keeps
returnable_keeps (Some t) (Some e) at = none_keeps
returnable_keeps None (Some e) at = (λ h. absurd (cc), λ k. absurd k)
returnable_keeps (Some t) None at = (λ h. absurd (cc), λ k. absurd k)

-- ---- statements

-- after a statement that keeps the rules the names in force are those of the rules
pub after_clean : (v : Sorts) (s : StmtKind) (r : Option Ty) (loop : Bool) → TypingStmt s r loop (names_of v) → names_of (sorts_after v s) ≡ names_after (names_of v) s
after_clean v (stmt.Declare x t e) r loop k = with_new v x (new_is v x k.0)
after_clean v (stmt.If' e b (more_of-Stmt s a end_of-Stmt) o) r loop k = refl
after_clean v (stmt.While' e b (more_of-Stmt s a end_of-Stmt)) r loop k = refl
after_clean v (stmt.DoWhile' b (more_of-Stmt s a end_of-Stmt) e) r loop k = refl
after_clean v (stmt.For' n row e o b (more_of-Stmt s a end_of-Stmt)) r loop k = refl
after_clean v s r loop k = refl

after_row_clean : {n : Count} (v : Sorts) (row : Row_of-Stmt n) (r : Option Ty) (loop : Bool) → TypingStmts row r loop (names_of v) → names_of (sorts_after_row v row) ≡ names_after_row (names_of v) row
after_row_clean v end_of-Stmt r loop k = refl
after_row_clean v (more_of-Stmt s at row) r loop k =
    let same : names_of (sorts_after v s) ≡ names_after (names_of v) s = after_clean v s r loop k.0 in
    after_row_clean (sorts_after v s) row r loop (subst (λ names. TypingStmts row r loop names) (sym same) k.1) ∙ ap (λ names. names_after_row names row) same

pub new_keeps : (v : Sorts) (x : List ℕ) (at : Span) → (unless (is_new_in v x) rule.Redeclared at ≡ []) ↔ IsNew (names_of v) x
new_keeps v x at = (λ h. is_new v x (holds_unless (is_new_in v x) rule.Redeclared at h), λ k. unless_holds (is_new_in v x) rule.Redeclared at (new_is v x k))

mutual
  act_keeps : (v : Sorts) (s : StmtKind) (at : Span) (r : Option Ty) (loop : Bool) → (act_faults s at r loop v ≡ []) ↔ TypingStmt s r loop (names_of v)
  act_keeps v (stmt.Block' n row) at r loop = acts_keep ([] ∷ v) row r loop
  act_keeps v (stmt.Declare x t e) at r loop =
      let w : Sorts = with_entry x sort.Scalar v in
      then_keeps (unless (is_new_in v x) rule.Redeclared at) (option_faults w e) (new_keeps v x at)
      (λ new. subst (λ names. (option_faults w e ≡ []) ↔ TypingOption names e) (with_new v x (new_is v x new)) (option_keeps w e))
  act_keeps v (stmt.Assign target op e) at r loop = both_keep (target_faults v target) (expr_faults v e) (target_keeps v target) (kind_keeps v e.kind e.at)
  act_keeps v (stmt.Step target up) at r loop = target_keeps v target
  act_keeps v (stmt.If' e b (more_of-Stmt s a end_of-Stmt) o) at r loop =
      three_keep (expr_faults v e) (act_faults s a r loop ([] ∷ v)) (held_faults o r loop v) (kind_keeps v e.kind e.at) (act_keeps ([] ∷ v) s a r loop) (held_keeps v o r loop)
  act_keeps v (stmt.While' e b (more_of-Stmt s a end_of-Stmt)) at r loop =
      both_keep (expr_faults v e) (act_faults s a r true ([] ∷ v)) (kind_keeps v e.kind e.at) (act_keeps ([] ∷ v) s a r true)
  act_keeps v (stmt.DoWhile' b (more_of-Stmt s a end_of-Stmt) e) at r loop =
      both_keep (act_faults s a r true ([] ∷ v)) (expr_faults v e) (act_keeps ([] ∷ v) s a r true) (kind_keeps v e.kind e.at)
  act_keeps v (stmt.For' n row e o b (more_of-Stmt s a end_of-Stmt)) at r loop =
      let after : Sorts = sorts_after_row ([] ∷ v) row in
      let rest : List Fault = option_faults after e ++ (held_faults o r false after ++ act_faults s a r true ([] ∷ after)) in
      let both = then_keeps (acts_faults row r false ([] ∷ v)) rest (acts_keep ([] ∷ v) row r false)
      (λ k. subst (λ names. (rest ≡ []) ↔ (TypingOption names e × TypingHeld o r false names × TypingStmt s r true ([] ∷ names))) (after_row_clean ([] ∷ v) row r false k)
      (three_keep (option_faults after e) (held_faults o r false after) (act_faults s a r true ([] ∷ after)) (option_keeps after e) (held_keeps after o r false) (act_keeps ([] ∷ after) s a r true))) in
      (λ h. let k = both.0 h in (k.0, k.1.0, k.1.1, k.1.2), λ k. both.1 (k.0, (k.1, k.2, k.3)))
  act_keeps v stmt.Break at r loop = unless_keeps loop rule.OutsideLoop at
  act_keeps v stmt.Continue at r loop = unless_keeps loop rule.OutsideLoop at
  act_keeps v (stmt.Return e) at r loop =
      both_keep (unless (is_returnable r e) rule.ReturnKind (first_bytes 6 at)) (option_faults v e) (returnable_keeps r e (first_bytes 6 at)) (option_keeps v e)
  act_keeps v stmt.Empty at r loop = none_keeps

  held_keeps : (v : Sorts) (o : Held-StmtKind-If-2) (r : Option Ty) (loop : Bool) → (held_faults o r loop v ≡ []) ↔ TypingHeld o r loop (names_of v)
  held_keeps v stmt.None' r loop = none_keeps
  held_keeps v (stmt.Some' b (more_of-Stmt s a end_of-Stmt)) r loop = act_keeps ([] ∷ v) s a r loop

  acts_keep : {n : Count} (v : Sorts) (row : Row_of-Stmt n) (r : Option Ty) (loop : Bool) → (acts_faults row r loop v ≡ []) ↔ TypingStmts row r loop (names_of v)
  acts_keep v end_of-Stmt r loop = none_keeps
  acts_keep v (more_of-Stmt s at row) r loop =
      let w : Sorts = sorts_after v s in
      then_keeps (act_faults s at r loop v) (acts_faults row r loop w) (act_keeps v s at r loop)
      (λ k. subst (λ names. (acts_faults row r loop w ≡ []) ↔ TypingStmts row r loop names) (after_clean v s r loop k) (acts_keep w row r loop))

list_keeps : (v : Sorts) (ss : List Stmt) (r : Option Ty) (loop : Bool) → (stmts_faults ss r loop v ≡ []) ↔ TypingList ss r loop (names_of v)
list_keeps v [] r loop = none_keeps
list_keeps v (s ∷ ss) r loop =
    let w : Sorts = sorts_after v s.kind in
    then_keeps (stmt_faults s r loop v) (stmts_faults ss r loop w) (act_keeps v s.kind s.at r loop)
    (λ k. subst (λ names. (stmts_faults ss r loop w ≡ []) ↔ TypingList ss r loop names) (after_clean v s.kind r loop k) (list_keeps w ss r loop))

-- ---- parameters

sort_for_dims : (ds : List ℕ) → sort_for (sort_of_dims ds) ≡ typing.sort_of_dims ds
sort_for_dims [] = refl
sort_for_dims (d ∷ ds) = refl

-- a parameter that is new goes before the others
new_param : (s : List (List ℕ × Sort)) (v : Sorts) (x : List ℕ) (ds : List ℕ) → is_new_in (s ∷ v) x ≡ true → with_entry x (sort_of_dims ds) (s ∷ v) ≡ ((x, sort_of_dims ds) ∷ s) ∷ v
new_param s v x ds h = ap (λ b. (if b then (x, sort_of_dims ds) ∷ s else s) ∷ v) h

scope_grows : (s : List (List ℕ × Sort)) (x : List ℕ) (ds : List ℕ) → scope_for ((x, sort_of_dims ds) ∷ s) ≡ (x, typing.sort_of_dims ds) ∷ scope_for s
scope_grows s x ds = ap (λ t. (x, t) ∷ scope_for s) (sort_for_dims ds)

no_zero : (ds : List ℕ) → list_any (λ d. nat_eq d 0) ds ≡ false → All (λ d. 0 < d) ds
no_zero [] h = All-nil (λ d. 0 < d)
no_zero (d ∷ ds) h = All-cons (λ d. 0 < d) d ds (positive d (or_first (nat_eq d 0) (list_any (λ d. nat_eq d 0) ds) h)) (no_zero ds (or_second (nat_eq d 0) (list_any (λ d. nat_eq d 0) ds) h))
  where
    positive : (d : ℕ) → nat_eq d 0 ≡ false → 0 < d
    positive d h = grind (arith, nat_tests)

zero_free : (ds : List ℕ) → All (λ d. 0 < d) ds → list_any (λ d. nat_eq d 0) ds ≡ false
zero_free [] k = refl
zero_free (d ∷ ds) k = rw (not_zero d (All-head (λ d. 0 < d) d ds k)) (zero_free ds (All-tail (λ d. 0 < d) d ds k))
  where
    not_zero : (d : ℕ) → 0 < d → nat_eq d 0 ≡ false
    not_zero d h = grind (arith, nat_tests)

not_below : (a b : ℕ) → b ≤ a → nat_lt a b ≡ false
not_below a b h = grind (arith, nat_tests)

param_kept : (s : List (List ℕ × Sort)) (v : Sorts) (n : ℕ) (p : Param) → param_faults p (is_new_in (s ∷ v) p.name) (n + elements_of p.dims) ≡ [] → IsParameter (scope_for s) n p
param_kept s v n p h =
    let total : ℕ = n + elements_of p.dims in
    let fits : Bool = not (list_any (λ d. nat_eq d 0) p.dims || nat_lt max_elements total) in
    let new : List Fault = unless (is_new_in (s ∷ v) p.name) rule.Redeclared p.at in
    let few : List Fault = unless (not (nat_lt max_dimensions (length p.dims))) rule.Dimensions p.at in
    let rest : few ++ unless fits rule.Length p.at ≡ [] = second_empty new (few ++ unless fits rule.Length p.at) h in
    let small : list_any (λ d. nat_eq d 0) p.dims || nat_lt max_elements total ≡ false = not-true (list_any (λ d. nat_eq d 0) p.dims || nat_lt max_elements total) (holds_unless fits rule.Length p.at (second_empty few (unless fits rule.Length p.at) rest)) in
    record {
      rule_21_new = is_new (s ∷ v) p.name (holds_unless (is_new_in (s ∷ v) p.name) rule.Redeclared p.at (first_empty new (few ++ unless fits rule.Length p.at) h));
      rule_24_dimensions = ltb-false max_dimensions (length p.dims) (not-true (nat_lt max_dimensions (length p.dims)) (holds_unless (not (nat_lt max_dimensions (length p.dims))) rule.Dimensions p.at (first_empty few (unless fits rule.Length p.at) rest)));
      rule_25_no_zero = no_zero p.dims (or_first (list_any (λ d. nat_eq d 0) p.dims) (nat_lt max_elements total) small);
      rule_25_elements = ltb-false max_elements total (or_second (list_any (λ d. nat_eq d 0) p.dims) (nat_lt max_elements total) small);
    }

param_clean : (s : List (List ℕ × Sort)) (v : Sorts) (n : ℕ) (p : Param) → IsParameter (scope_for s) n p → param_faults p (is_new_in (s ∷ v) p.name) (n + elements_of p.dims) ≡ []
param_clean s v n p k =
    let total : ℕ = n + elements_of p.dims in
    let fits : Bool = not (list_any (λ d. nat_eq d 0) p.dims || nat_lt max_elements total) in
    let few : List Fault = unless (not (nat_lt max_dimensions (length p.dims))) rule.Dimensions p.at in
    let small : fits ≡ true = ap not (both_false (list_any (λ d. nat_eq d 0) p.dims) (nat_lt max_elements total) (zero_free p.dims k.rule_25_no_zero) (not_below max_elements total k.rule_25_elements)) in
    both_empty (unless (is_new_in (s ∷ v) p.name) rule.Redeclared p.at) (few ++ unless fits rule.Length p.at) (unless_holds (is_new_in (s ∷ v) p.name) rule.Redeclared p.at (new_is (s ∷ v) p.name k.rule_21_new))
    (both_empty few (unless fits rule.Length p.at) (unless_holds (not (nat_lt max_dimensions (length p.dims))) rule.Dimensions p.at (ap not (not_below max_dimensions (length p.dims) k.rule_24_dimensions))) (unless_holds fits rule.Length p.at small))

params_keep_rules : (ps : List Param) (s : List (List ℕ × Sort)) (v : Sorts) (n : ℕ) → (params_faults ps (s ∷ v) n ≡ []) ↔ TypingParams ps (scope_for s) n
params_keep_rules [] s v n = none_keeps
params_keep_rules (p ∷ ps) s v n =
    let m : ℕ = n + elements_of p.dims in
    let w : List (List ℕ × Sort) = (p.name, sort_of_dims p.dims) ∷ s in
    then_keeps (param_faults p (is_new_in (s ∷ v) p.name) m) (params_faults ps (with_entry p.name (sort_of_dims p.dims) (s ∷ v)) m) (param_kept s v n p, param_clean s v n p)
    (λ (k : IsParameter (scope_for s) n p). subst (λ z. (params_faults ps z m ≡ []) ↔ TypingParams ps ((p.name, typing.sort_of_dims p.dims) ∷ scope_for s) m) (sym (new_param s v p.name p.dims (new_is (s ∷ v) p.name k.rule_21_new)))
    (subst (λ scope. (params_faults ps (w ∷ v) m ≡ []) ↔ TypingParams ps scope m) (scope_grows s p.name p.dims) (params_keep_rules ps w v m)))

-- the names in force after parameters that keep the rules
pub after_params : (ps : List Param) (s : List (List ℕ × Sort)) (v : Sorts) (n : ℕ) → TypingParams ps (scope_for s) n → names_of (sorts_after_params (s ∷ v) ps) ≡ scope_of ps (scope_for s) ∷ names_of v
after_params [] s v n k = refl
after_params (p ∷ ps) s v n k =
    ap (λ w. names_of (sorts_after_params w ps)) (new_param s v p.name p.dims (new_is (s ∷ v) p.name k.0.rule_21_new))
    ∙ after_params ps ((p.name, sort_of_dims p.dims) ∷ s) v (n + elements_of p.dims) (subst (λ scope. TypingParams ps scope (n + elements_of p.dims)) (sym (scope_grows s p.name p.dims)) k.1)
    ∙ ap (λ scope. scope_of ps scope ∷ names_of v) (scope_grows s p.name p.dims)

-- ---- blocks and trees

-- the parameters and the statements of a block inside of scopes
pub block_keeps : (v : Sorts) (ps : List Param) (ss : List Stmt) (r : Option Ty)
    → (block_faults ([] ∷ v) ps ss r ≡ []) ↔ (TypingParams ps [] 0 × TypingList ss r false (scope_of ps [] ∷ names_of v))
block_keeps v ps ss r =
    let w : Sorts = sorts_after_params ([] ∷ v) ps in
    then_keeps (params_faults ps ([] ∷ v) 0) (stmts_faults ss r false w) (params_keep_rules ps [] v 0)
    (λ k. subst (λ names. (stmts_faults ss r false w ≡ []) ↔ TypingList ss r false names) (after_params ps [] v 0 k) (list_keeps w ss r false))

pub tree_kept : (tree : Tree) → tree_faults tree ≡ [] → Typing tree
tree_kept tree h = let k = (block_keeps [] tree.params tree.body tree.result).0 h in record { params_keep = k.0; body_keeps = k.1 }

pub tree_clean : (tree : Tree) → Typing tree → tree_faults tree ≡ []
tree_clean tree k = (block_keeps [] tree.params tree.body tree.result).1 (k.params_keep, k.body_keeps)

-- ---- calls stand where they may exactly where none stands where none may

-- ---- expressions

mutual
  pub kind_stands : (may : Bool) (e : ExprKind) (at : Span) → (kind_places may e at ≡ []) ↔ CallsStand may e
  kind_stands may (expr.Number n t) at = none_keeps
  kind_stands may (expr.Name x) at = none_keeps
  kind_stands may (expr.Element' x n row) at = row_stands may row
  kind_stands may (expr.Call' x n row) at = both_keep (call_places may x at) (row_places may row) (unless_keeps may rule.CallPlace (first_bytes (length x) at)) (row_stands may row)
  kind_stands may (expr.Unary' op b (more_of-Expr e s end_of-Expr)) at = kind_stands may e s
  kind_stands may (expr.Cast' t b (more_of-Expr e s end_of-Expr)) at = kind_stands may e s
  kind_stands may (expr.Binary' op b (more_of-Expr e s end_of-Expr) b2 (more_of-Expr e2 s2 end_of-Expr)) at =
      let beside : Bool = where_whole (joins_both op) may in
      both_keep (kind_places may e s) (kind_places beside e2 s2) (kind_stands may e s) (kind_stands beside e2 s2)
  kind_stands may (expr.Choose' b (more_of-Expr e s end_of-Expr) b2 (more_of-Expr e2 s2 end_of-Expr) b3 (more_of-Expr e3 s3 end_of-Expr)) at =
      three_keep (kind_places may e s) (kind_places false e2 s2) (kind_places false e3 s3) (kind_stands may e s) (kind_stands false e2 s2) (kind_stands false e3 s3)

  row_stands : {n : Count} (may : Bool) (row : Row_of-Expr n) → (row_places may row ≡ []) ↔ CallsStandIn may row
  row_stands may end_of-Expr = none_keeps
  row_stands may (more_of-Expr e at row) = both_keep (kind_places may e at) (row_places may row) (kind_stands may e at) (row_stands may row)

option_stands : (may : Bool) (o : Option Expr) → (option_places may o ≡ []) ↔ StandsIfAny may o
option_stands may None = none_keeps
option_stands may (Some e) = kind_stands may e.kind e.at

exprs_stand : (may : Bool) (es : List Expr) → (exprs_places may es ≡ []) ↔ All (StandsAt may) es
exprs_stand may [] = (λ h. All-nil (StandsAt may), λ k. refl)
exprs_stand may (e ∷ es) = all_keep (StandsAt may) e es (expr_places may e) (exprs_places may es) (kind_stands may e.kind e.at) (exprs_stand may es)

-- ---- statements

mutual
  act_stands : (s : StmtKind) → (act_places s ≡ []) ↔ CallsStandStmt s
  act_stands (stmt.Block' n row) = acts_stand row
  act_stands (stmt.Declare x t e) = option_stands true e
  act_stands (stmt.Assign target op e) = both_keep (target_places target) (expr_places true e) (exprs_stand true target.indices) (kind_stands true e.kind e.at)
  act_stands (stmt.Step target up) = exprs_stand true target.indices
  act_stands (stmt.If' e b (more_of-Stmt s a end_of-Stmt) o) = three_keep (expr_places true e) (act_places s) (held_places o) (kind_stands true e.kind e.at) (act_stands s) (held_stands o)
  act_stands (stmt.While' e b (more_of-Stmt s a end_of-Stmt)) = both_keep (expr_places false e) (act_places s) (kind_stands false e.kind e.at) (act_stands s)
  act_stands (stmt.DoWhile' b (more_of-Stmt s a end_of-Stmt) e) = both_keep (act_places s) (expr_places false e) (act_stands s) (kind_stands false e.kind e.at)
  act_stands (stmt.For' n row e o b (more_of-Stmt s a end_of-Stmt)) =
      let both = both_keep (acts_places row) (option_places false e ++ (held_places o ++ act_places s)) (acts_stand row)
      (three_keep (option_places false e) (held_places o) (act_places s) (option_stands false e) (held_stands o) (act_stands s)) in
      (λ h. let k = both.0 h in (k.0, k.1.0, k.1.1, k.1.2), λ k. both.1 (k.0, (k.1, k.2, k.3)))
  act_stands stmt.Break = none_keeps
  act_stands stmt.Continue = none_keeps
  act_stands (stmt.Return e) = option_stands true e
  act_stands stmt.Empty = none_keeps

  held_stands : (o : Held-StmtKind-If-2) → (held_places o ≡ []) ↔ CallsStandHeld o
  held_stands stmt.None' = none_keeps
  held_stands (stmt.Some' b (more_of-Stmt s a end_of-Stmt)) = act_stands s

  acts_stand : {n : Count} (row : Row_of-Stmt n) → (acts_places row ≡ []) ↔ CallsStandStmts row
  acts_stand end_of-Stmt = none_keeps
  acts_stand (more_of-Stmt s at row) = both_keep (act_places s) (acts_places row) (act_stands s) (acts_stand row)

pub list_stands : (ss : List Stmt) → (stmts_places ss ≡ []) ↔ All (λ s. CallsStandStmt s.kind) ss
list_stands [] = (λ h. All-nil (λ s. CallsStandStmt s.kind), λ k. refl)
list_stands (s ∷ ss) = all_keep (λ s. CallsStandStmt s.kind) s ss (stmt_places s) (stmts_places ss) (act_stands s.kind) (list_stands ss)

-- ---- a program keeps the typing rules exactly where it has no fault

-- ---- blocks with parameters

-- the names in force after statements that keep the rules
after_list : (ss : List Stmt) (v : Sorts) (r : Option Ty) → TypingList ss r false (names_of v) → names_of (sorts_after_all v ss) ≡ names_after_list (names_of v) ss
after_list [] v r k = refl
after_list (s ∷ ss) v r k =
    let same : names_of (sorts_after v s.kind) ≡ names_after (names_of v) s.kind = after_clean v s.kind r false k.0 in
    after_list ss (sorts_after v s.kind) r (subst (TypingList ss r false) (sym same) k.1) ∙ ap (λ names. names_after_list names ss) same

at_end : (v : Sorts) (ps : List Param) (ss : List Stmt) (r : Option Ty) → TypingParams ps [] 0 → TypingList ss r false (scope_of ps [] ∷ names_of v) → names_of (sorts_at_end ([] ∷ v) ps ss) ≡ names_after_list (scope_of ps [] ∷ names_of v) ss
at_end v ps ss r params body =
    let same : names_of (sorts_after_params ([] ∷ v) ps) ≡ scope_of ps [] ∷ names_of v = after_params ps [] v 0 params in
    after_list ss (sorts_after_params ([] ∷ v) ps) r (subst (TypingList ss r false) (sym same) body) ∙ ap (λ names. names_after_list names ss) same

-- ---- helpers

-- what a helper's faults keep: a new name, its block and its value
helper_keeps : (s : List (List ℕ × Sort)) (h : Helper) → (helper_faults (s ∷ []) h ≡ [])
    ↔ (IsNew (names_of (s ∷ [])) h.name × ((TypingParams h.params [] 0 × TypingList h.body (Some h.result) false (scope_of h.params [] ∷ names_of (s ∷ []))) × TypingExpr (names_after_list (scope_of h.params [] ∷ names_of (s ∷ [])) h.body) h.value))
helper_keeps s h =
    let inner : List Fault = block_faults ([] ∷ s ∷ []) h.params h.body (Some h.result) in
    let w : Sorts = sorts_at_end ([] ∷ s ∷ []) h.params h.body in
    both_keep (unless (is_new_in (s ∷ []) h.name) rule.Redeclared h.at) (inner ++ expr_faults w h.value) (new_keeps (s ∷ []) h.name h.at)
    (then_keeps inner (expr_faults w h.value) (block_keeps (s ∷ []) h.params h.body (Some h.result))
    (λ k. subst (λ names. (expr_faults w h.value ≡ []) ↔ TypingExpr names h.value) (at_end (s ∷ []) h.params h.body (Some h.result) k.0 k.1) (kind_keeps w h.value.kind h.value.at)))

helper_stands : (h : Helper) → (helper_places h ≡ []) ↔ (All (λ s. CallsStandStmt s.kind) h.body × StandsAt true h.value)
helper_stands h = both_keep (stmts_places h.body) (expr_places true h.value) (list_stands h.body) (kind_stands true h.value.kind h.value.at)

helper_kept : (s : List (List ℕ × Sort)) (h : Helper) → helper_faults (s ∷ []) h ≡ [] → helper_places h ≡ [] → TypingHelper (scope_for s) h
helper_kept s h none placed =
    let k = (helper_keeps s h).0 none in
    let calls = (helper_stands h).0 placed in
    record { rule_21_new = k.0; params_keep = k.1.0.0; body_keeps = k.1.0.1; value_keeps = k.1.1; rule_28_body = calls.0; rule_28_value = calls.1 }

helper_clean : (s : List (List ℕ × Sort)) (h : Helper) → TypingHelper (scope_for s) h → helper_faults (s ∷ []) h ≡ []
helper_clean s h k = (helper_keeps s h).1 (k.rule_21_new, ((k.params_keep, k.body_keeps), k.value_keeps))

-- a helper that is new goes before the others
new_helper : (s : List (List ℕ × Sort)) (h : Helper) → is_new_in (s ∷ []) h.name ≡ true → sorts_after_helper (s ∷ []) h ≡ ((h.name, sort.Helper (length h.params)) ∷ s) ∷ []
new_helper s h new = ap (λ b. (if b then (h.name, sort.Helper (length h.params)) ∷ s else s) ∷ []) new

helpers_kept : (hs : List Helper) (s : List (List ℕ × Sort)) → helpers_faults (s ∷ []) hs ≡ [] → helpers_places hs ≡ [] → TypingHelpers (scope_for s) hs
helpers_kept [] s none placed = tt
helpers_kept (h ∷ hs) s none placed =
    let here : TypingHelper (scope_for s) h =
    helper_kept s h (first_empty (helper_faults (s ∷ []) h) (helpers_faults (sorts_after_helper (s ∷ []) h) hs) none) (first_empty (helper_places h) (helpers_places hs) placed) in
    let rest : helpers_faults (((h.name, sort.Helper (length h.params)) ∷ s) ∷ []) hs ≡ [] =
    subst (λ w. helpers_faults w hs ≡ []) (new_helper s h (new_is (s ∷ []) h.name here.rule_21_new)) (second_empty (helper_faults (s ∷ []) h) (helpers_faults (sorts_after_helper (s ∷ []) h) hs) none) in
    (here, helpers_kept hs ((h.name, sort.Helper (length h.params)) ∷ s) rest (second_empty (helper_places h) (helpers_places hs) placed))

helpers_clean : (hs : List Helper) (s : List (List ℕ × Sort)) → TypingHelpers (scope_for s) hs → helpers_faults (s ∷ []) hs ≡ []
helpers_clean [] s k = refl
helpers_clean (h ∷ hs) s k =
    both_empty (helper_faults (s ∷ []) h) (helpers_faults (sorts_after_helper (s ∷ []) h) hs) (helper_clean s h k.0)
    (subst (λ w. helpers_faults w hs ≡ []) (sym (new_helper s h (new_is (s ∷ []) h.name k.0.rule_21_new))) (helpers_clean hs ((h.name, sort.Helper (length h.params)) ∷ s) k.1))

helpers_placed : (hs : List Helper) (known : List (List ℕ × _)) → TypingHelpers known hs → helpers_places hs ≡ []
helpers_placed [] known k = refl
helpers_placed (h ∷ hs) known k =
    both_empty (helper_places h) (helpers_places hs) ((helper_stands h).1 (k.0.rule_28_body, k.0.rule_28_value)) (helpers_placed hs _ k.1)

-- the names of helpers that keep the rules
after_helpers : (hs : List Helper) (s : List (List ℕ × Sort)) → TypingHelpers (scope_for s) hs → names_of (sorts_after_helpers (s ∷ []) hs) ≡ known_after (scope_for s) hs ∷ []
after_helpers [] s k = refl
after_helpers (h ∷ hs) s k =
    ap (λ w. names_of (sorts_after_helpers w hs)) (new_helper s h (new_is (s ∷ []) h.name k.0.rule_21_new)) ∙ after_helpers hs ((h.name, sort.Helper (length h.params)) ∷ s) k.1

-- ---- programs

abbrev all_known : Program → Sorts
all_known p = sorts_after_helpers ([] ∷ []) p.helpers

kernel_keeps : (v : Sorts) (tree : Tree) → (kernel_faults v tree ≡ [])
    ↔ (IsNew (names_of v) tree.name × (TypingParams tree.params [] 0 × TypingList tree.body tree.result false (scope_of tree.params [] ∷ names_of v)))
kernel_keeps v tree =
    both_keep (unless (is_new_in v tree.name) rule.Redeclared tree.at) (block_faults ([] ∷ v) tree.params tree.body tree.result) (new_keeps v tree.name tree.at) (block_keeps v tree.params tree.body tree.result)

pub program_kept : (p : Program) → program_faults p ≡ [] → TypingProgram p
program_kept p h =
    let declared : declared_faults p ≡ [] = first_empty (declared_faults p) (program_places p) h in
    let placed : program_places p ≡ [] = second_empty (declared_faults p) (program_places p) h in
    let in_helpers : List Fault = helpers_faults ([] ∷ []) p.helpers in
    let kernel = (kernel_keeps (all_known p) p.kernel).0 (second_empty in_helpers (kernel_faults (all_known p) p.kernel) declared) in
    let helpers : TypingHelpers [] p.helpers =
    helpers_kept p.helpers [] (first_empty in_helpers (kernel_faults (all_known p) p.kernel) declared) (first_empty (helpers_places p.helpers) (stmts_places p.kernel.body) placed) in
    let same : names_of (all_known p) ≡ known_after [] p.helpers ∷ [] = after_helpers p.helpers [] helpers in
    record {
      helpers_keep = helpers;
      rule_21_new = subst (λ names. IsNew names p.kernel.name) same kernel.0;
      params_keep = kernel.1.0;
      body_keeps = subst (λ names. TypingList p.kernel.body p.kernel.result false (scope_of p.kernel.params [] ∷ names)) same kernel.1.1;
      rule_28 = (list_stands p.kernel.body).0 (second_empty (helpers_places p.helpers) (stmts_places p.kernel.body) placed);
    }

pub program_clean : (p : Program) → TypingProgram p → program_faults p ≡ []
program_clean p k =
    let same : known_after [] p.helpers ∷ [] ≡ names_of (all_known p) = sym (after_helpers p.helpers [] k.helpers_keep) in
    let body = subst (λ names. TypingList p.kernel.body p.kernel.result false (scope_of p.kernel.params [] ∷ names)) same k.body_keeps in
    both_empty (declared_faults p) (program_places p)
    (both_empty (helpers_faults ([] ∷ []) p.helpers) (kernel_faults (all_known p) p.kernel) (helpers_clean p.helpers [] k.helpers_keep)
    ((kernel_keeps (all_known p) p.kernel).1 (subst (λ names. IsNew names p.kernel.name) same k.rule_21_new, (k.params_keep, body))))
    (both_empty (helpers_places p.helpers) (stmts_places p.kernel.body) (helpers_placed p.helpers [] k.helpers_keep) ((list_stands p.kernel.body).1 k.rule_28))
