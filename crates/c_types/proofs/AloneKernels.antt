-- A tree is checked as the program without helpers whose kernel it is.
use Rattle.std.proofs.Common.{◌≡◌, ◌⊎◌, inl, inr, ℕ, true, false, nat_lt, List, [], ◌∷◌, ◌++◌, All, Contains, refl, sym, ap, subst, ◌∙◌, arith, ◌+◌, Bool, length, flat_map, Option, Some, None, if◌then◌else◌, ◌&&◌, ◌||◌, cond, nat_eq, is_none}
use Rattle.std.proofs.lemmas.Bool.Decides.{nat_tests}
use Rattle.std.proofs.lemmas.List.Elements.{All-nil, All-cons, All-head, All-tail, All-append, All-weaker, All-contains, Contains-append_left, Contains-append_cases, Contains-append_right}
use Rattle.c_ast.specs.declared.tree.Tree.{Tree}
use Rattle.c_types.specs.declared.fault.Fault.{Fault}
use Rattle.c_types.specs.declared.fault.TypeRefusal.TheVariants as refusal
use Rattle.c_types.specs.Places.{is_before, IsFirst, first_bytes, fault}
use Rattle.c_types.specs.Faults.{tree_faults, Sorts, broken_by_use, broken_by_call, if_broken, use_faults, call_faults, kind_faults, row_faults, exprs_faults, option_faults, target_faults, unless, is_returnable, sorts_after, sorts_after_row, act_faults, held_faults, acts_faults, stmts_faults, sort_of_dims, param_faults, params_faults, sorts_after_params, block_faults}
use Rattle.c_types.specs.CallPlaces.{stmts_places, call_places, kind_places, row_places, exprs_places, option_places, target_places, act_places, held_places, acts_places}
use Rattle.c_types.specs.ProgramFaults.{program_faults}
use Rattle.c_types.specs.Causes.{IsBroken, IsProgramBroken}
use Rattle.c_types.specs.Laws.{alone, AloneKeepsRules, AloneIsRefused}
use Rattle.c_types.proofs.FirstFaults.{key, before_by_key}
use Rattle.c_types.proofs.Kept.{first_empty, tree_kept, tree_clean, program_kept, program_clean}
use Rattle.std.specs.Map.{lookup}
use mathlib.Core.Former.{Count}
use Rattle.el_base.specs.declared.span.Span.{Span}
use Rattle.el_base.specs.declared.ty.Ty.{Ty}
use Rattle.c_ast.specs.declared.tree.Param.{Param}
use Rattle.c_ast.specs.declared.tree.Target.{Target}
use Rattle.c_ast.specs.declared.tree.Expr.{Expr}
use Rattle.c_ast.specs.declared.tree.ExprKind.{ExprKind, Row_of-Expr, end_of-Expr, more_of-Expr}
use Rattle.c_ast.specs.declared.tree.ExprKind as expr
use Rattle.c_ast.specs.declared.tree.Stmt.{Stmt}
use Rattle.c_ast.specs.declared.tree.StmtKind.{StmtKind, Row_of-Stmt, end_of-Stmt, more_of-Stmt, Held-StmtKind-If-2}
use Rattle.c_ast.specs.declared.tree.StmtKind as stmt
use Rattle.c_ast.specs.Typing.{row_length, elements_of}
use Rattle.c_types.specs.declared.fault.Rule.TheVariants as rule
use Rattle.c_types.specs.declared.sort.Sort.{Sort}
use Rattle.c_types.specs.declared.sort.Sort.TheVariants as sort
use Rattle.c_types.specs.Scopes.{declared_in, is_new_in, with_entry}
use Rattle.c_types.proofs.Lookups.{same_name}
use Rattle.c_ast.specs.Programs.{joins_both, where_whole}
use Rattle.c_types.specs.declared.fault.Rule.{Rule}
use Rattle.c_types.specs.Refusals.{rule_number}

-- ---- a scope without names that lies outside of all others changes no fault

abbrev Scope : Type 0
Scope = List (List ℕ × Sort)

two_same : {A : Type 0} {xs ys us vs : List A} → xs ≡ us → ys ≡ vs → xs ++ ys ≡ us ++ vs
two_same p q = rw (p, q) refl

-- ---- expressions

flat_same : (v : Sorts) → flat_map (λ s. s) (v ++ [] ∷ []) ≡ flat_map (λ s. s) v
flat_same [] = refl
flat_same (s ∷ ss) = ap (λ es. s ++ es) (flat_same ss)

declared_same : (v : Sorts) (x : List ℕ) → declared_in (v ++ [] ∷ []) x ≡ declared_in v x
declared_same v x = ap (lookup (same_name x)) (flat_same v)

use_same : (v : Sorts) (x : List ℕ) (n : ℕ) (at : Span) → use_faults (v ++ [] ∷ []) x n at ≡ use_faults v x n at
use_same v x n at = ap (λ r. if_broken (broken_by_use r n) (first_bytes (length x) at)) (declared_same v x)

call_same : (v : Sorts) (x : List ℕ) (n : ℕ) (at : Span) → call_faults (v ++ [] ∷ []) x n at ≡ call_faults v x n at
call_same v x n at = ap (λ r. if_broken (broken_by_call r n) (first_bytes (length x) at)) (declared_same v x)

mutual
  kind_same : (v : Sorts) (e : ExprKind) (at : Span) → kind_faults (v ++ [] ∷ []) e at ≡ kind_faults v e at
  kind_same v (expr.Number n t) at = refl
  kind_same v (expr.Name x) at = use_same v x 0 at
  kind_same v (expr.Element' x n row) at = two_same (use_same v x (row_length row) at) (row_same v row)
  kind_same v (expr.Call' x n row) at = two_same (call_same v x (row_length row) at) (row_same v row)
  kind_same v (expr.Unary' op b (more_of-Expr e s end_of-Expr)) at = kind_same v e s
  kind_same v (expr.Cast' t b (more_of-Expr e s end_of-Expr)) at = kind_same v e s
  kind_same v (expr.Binary' op b (more_of-Expr e s end_of-Expr) b2 (more_of-Expr e2 s2 end_of-Expr)) at = two_same (kind_same v e s) (kind_same v e2 s2)
  kind_same v (expr.Choose' b (more_of-Expr e s end_of-Expr) b2 (more_of-Expr e2 s2 end_of-Expr) b3 (more_of-Expr e3 s3 end_of-Expr)) at =
      two_same (kind_same v e s) (two_same (kind_same v e2 s2) (kind_same v e3 s3))

  row_same : {n : Count} (v : Sorts) (row : Row_of-Expr n) → row_faults (v ++ [] ∷ []) row ≡ row_faults v row
  row_same v end_of-Expr = refl
  row_same v (more_of-Expr e at row) = two_same (kind_same v e at) (row_same v row)

option_same : (v : Sorts) (o : Option Expr) → option_faults (v ++ [] ∷ []) o ≡ option_faults v o
option_same v None = refl
option_same v (Some e) = kind_same v e.kind e.at

exprs_same : (v : Sorts) (es : List Expr) → exprs_faults (v ++ [] ∷ []) es ≡ exprs_faults v es
exprs_same v [] = refl
exprs_same v (e ∷ es) = two_same (kind_same v e.kind e.at) (exprs_same v es)

target_same : (v : Sorts) (t : Target) → target_faults (v ++ [] ∷ []) t ≡ target_faults v t
target_same v t = two_same (use_same v t.name (length t.indices) t.at) (exprs_same v t.indices)

-- ---- statements

-- only the innermost scope changes
abbrev scope_after : Scope → StmtKind → Scope
scope_after s (stmt.Declare x t e) = if is_new_in (s ∷ []) x then (x, sort.Scalar) ∷ s else s
scope_after s k = s

abbrev scope_after_row : {n : Count} → Scope → Row_of-Stmt n → Scope
scope_after_row s end_of-Stmt = s
scope_after_row s (more_of-Stmt k at row) = scope_after_row (scope_after s k) row

after_scope : (s : Scope) (v : Sorts) (k : StmtKind) → sorts_after (s ∷ v) k ≡ scope_after s k ∷ v
after_scope s v (stmt.If' e b (more_of-Stmt k a end_of-Stmt) o) = refl
after_scope s v (stmt.While' e b (more_of-Stmt k a end_of-Stmt)) = refl
after_scope s v (stmt.DoWhile' b (more_of-Stmt k a end_of-Stmt) e) = refl
after_scope s v (stmt.For' n row e o b (more_of-Stmt k a end_of-Stmt)) = refl
after_scope s v k = refl

after_scope_row : {n : Count} (s : Scope) (v : Sorts) (row : Row_of-Stmt n) → sorts_after_row (s ∷ v) row ≡ scope_after_row s row ∷ v
after_scope_row s v end_of-Stmt = refl
after_scope_row s v (more_of-Stmt k at row) = ap (λ w. sorts_after_row w row) (after_scope s v k) ∙ after_scope_row (scope_after s k) v row

-- what follows the first part of a for
abbrev behind_first : Option Expr → Held-StmtKind-If-2 → StmtKind → Span → Option Ty → Sorts → List Fault
behind_first e o k a r w = option_faults w e ++ (held_faults o r false w ++ act_faults k a r true ([] ∷ w))

mutual
  act_same : (s : Scope) (v : Sorts) (k : StmtKind) (at : Span) (r : Option Ty) (loop : Bool) → act_faults k at r loop (s ∷ (v ++ [] ∷ [])) ≡ act_faults k at r loop (s ∷ v)
  act_same s v (stmt.Block' n row) at r loop = acts_same [] (s ∷ v) row r loop
  act_same s v (stmt.Declare x t e) at r loop = ap (λ fs. unless (is_new_in (s ∷ v) x) rule.Redeclared at ++ fs) (option_same (with_entry x sort.Scalar (s ∷ v)) e)
  act_same s v (stmt.Assign target op e) at r loop = two_same (target_same (s ∷ v) target) (kind_same (s ∷ v) e.kind e.at)
  act_same s v (stmt.Step target up) at r loop = target_same (s ∷ v) target
  act_same s v (stmt.If' e b (more_of-Stmt k a end_of-Stmt) o) at r loop = two_same (kind_same (s ∷ v) e.kind e.at) (two_same (act_same [] (s ∷ v) k a r loop) (held_same s v o r loop))
  act_same s v (stmt.While' e b (more_of-Stmt k a end_of-Stmt)) at r loop = two_same (kind_same (s ∷ v) e.kind e.at) (act_same [] (s ∷ v) k a r true)
  act_same s v (stmt.DoWhile' b (more_of-Stmt k a end_of-Stmt) e) at r loop = two_same (act_same [] (s ∷ v) k a r true) (kind_same (s ∷ v) e.kind e.at)
  act_same s v (stmt.For' n row e o b (more_of-Stmt k a end_of-Stmt)) at r loop =
      let here : Scope = scope_after_row [] row in
      two_same (acts_same [] (s ∷ v) row r false)
      (ap (behind_first e o k a r) (after_scope_row [] (s ∷ (v ++ [] ∷ [])) row)
      ∙ two_same (option_same (here ∷ s ∷ v) e) (two_same (held_same here (s ∷ v) o r false) (act_same [] (here ∷ s ∷ v) k a r true))
      ∙ sym (ap (behind_first e o k a r) (after_scope_row [] (s ∷ v) row)))
  act_same s v stmt.Break at r loop = refl
  act_same s v stmt.Continue at r loop = refl
  act_same s v (stmt.Return e) at r loop = ap (λ fs. unless (is_returnable r e) rule.ReturnKind (first_bytes 6 at) ++ fs) (option_same (s ∷ v) e)
  act_same s v stmt.Empty at r loop = refl

  held_same : (s : Scope) (v : Sorts) (o : Held-StmtKind-If-2) (r : Option Ty) (loop : Bool) → held_faults o r loop (s ∷ (v ++ [] ∷ [])) ≡ held_faults o r loop (s ∷ v)
  held_same s v stmt.None' r loop = refl
  held_same s v (stmt.Some' b (more_of-Stmt k a end_of-Stmt)) r loop = act_same [] (s ∷ v) k a r loop

  acts_same : {n : Count} (s : Scope) (v : Sorts) (row : Row_of-Stmt n) (r : Option Ty) (loop : Bool) → acts_faults row r loop (s ∷ (v ++ [] ∷ [])) ≡ acts_faults row r loop (s ∷ v)
  acts_same s v end_of-Stmt r loop = refl
  acts_same s v (more_of-Stmt k at row) r loop =
      two_same (act_same s v k at r loop)
      (ap (acts_faults row r loop) (after_scope s (v ++ [] ∷ []) k) ∙ acts_same (scope_after s k) v row r loop ∙ sym (ap (acts_faults row r loop) (after_scope s v k)))

stmts_same : (s : Scope) (v : Sorts) (ss : List Stmt) (r : Option Ty) (loop : Bool) → stmts_faults ss r loop (s ∷ (v ++ [] ∷ [])) ≡ stmts_faults ss r loop (s ∷ v)
stmts_same s v [] r loop = refl
stmts_same s v (a ∷ ss) r loop =
    two_same (act_same s v a.kind a.at r loop)
    (ap (stmts_faults ss r loop) (after_scope s (v ++ [] ∷ []) a.kind) ∙ stmts_same (scope_after s a.kind) v ss r loop ∙ sym (ap (stmts_faults ss r loop) (after_scope s v a.kind)))

-- ---- parameters and trees

abbrev scope_with : Scope → Param → Scope
scope_with s p = if is_new_in (s ∷ []) p.name then (p.name, sort_of_dims p.dims) ∷ s else s

abbrev scope_after_params : Scope → List Param → Scope
scope_after_params s [] = s
scope_after_params s (p ∷ ps) = scope_after_params (scope_with s p) ps

after_scope_params : (s : Scope) (v : Sorts) (ps : List Param) → sorts_after_params (s ∷ v) ps ≡ scope_after_params s ps ∷ v
after_scope_params s v [] = refl
after_scope_params s v (p ∷ ps) = after_scope_params (scope_with s p) v ps

params_same : (s : Scope) (v : Sorts) (ps : List Param) (n : ℕ) → params_faults ps (s ∷ (v ++ [] ∷ [])) n ≡ params_faults ps (s ∷ v) n
params_same s v [] n = refl
params_same s v (p ∷ ps) n = ap (λ fs. param_faults p (is_new_in (s ∷ v) p.name) (n + elements_of p.dims) ++ fs) (params_same (scope_with s p) v ps (n + elements_of p.dims))

-- the faults of a tree's parameters and statements inside of one more scope
pub tree_same : (tree : Tree) → block_faults ([] ∷ [] ∷ []) tree.params tree.body tree.result ≡ tree_faults tree
tree_same tree =
    let here : Scope = scope_after_params [] tree.params in
    two_same (params_same [] [] tree.params 0)
    (ap (stmts_faults tree.body tree.result false) (after_scope_params [] ([] ∷ []) tree.params)
    ∙ stmts_same here [] tree.body tree.result false
    ∙ sym (ap (stmts_faults tree.body tree.result false) (after_scope_params [] [] tree.params)))

-- ---- where no helper is in scope, each call is of a name that stands for none: for a call that stands where none may this fault goes before

-- ---- faults before which others go

pub record HasEarlier (fs : List Fault) (g : Fault) : Type 0 where
  pub other : Fault
  pub one_of_them : Contains fs other
  pub before : is_before other g ≡ true

-- before each fault of the second list goes one of the first
pub record Ahead (fs gs : List Fault) : Type 0 where
  pub ahead : All (HasEarlier fs) gs

earlier_left : (fs hs : List Fault) (g : Fault) → HasEarlier fs g → HasEarlier (fs ++ hs) g
earlier_left fs hs g e = record { other = e.other; one_of_them = Contains-append_left fs hs e.other e.one_of_them; before = e.before }

earlier_right : (fs hs : List Fault) (g : Fault) → HasEarlier hs g → HasEarlier (fs ++ hs) g
earlier_right fs hs g e = record { other = e.other; one_of_them = Contains-append_right fs hs e.other e.one_of_them; before = e.before }

nothing : (fs : List Fault) → Ahead fs []
nothing fs = record { ahead = All-nil (HasEarlier fs) }

behind : (fs : List Fault) {hs gs : List Fault} → Ahead hs gs → Ahead (fs ++ hs) gs
behind fs {hs} {gs} a = record { ahead = All-weaker (HasEarlier hs) (HasEarlier (fs ++ hs)) (earlier_right fs hs) gs a.ahead }

both : {fs hs gs ks : List Fault} → Ahead fs gs → Ahead hs ks → Ahead (fs ++ hs) (gs ++ ks)
both {fs} {hs} {gs} {ks} a b = record {
  ahead = All-append (HasEarlier (fs ++ hs)) gs ks (All-weaker (HasEarlier fs) (HasEarlier (fs ++ hs)) (earlier_left fs hs) gs a.ahead)
      (All-weaker (HasEarlier hs) (HasEarlier (fs ++ hs)) (earlier_right fs hs) ks b.ahead);
}

-- at one place the lower number goes first
at_one_place : (a m n : ℕ) → nat_lt m n ≡ true → (nat_lt a a || (nat_eq a a && nat_lt m n)) ≡ true
at_one_place a m n h = grind (arith, nat_tests)

lower : (r : Rule) (s : Span) → nat_lt (rule_number r) 28 ≡ true → Ahead (fault r s ∷ []) (fault rule.CallPlace s ∷ [])
lower r s h =
    let one : HasEarlier (fault r s ∷ []) (fault rule.CallPlace s) = record { other = fault r s; one_of_them = (0, omega arith, refl); before = at_one_place s.start (rule_number r) 28 h } in
    record { ahead = All-cons (HasEarlier (fault r s ∷ [])) (fault rule.CallPlace s) [] one (All-nil (HasEarlier (fault r s ∷ []))) }

-- ---- scopes without helpers

pub record HasNoHelper (v : Sorts) : Type 0 where
  pub none : (x : List ℕ) (n : ℕ) → declared_in v x ≡ Some (sort.Helper n) → ⊥

at_head : (b : Bool) (t : Sort) (o : Option Sort) → ((n : ℕ) → t ≡ sort.Helper n → ⊥) → ((n : ℕ) → o ≡ Some (sort.Helper n) → ⊥) → (n : ℕ) → cond b (Some t) o ≡ Some (sort.Helper n) → ⊥
at_head true t o f g n h = f n (let e : t ≡ sort.Helper n = cc in e)
at_head false t o f g n h = g n h

entered : (v : Sorts) (x : List ℕ) (t : Sort) → ((n : ℕ) → t ≡ sort.Helper n → ⊥) → HasNoHelper v → HasNoHelper (with_entry x t v)
entered [] x t plain h = record { none = λ y n. at_head (same_name y x) t None plain (λ m e. cc) n }
entered (s ∷ ss) x t plain h = by (is_none (lookup (same_name x) s))
  where
    by : (b : Bool) → HasNoHelper ((if b then (x, t) ∷ s else s) ∷ ss)
    by true = record { none = λ y n. at_head (same_name y x) t (declared_in (s ∷ ss) y) plain (h.none y) n }
    by false = h

inside : {v : Sorts} → HasNoHelper v → HasNoHelper ([] ∷ v)
inside h = record { none = h.none }

scalar_entered : (v : Sorts) (x : List ℕ) → HasNoHelper v → HasNoHelper (with_entry x sort.Scalar v)
scalar_entered v x h = entered v x sort.Scalar (λ n e. cc) h

after : (v : Sorts) (k : StmtKind) → HasNoHelper v → HasNoHelper (sorts_after v k)
after v (stmt.Declare x t e) h = scalar_entered v x h
after v (stmt.If' e b (more_of-Stmt k a end_of-Stmt) o) h = h
after v (stmt.While' e b (more_of-Stmt k a end_of-Stmt)) h = h
after v (stmt.DoWhile' b (more_of-Stmt k a end_of-Stmt) e) h = h
after v (stmt.For' n row e o b (more_of-Stmt k a end_of-Stmt)) h = h
after v k h = h

after_row : {n : Count} (v : Sorts) (row : Row_of-Stmt n) → HasNoHelper v → HasNoHelper (sorts_after_row v row)
after_row v end_of-Stmt h = h
after_row v (more_of-Stmt k at row) h = after_row (sorts_after v k) row (after v k h)

of_dims : (ds : List ℕ) (n : ℕ) → sort_of_dims ds ≡ sort.Helper n → ⊥
of_dims [] n e = cc
of_dims (d ∷ ds) n e = cc

after_params : (v : Sorts) (ps : List Param) → HasNoHelper v → HasNoHelper (sorts_after_params v ps)
after_params v [] h = h
after_params v (p ∷ ps) h = after_params (with_entry p.name (sort_of_dims p.dims) v) ps (entered v p.name (sort_of_dims p.dims) (of_dims p.dims) h)

-- ---- expressions

call_ahead : (v : Sorts) (may : Bool) (x : List ℕ) (n : ℕ) (at : Span) → HasNoHelper v → Ahead (call_faults v x n at) (call_places may x at)
call_ahead v true x n at h = nothing (call_faults v x n at)
call_ahead v false x n at h = by (declared_in v x) refl
  where
    by : (o : Option Sort) → declared_in v x ≡ o → Ahead (if_broken (broken_by_call o n) (first_bytes (length x) at)) (fault rule.CallPlace (first_bytes (length x) at) ∷ [])
    by None e = lower rule.Undeclared (first_bytes (length x) at) refl
    by (Some sort.Scalar) e = lower rule.NotHelper (first_bytes (length x) at) refl
    by (Some (sort.Array d)) e = lower rule.NotHelper (first_bytes (length x) at) refl
    by (Some (sort.Helper d)) e = absurd (h.none x d e)

mutual
  kind_ahead : (v : Sorts) (may : Bool) (e : ExprKind) (at : Span) → HasNoHelper v → Ahead (kind_faults v e at) (kind_places may e at)
  kind_ahead v may (expr.Number n t) at h = nothing []
  kind_ahead v may (expr.Name x) at h = nothing (use_faults v x 0 at)
  kind_ahead v may (expr.Element' x n row) at h = behind (use_faults v x (row_length row) at) (row_ahead v may row h)
  kind_ahead v may (expr.Call' x n row) at h = both (call_ahead v may x (row_length row) at h) (row_ahead v may row h)
  kind_ahead v may (expr.Unary' op b (more_of-Expr e s end_of-Expr)) at h = kind_ahead v may e s h
  kind_ahead v may (expr.Cast' t b (more_of-Expr e s end_of-Expr)) at h = kind_ahead v may e s h
  kind_ahead v may (expr.Binary' op b (more_of-Expr e s end_of-Expr) b2 (more_of-Expr e2 s2 end_of-Expr)) at h = both (kind_ahead v may e s h) (kind_ahead v (where_whole (joins_both op) may) e2 s2 h)
  kind_ahead v may (expr.Choose' b (more_of-Expr e s end_of-Expr) b2 (more_of-Expr e2 s2 end_of-Expr) b3 (more_of-Expr e3 s3 end_of-Expr)) at h =
      both (kind_ahead v may e s h) (both (kind_ahead v false e2 s2 h) (kind_ahead v false e3 s3 h))

  row_ahead : {n : Count} (v : Sorts) (may : Bool) (row : Row_of-Expr n) → HasNoHelper v → Ahead (row_faults v row) (row_places may row)
  row_ahead v may end_of-Expr h = nothing []
  row_ahead v may (more_of-Expr e at row) h = both (kind_ahead v may e at h) (row_ahead v may row h)

option_ahead : (v : Sorts) (may : Bool) (o : Option Expr) → HasNoHelper v → Ahead (option_faults v o) (option_places may o)
option_ahead v may None h = nothing []
option_ahead v may (Some e) h = kind_ahead v may e.kind e.at h

exprs_ahead : (v : Sorts) (may : Bool) (es : List Expr) → HasNoHelper v → Ahead (exprs_faults v es) (exprs_places may es)
exprs_ahead v may [] h = nothing []
exprs_ahead v may (e ∷ es) h = both (kind_ahead v may e.kind e.at h) (exprs_ahead v may es h)

target_ahead : (v : Sorts) (t : Target) → HasNoHelper v → Ahead (target_faults v t) (target_places t)
target_ahead v t h = behind (use_faults v t.name (length t.indices) t.at) (exprs_ahead v true t.indices h)

-- ---- statements

mutual
  act_ahead : (v : Sorts) (k : StmtKind) (at : Span) (r : Option Ty) (loop : Bool) → HasNoHelper v → Ahead (act_faults k at r loop v) (act_places k)
  act_ahead v (stmt.Block' n row) at r loop h = acts_ahead ([] ∷ v) row r loop (inside h)
  act_ahead v (stmt.Declare x t e) at r loop h = behind (unless (is_new_in v x) rule.Redeclared at) (option_ahead (with_entry x sort.Scalar v) true e (scalar_entered v x h))
  act_ahead v (stmt.Assign target op e) at r loop h = both (target_ahead v target h) (kind_ahead v true e.kind e.at h)
  act_ahead v (stmt.Step target up) at r loop h = target_ahead v target h
  act_ahead v (stmt.If' e b (more_of-Stmt k a end_of-Stmt) o) at r loop h =
      both (kind_ahead v true e.kind e.at h) (both (act_ahead ([] ∷ v) k a r loop (inside h)) (held_ahead v o r loop h))
  act_ahead v (stmt.While' e b (more_of-Stmt k a end_of-Stmt)) at r loop h = both (kind_ahead v false e.kind e.at h) (act_ahead ([] ∷ v) k a r true (inside h))
  act_ahead v (stmt.DoWhile' b (more_of-Stmt k a end_of-Stmt) e) at r loop h = both (act_ahead ([] ∷ v) k a r true (inside h)) (kind_ahead v false e.kind e.at h)
  act_ahead v (stmt.For' n row e o b (more_of-Stmt k a end_of-Stmt)) at r loop h =
      let w : Sorts = sorts_after_row ([] ∷ v) row in
      let g : HasNoHelper w = after_row ([] ∷ v) row (inside h) in
      both (acts_ahead ([] ∷ v) row r false (inside h)) (both (option_ahead w false e g) (both (held_ahead w o r false g) (act_ahead ([] ∷ w) k a r true (inside g))))
  act_ahead v stmt.Break at r loop h = nothing (unless loop rule.OutsideLoop at)
  act_ahead v stmt.Continue at r loop h = nothing (unless loop rule.OutsideLoop at)
  act_ahead v (stmt.Return e) at r loop h = behind (unless (is_returnable r e) rule.ReturnKind (first_bytes 6 at)) (option_ahead v true e h)
  act_ahead v stmt.Empty at r loop h = nothing []

  held_ahead : (v : Sorts) (o : Held-StmtKind-If-2) (r : Option Ty) (loop : Bool) → HasNoHelper v → Ahead (held_faults o r loop v) (held_places o)
  held_ahead v stmt.None' r loop h = nothing []
  held_ahead v (stmt.Some' b (more_of-Stmt k a end_of-Stmt)) r loop h = act_ahead ([] ∷ v) k a r loop (inside h)

  acts_ahead : {n : Count} (v : Sorts) (row : Row_of-Stmt n) (r : Option Ty) (loop : Bool) → HasNoHelper v → Ahead (acts_faults row r loop v) (acts_places row)
  acts_ahead v end_of-Stmt r loop h = nothing []
  acts_ahead v (more_of-Stmt k at row) r loop h = both (act_ahead v k at r loop h) (acts_ahead (sorts_after v k) row r loop (after v k h))

stmts_ahead : (v : Sorts) (ss : List Stmt) (r : Option Ty) (loop : Bool) → HasNoHelper v → Ahead (stmts_faults ss r loop v) (stmts_places ss)
stmts_ahead v [] r loop h = nothing []
stmts_ahead v (s ∷ ss) r loop h = both (act_ahead v s.kind s.at r loop h) (stmts_ahead (sorts_after v s.kind) ss r loop (after v s.kind h))

-- ---- trees

no_names : HasNoHelper ([] ∷ [])
no_names = record { none = λ x n e. cc }

pub tree_ahead : (tree : Tree) → Ahead (tree_faults tree) (stmts_places tree.body)
tree_ahead tree =
    behind (params_faults tree.params ([] ∷ []) 0)
    (stmts_ahead (sorts_after_params ([] ∷ []) tree.params) tree.body tree.result false (after_params ([] ∷ []) tree.params no_names))

-- ---- more faults, before each of which goes one

all_first : (P : Fault → Type 0) (fs gs : List Fault) → All P (fs ++ gs) → All P fs
all_first P [] gs h = All-nil P
all_first P (f ∷ fs) gs h = All-cons P f fs (All-head P f (fs ++ gs) h) (all_first P fs gs (All-tail P f (fs ++ gs) h))

-- what goes before f goes before what does not go before f
not_before : (e g f : Fault) → is_before e f ≡ false → is_before e g ≡ true → is_before g f ≡ false
not_before e g f p q = before_by_key g f ∙ by (key e) (key g) (key f) (sym (before_by_key e f) ∙ p) (sym (before_by_key e g) ∙ q)
  where
    by : (a b c : ℕ) → nat_lt a c ≡ false → nat_lt a b ≡ true → nat_lt b c ≡ false
    by a b c p q = grind (arith, nat_tests)

first_of_all : (f : Fault) (fs gs : List Fault) → Ahead fs gs → IsFirst f fs → IsFirst f (fs ++ gs)
first_of_all f fs gs a k = record {
  one_of_them = Contains-append_left fs gs f k.one_of_them;
  none_before = All-append (λ g. is_before g f ≡ false) fs gs k.none_before (All-weaker (HasEarlier fs) (λ g. is_before g f ≡ false) later gs a.ahead);
}
  where
    later : (g : Fault) → HasEarlier fs g → is_before g f ≡ false
    later g e = not_before e.other g f (All-contains (λ h. is_before h f ≡ false) fs e.other k.none_before e.one_of_them) e.before

first_of_those : (f : Fault) (fs gs : List Fault) → Ahead fs gs → IsFirst f (fs ++ gs) → IsFirst f fs
first_of_those f fs gs a k = record {
  one_of_them = by (Contains-append_cases fs gs f k.one_of_them);
  none_before = all_first (λ g. is_before g f ≡ false) fs gs k.none_before;
}
  where
    never : HasEarlier fs f → ⊥
    never e =
        let p : is_before e.other f ≡ false = All-contains (λ h. is_before h f ≡ false) (fs ++ gs) e.other k.none_before (Contains-append_left fs gs e.other e.one_of_them) in
        let q : is_before e.other f ≡ true = e.before in
        cc

    by : Contains fs f ⊎ Contains gs f → Contains fs f
    by (inl h) = h
    by (inr h) = absurd (never (All-contains (HasEarlier fs) gs f a.ahead h))

none_more : (fs gs : List Fault) → Ahead fs gs → fs ≡ [] → fs ++ gs ≡ []
none_more fs [] a h = rw h refl
none_more fs (g ∷ gs) a h =
    let e : HasEarlier fs g = All-head (HasEarlier fs) g gs a.ahead in
    let c : Contains [] e.other = subst (λ (xs : List Fault). Contains xs e.other) h e.one_of_them in
    absurd (omega (arith, c.1))

-- ---- the law

faults_alone : (tree : Tree) → program_faults (alone tree) ≡ tree_faults tree ++ stmts_places tree.body
faults_alone tree = ap (λ fs. fs ++ stmts_places tree.body) (tree_same tree)

pub alone_keeps : AloneKeepsRules
alone_keeps tree = (
  λ k. tree_kept tree (first_empty (tree_faults tree) (stmts_places tree.body) (sym (faults_alone tree) ∙ program_clean (alone tree) k)),
  λ k. program_kept (alone tree) (faults_alone tree ∙ none_more (tree_faults tree) (stmts_places tree.body) (tree_ahead tree) (tree_clean tree k)),
)

broken_alone : (tree : Tree) (f : Fault) → IsProgramBroken (alone tree) f → IsBroken tree f
broken_alone tree f b = record {
  first = first_of_those f (tree_faults tree) (stmts_places tree.body) (tree_ahead tree) (subst (IsFirst f) (faults_alone tree) b.first);
  untyped = λ k. b.untyped ((alone_keeps tree).1 k);
}

alone_broken : (tree : Tree) (f : Fault) → IsBroken tree f → IsProgramBroken (alone tree) f
alone_broken tree f b = record {
  first = subst (IsFirst f) (sym (faults_alone tree)) (first_of_all f (tree_faults tree) (stmts_places tree.body) (tree_ahead tree) b.first);
  untyped = λ k. b.untyped ((alone_keeps tree).0 k);
}

pub alone_refused : AloneIsRefused
alone_refused tree (refusal.Broken f) = (broken_alone tree f, alone_broken tree f)
alone_refused tree refusal.Memory = (λ h. h, λ h. h)
