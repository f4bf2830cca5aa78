-- The declarations in force, as the rules on names see them and as casts see them: both agree on what a name stands for.
use Rattle.std.proofs.Common.{◌≡◌, ℕ, ◌<◌, List, [], ◌∷◌, ◌++◌, map, length, Option, Some, None, refl, sym, ◌∙◌, ap, subst, cond}
use Rattle.std.proofs.lemmas.Bool.{false≢true}
use Rattle.std.specs.Prelude.{Bool, true, false, ◌==◌, flat_map, option_map, IsSome}
use Rattle.std.specs.Cmp.Lexicographic.{pointwise}
use Rattle.std.specs.Map.{lookup}
use mathlib.Core.Former.{Count}
use Rattle.el_base.specs.declared.span.Span.{Span}
use Rattle.el_base.specs.declared.ty.Ty.{Ty}
use Rattle.c_ast.specs.declared.tree.Param.{Param}
use Rattle.c_ast.specs.declared.tree.StmtKind.{StmtKind, Row_of-Stmt, end_of-Stmt, more_of-Stmt, Held-StmtKind-If-2}
use Rattle.c_ast.specs.declared.tree.StmtKind as raw_stmt
use Rattle.c_ast.specs.Typing.{Sort, Names, a_scalar, sort_of, with_name, IsUsable, IsCallable, names_after, names_after_row, sort_of_dims, scope_of}
use Rattle.c_ast.specs.Typing as typing
use Rattle.c_ast.specs.Casts.{Declared, a_var, an_array, Scope, Context, declared_as, into_innermost, with_var, opened, closed, Parameters, with_param, with_params, first_context}
use Rattle.c_meaning.proofs.Elaboration.{cast_stmt, cast_held, cast_stmts}

abbrev pub sort_as : Declared → Sort
sort_as (a_var v t) = a_scalar
sort_as (an_array a t ds) = typing.an_array (length ds)

abbrev pub entry_as : List ℕ × Declared → List ℕ × Sort
entry_as e = (e.0, sort_as e.1)

abbrev pub entries_as : Scope → List (List ℕ × Sort)
entries_as s = map entry_as s

abbrev pub sorts_in : List Scope → Names
sorts_in ss = map entries_as ss

abbrev pub sorts_of : Context → Names
sorts_of c = sorts_in c.scopes

-- ---- what a name stands for

sort_if : (b : Bool) (d : Declared) (o : Option Declared) (p : Option Sort) → p ≡ option_map sort_as o → cond b (Some (sort_as d)) p ≡ option_map sort_as (cond b (Some d) o)
sort_if true d o p e = refl
sort_if false d o p e = e

lookup_sort : (test : List ℕ → Bool) (es : Scope) → lookup test (entries_as es) ≡ option_map sort_as (lookup test es)
lookup_sort test [] = refl
lookup_sort test (e ∷ es) = sort_if (test e.0) e.1 (lookup test es) (lookup test (entries_as es)) (lookup_sort test es)

entries_join : (xs ys : Scope) → entries_as (xs ++ ys) ≡ entries_as xs ++ entries_as ys
entries_join [] ys = refl
entries_join (x ∷ xs) ys = ap (λ u. entry_as x ∷ u) (entries_join xs ys)

flat_sorts : (ss : List Scope) → flat_map (λ (s : List (List ℕ × Sort)). s) (sorts_in ss) ≡ entries_as (flat_map (λ (s : Scope). s) ss)
flat_sorts [] = refl
flat_sorts (s ∷ ss) = ap (λ u. entries_as s ++ u) (flat_sorts ss) ∙ sym (entries_join s (flat_map (λ (t : Scope). t) ss))

pub sort_is : (c : Context) (x : List ℕ) → sort_of (sorts_of c) x ≡ option_map sort_as (declared_as c x)
sort_is c x = ap (λ es. lookup (pointwise ◌==◌ x) es) (flat_sorts c.scopes) ∙ lookup_sort (pointwise ◌==◌ x) (flat_map (λ (s : Scope). s) c.scopes)

-- what a name that is used with so many indices stands for
abbrev pub UsedAs : ℕ → Option Declared → Type 0
UsedAs n None = ⊥
UsedAs n (Some (a_var v t)) = n ≡ 0
UsedAs n (Some (an_array a t ds)) = (0 < n) × (n ≡ length ds)

used : (o : Option Declared) (p : Option Sort) (n : ℕ) → p ≡ option_map sort_as o → IsSome p → (p ≡ Some a_scalar → n ≡ 0)
    → ((m : ℕ) → p ≡ Some (typing.an_array m) → 0 < n) → ((m : ℕ) → p ≡ Some (typing.an_array m) → 0 < n → n ≡ m) → UsedAs n o
used None p n e some s a d = false≢true (subst IsSome e some)
used (Some (a_var v t)) p n e some s a d = s e
used (Some (an_array k t ds)) p n e some s a d = (a (length ds) e, d (length ds) e (a (length ds) e))

pub usable : (c : Context) (x : List ℕ) (n : ℕ) → IsUsable (sorts_of c) x n → UsedAs n (declared_as c x)
usable c x n h = used (declared_as c x) (sort_of (sorts_of c) x) n (sort_is c x) h.rule_20_declared h.rule_22_scalar_has_none h.rule_23_array_has_some h.rule_24_one_for_each

-- no helper is in scope there, so nothing can be called
uncallable_as : (o : Option Declared) (p : Option Sort) → p ≡ option_map sort_as o → IsSome p → (p ≡ Some a_scalar → ⊥) → ((m : ℕ) → p ≡ Some (typing.an_array m) → ⊥) → ⊥
uncallable_as None p e some s a = false≢true (subst IsSome e some)
uncallable_as (Some (a_var v t)) p e some s a = s e
uncallable_as (Some (an_array k t ds)) p e some s a = a (length ds) e

pub uncallable : (c : Context) (x : List ℕ) (n : ℕ) → IsCallable (sorts_of c) x n → ⊥
uncallable c x n h = uncallable_as (declared_as c x) (sort_of (sorts_of c) x) (sort_is c x) h.rule_20_declared h.rule_17_no_scalar h.rule_17_no_array

-- ---- after a statement

with_name_in : (ss : List Scope) (x : List ℕ) (n : ℕ) (t : Ty) → with_name x (sorts_in ss) ≡ sorts_in (into_innermost (x, a_var n t) ss)
with_name_in [] x n t = refl
with_name_in (s ∷ ss) x n t = refl

pub with_name_is : (c : Context) (x : List ℕ) (t : Ty) → with_name x (sorts_of c) ≡ sorts_of (with_var x t c)
with_name_is c x t = with_name_in c.scopes x (length c.types) t

-- a part that is held changes no scope
pub held_scopes : (r : Option Ty) (o : Held-StmtKind-If-2) (c : Context) → (cast_held r o c).after.scopes ≡ c.scopes
held_scopes r raw_stmt.None' c = refl
held_scopes r (raw_stmt.Some' b (more_of-Stmt a at end_of-Stmt)) c = refl

pub names_after_is : (r : Option Ty) (k : StmtKind) (c : Context) (s : Span) → names_after (sorts_of c) k ≡ sorts_of (cast_stmt r k c s).after
names_after_is r (raw_stmt.Declare x t e) c s = with_name_is c x t
names_after_is r (raw_stmt.If' e b (more_of-Stmt a at end_of-Stmt) o) c s = ap sorts_in (sym (held_scopes r o (closed c (cast_stmt r a (opened c) at).after)))
names_after_is r (raw_stmt.Block' n row) c s = refl
names_after_is r (raw_stmt.Assign target op e) c s = refl
names_after_is r (raw_stmt.Step target up) c s = refl
names_after_is r (raw_stmt.While' e b (more_of-Stmt a at end_of-Stmt)) c s = refl
names_after_is r (raw_stmt.DoWhile' b (more_of-Stmt a at end_of-Stmt) e) c s = refl
names_after_is r (raw_stmt.For' n row e o b (more_of-Stmt a at end_of-Stmt)) c s = refl
names_after_is r raw_stmt.Break c s = refl
names_after_is r raw_stmt.Continue c s = refl
names_after_is r (raw_stmt.Return e) c s = refl
names_after_is r raw_stmt.Empty c s = refl

pub names_after_row_is : (r : Option Ty) {n : Count} (row : Row_of-Stmt n) (c : Context) → names_after_row (sorts_of c) row ≡ sorts_of (cast_stmts r row c).after
names_after_row_is r end_of-Stmt c = refl
names_after_row_is r (more_of-Stmt a at row) c = ap (λ ns. names_after_row ns row) (names_after_is r a c at) ∙ names_after_row_is r row (cast_stmt r a c at).after

-- ---- parameters

param_scope : (p : Param) (ds : List ℕ) (q : Parameters) → p.dims ≡ ds → entries_as (with_param p ds q).scope ≡ (p.name, sort_of_dims ds) ∷ entries_as q.scope
param_scope p [] q e = refl
param_scope p (d ∷ ds) q e = ap (λ u. (p.name, typing.an_array (length u)) ∷ entries_as q.scope) e

params_scope : (ps : List Param) (q : Parameters) → entries_as (with_params ps q).scope ≡ scope_of ps (entries_as q.scope)
params_scope [] q = refl
params_scope (p ∷ ps) q = params_scope ps (with_param p p.dims q) ∙ ap (λ s. scope_of ps s) (param_scope p p.dims q refl)

pub first_names : (ps : List Param) → sorts_of (first_context ps) ≡ scope_of ps [] ∷ []
first_names ps = ap (λ s. s ∷ []) (params_scope ps (record { scope = []; types = []; arrays = [] }))
