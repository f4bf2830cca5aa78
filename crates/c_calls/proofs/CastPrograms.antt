-- The typed program of a program that keeps the rules is lawful.
use Rattle.std.proofs.Common.{◌≡◌, ℕ, zero, suc, ◌+◌, ◌-◌, ◌<◌, ◌≤◌, List, [], ◌∷◌, ◌++◌, length, map, take, Option, Some, None, refl, sym, ◌∙◌, ap, subst, cond, arith, ◌⊎◌, inl, inr, append-nil}
use Rattle.std.proofs.lemmas.Bool.{cases_lt, false≢true}
use Rattle.std.proofs.lemmas.List.{map-append}
use Rattle.std.proofs.lemmas.List.Elements.{All-nil, All-cons, All-head, All-tail}
use Rattle.std.proofs.Math.Seq.{take-append_seam}
use Rattle.std.specs.Prelude.{Bool, true, false, ◌==◌, IsTrue, All, Contains, sum_by}
use Rattle.std.specs.Cmp.Lexicographic.{pointwise}
use mathlib.Core.Former.{Count}
use Rattle.el_base.specs.declared.ty.Ty.{Ty}
use Rattle.el_base.specs.Limits.{max_elements}
use Rattle.c_ast.specs.declared.tree.Param.{Param}
use Rattle.c_ast.specs.declared.tree.Stmt.{Stmt}
use Rattle.c_ast.specs.declared.tree.StmtKind.{StmtKind, Row_of-Stmt, end_of-Stmt, more_of-Stmt, Held-StmtKind-If-2}
use Rattle.c_ast.specs.declared.tree.StmtKind as raw
use Rattle.c_ast.specs.declared.tree.StmtKind.TheBlock.{hidden-the_row-Stmt-0}
use Rattle.c_ast.specs.declared.tree.Tree.{Tree}
use Rattle.c_ast.specs.declared.tree.Helper.{Helper}
use Rattle.c_ast.specs.declared.tree.Program.{Program}
use Rattle.c_ast.specs.declared.program.ProgExpr.{ProgExpr}
use Rattle.c_ast.specs.declared.program.ProgStmt.{ProgStmt}
use Rattle.c_ast.specs.declared.program.ProgStmtKind.{ProgStmtKind, Row_of-ProgStmt, end_of-ProgStmt, more_of-ProgStmt, Held-ProgStmtKind-If-2}
use Rattle.c_ast.specs.declared.program.ProgStmtKind as act
use Rattle.c_ast.specs.declared.program.ProgStmtKind.TheBlock.{hidden-the_row-ProgStmt-0}
use Rattle.c_ast.specs.declared.program.TypedHelper.{TypedHelper}
use Rattle.c_ast.specs.declared.program.TypedProgram.{TypedProgram}
use Rattle.c_ast.specs.Casts.{Declared, a_var, an_array, Scope, Context, Parameters, with_param, with_params, parameters, first_context}
use Rattle.c_ast.specs.Constants.{NumbersFitStmt}
use Rattle.c_ast.specs.Programs.{CallsStandStmt, CallsStandStmts, TypingHelper, with_helper, TypingHelpers, known_after, TypingProgram, names_after_list}
use Rattle.c_ast.specs.ProgramCasts.{Known, known_of, CastsCallStmts, CastsHelper, CastsHelpers, CastsProgram}
use Rattle.c_ast.specs.ProgramCasts as casts
use Rattle.c_ast.specs.Typing.{Sort, Names, sort_of, sort_of_dims, scope_of, names_after, names_after_row, TypingList}
use Rattle.c_ast.specs.Typing as typing
use Rattle.c_meaning.specs.declared.profile.Profile.{Profile}
use Rattle.c_meaning.specs.declared.profile.Profile.TheVariants.{Plain}
use Rattle.c_meaning.specs.Stores.{Objects, elements, scalar_type, scalar_types}
use Rattle.c_meaning.specs.Lawful.{IsVar, AreUsed, LawfulHeader}
use Rattle.c_meaning.proofs.Existence.{list_typing}
use Rattle.c_meaning.proofs.LawfulExpressions.{Extends, extends_refl, extends_trans, Means, found_in, Valid}
use Rattle.c_meaning.proofs.LawfulKernels.{tree_lawful, first_types, params_valid, list_fits}
use Rattle.c_meaning.proofs.StoreParts.{keeps_append, Keeps}
use Rattle.c_calls.specs.Meanings.{helper_objects, prog_objects}
use Rattle.c_calls.specs.Lawful.{Signature, signature_of, LawfulCallStmt, LawfulCallStmts, LawfulCallExpr, ReadsAt, in_scope_after, in_scope_after_row, in_scope_after_list, AreScoped, ListScoped, numbers_from, prog_vars_of, prog_vars_held, prog_vars_row, all_prog_vars, declared_of, declared_held, declared_row, all_declared, AreOnce, InScope, LawfulHelper, LawfulHelpers, LawfulProgram}
use Rattle.c_ast.specs.OfTexts.{ReturnsWhere, HeldReturnsWhere, RowReturnsWhere, IsHelperOfText, IsProgramOfText}
use Rattle.c_calls.specs.Texts.{TypedIsLawful}
use Rattle.c_calls.proofs.Lists.{no_member, member_cases}
use Rattle.c_calls.proofs.Helpers.{numbers_below, numbers_all}
use Rattle.c_calls.proofs.LawfulHelpers.{is_below, many_scalars}
use Rattle.c_calls.proofs.CastExprs.{ToldBy, Sees, signature_by, gs, converted_has, converted_lawful, expr_fit, converted_reads, expr_reads}
use Rattle.c_calls.proofs.CastStmts.{stmts_grow, numbers_then, Follow, stmts_follow, Stands, stmts_after}
use Rattle.c_calls.proofs.CastLawful.{FitStmts, stmts_fit}
use Rattle.c_meaning.proofs.TreeRows.{stmt_rows}
use Rattle.c_calls.proofs.TreeRows.{prog_stmt_rows}

-- ---- lists and rows

rows_stand : (ss : List Stmt) → All (λ (s : Stmt). CallsStandStmt s.kind) ss → CallsStandStmts (hidden-the_row-Stmt-0 ss)
unfolding stmt_rows
rows_stand [] h = tt
rows_stand (s ∷ ss) h = let P : Stmt → Type 0 = λ s. CallsStandStmt s.kind in (All-head P s ss h, rows_stand ss (All-tail P s ss h))

rows_return : (may : Bool) (ss : List Stmt) → All (λ (s : Stmt). ReturnsWhere may s.kind) ss → RowReturnsWhere may (hidden-the_row-Stmt-0 ss)
unfolding stmt_rows
rows_return may [] h = tt
rows_return may (s ∷ ss) h = let P : Stmt → Type 0 = λ s. ReturnsWhere may s.kind in (All-head P s ss h, rows_return may ss (All-tail P s ss h))

pub names_after_same : (names : Names) (ss : List Stmt) → names_after_row names (hidden-the_row-Stmt-0 ss) ≡ names_after_list names ss
unfolding stmt_rows
names_after_same names [] = refl
names_after_same names (s ∷ ss) = names_after_same (names_after names s.kind) ss

list_lawful : (k : Objects) (sigs : List Signature) (q : Option (Option Ty)) (loop : Bool) (ts : List ProgStmt) → LawfulCallStmts k sigs q loop (hidden-the_row-ProgStmt-0 ts) → All (λ (s : ProgStmt). LawfulCallStmt k sigs q loop s.kind) ts
unfolding prog_stmt_rows
list_lawful k sigs q loop [] h = All-nil (λ (s : ProgStmt). LawfulCallStmt k sigs q loop s.kind)
list_lawful k sigs q loop (t ∷ ts) h = All-cons (λ (s : ProgStmt). LawfulCallStmt k sigs q loop s.kind) t ts h.0 (list_lawful k sigs q loop ts h.1)

list_scoped : (ts : List ProgStmt) (vs : List ℕ) → AreScoped (hidden-the_row-ProgStmt-0 ts) vs → ListScoped ts vs
unfolding prog_stmt_rows
list_scoped [] vs h = tt
list_scoped (t ∷ ts) vs h = (h.0, list_scoped ts (in_scope_after vs t.kind) h.1)

scope_after_same : (vs : List ℕ) (ts : List ProgStmt) → in_scope_after_row vs (hidden-the_row-ProgStmt-0 ts) ≡ in_scope_after_list vs ts
unfolding prog_stmt_rows
scope_after_same vs [] = refl
scope_after_same vs (t ∷ ts) = scope_after_same (in_scope_after vs t.kind) ts

declared_same : (ts : List ProgStmt) → all_declared ts ≡ declared_row (hidden-the_row-ProgStmt-0 ts)
unfolding prog_stmt_rows
declared_same [] = refl
declared_same (t ∷ ts) = ap (λ xs. declared_of t.kind ++ xs) (declared_same ts)

-- a kernel may return
mutual
  may_return : (a : StmtKind) → ReturnsWhere true a
  may_return (raw.Block' n row) = row_may_return row
  may_return (raw.If' e b (more_of-Stmt s at end_of-Stmt) o) = (may_return s, held_may_return o)
  may_return (raw.While' e b (more_of-Stmt s at end_of-Stmt)) = may_return s
  may_return (raw.DoWhile' b (more_of-Stmt s at end_of-Stmt) e) = may_return s
  may_return (raw.For' n row e o b (more_of-Stmt s at end_of-Stmt)) = (row_may_return row, held_may_return o, may_return s)
  may_return (raw.Return e) = refl
  may_return a = tt

  held_may_return : (o : Held-StmtKind-If-2) → HeldReturnsWhere true o
  held_may_return raw.None' = tt
  held_may_return (raw.Some' b (more_of-Stmt s at end_of-Stmt)) = may_return s

  row_may_return : {n : Count} (row : Row_of-Stmt n) → RowReturnsWhere true row
  row_may_return end_of-Stmt = tt
  row_may_return (more_of-Stmt s at row) = (may_return s, row_may_return row)

-- ---- what is declared is used

mutual
  declared_used : (s : ProgStmtKind) → Keeps (declared_of s) (prog_vars_of s)
  declared_used (act.Block' n row) = row_used row
  declared_used (act.Declare v init) = λ w c. c
  declared_used (act.Assign target op e) = λ w c. no_member w c
  declared_used (act.Step target up) = λ w c. no_member w c
  declared_used (act.If' cond b (more_of-ProgStmt s at end_of-ProgStmt) o) = keeps_append (declared_of s) (declared_held o) (prog_vars_of s) (prog_vars_held o) (declared_used s) (held_used o)
  declared_used (act.While' cond b (more_of-ProgStmt s at end_of-ProgStmt)) = declared_used s
  declared_used (act.DoWhile' b (more_of-ProgStmt s at end_of-ProgStmt) cond) = declared_used s
  declared_used (act.For' n first cond o b (more_of-ProgStmt s at end_of-ProgStmt)) =
      keeps_append (declared_row first ++ declared_held o) (declared_of s) (prog_vars_row first ++ prog_vars_held o) (prog_vars_of s)
      (keeps_append (declared_row first) (declared_held o) (prog_vars_row first) (prog_vars_held o) (row_used first) (held_used o)) (declared_used s)
  declared_used act.Break = λ w c. no_member w c
  declared_used act.Continue = λ w c. no_member w c
  declared_used (act.Return e) = λ w c. no_member w c
  declared_used act.Empty = λ w c. no_member w c

  held_used : (o : Held-ProgStmtKind-If-2) → Keeps (declared_held o) (prog_vars_held o)
  held_used act.None' = λ w c. no_member w c
  held_used (act.Some' b (more_of-ProgStmt s at end_of-ProgStmt)) = declared_used s

  row_used : {n : Count} (row : Row_of-ProgStmt n) → Keeps (declared_row row) (prog_vars_row row)
  row_used end_of-ProgStmt = λ w c. no_member w c
  row_used (more_of-ProgStmt s at row) = keeps_append (declared_of s) (declared_row row) (prog_vars_of s) (prog_vars_row row) (declared_used s) (row_used row)

list_used : (ts : List ProgStmt) → Keeps (all_declared ts) (all_prog_vars ts)
list_used [] = λ w c. no_member w c
list_used (t ∷ ts) = keeps_append (declared_of t.kind) (all_declared ts) (prog_vars_of t.kind) (all_prog_vars ts) (declared_used t.kind) (list_used ts)

numbers_above : (a m w : ℕ) → Contains (numbers_from a m) w → a ≤ w
numbers_above a zero w c = no_member w c
numbers_above a (suc m) w c = by_cases (λ d. numbers_above (suc a) m w d) (member_cases a (numbers_from (suc a) m) w c)
  where
    by_cases : (Contains (numbers_from (suc a) m) w → suc a ≤ w) → (w ≡ a) ⊎ Contains (numbers_from (suc a) m) w → a ≤ w
    by_cases f (inl e) = omega arith
    by_cases f (inr d) = let h = f d in omega arith

numbers_once : (a m : ℕ) → AreOnce (numbers_from a m)
numbers_once a zero = tt
numbers_once a (suc m) = ((λ c. let h = numbers_above (suc a) m a c in omega arith), numbers_once (suc a) m)

-- ---- parameters

abbrev nothing : Parameters
nothing = record { scope = []; types = []; arrays = [] }

-- scalars alone have no arrays
no_arrays : (ps : List Param) (q : Parameters) → All (λ (p : Param). p.dims ≡ []) ps → q.arrays ≡ [] → (with_params ps q).arrays ≡ []
no_arrays [] q h e = e
no_arrays (p ∷ ps) q h e =
    let P : Param → Type 0 = λ p. p.dims ≡ [] in
    no_arrays ps (with_param p p.dims q) (All-tail P p ps h) (subst (λ ds. (with_param p ds q).arrays ≡ []) (sym (All-head P p ps h)) e)

told_either : (b : Bool) (d : Declared) (s : Sort) (o : Option Declared) (u : Option Sort) → ToldBy (Some d) (Some s) → ToldBy o u → ToldBy (cond b (Some d) o) (cond b (Some s) u)
told_either true d s o u h i = h
told_either false d s o u h i = i

-- parameters so far, whose names stand before others
abbrev Told : List (List ℕ × Sort) → Names → Scope → Type 0
Told sorts more scope = (x : List ℕ) → ToldBy (found_in (scope ∷ []) x) (sort_of (sorts ∷ more) x)

param_told : (p : Param) (ds : List ℕ) (q : Parameters) (sorts : List (List ℕ × Sort)) (more : Names) → p.dims ≡ ds → Told sorts more q.scope → Told ((p.name, sort_of_dims ds) ∷ sorts) more (with_param p ds q).scope
param_told p [] q sorts more e h x = told_either (pointwise ◌==◌ x p.name) (a_var (length q.types) p.ty) (sort_of_dims []) (found_in (q.scope ∷ []) x) (sort_of (sorts ∷ more) x) tt (h x)
param_told p (d ∷ ds) q sorts more e h x =
    told_either (pointwise ◌==◌ x p.name) (an_array (length q.arrays) p.ty p.dims) (sort_of_dims (d ∷ ds)) (found_in (q.scope ∷ []) x) (sort_of (sorts ∷ more) x) (ap (λ us. Some (sort_of_dims us)) (sym e) ∙ dims_are p.dims e) (h x)
  where
    dims_are : (us : List ℕ) → us ≡ d ∷ ds → Some (sort_of_dims us) ≡ Some (typing.an_array (length us))
    dims_are [] w = absurd (cc)
    dims_are (u ∷ us) w = refl

params_told : (ps : List Param) (q : Parameters) (sorts : List (List ℕ × Sort)) (more : Names) → Told sorts more q.scope → Told (scope_of ps sorts) more (with_params ps q).scope
params_told [] q sorts more h = h
params_told (p ∷ ps) q sorts more h = params_told ps (with_param p p.dims q) ((p.name, sort_of_dims p.dims) ∷ sorts) more (param_told p p.dims q sorts more refl h)

first_valid : (k : Objects) (ps : List Param) → Extends (parameters ps).types k.vars → Extends (parameters ps).arrays k.arrays → Valid k ((parameters ps).scope ∷ [])
first_valid k ps e a = params_valid k ps nothing e a (record { means = λ x. tt })

-- the variables that names of parameters stand for are the first
first_sees : (ps : List Param) → Sees ((parameters ps).scope ∷ []) (numbers_from 0 (length (parameters ps).types))
first_sees ps x v t e =
    let k : Objects = record { profile = Plain; vars = (parameters ps).types; arrays = (parameters ps).arrays } in
    let var : IsVar k v t = subst (Means k) e ((first_valid k ps (extends_refl (parameters ps).types) (extends_refl (parameters ps).arrays)).means x) in
    let z : 0 + v ≡ v = omega arith in
    subst (Contains (numbers_from 0 (length (parameters ps).types))) z (numbers_all 0 (length (parameters ps).types) v (is_below (parameters ps).types v t var))

first_stands : (k : Objects) (ps : List Param) (more : Names) → Extends (parameters ps).types k.vars → Extends (parameters ps).arrays k.arrays → Stands k (scope_of ps [] ∷ more) (first_context ps).scopes (length (first_context ps).types) (numbers_from 0 (length (parameters ps).types))
first_stands k ps more e a = record {
  scoped = record { valid = first_valid k ps e a; told = params_told ps nothing [] more (λ x. tt) };
  sees = first_sees ps;
  below = λ w c. let h = numbers_below 0 (length (parameters ps).types) w c in omega arith;
}

-- ---- the body of a helper or of the kernel

module _ (k : Objects) (hs : List Known) (ps : List Param) (more : Names) (ss : List Stmt) (ts : List ProgStmt) (last : Context) (r : Option Ty) (ret : Bool) (q : Option (Option Ty)) (at : IsTrue ret → q ≡ Some r) (p : CastsCallStmts hs r (first_context ps) ss ts last)
    (vars : k.vars ≡ last.types) (arrays : Extends (parameters ps).arrays k.arrays) (typed : TypingList ss r false (scope_of ps [] ∷ more)) (numbers : All (λ (s : Stmt). NumbersFitStmt s.kind) ss) (calls : All (λ (s : Stmt). CallsStandStmt s.kind) ss)
    (returns : All (λ (s : Stmt). ReturnsWhere ret s.kind) ss) where
  abbrev names : Names
  names = scope_of ps [] ∷ more

  abbrev n : ℕ
  n = length (parameters ps).types

  abbrev vs : List ℕ
  vs = numbers_from 0 n

  whole : Extends last.types k.vars
  whole = record { rest = []; is = vars ∙ sym (append-nil last.types) }

  front : Extends (parameters ps).types k.vars
  front = extends_trans (stmts_grow hs p) whole

  stands : Stands k names (first_context ps).scopes (length (first_context ps).types) vs
  stands = first_stands k ps more front arrays

  fit : FitStmts k hs ret q false ts vs
  fit = stmts_fit k hs ret q names vs false at stands whole p (list_typing ss r false names typed) (list_fits ss numbers) (rows_stand ss calls) (rows_return ret ss returns)

  body_lawful : All (λ (s : ProgStmt). LawfulCallStmt k (gs k hs) q false s.kind) ts
  body_lawful = list_lawful k (gs k hs) q false ts fit.lawful

  body_after : Stands k (names_after_list names ss) last.scopes (length last.types) (in_scope_after_list vs ts)
  body_after =
      subst (λ ns. Stands k ns last.scopes (length last.types) (in_scope_after_list vs ts)) (names_after_same names ss)
      (subst (λ us. Stands k (names_after_row names (hidden-the_row-Stmt-0 ss)) last.scopes (length last.types) us) (scope_after_same vs ts) (stmts_after k hs names vs p whole stands))

  follow : Follow n (length last.types) (declared_row (hidden-the_row-ProgStmt-0 ts))
  follow = stmts_follow hs p

  declared_are : all_declared ts ≡ numbers_from n follow.count
  declared_are = declared_same ts ∙ follow.is

  in_scope : InScope n ts
  in_scope =
      let z : n ≡ 0 + n = omega arith in
      let all = ap (λ xs. vs ++ xs) (declared_are ∙ ap (λ v. numbers_from v follow.count) z) ∙ numbers_then 0 n follow.count in
      record { once = subst AreOnce (sym all) (numbers_once 0 (n + follow.count)); scoped = list_scoped ts vs fit.scoped }

  many : n ≡ length (scalar_types ps)
  many = ap length (first_types ps)

  used : AreUsed ps k.vars (all_prog_vars ts)
  used v lt = by_cases (cases_lt v (length (scalar_types ps)))
    where
      by_cases : (v < length (scalar_types ps)) ⊎ (length (scalar_types ps) ≤ v) → (v < length (scalar_types ps)) ⊎ Contains (all_prog_vars ts) v
      by_cases (inl l) = inl l
      by_cases (inr l) =
          let a = ap length vars in
          let b = many in
          let c = follow.sum in
          let z : n + (v - n) ≡ v = omega arith in
          inr (list_used ts v (subst (λ xs. Contains xs v) (sym declared_are) (subst (Contains (numbers_from n follow.count)) z (numbers_all n follow.count (v - n) (omega arith)))))

  first_vars : take (length (scalar_types ps)) k.vars ≡ scalar_types ps
  first_vars =
      let is : k.vars ≡ scalar_types ps ++ front.rest = front.is ∙ ap (λ ts. ts ++ front.rest) (first_types ps) in
      ap (take (length (scalar_types ps))) is ∙ take-append_seam (scalar_types ps) front.rest

-- ---- helpers

scalars_are : (ps : List Param) → All (λ (p : Param). p.dims ≡ []) ps → scalar_types ps ≡ map (λ (p : Param). p.ty) ps
scalars_are [] h = refl
scalars_are (p ∷ ps) h =
    let P : Param → Type 0 = λ p. p.dims ≡ [] in
    ap (λ ds. scalar_type ds p.ty ++ scalar_types ps) (All-head P p ps h) ∙ ap (λ us. p.ty ∷ us) (scalars_are ps (All-tail P p ps h))

abbrev signature : List Ty → Ty → Signature
signature ts t = record { params = ts; result = t }

signature_is : (h : Helper) (g : TypedHelper) → g.params ≡ h.params → g.result ≡ h.result → signature_by (known_of h) ≡ signature_of g
signature_is h g e f = ap (λ ps. signature (map (λ (p : Param). p.ty) ps) h.result) (sym e) ∙ ap (λ t. signature (map (λ (p : Param). p.ty) g.params) t) (sym f)

module _ (hs : List Known) (known : List (List ℕ × Sort)) (h : Helper) (g : TypedHelper) (c : CastsHelper hs h g) (keeps : TypingHelper known h) (text : IsHelperOfText h) where
  abbrev k_of : Profile → Objects
  k_of p = helper_objects p g

  abbrev sigs : List Signature
  sigs = map signature_by hs

  not_returning : IsTrue false → None ≡ Some (Some h.result)
  not_returning e = absurd (false≢true e)

  same_scalars : (length h.params ≡ length (scalar_types h.params))
  same_scalars = sym (many_scalars h.params text.scalars)

  helper_many : length (parameters h.params).types ≡ length g.params
  helper_many = ap length (first_types h.params) ∙ sym same_scalars ∙ ap length (sym c.same_params)

  no_array : (p : Profile) → Extends (parameters h.params).arrays (k_of p).arrays
  no_array p = record { rest = []; is = sym (ap (λ us. us ++ []) (no_arrays h.params nothing text.scalars refl)) }

  after : (p : Profile) → Stands (k_of p) (names_after_list (scope_of h.params [] ∷ known ∷ []) h.body) c.last.scopes (length c.last.types) (in_scope_after_list (numbers_from 0 (length (parameters h.params).types)) g.body)
  after p = body_after (k_of p) hs h.params (known ∷ []) h.body g.body c.last (Some h.result) false None not_returning c.body_casts c.vars_are (no_array p) keeps.body_keeps text.body_fits keeps.rule_28_body text.returns_nothing

  value_lawful : (p : Profile) → LawfulCallExpr (k_of p) sigs true g.value
  value_lawful p =
      subst (LawfulCallExpr (k_of p) sigs true) (sym c.value_is)
      (converted_lawful (k_of p) hs true h.result c.value (expr_fit (k_of p) hs (names_after_list (scope_of h.params [] ∷ known ∷ []) h.body) true (after p).scoped c.value_casts keeps.value_keeps text.value_fits keeps.rule_28_value))

  value_reads : ReadsAt (in_scope_after_list (numbers_from 0 (length g.params)) g.body) g.value
  value_reads =
      subst (λ m. ReadsAt (in_scope_after_list (numbers_from 0 m) g.body) g.value) helper_many
      (subst (ReadsAt (in_scope_after_list (numbers_from 0 (length (parameters h.params).types)) g.body)) (sym c.value_is)
      (converted_reads (in_scope_after_list (numbers_from 0 (length (parameters h.params).types)) g.body) h.result c.value (expr_reads (in_scope_after_list (numbers_from 0 (length (parameters h.params).types)) g.body) (after Plain).sees c.value_casts)))

  helper_lawful : LawfulHelper sigs g
  helper_lawful = record {
    scalars = subst (λ ps. All (λ (p : Param). p.dims ≡ []) ps) (sym c.same_params) text.scalars;
    first_vars =
        subst (λ ps. take (length ps) g.vars ≡ map (λ (p : Param). p.ty) ps) (sym c.same_params)
        (ap (λ m. take m g.vars) same_scalars ∙ first_vars (k_of Plain) hs h.params (known ∷ []) h.body g.body c.last (Some h.result) false None not_returning c.body_casts c.vars_are (no_array Plain) keeps.body_keeps text.body_fits keeps.rule_28_body text.returns_nothing ∙ scalars_are h.params text.scalars);
    used =
        subst (λ ps. AreUsed ps g.vars (all_prog_vars g.body)) (sym c.same_params)
        (used (k_of Plain) hs h.params (known ∷ []) h.body g.body c.last (Some h.result) false None not_returning c.body_casts c.vars_are (no_array Plain) keeps.body_keeps text.body_fits keeps.rule_28_body text.returns_nothing);
    statements = λ p. body_lawful (k_of p) hs h.params (known ∷ []) h.body g.body c.last (Some h.result) false None not_returning c.body_casts c.vars_are (no_array p) keeps.body_keeps text.body_fits keeps.rule_28_body text.returns_nothing;
    result = value_lawful;
    typed = ap (λ (e : ProgExpr). e.ty) c.value_is ∙ converted_has h.result c.value ∙ sym c.same_result;
    scoped =
        subst (λ m. InScope m g.body) helper_many
        (in_scope (k_of Plain) hs h.params (known ∷ []) h.body g.body c.last (Some h.result) false None not_returning c.body_casts c.vars_are (no_array Plain) keeps.body_keeps text.body_fits keeps.rule_28_body text.returns_nothing);
    reads = value_reads;
  }

helpers_lawful : {hs : List Known} {rest : List Helper} {gs : List TypedHelper} (known : List (List ℕ × Sort)) → CastsHelpers hs rest gs → TypingHelpers known rest → All IsHelperOfText rest → LawfulHelpers (map signature_by hs) gs
helpers_lawful known (casts.no_helpers hs) keeps text = tt
helpers_lawful known (casts.a_helper hs h g more ks c rest) keeps text =
    let here = All-head IsHelperOfText h more text in (
      helper_lawful hs known h g c keeps.0 here,
      subst (λ sigs. LawfulHelpers sigs ks) (map-append signature_by hs (known_of h ∷ []) ∙ ap (λ s. map signature_by hs ++ s ∷ []) (signature_is h g c.same_params c.same_result))
          (helpers_lawful (with_helper h known) rest keeps.1 (All-tail IsHelperOfText h more text)),
    )

signatures_same : {hs : List Known} {rest : List Helper} {gs : List TypedHelper} → CastsHelpers hs rest gs → map signature_by (map known_of rest) ≡ map signature_of gs
signatures_same (casts.no_helpers hs) = refl
signatures_same (casts.a_helper hs h g more ks c rest) =
    ap (λ s. s ∷ map signature_by (map known_of more)) (signature_is h g c.same_params c.same_result) ∙ ap (λ ss. signature_of g ∷ ss) (signatures_same rest)

-- ---- programs

module _ (p : Program) (P : TypedProgram) (keeps : TypingProgram p) (text : IsProgramOfText p) (c : CastsProgram p P) where
  abbrev hs : List Known
  hs = map known_of p.helpers

  abbrev ps : List Param
  ps = p.kernel.params

  abbrev outer : Names
  outer = known_after [] p.helpers ∷ []

  abbrev k_in : Profile → Objects
  k_in f = prog_objects f P.kernel

  abbrev r : Option Ty
  r = p.kernel.result

  returning : IsTrue true → Some r ≡ Some r
  returning e = refl

  all_returns : (ss : List Stmt) → All (λ (s : Stmt). ReturnsWhere true s.kind) ss
  all_returns [] = All-nil (λ (s : Stmt). ReturnsWhere true s.kind)
  all_returns (s ∷ ss) = All-cons (λ (s : Stmt). ReturnsWhere true s.kind) s ss (may_return s.kind) (all_returns ss)

  own_arrays : (f : Profile) → Extends (parameters ps).arrays (k_in f).arrays
  own_arrays f = record { rest = []; is = c.arrays_are ∙ sym (append-nil (parameters ps).arrays) }

  -- the kernel without its statements: its header is lawful
  abbrev bare : Tree
  bare = record { name = p.kernel.name; at = p.kernel.at; result = None; params = ps; body = [] }

  header : (f : Profile) → LawfulHeader P.kernel.params (k_in f)
  header f =
      let h = (tree_lawful bare (record { params_keep = keeps.params_keep; body_keeps = tt }) (All-nil (λ (s : Stmt). NumbersFitStmt s.kind))).header f in
      subst (λ qs. LawfulHeader qs (k_in f)) (sym c.same_params) (record {
        distinct = h.distinct;
        dimensions = h.dimensions;
        few_elements = subst (λ us. sum_by (λ a. elements a.dims) us ≤ max_elements) (sym c.arrays_are) h.few_elements;
        first_vars = first_vars (k_in f) hs ps outer p.kernel.body P.kernel.body c.last r true (Some r) returning c.body_casts c.vars_are (own_arrays f) keeps.body_keeps text.kernel keeps.rule_28 (all_returns p.kernel.body);
        arrays_are = c.arrays_are;
      })

  program_lawful : LawfulProgram P
  program_lawful = record {
    helpers = helpers_lawful [] c.helpers_cast keeps.helpers_keep text.helpers;
    header = header;
    used =
        subst (λ qs. AreUsed qs P.kernel.vars (all_prog_vars P.kernel.body)) (sym c.same_params)
        (used (k_in Plain) hs ps outer p.kernel.body P.kernel.body c.last r true (Some r) returning c.body_casts c.vars_are (own_arrays Plain) keeps.body_keeps text.kernel keeps.rule_28 (all_returns p.kernel.body));
    statements = λ f.
        subst (λ t. All (λ (s : ProgStmt). LawfulCallStmt (k_in f) (map signature_of P.helpers) (Some t) false s.kind) P.kernel.body) (sym c.same_result)
        (subst (λ sigs. All (λ (s : ProgStmt). LawfulCallStmt (k_in f) sigs (Some r) false s.kind) P.kernel.body) (signatures_same c.helpers_cast)
        (body_lawful (k_in f) hs ps outer p.kernel.body P.kernel.body c.last r true (Some r) returning c.body_casts c.vars_are (own_arrays f) keeps.body_keeps text.kernel keeps.rule_28 (all_returns p.kernel.body)));
    scoped =
        subst (λ qs. InScope (length (scalar_types qs)) P.kernel.body) (sym c.same_params)
        (subst (λ m. InScope m P.kernel.body) (ap length (first_types ps))
        (in_scope (k_in Plain) hs ps outer p.kernel.body P.kernel.body c.last r true (Some r) returning c.body_casts c.vars_are (own_arrays Plain) keeps.body_keeps text.kernel keeps.rule_28 (all_returns p.kernel.body)));
  }

pub typed_is_lawful : TypedIsLawful
typed_is_lawful p P keeps text c = program_lawful p P keeps text c
