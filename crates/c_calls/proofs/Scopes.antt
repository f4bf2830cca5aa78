-- What statements declare directly, and what the tree without calls declares there: a declaration with calls is put into a block of its own.
use Rattle.std.proofs.Common.{◌≡◌, ℕ, ◌+◌, ◌<◌, List, [], ◌∷◌, ◌++◌, length, Option, Some, None, refl, ◌∙◌, ap, subst, arith, ◌⊎◌, inl, inr}
use Rattle.std.specs.Prelude.{Bool, Contains}
use Rattle.std.proofs.lemmas.List.Elements.{Contains-append_left, Contains-append_right, Contains-append_cases}
use Rattle.std.proofs.lemmas.Option.{slice_get_within}
use mathlib.Core.Former.{Count}
use Rattle.el_base.specs.declared.span.Span.{Span}
use Rattle.el_base.specs.declared.ty.Ty.{Ty}
use Rattle.c_ast.specs.declared.typed.TypedExpr.{TypedExpr}
use Rattle.c_ast.specs.declared.typed.TypedStmt.{TypedStmt}
use Rattle.c_ast.specs.declared.typed.TypedStmtKind.{TypedStmtKind}
use Rattle.c_ast.specs.declared.typed.TypedStmtKind.TheVariants as stmt
use Rattle.c_ast.specs.declared.program.ProgExpr.{ProgExpr}
use Rattle.c_ast.specs.declared.program.ProgStmt.{ProgStmt}
use Rattle.c_ast.specs.declared.program.ProgStmtKind.{ProgStmtKind, Row_of-ProgStmt, end_of-ProgStmt, more_of-ProgStmt}
use Rattle.c_ast.specs.declared.program.ProgStmtKind as act
use Rattle.c_ast.specs.Casts.{act_at}
use Rattle.c_meaning.specs.Stores.{Objects}
use Rattle.c_meaning.specs.Statements.{Act, kind_act}
use Rattle.c_meaning.proofs.TreeEquations.{stmt_block, stmt_declare, stmt_assign, stmt_stepping, stmt_if, stmt_while, stmt_do_while, stmt_for, stmt_break, stmt_continue, stmt_return, stmt_empty}
use Rattle.c_calls.specs.Meanings.{Called, prog_kind_act, prog_row_acts}
use Rattle.c_calls.specs.Inlined.{Writing, behind, inline_stmt, inline_stmts, inline_list, inline_option, inline_of, inline_all, inline_held, rest_of, target_to}
use Rattle.c_calls.specs.Lawful.{Signature, LawfulCallStmt, LawfulCallStmts, LawfulCallDeclaration, IsScoped, AreScoped, AreOnce, declared_of, declared_row, all_declared, in_scope_after, in_scope_after_row, in_scope_after_list}
use Rattle.c_calls.proofs.Lists.{no_member, here, there, member_cases}
use Rattle.c_calls.proofs.Stores.{Lists}
use Rattle.c_calls.proofs.Expands.{acts, declares_of}

-- ---- each number once

pub once_left : (xs ys : List ℕ) → AreOnce (xs ++ ys) → AreOnce xs
once_left [] ys o = tt
once_left (x ∷ xs) ys o = ((λ c. o.0 (Contains-append_left xs ys x c)), once_left xs ys o.1)

pub once_right : (xs ys : List ℕ) → AreOnce (xs ++ ys) → AreOnce ys
once_right [] ys o = o
once_right (x ∷ xs) ys o = once_right xs ys o.1

pub once_apart : (xs ys : List ℕ) (w : ℕ) → AreOnce (xs ++ ys) → Contains xs w → Contains ys w → ⊥
once_apart [] ys w o c d = no_member w c
once_apart (x ∷ xs) ys w o c d = by_cases (once_apart xs ys w o.1) (member_cases x xs w c)
  where
    by_cases : (Contains xs w → Contains ys w → ⊥) → (w ≡ x) ⊎ Contains xs w → ⊥
    by_cases f (inl e) = o.0 (Contains-append_right xs ys x (subst (Contains ys) e d))
    by_cases f (inr k) = f k d

-- ---- what is declared directly

abbrev pub direct : ProgStmtKind → List ℕ
direct (act.Block' n row) = []
direct (act.Declare v init) = v ∷ []
direct (act.Assign target op e) = []
direct (act.Step target up) = []
direct (act.If' cond b s o) = []
direct (act.While' cond b s) = []
direct (act.DoWhile' b s cond) = []
direct (act.For' n first cond o b s) = []
direct act.Break = []
direct act.Continue = []
direct (act.Return e) = []
direct act.Empty = []

abbrev pub direct_row : {n : Count} → Row_of-ProgStmt n → List ℕ
direct_row end_of-ProgStmt = []
direct_row (more_of-ProgStmt a at row) = direct a ++ direct_row row

abbrev pub direct_list : List ProgStmt → List ℕ
direct_list [] = []
direct_list (a ∷ rest) = direct a.kind ++ direct_list rest

-- of these, what the tree declares there
abbrev pub made_by : List TypedStmt → ℕ → List ℕ
made_by [] x = x ∷ []
made_by (c ∷ cs) x = []

abbrev pub made : List Writing → ℕ → ℕ → ProgStmtKind → List ℕ
made ws b f (act.Block' n row) = []
made ws b f (act.Declare v init) = made_by (inline_option ws b f init).before (b + v)
made ws b f (act.Assign target op e) = []
made ws b f (act.Step target up) = []
made ws b f (act.If' cond x s o) = []
made ws b f (act.While' cond x s) = []
made ws b f (act.DoWhile' x s cond) = []
made ws b f (act.For' n first cond o x s) = []
made ws b f act.Break = []
made ws b f act.Continue = []
made ws b f (act.Return e) = []
made ws b f act.Empty = []

abbrev pub made_row : List Writing → ℕ → ℕ → {n : Count} → Row_of-ProgStmt n → List ℕ
made_row ws b f end_of-ProgStmt = []
made_row ws b f (more_of-ProgStmt a at row) = made ws b f a ++ made_row ws b (f + length (inline_stmt ws b f a at).types) row

abbrev pub made_list : List Writing → ℕ → ℕ → List ProgStmt → List ℕ
made_list ws b f [] = []
made_list ws b f (a ∷ rest) = made ws b f a.kind ++ made_list ws b (f + length (inline_stmt ws b f a.kind a.at).types) rest

pub direct_is : (k : Objects) (cs : List Called) (a : ProgStmtKind) → (prog_kind_act k cs a).declares ≡ direct a
direct_is k cs (act.If' cond b (more_of-ProgStmt s at end_of-ProgStmt) o) = refl
direct_is k cs (act.While' cond b (more_of-ProgStmt s at end_of-ProgStmt)) = refl
direct_is k cs (act.DoWhile' b (more_of-ProgStmt s at end_of-ProgStmt) cond) = refl
direct_is k cs (act.For' n first cond o b (more_of-ProgStmt s at end_of-ProgStmt)) = refl
direct_is k cs a = refl

pub direct_row_is : (k : Objects) (cs : List Called) {n : Count} (row : Row_of-ProgStmt n) → declares_of (prog_row_acts k cs row) ≡ direct_row row
direct_row_is k cs end_of-ProgStmt = refl
direct_row_is k cs (more_of-ProgStmt a at row) = ap (λ ds. ds ++ declares_of (prog_row_acts k cs row)) (direct_is k cs a) ∙ ap (λ ds. direct a ++ ds) (direct_row_is k cs row)

pub behind_declares : (K : Objects) (before : List TypedStmt) (kind : TypedStmtKind) (at : Span) → (kind_act K kind).declares ≡ [] → (kind_act K (behind before kind at)).declares ≡ []
behind_declares K [] kind at h = h
behind_declares K (c ∷ cs) kind at h = ap (λ (a : Act). a.declares) (stmt_block ((c ∷ cs) ++ act_at kind at ∷ []) K)

declare_declares : (K : Objects) (before : List TypedStmt) (x : ℕ) (e : Option TypedExpr) (at : Span) → (kind_act K (behind before (stmt.Declare x e) at)).declares ≡ made_by before x
declare_declares K [] x e at = ap (λ (a : Act). a.declares) (stmt_declare x e K)
declare_declares K (c ∷ cs) x e at = ap (λ (a : Act). a.declares) (stmt_block ((c ∷ cs) ++ act_at (stmt.Declare x e) at ∷ []) K)

pub made_is : (K : Objects) (ws : List Writing) (b f : ℕ) (a : ProgStmtKind) (at : Span) → (kind_act K (inline_stmt ws b f a at).kind).declares ≡ made ws b f a
made_is K ws b f (act.Block' n row) at = ap (λ (a : Act). a.declares) (stmt_block (inline_stmts ws b f row).stmts K)
made_is K ws b f (act.Declare v init) at = let o = inline_option ws b f init in declare_declares K o.before (b + v) o.expr at
made_is K ws b f (act.Assign target op e) at =
    let i = inline_all ws b f target.indices in
    let o = inline_of ws b (f + length i.types) e in
    behind_declares K (i.before ++ o.before) (stmt.Assign (target_to b target i.exprs) op (rest_of o e)) at (ap (λ (a : Act). a.declares) (stmt_assign (target_to b target i.exprs) op (rest_of o e) K))
made_is K ws b f (act.Step target up) at =
    let i = inline_all ws b f target.indices in
    behind_declares K i.before (stmt.Step (target_to b target i.exprs) up) at (ap (λ (a : Act). a.declares) (stmt_stepping (target_to b target i.exprs) up K))
made_is K ws b f (act.If' cond x (more_of-ProgStmt a at0 end_of-ProgStmt) held) at =
    let o = inline_of ws b f cond in
    let y = inline_stmt ws b (f + length o.types) a at0 in
    let z = inline_held ws b (f + length o.types + length y.types) held in
    behind_declares K o.before (stmt.If (rest_of o cond) (act_at y.kind at0) z.stmt) at (ap (λ (a : Act). a.declares) (stmt_if (rest_of o cond) (act_at y.kind at0) z.stmt K))
made_is K ws b f (act.While' cond x (more_of-ProgStmt a at0 end_of-ProgStmt)) at =
    let o = inline_of ws b f cond in
    let y = inline_stmt ws b (f + length o.types) a at0 in
    ap (λ (a : Act). a.declares) (stmt_while (rest_of o cond) (act_at y.kind at0) K)
made_is K ws b f (act.DoWhile' x (more_of-ProgStmt a at0 end_of-ProgStmt) cond) at =
    let y = inline_stmt ws b f a at0 in
    let o = inline_of ws b (f + length y.types) cond in
    ap (λ (a : Act). a.declares) (stmt_do_while (act_at y.kind at0) (rest_of o cond) K)
made_is K ws b f (act.For' n first cond held x (more_of-ProgStmt a at0 end_of-ProgStmt)) at =
    let i = inline_stmts ws b f first in
    let o = inline_option ws b (f + length i.types) cond in
    let z = inline_held ws b (f + length i.types + length o.types) held in
    let y = inline_stmt ws b (f + length i.types + length o.types + length z.types) a at0 in
    ap (λ (a : Act). a.declares) (stmt_for i.stmts o.expr z.stmt (act_at y.kind at0) K)
made_is K ws b f act.Break at = ap (λ (a : Act). a.declares) (stmt_break K)
made_is K ws b f act.Continue at = ap (λ (a : Act). a.declares) (stmt_continue K)
made_is K ws b f (act.Return e) at = let o = inline_option ws b f e in behind_declares K o.before (stmt.Return o.expr) at (ap (λ (a : Act). a.declares) (stmt_return o.expr K))
made_is K ws b f act.Empty at = ap (λ (a : Act). a.declares) (stmt_empty K)

pub made_row_is : (K : Objects) (ws : List Writing) (b f : ℕ) {n : Count} (row : Row_of-ProgStmt n) → declares_of (acts K (inline_stmts ws b f row).stmts) ≡ made_row ws b f row
made_row_is K ws b f end_of-ProgStmt = refl
made_row_is K ws b f (more_of-ProgStmt a at row) =
    let y = inline_stmt ws b f a at in
    let g = f + length y.types in
    ap (λ ds. ds ++ declares_of (acts K (inline_stmts ws b g row).stmts)) (made_is K ws b f a at) ∙ ap (λ ds. made ws b f a ++ ds) (made_row_is K ws b g row)

pub made_list_is : (K : Objects) (ws : List Writing) (b f : ℕ) (ss : List ProgStmt) → declares_of (acts K (inline_list ws b f ss).stmts) ≡ made_list ws b f ss
made_list_is K ws b f [] = refl
made_list_is K ws b f (a ∷ rest) =
    let y = inline_stmt ws b f a.kind a.at in
    let g = f + length y.types in
    ap (λ ds. ds ++ declares_of (acts K (inline_list ws b g rest).stmts)) (made_is K ws b f a.kind a.at) ∙ ap (λ ds. made ws b f a.kind ++ ds) (made_list_is K ws b g rest)

pub direct_declared : (a : ProgStmtKind) (w : ℕ) → Contains (direct a) w → Contains (declared_of a) w
direct_declared (act.Declare v init) w c = c
direct_declared a w c = no_member w c

both_members : (xs ys xs2 ys2 : List ℕ) (w : ℕ) → (Contains xs w → Contains xs2 w) → (Contains ys w → Contains ys2 w) → Contains (xs ++ ys) w → Contains (xs2 ++ ys2) w
both_members xs ys xs2 ys2 w f g c = by_cases (Contains-append_cases xs ys w c)
  where
    by_cases : Contains xs w ⊎ Contains ys w → Contains (xs2 ++ ys2) w
    by_cases (inl x) = Contains-append_left xs2 ys2 w (f x)
    by_cases (inr y) = Contains-append_right xs2 ys2 w (g y)

pub direct_row_declared : {n : Count} (row : Row_of-ProgStmt n) (w : ℕ) → Contains (direct_row row) w → Contains (declared_row row) w
direct_row_declared end_of-ProgStmt w c = no_member w c
direct_row_declared (more_of-ProgStmt a at row) w c = both_members (direct a) (direct_row row) (declared_of a) (declared_row row) w (direct_declared a w) (direct_row_declared row w) c

pub direct_list_declared : (ss : List ProgStmt) (w : ℕ) → Contains (direct_list ss) w → Contains (all_declared ss) w
direct_list_declared [] w c = no_member w c
direct_list_declared (a ∷ rest) w c = both_members (direct a.kind) (direct_list rest) (declared_of a.kind) (all_declared rest) w (direct_declared a.kind w) (direct_list_declared rest w) c

-- ---- lists of variables

pub lists_none : (n b : ℕ) (vs : List ℕ) → ((w : ℕ) → Contains vs w → w < n) → Lists n b vs [] []
lists_none n b vs s = record { small = s; few = λ w c. no_member w c; apart = λ w c d. no_member w c; made = λ x c. no_member x c }

pub lists_less : (n b : ℕ) (vs us : List ℕ) (d x : List ℕ) → ((w : ℕ) → Contains us w → Contains vs w) → Lists n b vs d x → Lists n b us d x
lists_less n b vs us d x f l = record { small = λ w c. l.small w (f w c); few = l.few; apart = λ w c e. l.apart w c (f w e); made = l.made }

pub lists_append : (n b : ℕ) (vs d1 x1 d2 x2 : List ℕ) → Lists n b vs d1 x1 → Lists n b vs d2 x2 → Lists n b vs (d1 ++ d2) (x1 ++ x2)
lists_append n b vs d1 x1 d2 x2 l m = record {
  small = l.small;
  few = λ w c. few_at w (Contains-append_cases d1 d2 w c);
  apart = λ w c e. apart_at w e (Contains-append_cases d1 d2 w c);
  made = λ x c. made_at x (Contains-append_cases x1 x2 x c);
}
  where
    few_at : (w : ℕ) → Contains d1 w ⊎ Contains d2 w → w < n
    few_at w (inl c) = l.few w c
    few_at w (inr c) = m.few w c

    apart_at : (w : ℕ) → Contains vs w → Contains d1 w ⊎ Contains d2 w → ⊥
    apart_at w e (inl c) = l.apart w c e
    apart_at w e (inr c) = m.apart w c e

    made_at : (x : ℕ) → Contains x1 x ⊎ Contains x2 x → (w : ℕ) × (x ≡ b + w) × Contains (d1 ++ d2) w
    made_at x (inl c) = let h = l.made x c in (h.0, h.1, Contains-append_left d1 d2 h.0 h.2)
    made_at x (inr c) = let h = m.made x c in (h.0, h.1, Contains-append_right d1 d2 h.0 h.2)

pub declared_below : (k : Objects) (hs : List Signature) (v : ℕ) (init : Option ProgExpr) → LawfulCallDeclaration k hs v init → v < length k.vars
declared_below k hs v None l = slice_get_within k.vars v l.0 l.1
declared_below k hs v (Some e) l = slice_get_within k.vars v e.ty l.0

-- a variable that is declared, alone
pub lists_one : (n b v : ℕ) (vs : List ℕ) (before : List TypedStmt) → ((w : ℕ) → Contains vs w → w < n) → v < n → (Contains vs v → ⊥) → Lists n b vs (v ∷ []) (made_by before (b + v))
lists_one n b v vs before s lt fresh = record {
  small = s;
  few = λ w c. few_at w (member_cases v [] w c);
  apart = λ w c d. apart_at w d (member_cases v [] w c);
  made = λ x c. made_at before x c;
}
  where
    few_at : (w : ℕ) → (w ≡ v) ⊎ Contains [] w → w < n
    few_at w (inl e) = omega arith
    few_at w (inr c) = no_member w c

    apart_at : (w : ℕ) → Contains vs w → (w ≡ v) ⊎ Contains [] w → ⊥
    apart_at w d (inl e) = fresh (subst (Contains vs) e d)
    apart_at w d (inr c) = no_member w c

    one_made : (x : ℕ) → (x ≡ b + v) ⊎ Contains [] x → (w : ℕ) × (x ≡ b + w) × Contains (v ∷ []) w
    one_made x (inl e) = (v, e, here v [])
    one_made x (inr c) = no_member x c

    made_at : (before : List TypedStmt) (x : ℕ) → Contains (made_by before (b + v)) x → (w : ℕ) × (x ≡ b + w) × Contains (v ∷ []) w
    made_at [] x c = one_made x (member_cases (b + v) [] x c)
    made_at (y ∷ ys) x c = no_member x c

module _ (k : Objects) (hs : List Signature) (r : Option (Option Ty)) (ws : List Writing) (b : ℕ) where
  pub direct_lists : (f : ℕ) (a : ProgStmtKind) (inside : Bool) (vs : List ℕ) → ((w : ℕ) → Contains vs w → w < length k.vars) → LawfulCallStmt k hs r inside a → IsScoped a vs → Lists (length k.vars) b vs (direct a) (made ws b f a)
  direct_lists f (act.Declare v init) inside vs s l sc = lists_one (length k.vars) b v vs (inline_option ws b f init).before s (declared_below k hs v init l) sc.0
  direct_lists f a inside vs s l sc = lists_none (length k.vars) b vs s

  pub small_after : (a : ProgStmtKind) (inside : Bool) (vs : List ℕ) → ((w : ℕ) → Contains vs w → w < length k.vars) → LawfulCallStmt k hs r inside a → (w : ℕ) → Contains (in_scope_after vs a) w → w < length k.vars
  small_after (act.Block' n row) inside vs s l w c = s w c
  small_after (act.Declare v init) inside vs s l w c = small_at (member_cases v vs w c)
    where
      small_at : (w ≡ v) ⊎ Contains vs w → w < length k.vars
      small_at (inl e) = let h = declared_below k hs v init l in omega arith
      small_at (inr d) = s w d
  small_after (act.Assign target op e) inside vs s l w c = s w c
  small_after (act.Step target up) inside vs s l w c = s w c
  small_after (act.If' cond x a o) inside vs s l w c = s w c
  small_after (act.While' cond x a) inside vs s l w c = s w c
  small_after (act.DoWhile' x a cond) inside vs s l w c = s w c
  small_after (act.For' n first cond o x a) inside vs s l w c = s w c
  small_after act.Break inside vs s l w c = s w c
  small_after act.Continue inside vs s l w c = s w c
  small_after (act.Return e) inside vs s l w c = s w c
  small_after act.Empty inside vs s l w c = s w c

pub scope_grows : (a : ProgStmtKind) (vs : List ℕ) (w : ℕ) → Contains vs w → Contains (in_scope_after vs a) w
scope_grows (act.Declare v init) vs w c = there v vs w c
scope_grows a vs w c = c

pub scope_grows_row : {n : Count} (row : Row_of-ProgStmt n) (vs : List ℕ) (w : ℕ) → Contains vs w → Contains (in_scope_after_row vs row) w
scope_grows_row end_of-ProgStmt vs w c = c
scope_grows_row (more_of-ProgStmt a at row) vs w c = scope_grows_row row (in_scope_after vs a) w (scope_grows a vs w c)

pub scope_grows_list : (ss : List ProgStmt) (vs : List ℕ) (w : ℕ) → Contains vs w → Contains (in_scope_after_list vs ss) w
scope_grows_list [] vs w c = c
scope_grows_list (a ∷ rest) vs w c = scope_grows_list rest (in_scope_after vs a.kind) w (scope_grows a.kind vs w c)

module _ (k : Objects) (hs : List Signature) (r : Option (Option Ty)) (ws : List Writing) (b : ℕ) where
  pub direct_row_lists : (f : ℕ) {n : Count} (row : Row_of-ProgStmt n) (inside : Bool) (vs : List ℕ) → ((w : ℕ) → Contains vs w → w < length k.vars) → LawfulCallStmts k hs r inside row → AreScoped row vs → Lists (length k.vars) b vs (direct_row row) (made_row ws b f row)
  direct_row_lists f end_of-ProgStmt inside vs s l sc = lists_none (length k.vars) b vs s
  direct_row_lists f (more_of-ProgStmt a at row) inside vs s l sc =
      let g = f + length (inline_stmt ws b f a at).types in
      lists_append (length k.vars) b vs (direct a) (made ws b f a) (direct_row row) (made_row ws b g row) (direct_lists k hs r ws b f a inside vs s l.0 sc.0)
      (lists_less (length k.vars) b (in_scope_after vs a) vs (direct_row row) (made_row ws b g row) (scope_grows a vs) (direct_row_lists g row inside (in_scope_after vs a) (small_after k hs r ws b a inside vs s l.0) l.1 sc.1))

  pub small_after_row : {n : Count} (row : Row_of-ProgStmt n) (inside : Bool) (vs : List ℕ) → ((w : ℕ) → Contains vs w → w < length k.vars) → LawfulCallStmts k hs r inside row → (w : ℕ) → Contains (in_scope_after_row vs row) w → w < length k.vars
  small_after_row end_of-ProgStmt inside vs s l w c = s w c
  small_after_row (more_of-ProgStmt a at row) inside vs s l w c = small_after_row row inside (in_scope_after vs a) (small_after k hs r ws b a inside vs s l.0) l.1 w c
