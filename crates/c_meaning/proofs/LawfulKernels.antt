-- The typed tree of a tree that keeps the rules on names, and whose numbers fit their types, is lawful.
use Rattle.std.proofs.Common.{◌≡◌, ℕ, zero, suc, ◌+◌, ◌*◌, ◌<◌, ◌≤◌, List, [], ◌∷◌, ◌++◌, map, length, take, get_or, Option, Some, None, refl, sym, ◌∙◌, ap, subst, cond, arith, append_assoc, append-nil, inl, inr}
use Rattle.std.proofs.lemmas.Bool.{cases_lt, false≢true}
use Rattle.std.proofs.lemmas.List.Elements.{All-nil, All-cons, All-head, All-tail}
use Rattle.std.proofs.lemmas.List.Sums.{sum_by_push}
use Rattle.std.proofs.Math.Seq.{take-append_seam}
use Rattle.std.specs.Prelude.{Bool, true, false, ◌==◌, All, Contains, sum_by, ◌⊎◌}
use Rattle.std.specs.Cmp.Lexicographic.{pointwise, bytes_decides}
use Rattle.el_base.specs.declared.ty.Ty.{Ty}
use Rattle.el_base.specs.Limits.{max_elements}
use Rattle.c_ast.specs.declared.tree.Param.{Param}
use Rattle.c_ast.specs.declared.tree.Stmt.{Stmt}
use Rattle.c_ast.specs.declared.tree.StmtKind.TheBlock.{hidden-the_row-Stmt-0}
use Rattle.c_ast.specs.declared.tree.Tree.{Tree}
use Rattle.c_ast.specs.declared.typed.ArrayOf.{ArrayOf}
use Rattle.c_ast.specs.declared.typed.TypedStmt.{TypedStmt}
use Rattle.c_ast.specs.declared.typed.TypedStmtKind.TheBlock.{hidden-the_row-TypedStmt-0}
use Rattle.c_ast.specs.Typing.{Sort, sort_in, sort_of_dims, product_of, elements_of, TypingParams, Typing}
use Rattle.c_meaning.specs.declared.profile.Profile.{Profile}
use Rattle.c_meaning.specs.Stores.{Objects, elements, scalar_type, scalar_types}
use Rattle.c_meaning.specs.Statements.{objects}
use Rattle.c_ast.specs.Constants.{NumbersFitStmt, NumbersFitStmts, NumbersFit}
use Rattle.c_ast.specs.Casts.{a_var, an_array, Parameters, with_param, with_params, parameters, first_context}
use Rattle.c_meaning.specs.Lawful.{LawfulHeader, LawfulStmt, LawfulStmts, stmt_vars_of, stmt_vars_row, AreDistinct, AreDimensions, all_vars, Lawful}
use Rattle.c_meaning.proofs.Elaboration.{cast_body, cast_tree}
use Rattle.c_meaning.proofs.Existence.{body_typing}
use Rattle.c_meaning.proofs.LawfulExpressions.{Extends, extends_refl, extends_more, extends_trans, get_extends, get_last, Valid, into_valid}
use Rattle.c_meaning.proofs.LawfulStatements.{stmts_grow, stmts_lawful, stmts_cover}
use Rattle.c_meaning.proofs.TreeRows.{stmt_rows, typed_stmt_rows}

-- ---- names of parameters

pub same_text : (x : List ℕ) → pointwise ◌==◌ x x ≡ true
same_text x = (bytes_decides x x).1 refl

some_if : (b : Bool) (s : Sort) (o : Option Sort) → (o ≡ None → ⊥) → cond b (Some s) o ≡ None → ⊥
some_if true s o n e = cc
some_if false s o n e = n e

some_then : (b : Bool) (s : Sort) (o : Option Sort) → b ≡ true → cond b (Some s) o ≡ None → ⊥
some_then true s o t e = cc
some_then false s o t e = false≢true t

abbrev names_of : List Param → List (List ℕ)
names_of ps = map (λ (p : Param). p.name) ps

-- a name that is taken is none of later parameters
not_at : (ps : List Param) (scope : List (List ℕ × Sort)) (before : ℕ) → TypingParams ps scope before → (x : List ℕ) → (sort_in scope x ≡ None → ⊥)
    → (k : ℕ) → k < length (names_of ps) → get_or (names_of ps) k x ≡ x → ⊥
not_at [] scope before h x n k l e = omega arith
not_at (p ∷ ps) scope before h x n zero l e = n (subst (λ u. sort_in scope u ≡ None) e h.0.rule_21_new)
not_at (p ∷ ps) scope before h x n (suc k) l e =
    not_at ps ((p.name, sort_of_dims p.dims) ∷ scope) (before + elements_of p.dims) h.1 x (some_if (pointwise ◌==◌ x p.name) (sort_of_dims p.dims) (sort_in scope x) n) k (omega arith) e

distinct : (ps : List Param) (scope : List (List ℕ × Sort)) (before : ℕ) → TypingParams ps scope before → AreDistinct (names_of ps)
distinct [] scope before h = tt
distinct (p ∷ ps) scope before h =
    let s = sort_of_dims p.dims in (
      (λ m. not_at ps ((p.name, s) ∷ scope) (before + elements_of p.dims) h.1 p.name (some_then (pointwise ◌==◌ p.name p.name) s (sort_in scope p.name) (same_text p.name)) m.0 m.1 m.2),
      distinct ps ((p.name, s) ∷ scope) (before + elements_of p.dims) h.1,
    )

-- ---- dimensions of parameters

dimensions : (ps : List Param) (scope : List (List ℕ × Sort)) (before : ℕ) → TypingParams ps scope before → All (λ (p : Param). AreDimensions p.dims) ps
dimensions [] scope before h = All-nil (λ (p : Param). AreDimensions p.dims)
dimensions (p ∷ ps) scope before h =
    All-cons (λ (q : Param). AreDimensions q.dims) p ps (h.0.rule_24_dimensions, h.0.rule_25_no_zero) (dimensions ps ((p.name, sort_of_dims p.dims) ∷ scope) (before + elements_of p.dims) h.1)

product_is : (ds : List ℕ) → elements ds ≡ product_of ds
product_is [] = refl
product_is (d ∷ ds) = ap (λ u. d * u) (product_is ds)

abbrev size : ArrayOf → ℕ
size a = elements a.dims

sizes_of : (p : Param) (ds : List ℕ) (q : Parameters) → p.dims ≡ ds → sum_by size q.arrays + elements_of ds ≡ sum_by size (with_param p ds q).arrays
sizes_of p [] q e = omega arith
sizes_of p (d ∷ ds) q e =
    let r : ArrayOf = record { name = p.name; ty = p.ty; dims = p.dims } in
    sym (sum_by_push size q.arrays r ∙ ap (λ n. sum_by size q.arrays + n) (ap elements e ∙ product_is (d ∷ ds)))

few : (ps : List Param) (q : Parameters) (scope : List (List ℕ × Sort)) → TypingParams ps scope (sum_by size q.arrays) → sum_by size q.arrays ≤ max_elements → sum_by size (with_params ps q).arrays ≤ max_elements
few [] q scope h l = l
few (p ∷ ps) q scope h l =
    let e : sum_by size q.arrays + elements_of p.dims ≡ sum_by size (with_param p p.dims q).arrays = sizes_of p p.dims q refl in
    few ps (with_param p p.dims q) ((p.name, sort_of_dims p.dims) ∷ scope)
    (subst (λ b. TypingParams ps ((p.name, sort_of_dims p.dims) ∷ scope) b) e h.1) (subst (λ b. b ≤ max_elements) e h.0.rule_25_elements)

-- ---- variables and arrays of parameters

param_types : (p : Param) (ds : List ℕ) (q : Parameters) (rest : List Ty) → (with_param p ds q).types ++ rest ≡ q.types ++ (scalar_type ds p.ty ++ rest)
param_types p [] q rest = append_assoc q.types (p.ty ∷ []) rest
param_types p (d ∷ ds) q rest = refl

pub params_types : (ps : List Param) (q : Parameters) → (with_params ps q).types ≡ q.types ++ scalar_types ps
params_types [] q = sym (append-nil q.types)
params_types (p ∷ ps) q = params_types ps (with_param p p.dims q) ∙ param_types p p.dims q (scalar_types ps)

pub first_types : (ps : List Param) → (parameters ps).types ≡ scalar_types ps
first_types ps = params_types ps (record { scope = []; types = []; arrays = [] })

pub params_grow : (ps : List Param) (q : Parameters) → Extends q.types (with_params ps q).types
params_grow ps q = record { rest = scalar_types ps; is = params_types ps q }

arrays_grow : (p : Param) (ds : List ℕ) (q : Parameters) → Extends q.arrays (with_param p ds q).arrays
arrays_grow p [] q = extends_refl q.arrays
arrays_grow p (d ∷ ds) q = extends_more q.arrays (record { name = p.name; ty = p.ty; dims = p.dims } ∷ [])

pub params_arrays_grow : (ps : List Param) (q : Parameters) → Extends q.arrays (with_params ps q).arrays
params_arrays_grow [] q = extends_refl q.arrays
params_arrays_grow (p ∷ ps) q = extends_trans (arrays_grow p p.dims q) (params_arrays_grow ps (with_param p p.dims q))

param_valid : (k : Objects) (p : Param) (ds : List ℕ) (q : Parameters) → Extends (with_param p ds q).types k.vars → Extends (with_param p ds q).arrays k.arrays → Valid k (q.scope ∷ []) → Valid k ((with_param p ds q).scope ∷ [])
param_valid k p [] q e a v =
    into_valid k (q.scope ∷ []) p.name (a_var (length q.types) p.ty) (get_extends (q.types ++ p.ty ∷ []) k.vars (length q.types) p.ty e (get_last q.types p.ty)) v
param_valid k p (d ∷ ds) q e a v =
    let r : ArrayOf = record { name = p.name; ty = p.ty; dims = p.dims } in
    into_valid k (q.scope ∷ []) p.name (an_array (length q.arrays) p.ty p.dims) (r, get_extends (q.arrays ++ r ∷ []) k.arrays (length q.arrays) r a (get_last q.arrays r), refl, refl) v

pub params_valid : (k : Objects) (ps : List Param) (q : Parameters) → Extends (with_params ps q).types k.vars → Extends (with_params ps q).arrays k.arrays → Valid k (q.scope ∷ []) → Valid k ((with_params ps q).scope ∷ [])
params_valid k [] q e a v = v
params_valid k (p ∷ ps) q e a v =
    params_valid k ps (with_param p p.dims q) e a
    (param_valid k p p.dims q (extends_trans (params_grow ps (with_param p p.dims q)) e) (extends_trans (params_arrays_grow ps (with_param p p.dims q)) a) v)

none_valid : (k : Objects) → Valid k ([] ∷ [])
none_valid k = record { means = λ x. tt }

-- ---- statements of the block

pub list_fits : (ss : List Stmt) → All (λ (s : Stmt). NumbersFitStmt s.kind) ss → NumbersFitStmts (hidden-the_row-Stmt-0 ss)
unfolding stmt_rows
list_fits [] h = tt
list_fits (s ∷ ss) h = (All-head (λ (t : Stmt). NumbersFitStmt t.kind) s ss h, list_fits ss (All-tail (λ (t : Stmt). NumbersFitStmt t.kind) s ss h))

all_lawful : (k : Objects) (r : Option Ty) (ts : List TypedStmt) → LawfulStmts k r false (hidden-the_row-TypedStmt-0 ts) → All (λ (s : TypedStmt). LawfulStmt k r false s.kind) ts
unfolding typed_stmt_rows
all_lawful k r [] h = All-nil (λ (s : TypedStmt). LawfulStmt k r false s.kind)
all_lawful k r (t ∷ ts) h = All-cons (λ (s : TypedStmt). LawfulStmt k r false s.kind) t ts h.0 (all_lawful k r ts h.1)

pub row_vars : (ts : List TypedStmt) → stmt_vars_row (hidden-the_row-TypedStmt-0 ts) ≡ all_vars ts
unfolding typed_stmt_rows
row_vars [] = refl
row_vars (t ∷ ts) = ap (λ u. stmt_vars_of t.kind ++ u) (row_vars ts)

either_used : (v n : ℕ) (used : List ℕ) → (n ≤ v → Contains used v) → (v < n) ⊎ Contains used v
either_used v n used h =
    let cases : (v < n) ⊎ (n ≤ v) = cases_lt v n in
    elim cases [ inl l ↦ inl l | inr l ↦ inr (h l) ]

-- ---- kernels

-- the types of the parameters come first in the list of variables
grown : (tree : Tree) → Extends (parameters tree.params).types (cast_tree tree).vars
grown tree = stmts_grow tree.result (hidden-the_row-Stmt-0 tree.body) (first_context tree.params)

header_lawful : (tree : Tree) → Typing tree → (p : Profile) → LawfulHeader (cast_tree tree).params (objects p (cast_tree tree))
header_lawful tree h p =
    let vars = (cast_tree tree).vars in
    let more = grown tree in
    record {
      distinct = distinct tree.params [] 0 h.params_keep;
      dimensions = dimensions tree.params [] 0 h.params_keep;
      few_elements = few tree.params (record { scope = []; types = []; arrays = [] }) [] h.params_keep (omega arith);
      first_vars =
          subst (λ ts. take (length ts) vars ≡ ts) (first_types tree.params)
          (subst (λ vs. take (length (parameters tree.params).types) vs ≡ (parameters tree.params).types) (sym more.is) (take-append_seam (parameters tree.params).types more.rest));
      arrays_are = refl;
    }

statements_lawful : (tree : Tree) → Typing tree → NumbersFit tree → (p : Profile) → All (λ (s : TypedStmt). LawfulStmt (objects p (cast_tree tree)) tree.result false s.kind) (cast_tree tree).body
statements_lawful tree h f p =
    let k : Objects = objects p (cast_tree tree) in
    let row = hidden-the_row-Stmt-0 tree.body in
    let valid : Valid k ((parameters tree.params).scope ∷ []) =
    params_valid k tree.params (record { scope = []; types = []; arrays = [] }) (grown tree) (extends_refl k.arrays) (none_valid k) in
    all_lawful k tree.result (cast_body tree).value
    (stmts_lawful k tree.result false row (first_context tree.params) (body_typing tree h) (list_fits tree.body f) valid (extends_refl k.vars))

pub tree_lawful : (tree : Tree) → Typing tree → NumbersFit tree → Lawful (cast_tree tree)
tree_lawful tree h f = record {
  header = header_lawful tree h;
  used = λ v l. either_used v (length (scalar_types tree.params)) (all_vars (cast_body tree).value)
      (λ m. subst (λ u. Contains u v) (row_vars (cast_body tree).value)
      (stmts_cover tree.result (hidden-the_row-Stmt-0 tree.body) (first_context tree.params) v (subst (λ ts. length ts ≤ v) (sym (first_types tree.params)) m) l));
  statements = statements_lawful tree h f;
}
