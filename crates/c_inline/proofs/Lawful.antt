-- The numbers of a lawful program fit, where its variables do.
use Rattle.std.proofs.Common.{◌≡◌, ℕ, zero, suc, ◌+◌, ◌≤◌, List, [], ◌∷◌, ◌++◌, length, map, take, refl, sym, ◌∙◌, ap, subst, arith, length-append, append_assoc, append-nil, Option, Some, None}
use Rattle.std.specs.Prelude.{Bool, true, false, slice_get, All, option_map}
use mathlib.Core.Former.{Count}
use Rattle.std.proofs.lemmas.Option.{slice_get_within, slice_get-map, same_Some}
use Rattle.std.proofs.lemmas.List.{length-map, length-take}
use Rattle.std.proofs.lemmas.List.Elements.{All-head, All-tail}
use Rattle.el_base.specs.declared.ty.Ty.{Ty}
use Rattle.el_base.specs.Limits.{IsNumbered}
use Rattle.c_ast.specs.declared.tree.Param.{Param}
use Rattle.c_ast.specs.declared.typed.Object.{Object}
use Rattle.c_ast.specs.declared.typed.Object.TheVariants as object
use Rattle.c_ast.specs.declared.program.ProgExpr.{ProgExpr}
use Rattle.c_ast.specs.declared.program.ProgExprKind.{ProgExprKind, Row_of-ProgExpr, end_of-ProgExpr, more_of-ProgExpr}
use Rattle.c_ast.specs.declared.program.ProgExprKind as tree
use Rattle.c_ast.specs.declared.program.ProgStmt.{ProgStmt}
use Rattle.c_ast.specs.declared.program.ProgStmtKind.{ProgStmtKind, Row_of-ProgStmt, end_of-ProgStmt, more_of-ProgStmt, Held-ProgStmtKind-If-2}
use Rattle.c_ast.specs.declared.program.ProgStmtKind as act
use Rattle.c_ast.specs.declared.program.TypedHelper.{TypedHelper}
use Rattle.c_ast.specs.declared.program.TypedProgram.{TypedProgram}
use Rattle.c_ast.specs.declared.typed.Typed.{Typed}
use Rattle.c_ast.specs.Nodes.{typed_nodes}
use Rattle.el_base.specs.Limits.{max_nodes}
use Rattle.c_meaning.specs.declared.profile.Profile.TheVariants.{Plain}
use Rattle.c_meaning.specs.Stores.{Objects}
use Rattle.c_meaning.specs.Lawful.{IsVar, IsObject}
use Rattle.c_calls.specs.Meanings.{helper_objects, prog_objects}
use Rattle.c_ast.specs.declared.typed.ArrayOf.{ArrayOf}
use Rattle.c_ast.specs.declared.typed.TypedStmt.{TypedStmt}
use Rattle.c_calls.specs.Inlined.{OutStmts, inlined, body_of}
use Rattle.c_calls.specs.Lawful.{Signature, signature_of, row_length, row_types, IsCall, may_right, LawfulCallKind, LawfulCallRow, LawfulCallExpr, IfAnyExpr, LawfulCallReturn, LawfulCallDeclaration, LawfulCallStmt, LawfulCallHeld, LawfulCallStmts, LawfulHelper, LawfulHelpers, LawfulProgram}
use Rattle.c_inline.proofs.Tables.{get_taken}
use Rattle.c_inline.specs.Making.{KindNumbers, RowNumbers, ExprNumbers, ExprsNumbers, OptionNumbers, ObjectNumbers, ActNumbers, ActsNumbers, HeldActNumbers, StmtsNumbers, FewArguments, AllNumbers, StmtsFit, AreStmts, stmts_of}

-- no helper has more parameters than variables
FewParams : List TypedHelper → Type 0
FewParams hs = (i : ℕ) (h : TypedHelper) → slice_get hs i ≡ Some h → length h.params ≤ length h.vars

row_long : {n : Count} (row : Row_of-ProgExpr n) → row_length row ≡ length (row_types row)
row_long end_of-ProgExpr = refl
row_long (more_of-ProgExpr e u at row) = omega (arith, row_long row)

var_numbers : (k : Objects) (b v : ℕ) (t : Ty) → IsNumbered (b + length k.vars) → IsVar k v t → IsNumbered (b + v)
var_numbers k b v t room is = omega (arith, room, slice_get_within k.vars v t is)

few_arguments : (hs : List TypedHelper) (i : ℕ) (g : Signature) (n : ℕ) (o : Option TypedHelper) → slice_get hs i ≡ o → FewParams hs → option_map signature_of o ≡ Some g → n ≡ length g.params → FewArguments o n
unfolding FewParams
few_arguments hs i g n None is few e l = tt
few_arguments hs i g n (Some h) is few e l = omega (arith, few i h is, l, ap (λ (s : Signature). length s.params) (same_Some (signature_of h) g e), length-map h.params (λ (q : Param). q.ty))

call_few : (hs : List TypedHelper) → FewParams hs → (may : Bool) (i : ℕ) (ts : List Ty) (t : Ty) (n : ℕ) → IsCall (map signature_of hs) may i ts t → n ≡ length ts → FewArguments (slice_get hs i) n
call_few hs few may i ts t n (stands, (g, e, p, r)) l = few_arguments hs i g n (slice_get hs i) refl few (sym (slice_get-map signature_of hs i) ∙ e) (l ∙ ap length p)

module _ (hs : List TypedHelper) (few : FewParams hs) (k : Objects) (b : ℕ) (room : IsNumbered (b + length k.vars)) where
  mutual
    kind_numbers : (may : Bool) (e : ProgExprKind) (t : Ty) → LawfulCallKind k (map signature_of hs) may e t → KindNumbers hs b e
    kind_numbers may (tree.Number n) t h = tt
    kind_numbers may (tree.Var v) t h = var_numbers k b v t room h
    kind_numbers may (tree.Element' a n row) t h = numbers_row may row h.1
    kind_numbers may (tree.Unary' op x (more_of-ProgExpr e u at end_of-ProgExpr)) t h = kind_numbers may e u h.2
    kind_numbers may (tree.Cast' implied x (more_of-ProgExpr e u at end_of-ProgExpr)) t h = kind_numbers may e u h.1
    kind_numbers may (tree.Binary' op x (more_of-ProgExpr e u at end_of-ProgExpr) x2 (more_of-ProgExpr e2 u2 at2 end_of-ProgExpr)) t h = (kind_numbers may e u h.1, kind_numbers (may_right may op) e2 u2 h.2)
    kind_numbers may (tree.Choose' x (more_of-ProgExpr e u at end_of-ProgExpr) x2 (more_of-ProgExpr e2 u2 at2 end_of-ProgExpr) x3 (more_of-ProgExpr e3 u3 at3 end_of-ProgExpr)) t h =
        (kind_numbers may e u h.1, kind_numbers false e2 u2 h.2, kind_numbers false e3 u3 h.3)
    kind_numbers may (tree.Call' i n row) t h = (call_few hs few may i (row_types row) t (row_length row) h.0 (row_long row), numbers_row may row h.1)

    numbers_row : (may : Bool) {n : Count} (row : Row_of-ProgExpr n) → LawfulCallRow k (map signature_of hs) may row → RowNumbers hs b row
    numbers_row may end_of-ProgExpr h = tt
    numbers_row may (more_of-ProgExpr e u at row) h = (kind_numbers may e u h.0, numbers_row may row h.1)

  expr_numbers : (may : Bool) (e : ProgExpr) → LawfulCallExpr k (map signature_of hs) may e → ExprNumbers hs b e
  expr_numbers may e h = kind_numbers may e.kind e.ty h

  exprs_numbers : (es : List ProgExpr) → All (LawfulCallExpr k (map signature_of hs) true) es → ExprsNumbers hs b es
  exprs_numbers [] h = tt
  exprs_numbers (e ∷ es) h = (expr_numbers true e (All-head (LawfulCallExpr k (map signature_of hs) true) e es h), exprs_numbers es (All-tail (LawfulCallExpr k (map signature_of hs) true) e es h))

  any_numbers : (may : Bool) (e : Option ProgExpr) → IfAnyExpr (LawfulCallExpr k (map signature_of hs) may) e → OptionNumbers hs b e
  any_numbers may None h = tt
  any_numbers may (Some e) h = expr_numbers may e h

  object_numbers : (o : Object) (n : ℕ) (t : Ty) → IsObject k o n t → ObjectNumbers b o
  object_numbers (object.Var v) n t h = var_numbers k b v t room h.0
  object_numbers (object.Array a) n t h = tt

  return_numbers : (r : Option (Option Ty)) (e : Option ProgExpr) → LawfulCallReturn (LawfulCallExpr k (map signature_of hs) true) r e → OptionNumbers hs b e
  return_numbers r None h = tt
  return_numbers None (Some e) h = absurd h
  return_numbers (Some None) (Some e) h = absurd h
  return_numbers (Some (Some t)) (Some e) h = expr_numbers true e h.1

  declare_numbers : (v : ℕ) (e : Option ProgExpr) → LawfulCallDeclaration k (map signature_of hs) v e → IsNumbered (b + v) × OptionNumbers hs b e
  declare_numbers v None h = (var_numbers k b v h.0 room h.1, tt)
  declare_numbers v (Some e) h = (var_numbers k b v e.ty room h.0, expr_numbers true e h.1)

  mutual
    act_numbers : (r : Option (Option Ty)) (loop : Bool) (s : ProgStmtKind) → LawfulCallStmt k (map signature_of hs) r loop s → ActNumbers hs b s
    act_numbers r loop (act.Block' n row) h = acts_numbers r loop row h
    act_numbers r loop (act.Declare v init) h = declare_numbers v init h
    act_numbers r loop (act.Assign target op e) h = ((object_numbers target.to (length target.indices) h.0 h.1.0, exprs_numbers target.indices h.1.1), expr_numbers true e h.3)
    act_numbers r loop (act.Step target up) h = (object_numbers target.to (length target.indices) h.0 h.1.0, exprs_numbers target.indices h.1.1)
    act_numbers r loop (act.If' cond x (more_of-ProgStmt s at end_of-ProgStmt) o) h = (expr_numbers true cond h.0, act_numbers r loop s h.1, held_numbers r loop o h.2)
    act_numbers r loop (act.While' cond x (more_of-ProgStmt s at end_of-ProgStmt)) h = (expr_numbers false cond h.0, act_numbers r true s h.1)
    act_numbers r loop (act.DoWhile' x (more_of-ProgStmt s at end_of-ProgStmt) cond) h = (act_numbers r true s h.0, expr_numbers false cond h.1)
    act_numbers r loop (act.For' n first cond o x (more_of-ProgStmt s at end_of-ProgStmt)) h =
        (acts_numbers r false first h.0, any_numbers false cond h.1, held_numbers r false o h.2, act_numbers r true s h.3)
    act_numbers r loop act.Break h = tt
    act_numbers r loop act.Continue h = tt
    act_numbers r loop (act.Return e) h = return_numbers r e h
    act_numbers r loop act.Empty h = tt

    held_numbers : (r : Option (Option Ty)) (loop : Bool) (o : Held-ProgStmtKind-If-2) → LawfulCallHeld k (map signature_of hs) r loop o → HeldActNumbers hs b o
    held_numbers r loop act.None' h = tt
    held_numbers r loop (act.Some' x (more_of-ProgStmt s at end_of-ProgStmt)) h = act_numbers r loop s h

    acts_numbers : (r : Option (Option Ty)) (loop : Bool) {n : Count} (row : Row_of-ProgStmt n) → LawfulCallStmts k (map signature_of hs) r loop row → ActsNumbers hs b row
    acts_numbers r loop end_of-ProgStmt h = tt
    acts_numbers r loop (more_of-ProgStmt s at row) h = (act_numbers r loop s h.0, acts_numbers r loop row h.1)

  stmts_numbers : (r : Option (Option Ty)) (loop : Bool) (ss : List ProgStmt) → All (λ (s : ProgStmt). LawfulCallStmt k (map signature_of hs) r loop s.kind) ss → StmtsNumbers hs b ss
  stmts_numbers r loop [] h = tt
  stmts_numbers r loop (s ∷ ss) h =
      (act_numbers r loop s.kind (All-head (λ (s : ProgStmt). LawfulCallStmt k (map signature_of hs) r loop s.kind) s ss h), stmts_numbers r loop ss (All-tail (λ (s : ProgStmt). LawfulCallStmt k (map signature_of hs) r loop s.kind) s ss h))

-- ---- helpers

lawful_at : (gs : List Signature) (hs : List TypedHelper) (i : ℕ) (h : TypedHelper) → LawfulHelpers gs hs → slice_get hs i ≡ Some h → LawfulHelper (gs ++ map signature_of (take i hs)) h
lawful_at gs [] i h l is = absurd (omega (arith, slice_get_within [] i h is))
lawful_at gs (g ∷ hs) zero h l is = subst (λ z. LawfulHelper z h) (sym (append-nil gs)) (subst (LawfulHelper gs) (same_Some g h is) l.0)
lawful_at gs (g ∷ hs) (suc i) h l is = subst (λ z. LawfulHelper z h) (append_assoc gs (signature_of g ∷ []) (map signature_of (take i hs))) (lawful_at (gs ++ signature_of g ∷ []) hs i h l.1 is)

few_params : (hs : List TypedHelper) → LawfulHelpers [] hs → FewParams hs
unfolding FewParams
few_params hs l i h is =
    let first = (lawful_at [] hs i h l is).first_vars in
    omega (arith, ap length first, length-map h.params (λ (q : Param). q.ty), length-take (length h.params) h.vars)

few_taken : (hs : List TypedHelper) (j : ℕ) → FewParams hs → FewParams (take j hs)
unfolding FewParams
few_taken hs j few i h is = few i h (get_taken hs i j h is).0

pub lawful_numbers : (hs : List TypedHelper) → LawfulHelpers [] hs → AllNumbers hs
lawful_numbers hs l i h is b room =
    let own = lawful_at [] hs i h l is in
    let few = few_taken hs i (few_params hs l) in
    let k = helper_objects Plain h in
    (stmts_numbers (take i hs) few k b room None false h.body (own.statements Plain), expr_numbers (take i hs) few k b room true h.value (own.result Plain))

-- ---- programs

-- there are few variables where the kernel without calls is lawful and has few nodes
pub program_fits : (P : TypedProgram) → LawfulProgram P → length (inlined P).vars + 2 ≤ typed_nodes (inlined P) → typed_nodes (inlined P) ≤ max_nodes → StmtsFit P.helpers 0 P.kernel.vars P.kernel.body
program_fits P l few small =
    let k = prog_objects Plain P.kernel in
    let long = length-append P.kernel.vars (body_of P).types in
    record {
      helpers = lawful_numbers P.helpers l.helpers;
      numbers = stmts_numbers P.helpers (few_params P.helpers l.helpers) k 0 (omega (arith, few, small, long)) (Some P.kernel.result) false P.kernel.body (l.statements Plain);
      room = omega (arith, few, small, long);
    }

pub fits_alike : (P : TypedProgram) (vars : List Ty) (body : List ProgStmt) (hs : List TypedHelper) → StmtsFit P.helpers 0 P.kernel.vars P.kernel.body → vars ≡ P.kernel.vars → body ≡ P.kernel.body → hs ≡ P.helpers → StmtsFit hs 0 vars body
fits_alike P vars body hs f ve be he = subst (λ z. StmtsFit z 0 vars body) (sym he) (subst (λ z. StmtsFit P.helpers 0 z body) (sym ve) (subst (StmtsFit P.helpers 0 P.kernel.vars) (sym be) f))

-- ---- the whole kernel

abbrev a_typed : TypedProgram → List ℕ → List Param → List Ty → List ArrayOf → List TypedStmt → Typed
a_typed P name params vars arrays body = record { name = name; at = P.kernel.at; result = P.kernel.result; params = params; vars = vars; arrays = arrays; body = body }

pub whole_made : (P : TypedProgram) (v : List Ty) (ss : List ProgStmt) (hs : List TypedHelper) (b0 b1 : List TypedStmt) (v1 : List Ty) (name : List ℕ) (params : List Param) (arrays : List ArrayOf) → b0 ≡ [] → v ≡ P.kernel.vars → ss ≡ P.kernel.body → hs ≡ P.helpers → AreStmts (stmts_of hs 0 (length v) ss) b0 v b1 v1
    → name ≡ P.kernel.name → params ≡ P.kernel.params → arrays ≡ P.kernel.arrays → a_typed P name params v1 arrays b1 ≡ inlined P
whole_made P v ss hs b0 b1 v1 name params arrays be ve se he h ne pe ae =
    let m = body_of P in
    let same : stmts_of hs 0 (length v) ss ≡ m = ap (λ l. stmts_of l 0 (length v) ss) he ∙ ap (λ l. stmts_of P.helpers 0 (length l) ss) ve ∙ ap (λ l. stmts_of P.helpers 0 (length P.kernel.vars) l) se in
    let body : b1 ≡ m.stmts = h.set ∙ ap (λ l. l ++ (stmts_of hs 0 (length v) ss).stmts) be ∙ ap (λ (z : OutStmts). z.stmts) same in
    let vars : v1 ≡ P.kernel.vars ++ m.types = h.made ∙ ap (λ l. l ++ (stmts_of hs 0 (length v) ss).types) ve ∙ ap (λ (z : OutStmts). P.kernel.vars ++ z.types) same in
    ap (λ z. a_typed P z params v1 arrays b1) ne ∙ ap (λ z. a_typed P P.kernel.name z v1 arrays b1) pe ∙ ap (λ z. a_typed P P.kernel.name P.kernel.params z arrays b1) vars ∙ ap (λ z. a_typed P P.kernel.name P.kernel.params (P.kernel.vars ++ m.types) z b1) ae
    ∙ ap (a_typed P P.kernel.name P.kernel.params (P.kernel.vars ++ m.types) P.kernel.arrays) body
