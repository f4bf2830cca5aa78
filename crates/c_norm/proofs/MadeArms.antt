-- Statements by their parts and call by call: nodes, and what each call made joins to what the whole makes.
use Rattle.std.proofs.Common.{◌≡◌, ℕ, ◌+◌, ◌≤◌, List, [], ◌∷◌, ◌++◌, length, Option, Some, None, refl, sym, ◌∙◌, ap, arith, length-append, zero, suc, ◌<◌, get_or, drop, subst, append_assoc, append-nil}
use Rattle.std.specs.Prelude.{Bool, slice_get, ◌^◌}
use denote.Hole.Carrier.{hidden}
use Rattle.std.proofs.lemmas.List.Sums.{sum_by-cons}
use mathlib.Core.Former.{Count}
use Rattle.el_base.specs.declared.span.Span.{Span}
use Rattle.c_ast.specs.declared.tree.Binary.{Binary}
use Rattle.c_ast.specs.declared.typed.Typed.{Typed}
use Rattle.c_ast.specs.declared.typed.TypedTarget.{TypedTarget}
use Rattle.c_ast.specs.declared.typed.TypedExpr.{TypedExpr}
use Rattle.c_ast.specs.declared.typed.TypedStmt.{TypedStmt}
use Rattle.c_ast.specs.declared.typed.TypedStmtKind.{TypedStmtKind, Row_of-TypedStmt, end_of-TypedStmt, more_of-TypedStmt, Held-TypedStmtKind-If-2}
use Rattle.c_ast.specs.declared.typed.TypedStmtKind as tree
use Rattle.c_ast.specs.declared.typed.TypedStmtKind.TheVariants as act
use Rattle.c_ast.specs.declared.typed.TypedStmtKind.TheBlock.{shape-the_row-TypedStmt-0, hidden-the_row-TypedStmt-0, shape-the_row-TypedStmt-1, hidden-the_row-TypedStmt-1, back-TypedStmtKind-If-2}
use Rattle.c_ast.specs.declared.normal.NormalStmtKind.TheVariants as normal
use Rattle.c_ast.proofs.TypedNodeEquations.{act_block, act_choice, act_while_loop, act_do_loop, act_for_loop}
use Rattle.c_ast.specs.Nodes.{typed_expr_nodes, typed_exprs_nodes, typed_opt_nodes, act_nodes, held_act_nodes, acts_nodes, typed_stmt_nodes, typed_stmts_nodes, typed_held_nodes, typed_nodes}
use Rattle.c_meaning.specs.declared.profile.Profile.TheVariants.{Plain}
use Rattle.c_meaning.specs.Stores.{Objects}
use Rattle.c_meaning.specs.Statements.{objects, step_operator, array_type}
use Rattle.c_norm.specs.Expand.{expand_expr, rest_of, set_all, expand_all}
use Rattle.c_norm.specs.Forms.{Made, MadeIfAny, normal_at, made, block_of, optional, rest_if_any, assignment_form, step_form, form_of, held_form, row_form, all_forms, target_with}
use Rattle.c_norm.specs.Code.{stmt_form, stmts_form, held_stmt, HasRoom, IsOut, AreOut, IsExpanded, IsMade, IsLast, IsAlone, IsOptional, IsBlock, IsHeld, StmtsGoOn, plain_form, update_form, update_of}
use Rattle.c_norm.proofs.Coded.{few_made, few_exprs, few_set}
use Rattle.std.proofs.lemmas.Option.{none-some}
use Rattle.std.proofs.lemmas.List.{drop_all}
use Rattle.el_base.specs.declared.ty.Ty.{Ty}
use Rattle.el_base.specs.declared.ty.Ty.TheVariants.{I32}
use Rattle.c_ast.specs.declared.typed.ArrayOf.{ArrayOf}
use Rattle.c_ast.specs.declared.tree.Param.{Param}
use Rattle.c_ast.specs.declared.normal.Normal.{Normal}
use Rattle.c_ast.specs.declared.normal.NormalStmt.{NormalStmt}
use Rattle.c_ast.specs.declared.normal.NormalStmtKind.{NormalStmtKind}
use Rattle.c_meaning.specs.Lawful.{Lawful}
use Rattle.c_meaning.proofs.FewVars.{few_vars}
use Rattle.c_meaning.proofs.ListParts.{longer, behind, from_place}
use Rattle.c_norm.specs.Kernels.{body_form, normal_form}

-- ---- nodes

pub nodes_block : (x : TypedStmt) (xs : List TypedStmt) → x.kind ≡ act.Block xs → typed_stmt_nodes x ≡ 1 + typed_stmts_nodes xs
nodes_block x xs is = ap act_nodes is ∙ act_block xs

pub nodes_declare : (x : TypedStmt) (v : ℕ) (e : Option TypedExpr) → x.kind ≡ act.Declare v e → typed_stmt_nodes x ≡ 1 + typed_opt_nodes e
nodes_declare x v e is = ap act_nodes is

pub nodes_assign : (x : TypedStmt) (t : TypedTarget) (op : Option Binary) (e : TypedExpr) → x.kind ≡ act.Assign t op e → typed_stmt_nodes x ≡ 2 + typed_exprs_nodes t.indices + typed_expr_nodes e
nodes_assign x t op e is = omega (arith, ap act_nodes is)

pub nodes_step : (x : TypedStmt) (t : TypedTarget) (up : Bool) → x.kind ≡ act.Step t up → typed_stmt_nodes x ≡ 2 + typed_exprs_nodes t.indices
nodes_step x t up is = omega (arith, ap act_nodes is)

pub nodes_if : (x : TypedStmt) (e : TypedExpr) (y : TypedStmt) (o : Option TypedStmt) → x.kind ≡ act.If e y o → typed_stmt_nodes x ≡ 1 + typed_expr_nodes e + typed_stmt_nodes y + typed_held_nodes o
nodes_if x e y o is = ap act_nodes is ∙ act_choice e y o

pub nodes_while : (x : TypedStmt) (e : TypedExpr) (y : TypedStmt) → x.kind ≡ act.While e y → typed_stmt_nodes x ≡ 1 + typed_expr_nodes e + typed_stmt_nodes y
nodes_while x e y is = ap act_nodes is ∙ act_while_loop e y

pub nodes_do : (x : TypedStmt) (y : TypedStmt) (e : TypedExpr) → x.kind ≡ act.DoWhile y e → typed_stmt_nodes x ≡ 1 + typed_stmt_nodes y + typed_expr_nodes e
nodes_do x y e is = ap act_nodes is ∙ act_do_loop y e

pub nodes_for : (x : TypedStmt) (first : List TypedStmt) (e : Option TypedExpr) (o : Option TypedStmt) (y : TypedStmt) → x.kind ≡ act.For first e o y → typed_stmt_nodes x ≡ 1 + typed_stmts_nodes first + typed_opt_nodes e + typed_held_nodes o + typed_stmt_nodes y
nodes_for x first e o y is = ap act_nodes is ∙ act_for_loop first e o y

pub nodes_return : (x : TypedStmt) (e : Option TypedExpr) → x.kind ≡ act.Return e → typed_stmt_nodes x ≡ 1 + typed_opt_nodes e
nodes_return x e is = ap act_nodes is

-- ---- what is made

row_all : (k : Objects) (f : ℕ) (xs : List TypedStmt) → row_form k f (hidden-the_row-TypedStmt-0 xs) ≡ all_forms k f xs
unfolding shape-the_row-TypedStmt-0 hidden-the_row-TypedStmt-0 shape-the_row-TypedStmt-1 hidden-the_row-TypedStmt-1 hidden
row_all k f [] = refl
row_all k f (x ∷ xs) =
    let y = form_of k f x.kind x.at in
    ap (λ (r : Made). record { stmts = y.stmts ++ r.stmts; types = y.types ++ r.types }) (row_all k (f + length y.types) xs)

held_is : (k : Typed) (f : ℕ) (o : Option TypedStmt) → held_form (objects Plain k) f (back-TypedStmtKind-If-2 o) ≡ held_stmt k f o
unfolding shape-the_row-TypedStmt-0 hidden-the_row-TypedStmt-0 shape-the_row-TypedStmt-1 hidden-the_row-TypedStmt-1 hidden
held_is k f None = refl
held_is k f (Some x) = refl

pub form_block : (k : Typed) (f : ℕ) (xs : List TypedStmt) (s : Span) → form_of (objects Plain k) f (act.Block xs) s ≡ record { stmts = normal_at (normal.Block (stmts_form k f xs).stmts) s ∷ []; types = (stmts_form k f xs).types }
unfolding shape-the_row-TypedStmt-0 hidden-the_row-TypedStmt-0 shape-the_row-TypedStmt-1 hidden-the_row-TypedStmt-1 hidden
form_block k f xs s = ap (λ (b : Made). record { stmts = normal_at (normal.Block b.stmts) s ∷ []; types = b.types }) (row_all (objects Plain k) f xs)

abbrev pub if_form : Typed → ℕ → TypedExpr → TypedStmt → Option TypedStmt → Span → Made
if_form k f e y o s =
    let c = expand_expr f e in
    let m = stmt_form k (f + length c.types) y in
    let n = held_stmt k (f + length c.types + length m.types) o in
    record { stmts = normal_at (normal.If c.before (rest_of c e) (block_of m y.at) n.stmt) s ∷ []; types = c.types ++ (m.types ++ n.types) }

pub form_if : (k : Typed) (f : ℕ) (e : TypedExpr) (y : TypedStmt) (o : Option TypedStmt) (s : Span) → form_of (objects Plain k) f (act.If e y o) s ≡ if_form k f e y o s
unfolding shape-the_row-TypedStmt-0 hidden-the_row-TypedStmt-0 shape-the_row-TypedStmt-1 hidden-the_row-TypedStmt-1 hidden
form_if k f e y o s =
    let c = expand_expr f e in
    let m = stmt_form k (f + length c.types) y in
    ap (λ (n : MadeIfAny). record { stmts = normal_at (normal.If c.before (rest_of c e) (block_of m y.at) n.stmt) s ∷ []; types = c.types ++ (m.types ++ n.types) }) (held_is k (f + length c.types + length m.types) o)

abbrev for_by : Typed → Made → ℕ → Option TypedExpr → MadeIfAny → TypedStmt → Span → ℕ → Made
for_by k i f e p y s h =
    let c = optional f e in
    let m = stmt_form k h y in
    record { stmts = normal_at (normal.For i.stmts c.before (rest_if_any c e) p.stmt (block_of m y.at)) s ∷ []; types = i.types ++ (c.types ++ (p.types ++ m.types)) }

abbrev pub for_form : Typed → ℕ → List TypedStmt → Option TypedExpr → Option TypedStmt → TypedStmt → Span → Made
for_form k f first e o y s =
    let i = stmts_form k f first in
    let g = f + length i.types in
    let h = g + length (optional g e).types in
    let p = held_stmt k h o in
    for_by k i g e p y s (h + length p.types)

pub form_for : (k : Typed) (f : ℕ) (first : List TypedStmt) (e : Option TypedExpr) (o : Option TypedStmt) (y : TypedStmt) (s : Span) → form_of (objects Plain k) f (act.For first e o y) s ≡ for_form k f first e o y s
unfolding shape-the_row-TypedStmt-0 hidden-the_row-TypedStmt-0 shape-the_row-TypedStmt-1 hidden-the_row-TypedStmt-1 hidden
form_for k f first e o y s =
    let i = stmts_form k f first in
    let g = f + length i.types in
    let h = g + length (optional g e).types in
    ap (λ (i : Made). let g = f + length i.types in let h = g + length (optional g e).types in let p = held_form (objects Plain k) h (back-TypedStmtKind-If-2 o) in for_by k i g e p y s (h + length p.types)) (row_all (objects Plain k) f first)
    ∙ ap (λ (p : MadeIfAny). for_by k i g e p y s (h + length p.types)) (held_is k h o)

-- ---- few variables are made

pub few_optional : (f : ℕ) (e : Option TypedExpr) → length (optional f e).types ≤ typed_opt_nodes e
few_optional f None = omega arith
few_optional f (Some e) = omega (arith, few_made f e)

few_assign : (k : Objects) (f : ℕ) (t : TypedTarget) (op : Option Binary) (e : TypedExpr) (s : Span) → length (assignment_form k f t op e s).types ≤ typed_exprs_nodes t.indices + typed_expr_nodes e
few_assign k f t None e s =
    let i = expand_all f t.indices in
    omega (arith, few_exprs f t.indices, few_made (f + length i.types) e, length-append i.types (expand_expr (f + length i.types) e).types)
few_assign k f t (Some op) e s =
    let i = set_all f t.indices in
    omega (arith, few_set f t.indices, few_made (f + length i.types) e, length-append i.types (expand_expr (f + length i.types) e).types)

few_step : (k : Objects) (f : ℕ) (t : TypedTarget) (op : Binary) (s : Span) → length (step_form k f t op s).types ≤ typed_exprs_nodes t.indices
few_step k f t op s = omega (arith, few_set f t.indices, length-append (set_all f t.indices).types [])

mutual
  few_act : (k : Objects) (f : ℕ) (x : TypedStmtKind) (s : Span) → length (form_of k f x s).types ≤ act_nodes x
  few_act k f (tree.Block' n row) s = omega (arith, few_acts k f row)
  few_act k f (tree.Declare v e) s = omega (arith, few_optional f e)
  few_act k f (tree.Assign t op e) s = omega (arith, few_assign k f t op e s)
  few_act k f (tree.Step t up) s = omega (arith, few_step k f t (step_operator up) s)
  few_act k f (tree.If' e b (more_of-TypedStmt x at end_of-TypedStmt) o) s =
      let c = expand_expr f e in
      let y = form_of k (f + length c.types) x at in
      let n = held_form k (f + length c.types + length y.types) o in
      omega (arith, few_made f e, few_act k (f + length c.types) x at, few_held k (f + length c.types + length y.types) o, length-append c.types (y.types ++ n.types), length-append y.types n.types)
  few_act k f (tree.While' e b (more_of-TypedStmt x at end_of-TypedStmt)) s =
      let c = expand_expr f e in
      omega (arith, few_made f e, few_act k (f + length c.types) x at, length-append c.types (form_of k (f + length c.types) x at).types)
  few_act k f (tree.DoWhile' b (more_of-TypedStmt x at end_of-TypedStmt) e) s =
      let y = form_of k f x at in
      omega (arith, few_act k f x at, few_made (f + length y.types) e, length-append y.types (expand_expr (f + length y.types) e).types)
  few_act k f (tree.For' n first e o b (more_of-TypedStmt x at end_of-TypedStmt)) s =
      let i = row_form k f first in
      let c = optional (f + length i.types) e in
      let p = held_form k (f + length i.types + length c.types) o in
      let y = form_of k (f + length i.types + length c.types + length p.types) x at in
      omega (
        arith,
        few_acts k f first,
        few_optional (f + length i.types) e,
        few_held k (f + length i.types + length c.types) o,
        few_act k (f + length i.types + length c.types + length p.types) x at,
        length-append i.types (c.types ++ (p.types ++ y.types)),
        length-append c.types (p.types ++ y.types),
        length-append p.types y.types,
      )
  few_act k f tree.Break s = omega arith
  few_act k f tree.Continue s = omega arith
  few_act k f (tree.Return e) s = omega (arith, few_optional f e)
  few_act k f tree.Empty s = omega arith

  few_held : (k : Objects) (f : ℕ) (o : Held-TypedStmtKind-If-2) → length (held_form k f o).types ≤ held_act_nodes o
  few_held k f tree.None' = omega arith
  few_held k f (tree.Some' b (more_of-TypedStmt x at end_of-TypedStmt)) = few_act k f x at

  few_acts : (k : Objects) (f : ℕ) {n : Count} (row : Row_of-TypedStmt n) → length (row_form k f row).types ≤ acts_nodes row
  few_acts k f end_of-TypedStmt = omega arith
  few_acts k f (more_of-TypedStmt x at row) =
      let y = form_of k f x at in
      omega (arith, few_act k f x at, few_acts k (f + length y.types) row, length-append y.types (row_form k (f + length y.types) row).types)

pub few_form : (k : Typed) (f : ℕ) (x : TypedStmt) → length (stmt_form k f x).types ≤ typed_stmt_nodes x
few_form k f x = few_act (objects Plain k) f x.kind x.at

pub few_forms : (k : Typed) (f : ℕ) (xs : List TypedStmt) → length (stmts_form k f xs).types ≤ typed_stmts_nodes xs
few_forms k f [] = omega arith
few_forms k f (x ∷ xs) =
    let y = stmt_form k f x in
    omega (arith, few_form k f x, few_forms k (f + length y.types) xs, length-append y.types (stmts_form k (f + length y.types) xs).types, sum_by-cons typed_stmt_nodes x xs)

pub few_held_stmt : (k : Typed) (f : ℕ) (o : Option TypedStmt) → length (held_stmt k f o).types ≤ typed_held_nodes o
few_held_stmt k f None = omega arith
few_held_stmt k f (Some x) = few_form k f x

as_last : (m m2 : Made) (s : Span) (b : List NormalStmt) (v : List Ty) (b2 : List NormalStmt) (v2 : List Ty) (r : NormalStmtKind) → m ≡ m2 → IsLast m2 s b v b2 v2 r → IsLast m s b v b2 v2 r
as_last m m2 s b v b2 v2 r e p = subst (λ z. IsLast z s b v b2 v2 r) (sym e) p

-- what is set first, and one statement
one_last : (before : List NormalStmt) (types : List Ty) (kind r : NormalStmtKind) (s : Span) (b : List NormalStmt) (v : List Ty) (b2 : List NormalStmt) (v2 : List Ty) → b2 ≡ b ++ before → v2 ≡ v ++ types → r ≡ kind → IsLast (made before kind s types) s b v b2 v2 r
one_last before types kind r s b v b2 v2 p q e = record {
  set = behind b b2 (b2 ++ normal_at r s ∷ []) before (normal_at kind s ∷ []) p (ap (λ c. b2 ++ normal_at c s ∷ []) e);
  made = q;
}

-- one statement alone
alone : (types : List Ty) (kind r : NormalStmtKind) (s : Span) (b : List NormalStmt) (v v2 : List Ty) → v2 ≡ v ++ types → r ≡ kind → IsLast (record { stmts = normal_at kind s ∷ []; types = types }) s b v b v2 r
alone types kind r s b v v2 q e = record { set = ap (λ c. b ++ normal_at c s ∷ []) e; made = q }

at_kind : (k : Typed) (x : TypedStmt) (kind : TypedStmtKind) (b : List NormalStmt) (v : List Ty) (b2 : List NormalStmt) (v2 : List Ty) (r : NormalStmtKind) → x.kind ≡ kind → IsLast (form_of (objects Plain k) (length v) kind x.at) x.at b v b2 v2 r → IsLast (stmt_form k (length v) x) x.at b v b2 v2 r
at_kind k x kind b v b2 v2 r is h = subst (λ z. IsLast (form_of (objects Plain k) (length v) z x.at) x.at b v b2 v2 r) (sym is) h

-- a statement that makes nothing
pub left_alone : (k : Typed) (x : TypedStmt) (kind : TypedStmtKind) (r : NormalStmtKind) (b : List NormalStmt) (v : List Ty) → x.kind ≡ kind → form_of (objects Plain k) (length v) kind x.at ≡ made [] r x.at [] → IsLast (stmt_form k (length v) x) x.at b v b v r
left_alone k x kind r b v is e = at_kind k x kind b v b v r is (as_last (form_of (objects Plain k) (length v) kind x.at) (made [] r x.at []) x.at b v b v r e (alone [] r r x.at b v v (sym (append-nil v)) refl))

pub stands_alone : (k : Typed) (x : TypedStmt) (kind : TypedStmtKind) (b : List NormalStmt) (v v2 : List Ty) (r : NormalStmtKind) → x.kind ≡ kind → IsAlone k kind v v2 r → IsLast (stmt_form k (length v) x) x.at b v b v2 r
stands_alone k x kind b v v2 r is h = at_kind k x kind b v b v2 r is (h x.at b)

-- the last statement, behind the others
pub last_made : (m : Made) (s : Span) (b : List NormalStmt) (v : List Ty) (b2 : List NormalStmt) (v2 : List Ty) (r : NormalStmtKind) (b3 : List NormalStmt) → IsLast m s b v b2 v2 r → b3 ≡ b2 ++ normal_at r s ∷ [] → IsMade m b v b3 v2
last_made m s b v b2 v2 r b3 h e = subst (λ z. IsMade m b v z v2) (sym e) h

-- ---- how many variables

pub few_optional_made : (e : Option TypedExpr) (b : List NormalStmt) (v : List Ty) (b2 : List NormalStmt) (v2 : List Ty) (r : Option TypedExpr) → IsOptional e b v b2 v2 r → length v2 ≤ length v + typed_opt_nodes e
few_optional_made e b v b2 v2 r h = omega (arith, longer v v2 (optional (length v) e).types h.made, few_optional (length v) e)

pub few_stmt : (k : Typed) (x : TypedStmt) (b : List NormalStmt) (v : List Ty) (b2 : List NormalStmt) (v2 : List Ty) → IsMade (stmt_form k (length v) x) b v b2 v2 → length v2 ≤ length v + typed_stmt_nodes x
few_stmt k x b v b2 v2 h = omega (arith, longer v v2 (stmt_form k (length v) x).types h.made, few_form k (length v) x)

pub few_stmts : (k : Typed) (xs : List TypedStmt) (b : List NormalStmt) (v : List Ty) (b2 : List NormalStmt) (v2 : List Ty) → IsMade (stmts_form k (length v) xs) b v b2 v2 → length v2 ≤ length v + typed_stmts_nodes xs
few_stmts k xs b v b2 v2 h = omega (arith, longer v v2 (stmts_form k (length v) xs).types h.made, few_forms k (length v) xs)

pub few_block : (k : Typed) (x : TypedStmt) (v v2 : List Ty) (r : NormalStmt) → IsBlock k x v v2 r → length v2 ≤ length v + typed_stmt_nodes x
few_block k x v v2 r h = omega (arith, longer v v2 (stmt_form k (length v) x).types h.made, few_form k (length v) x)

pub few_held_made : (k : Typed) (o : Option TypedStmt) (v v2 : List Ty) (r : Option NormalStmt) → IsHeld k o v v2 r → length v2 ≤ length v + typed_held_nodes o
few_held_made k o v v2 r h = omega (arith, longer v v2 (held_stmt k (length v) o).types h.made, few_held_stmt k (length v) o)

-- ---- what may be absent, and what is inside

pub optional_none : (e r : Option TypedExpr) (b : List NormalStmt) (v : List Ty) → e ≡ None → r ≡ None → IsOptional e b v b v r
optional_none None r b v e h = record { rest = h; set = sym (append-nil b); made = sym (append-nil v) }
optional_none (Some x) r b v e h = absurd (cc)

pub optional_some : (e : Option TypedExpr) (x : TypedExpr) (r : Option TypedExpr) (b : List NormalStmt) (v : List Ty) (b2 : List NormalStmt) (v2 : List Ty) (y : TypedExpr) (p : Bool) → e ≡ Some x → IsExpanded x b v b2 v2 y p → r ≡ Some y → IsOptional e b v b2 v2 r
optional_some e x r b v b2 v2 y p is h re =
    subst (λ o. IsOptional o b v b2 v2 r) (sym is) (record { rest = re ∙ ap Some h.out.rest; set = h.out.set; made = h.out.made })

pub block_made : (k : Typed) (x : TypedStmt) (b b2 : List NormalStmt) (v v2 : List Ty) (r : NormalStmt) → b ≡ [] → IsMade (stmt_form k (length v) x) b v b2 v2 → r ≡ normal_at (normal.Block b2) x.at → IsBlock k x v v2 r
block_made k x b b2 v v2 r e h re = record { rest = re ∙ ap (λ l. normal_at (normal.Block l) x.at) (h.set ∙ ap (λ l. l ++ (stmt_form k (length v) x).stmts) e); made = h.made }

pub held_none : (k : Typed) (o : Option TypedStmt) (r : Option NormalStmt) (v : List Ty) → o ≡ None → r ≡ None → IsHeld k o v v r
held_none k None r v e h = record { rest = h; made = sym (append-nil v) }
held_none k (Some x) r v e h = absurd (cc)

pub held_some : (k : Typed) (o : Option TypedStmt) (x z : TypedStmt) (r : Option NormalStmt) (v v2 : List Ty) (y : NormalStmt) → o ≡ Some x → z ≡ x → IsBlock k z v v2 y → r ≡ Some y → IsHeld k o v v2 r
held_some k o x z r v v2 y is e h re = subst (λ z. IsHeld k z v v2 r) (ap Some e ∙ sym is) (record { rest = re ∙ ap Some h.rest; made = h.made })

-- what is numbered behind types that were made
optional_at : (ts : List Ty) (e : Option TypedExpr) (b : List NormalStmt) (v v1 : List Ty) (b2 : List NormalStmt) (v2 : List Ty) (r : Option TypedExpr) (n : ℕ) → length v1 ≡ n → IsOptional e b v1 b2 v2 r
    → (r ≡ rest_if_any (optional n e) e) × (b2 ≡ b ++ (optional n e).before) × (v2 ≡ v1 ++ (optional n e).types)
optional_at ts e b v v1 b2 v2 r n h p =
    (p.rest ∙ ap (λ i. rest_if_any (optional i e) e) h, p.set ∙ ap (λ i. b ++ (optional i e).before) h, p.made ∙ ap (λ i. v1 ++ (optional i e).types) h)

block_at : (k : Typed) (x : TypedStmt) (v1 v2 : List Ty) (r : NormalStmt) (n : ℕ) → length v1 ≡ n → IsBlock k x v1 v2 r → (r ≡ block_of (stmt_form k n x) x.at) × (v2 ≡ v1 ++ (stmt_form k n x).types)
block_at k x v1 v2 r n h p = (p.rest ∙ ap (λ i. block_of (stmt_form k i x) x.at) h, p.made ∙ ap (λ i. v1 ++ (stmt_form k i x).types) h)

held_at : (k : Typed) (o : Option TypedStmt) (v1 v2 : List Ty) (r : Option NormalStmt) (n : ℕ) → length v1 ≡ n → IsHeld k o v1 v2 r → (r ≡ (held_stmt k n o).stmt) × (v2 ≡ v1 ++ (held_stmt k n o).types)
held_at k o v1 v2 r n h p = (p.rest ∙ ap (λ i. (held_stmt k i o).stmt) h, p.made ∙ ap (λ i. v1 ++ (held_stmt k i o).types) h)

out_at : (e : TypedExpr) (b : List NormalStmt) (v1 : List Ty) (b2 : List NormalStmt) (v2 : List Ty) (y : TypedExpr) (p : Bool) (n : ℕ) → length v1 ≡ n → IsExpanded e b v1 b2 v2 y p → IsOut (expand_expr n e) e.ty e.at b v1 b2 v2 y
out_at e b v1 b2 v2 y p n h q = subst (λ i. IsOut (expand_expr i e) e.ty e.at b v1 b2 v2 y) h q.out

-- ---- statements

pub block_arm : (k : Typed) (xs : List TypedStmt) (v : List Ty) (i0 i1 : List NormalStmt) (v2 : List Ty) → i0 ≡ [] → IsMade (stmts_form k (length v) xs) i0 v i1 v2 → IsAlone k (act.Block xs) v v2 (normal.Block i1)
block_arm k xs v i0 i1 v2 ie h s b =
    let m = stmts_form k (length v) xs in
    as_last (form_of (objects Plain k) (length v) (act.Block xs) s) (record { stmts = normal_at (normal.Block m.stmts) s ∷ []; types = m.types }) s b v b v2 (normal.Block i1) (form_block k (length v) xs s)
    (alone m.types (normal.Block m.stmts) (normal.Block i1) s b v v2 h.made (ap normal.Block (h.set ∙ ap (λ l. l ++ m.stmts) ie)))

pub declare_arm : (k : Typed) (x : TypedStmt) (w : ℕ) (e : Option TypedExpr) (b : List NormalStmt) (v : List Ty) (b2 : List NormalStmt) (v2 : List Ty) (r : Option TypedExpr) → x.kind ≡ act.Declare w e → IsOptional e b v b2 v2 r → IsLast (stmt_form k (length v) x) x.at b v b2 v2 (normal.Declare w r)
declare_arm k x w e b v b2 v2 r is h =
    let o = optional (length v) e in
    at_kind k x (act.Declare w e) b v b2 v2 (normal.Declare w r) is (one_last o.before o.types (normal.Declare w (rest_if_any o e)) (normal.Declare w r) x.at b v b2 v2 h.set h.made (ap (normal.Declare w) h.rest))

pub return_arm : (k : Typed) (x : TypedStmt) (e : Option TypedExpr) (b : List NormalStmt) (v : List Ty) (b2 : List NormalStmt) (v2 : List Ty) (r : Option TypedExpr) → x.kind ≡ act.Return e → IsOptional e b v b2 v2 r → IsLast (stmt_form k (length v) x) x.at b v b2 v2 (normal.Return r)
return_arm k x e b v b2 v2 r is h =
    let o = optional (length v) e in
    at_kind k x (act.Return e) b v b2 v2 (normal.Return r) is (one_last o.before o.types (normal.Return (rest_if_any o e)) (normal.Return r) x.at b v b2 v2 h.set h.made (ap normal.Return h.rest))

pub if_arm : (k : Typed) (e : TypedExpr) (y : TypedStmt) (o : Option TypedStmt) (v : List Ty) (i0 i1 : List NormalStmt) (v1 v2 v3 : List Ty) (c : TypedExpr) (p : Bool) (r : NormalStmt) (n : Option NormalStmt)
    → i0 ≡ [] → IsExpanded e i0 v i1 v1 c p → IsBlock k y v1 v2 r → IsHeld k o v2 v3 n → IsAlone k (act.If e y o) v v3 (normal.If i1 c r n)
if_arm k e y o v i0 i1 v1 v2 v3 c p r n ie h i j s b =
    let f = length v in
    let z = expand_expr f e in
    let m = stmt_form k (f + length z.types) y in
    let a = longer v v1 z.types h.out.made in
    let yb = block_at k y v1 v2 r (f + length z.types) a i in
    let t = held_stmt k (f + length z.types + length m.types) o in
    let hb = held_at k o v2 v3 n (f + length z.types + length m.types) (longer v1 v2 m.types yb.1 ∙ ap (λ l. l + length m.types) a) j in
    let set = h.out.set ∙ ap (λ l. l ++ z.before) ie in
    as_last (form_of (objects Plain k) f (act.If e y o) s) (if_form k f e y o s) s b v b v3 (normal.If i1 c r n) (form_if k f e y o s)
    (alone (z.types ++ (m.types ++ t.types)) (normal.If z.before (rest_of z e) (block_of m y.at) t.stmt) (normal.If i1 c r n) s b v v3 (behind v v1 v3 z.types (m.types ++ t.types) h.out.made (behind v1 v2 v3 m.types t.types yb.1 hb.1)) (λ q. normal.If (set q) (h.out.rest q) (yb.0 q) (hb.0 q)))

pub while_arm : (k : Typed) (e : TypedExpr) (y : TypedStmt) (v : List Ty) (i0 i1 : List NormalStmt) (v1 v2 : List Ty) (c : TypedExpr) (p : Bool) (r : NormalStmt) → i0 ≡ [] → IsExpanded e i0 v i1 v1 c p → IsBlock k y v1 v2 r → IsAlone k (act.While e y) v v2 (normal.While i1 c r)
unfolding shape-the_row-TypedStmt-0 hidden-the_row-TypedStmt-0 shape-the_row-TypedStmt-1 hidden-the_row-TypedStmt-1 hidden
while_arm k e y v i0 i1 v1 v2 c p r ie h i s b =
    let f = length v in
    let z = expand_expr f e in
    let m = stmt_form k (f + length z.types) y in
    let yb = block_at k y v1 v2 r (f + length z.types) (longer v v1 z.types h.out.made) i in
    let set = h.out.set ∙ ap (λ l. l ++ z.before) ie in
    (alone (z.types ++ m.types) (normal.While z.before (rest_of z e) (block_of m y.at)) (normal.While i1 c r) s b v v2 (behind v v1 v2 z.types m.types h.out.made yb.1) (λ q. normal.While (set q) (h.out.rest q) (yb.0 q)))

pub do_arm : (k : Typed) (y : TypedStmt) (e : TypedExpr) (v : List Ty) (i0 i1 : List NormalStmt) (v1 v2 : List Ty) (c : TypedExpr) (p : Bool) (r : NormalStmt) → IsBlock k y v v1 r → i0 ≡ [] → IsExpanded e i0 v1 i1 v2 c p → IsAlone k (act.DoWhile y e) v v2 (normal.DoWhile r i1 c)
unfolding shape-the_row-TypedStmt-0 hidden-the_row-TypedStmt-0 shape-the_row-TypedStmt-1 hidden-the_row-TypedStmt-1 hidden
do_arm k y e v i0 i1 v1 v2 c p r i ie h s b =
    let f = length v in
    let m = stmt_form k f y in
    let z = expand_expr (f + length m.types) e in
    let o = out_at e i0 v1 i1 v2 c p (f + length m.types) (longer v v1 m.types i.made) h in
    let set = o.set ∙ ap (λ l. l ++ z.before) ie in
    (alone (m.types ++ z.types) (normal.DoWhile (block_of m y.at) z.before (rest_of z e)) (normal.DoWhile r i1 c) s b v v2 (behind v v1 v2 m.types z.types i.made o.made) (λ q. normal.DoWhile (i.rest q) (set q) (o.rest q)))

pub for_arm : (k : Typed) (first : List TypedStmt) (e : Option TypedExpr) (o : Option TypedStmt) (y : TypedStmt) (v : List Ty) (a0 a1 : List NormalStmt) (v1 : List Ty) (i0 i1 : List NormalStmt) (v2 v3 v4 : List Ty) (c : Option TypedExpr) (n : Option NormalStmt) (r : NormalStmt)
    → a0 ≡ [] → IsMade (stmts_form k (length v) first) a0 v a1 v1 → i0 ≡ [] → IsOptional e i0 v1 i1 v2 c → IsHeld k o v2 v3 n → IsBlock k y v3 v4 r → IsAlone k (act.For first e o y) v v4 (normal.For a1 i1 c n r)
for_arm k first e o y v a0 a1 v1 i0 i1 v2 v3 v4 c n r ae h ie i j l s b =
    let f = length v in
    let a = stmts_form k f first in
    let g = f + length a.types in
    let z = optional g e in
    let ni = g + length z.types in
    let t = held_stmt k ni o in
    let nj = ni + length t.types in
    let m = stmt_form k nj y in
    let e1 = longer v v1 a.types h.made in
    let zb = optional_at a.types e i0 v v1 i1 v2 c g e1 i in
    let e2 = longer v1 v2 z.types zb.2 ∙ ap (λ w. w + length z.types) e1 in
    let tb = held_at k o v2 v3 n ni e2 j in
    let e3 = longer v2 v3 t.types tb.1 ∙ ap (λ w. w + length t.types) e2 in
    let mb = block_at k y v3 v4 r nj e3 l in
    let opening = h.set ∙ ap (λ u. u ++ a.stmts) ae in
    let set = zb.1 ∙ ap (λ u. u ++ z.before) ie in
    as_last (form_of (objects Plain k) f (act.For first e o y) s) (for_form k f first e o y s) s b v b v4 (normal.For a1 i1 c n r) (form_for k f first e o y s)
    (alone (a.types ++ (z.types ++ (t.types ++ m.types))) (normal.For a.stmts z.before (rest_if_any z e) t.stmt (block_of m y.at)) (normal.For a1 i1 c n r) s b v v4
    (behind v v1 v4 a.types (z.types ++ (t.types ++ m.types)) h.made (behind v1 v2 v4 z.types (t.types ++ m.types) zb.2 (behind v2 v3 v4 t.types m.types tb.1 mb.1))) (λ q. normal.For (opening q) (set q) (zb.0 q) (tb.0 q) (mb.0 q)))

-- ---- assignments

pub plain_arm : (t t2 : TypedTarget) (es : List TypedExpr) (e : TypedExpr) (b : List NormalStmt) (v : List Ty) (b1 : List NormalStmt) (v1 : List Ty) (b2 : List NormalStmt) (v2 : List Ty) (xs : List TypedExpr) (y : TypedExpr) (p : Bool)
    → es ≡ t.indices → AreOut (expand_all (length v) es) b v b1 v1 xs → IsExpanded e b1 v1 b2 v2 y p → t2 ≡ target_with t xs → (s : Span) → IsLast (plain_form (length v) t e s) s b v b2 v2 (normal.Assign t2 y)
plain_arm t t2 es e b v b1 v1 b2 v2 xs y p ese h0 i te s =
    let h = subst (λ l. AreOut (expand_all (length v) l) b v b1 v1 xs) ese h0 in
    let a = expand_all (length v) t.indices in
    let g = length v + length a.types in
    let z = expand_expr g e in
    let o = out_at e b1 v1 b2 v2 y p g (longer v v1 a.types h.made) i in
    one_last (a.before ++ z.before) (a.types ++ z.types) (normal.Assign (target_with t a.exprs) (rest_of z e)) (normal.Assign t2 y) s b v b2 v2 (behind b b1 b2 a.before z.before h.set o.set) (behind v v1 v2 a.types z.types h.made o.made) (λ q. normal.Assign ((te ∙ ap (target_with t) h.rest) q) (o.rest q))

pub update_arm : (t t2 : TypedTarget) (es : List TypedExpr) (op : Binary) (ty j : Ty) (e : TypedExpr) (s : Span) (b : List NormalStmt) (v : List Ty) (b1 : List NormalStmt) (v1 : List Ty) (b2 : List NormalStmt) (v2 : List Ty) (xs : List TypedExpr) (y : TypedExpr) (p : Bool) (r : NormalStmtKind)
    → es ≡ t.indices → AreOut (set_all (length v) es) b v b1 v1 xs → IsExpanded e b1 v1 b2 v2 y p → t2 ≡ target_with t xs → r ≡ update_of t2 op ty j y s → IsLast (update_form (length v) t op ty j e s) s b v b2 v2 r
update_arm t t2 es op ty j e s b v b1 v1 b2 v2 xs y p r ese h0 i te re =
    let h = subst (λ l. AreOut (set_all (length v) l) b v b1 v1 xs) ese h0 in
    let a = set_all (length v) t.indices in
    let g = length v + length a.types in
    let z = expand_expr g e in
    let o = out_at e b1 v1 b2 v2 y p g (longer v v1 a.types h.made) i in
    one_last (a.before ++ z.before) (a.types ++ z.types) (update_of (target_with t a.exprs) op ty j (rest_of z e) s) r s b v b2 v2 (behind b b1 b2 a.before z.before h.set o.set) (behind v v1 v2 a.types z.types h.made o.made) (re ∙ (λ q. update_of ((te ∙ ap (target_with t) h.rest) q) op ty j (o.rest q) s))

pub array_some : (xs : List ArrayOf) (a : ℕ) (x : ArrayOf) → slice_get xs a ≡ Some x → x.ty ≡ array_type xs a
array_some [] a x e = absurd (none-some x e)
array_some (y ∷ ys) zero x e = let same : y ≡ x = cc in ap (λ (q : ArrayOf). q.ty) (sym same)
array_some (y ∷ ys) (suc a) x e = array_some ys a x e

pub array_none : (xs : List ArrayOf) (a : ℕ) → slice_get xs a ≡ None → I32 ≡ array_type xs a
array_none [] a e = refl
array_none (y ∷ ys) zero e = absurd (none-some y (sym e))
array_none (y ∷ ys) (suc a) e = array_none ys a e

-- ---- several statements, one by one

pub stmts_first : (all : Made) (b : List NormalStmt) (v : List Ty) → StmtsGoOn all all b v b v
stmts_first all b v = record { set = refl; made = refl }

pub stmts_next : (k : Typed) (xs : List TypedStmt) (i : ℕ) (x : TypedStmt) (all : Made) (b0 : List NormalStmt) (v0 : List Ty) (b : List NormalStmt) (v : List Ty) (b2 : List NormalStmt) (v2 : List Ty)
    → i < length xs → x ≡ get_or xs i x → StmtsGoOn (stmts_form k (length v) (drop i xs)) all b0 v0 b v → IsMade (stmt_form k (length v) x) b v b2 v2 → StmtsGoOn (stmts_form k (length v2) (drop (i + 1) xs)) all b0 v0 b2 v2
stmts_next k xs i x all b0 v0 b v b2 v2 h is g p =
    let m = stmt_form k (length v) x in
    let r = stmts_form k (length v + length m.types) (drop (i + 1) xs) in
    let now = subst (λ l. StmtsGoOn (stmts_form k (length v) l) all b0 v0 b v) (from_place xs i x h is) g in
    subst (λ n. StmtsGoOn (stmts_form k n (drop (i + 1) xs)) all b0 v0 b2 v2) (sym (longer v v2 m.types p.made)) (record {
      set = ap (λ l. l ++ r.stmts) p.set ∙ append_assoc b m.stmts r.stmts ∙ now.set;
      made = ap (λ l. l ++ r.types) p.made ∙ append_assoc v m.types r.types ∙ now.made;
    })

pub stmts_end : (k : Typed) (xs : List TypedStmt) (i n : ℕ) (all : Made) (b0 : List NormalStmt) (v0 : List Ty) (b : List NormalStmt) (v : List Ty) → length xs ≤ i → StmtsGoOn (stmts_form k n (drop i xs)) all b0 v0 b v → IsMade all b0 v0 b v
stmts_end k xs i n all b0 v0 b v h g =
    let none : stmts_form k n (drop i xs) ≡ record { stmts = []; types = [] } = ap (stmts_form k n) (drop_all i xs h) in
    record {
      set = sym (append-nil b) ∙ ap (λ (m : Made). b ++ m.stmts) (sym none) ∙ g.set;
      made = sym (append-nil v) ∙ ap (λ (m : Made). v ++ m.types) (sym none) ∙ g.made;
    }

-- ---- whole kernels

pub all_room : (k : Typed) (v : List Ty) (xs : List TypedStmt) → Lawful k → typed_nodes k < 2 ^ 30 → v ≡ k.vars → xs ≡ k.body → HasRoom v (typed_stmts_nodes xs)
all_room k v xs lawful few ve xe = omega (arith, few_vars k lawful, ap length ve, ap typed_stmts_nodes xe)

abbrev pub a_form : Typed → List ℕ → List Param → List Ty → List ArrayOf → List NormalStmt → Normal
a_form k name params vars arrays body = record { name = name; at = k.at; result = k.result; params = params; vars = vars; arrays = arrays; body = body }

pub form_made : (k : Typed) (v : List Ty) (xs : List TypedStmt) (b0 b1 : List NormalStmt) (v1 : List Ty) (name : List ℕ) (params : List Param) (arrays : List ArrayOf) → b0 ≡ [] → v ≡ k.vars → xs ≡ k.body → IsMade (stmts_form k (length v) xs) b0 v b1 v1 → name ≡ k.name → params ≡ k.params → arrays ≡ k.arrays
    → a_form k name params v1 arrays b1 ≡ normal_form k
form_made k v xs b0 b1 v1 name params arrays be ve xe h ne pe ae =
    let m = body_form k in
    let same : stmts_form k (length v) xs ≡ m = ap (λ l. stmts_form k (length l) xs) ve ∙ ap (λ l. stmts_form k (length k.vars) l) xe in
    let body : b1 ≡ m.stmts = h.set ∙ ap (λ l. l ++ (stmts_form k (length v) xs).stmts) be ∙ ap (λ (z : Made). z.stmts) same in
    let vars : v1 ≡ k.vars ++ m.types = h.made ∙ ap (λ l. l ++ (stmts_form k (length v) xs).types) ve ∙ ap (λ (z : Made). k.vars ++ z.types) same in
    ap (λ z. a_form k z params v1 arrays b1) ne ∙ ap (λ z. a_form k k.name z v1 arrays b1) pe ∙ ap (λ z. a_form k k.name k.params z arrays b1) vars ∙ ap (λ z. a_form k k.name k.params (k.vars ++ m.types) z b1) ae ∙ ap (a_form k k.name k.params (k.vars ++ m.types) k.arrays) body
