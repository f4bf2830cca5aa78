-- What a part asks follows from what the whole asks: its numbers fit, and there is room for what it makes.
use Rattle.std.proofs.Common.{◌≡◌, ℕ, ◌+◌, ◌≤◌, List, [], ◌∷◌, ◌++◌, length, take, refl, sym, ◌∙◌, ap, subst, arith, length-append, Option, Some, None}
use Rattle.std.specs.Prelude.{slice_get}
use Rattle.el_base.specs.declared.span.Span.{Span}
use Rattle.el_base.specs.declared.ty.Ty.{Ty}
use Rattle.el_base.specs.Limits.{IsNumbered}
use Rattle.c_ast.specs.declared.typed.TypedExpr.{TypedExpr}
use Rattle.c_ast.specs.declared.program.ProgExpr.{ProgExpr}
use Rattle.c_ast.specs.declared.program.ProgExprKind.TheVariants as prog
use Rattle.c_ast.specs.declared.program.ProgExprKind.TheBlock.{hidden-the_row-ProgExpr-0}
use Rattle.c_ast.specs.declared.program.ProgStmt.{ProgStmt}
use Rattle.c_ast.specs.declared.program.ProgStmtKind.{back-ProgStmtKind-If-2}
use Rattle.c_ast.specs.declared.program.ProgStmtKind.TheVariants as act
use Rattle.c_ast.specs.declared.program.ProgStmtKind.TheBlock.{hidden-the_row-ProgStmt-0}
use Rattle.c_ast.specs.declared.program.TypedHelper.{TypedHelper}
use Rattle.c_calls.specs.Inlined.{Out, OutStmt, Written, written_by, writing}
use Rattle.c_calls.specs.Lawful.{row_length}
pub use Rattle.c_meaning.proofs.ListParts.{longer, from_place}
use Rattle.c_inline.specs.Making.{KindNumbers, RowNumbers, ExprNumbers, ExprsNumbers, OptionNumbers, ActNumbers, ActsNumbers, HeldActNumbers, StmtNumbers, StmtsNumbers, HeldNumbers, FewArguments, HasRoom, writings_of, out_of, outs_of, option_of, call_of, stmt_of, stmts_of, held_of, ExprFits, ExprsFit, OptionFits, CallFits, HelperFits, StmtFits, StmtsFit, HeldFits}
use Rattle.c_inline.proofs.Parts.{out_element, out_call, stmt_block, stmt_for}
use Rattle.c_inline.proofs.Tables.{writing_at, below_numbers}
use Rattle.c_calls.proofs.TreeRows.{prog_expr_rows, prog_stmt_rows}

-- ---- room

first_room : (v ts us : List Ty) → HasRoom v (length (ts ++ us)) → HasRoom v (length ts)
first_room v ts us room = omega (arith, room, length-append ts us)

-- what is numbered behind types that were made
second_room : (v v1 ts : List Ty) (more : ℕ → List Ty) → v1 ≡ v ++ ts → HasRoom v (length (ts ++ more (length v + length ts))) → HasRoom v1 (length (more (length v1)))
second_room v v1 ts more made room =
    let l = longer v v1 ts made in
    omega (arith, room, l, ap (λ n. length (more n)) l, length-append ts (more (length v + length ts)))

-- ---- numbers

row_numbers : (hs : List TypedHelper) (b : ℕ) (es : List ProgExpr) → RowNumbers hs b (hidden-the_row-ProgExpr-0 es) → ExprsNumbers hs b es
unfolding prog_expr_rows
row_numbers hs b [] h = tt
row_numbers hs b (e ∷ es) h = (h.0, row_numbers hs b es h.1)

row_long : (es : List ProgExpr) → row_length (hidden-the_row-ProgExpr-0 es) ≡ length es
unfolding prog_expr_rows
row_long [] = refl
row_long (e ∷ es) = omega (arith, row_long es)

n_element : (hs : List TypedHelper) (b : ℕ) (e : ProgExpr) (a : ℕ) (es : List ProgExpr) → e.kind ≡ prog.Element a es → ExprNumbers hs b e → ExprsNumbers hs b es
n_element hs b e a es is n = unfold prog_expr_rows in row_numbers hs b es (subst (KindNumbers hs b) is n)

n_call : (hs : List TypedHelper) (b : ℕ) (e : ProgExpr) (h : ℕ) (es : List ProgExpr) → e.kind ≡ prog.Call h es → ExprNumbers hs b e → FewArguments (slice_get hs h) (length es) × ExprsNumbers hs b es
n_call hs b e h es is n = unfold prog_expr_rows in let m = subst (KindNumbers hs b) is n in (subst (FewArguments (slice_get hs h)) (row_long es) m.0, row_numbers hs b es m.1)

acts_numbers : (hs : List TypedHelper) (b : ℕ) (ss : List ProgStmt) → ActsNumbers hs b (hidden-the_row-ProgStmt-0 ss) → StmtsNumbers hs b ss
unfolding prog_stmt_rows
acts_numbers hs b [] h = tt
acts_numbers hs b (s ∷ ss) h = (h.0, acts_numbers hs b ss h.1)

held_numbers : (hs : List TypedHelper) (b : ℕ) (o : Option ProgStmt) → HeldActNumbers hs b (back-ProgStmtKind-If-2 o) → HeldNumbers hs b o
unfolding prog_stmt_rows
held_numbers hs b None h = tt
held_numbers hs b (Some s) h = h

n_block : (hs : List TypedHelper) (b : ℕ) (s : ProgStmt) (ss : List ProgStmt) → s.kind ≡ act.Block ss → StmtNumbers hs b s → StmtsNumbers hs b ss
n_block hs b s ss is n = unfold prog_stmt_rows in acts_numbers hs b ss (subst (ActNumbers hs b) is n)

n_for : (hs : List TypedHelper) (b : ℕ) (s : ProgStmt) (first : List ProgStmt) (e : Option ProgExpr) (o : Option ProgStmt) (y : ProgStmt) → s.kind ≡ act.For first e o y → StmtNumbers hs b s → StmtsNumbers hs b first × OptionNumbers hs b e × HeldNumbers hs b o × StmtNumbers hs b y
n_for hs b s first e o y is n = unfold prog_stmt_rows in let m = subst (ActNumbers hs b) is n in (acts_numbers hs b first m.0, m.1, held_numbers hs b o m.2, m.3)

-- ---- expressions

pub indices_fit : (hs : List TypedHelper) (b : ℕ) (v : List Ty) (e : ProgExpr) (a : ℕ) (es : List ProgExpr) → e.kind ≡ prog.Element a es → ExprFits hs b v e → ExprsFit hs b v es
indices_fit hs b v e a es is h = record { helpers = h.helpers; numbers = n_element hs b e a es is h.numbers; room = omega (arith, h.room, ap (λ (o : Out). length o.types) (out_element hs b (length v) e a es is)) }

room_out : (hs : List TypedHelper) (b : ℕ) (v : List Ty) (e : ProgExpr) (o : Out) → out_of hs b (length v) e ≡ o → ExprFits hs b v e → HasRoom v (length o.types)
room_out hs b v e o eq h = omega (arith, h.room, ap (λ (o : Out). length o.types) eq)

pub call_fits : (hs : List TypedHelper) (b : ℕ) (v : List Ty) (e : ProgExpr) (h : ℕ) (es : List ProgExpr) (s : Span) → e.kind ≡ prog.Call h es → s ≡ e.at → ExprFits hs b v e → CallFits hs b v h es s
call_fits hs b v e h es s is at f =
    let n = n_call hs b e h es is f.numbers in
    let o = outs_of hs b (length v) es in
    let w = call_of hs b (length v) h es e.at in
    record {
      helpers = f.helpers;
      few = n.0;
      numbers = n.1;
      room = omega (arith, room_out hs b v e _ (out_call hs b (length v) e h es is) f, length-append o.types w.types, ap (λ a. length (call_of hs b (length v) h es a).types) at);
    }

-- ---- calls

as_many : (hs : List TypedHelper) (b f : ℕ) (es : List ProgExpr) → length (outs_of hs b f es).exprs ≡ length es
as_many hs b f [] = refl
as_many hs b f (e ∷ es) = omega (arith, as_many hs b (f + length (out_of hs b f e).types) es)

pub written_is : (hs : List TypedHelper) (i : ℕ) (h : TypedHelper) (f : ℕ) (xs : List TypedExpr) (s : Span) → slice_get hs i ≡ Some h → written_by (slice_get (writings_of hs) i) f xs s ≡ writing (writings_of (take i hs)) h f xs s
written_is hs i h f xs s is = ap (λ o. written_by o f xs s) (writing_at hs i h is)

few_of : (o : Option TypedHelper) (h : TypedHelper) (n : ℕ) → o ≡ Some h → FewArguments o n → n ≤ length h.vars
few_of o h n is f = subst (λ o. FewArguments o n) is f

pub helper_fits : (hs below : List TypedHelper) (b : ℕ) (v v1 : List Ty) (i : ℕ) (h : TypedHelper) (es : List ProgExpr) (xs : List TypedExpr) (s : Span) → slice_get hs i ≡ Some h → below ≡ take i hs → CallFits hs b v i es s → v1 ≡ v ++ (outs_of hs b (length v) es).types → xs ≡ (outs_of hs b (length v) es).exprs
    → HelperFits below v1 h xs s
helper_fits hs below b v v1 i h es xs s is low f made eq =
    let o = outs_of hs b (length v) es in
    let l = longer v v1 o.types made in
    let w = writing (writings_of (take i hs)) h in
    let same : length (w (length v1) xs s).types ≡ length (call_of hs b (length v) i es s).types =
    ap (λ n. length (w n xs s).types) l ∙ ap (λ z. length (w (length v + length o.types) z s).types) eq ∙ ap (λ (z : Written). length z.types) (sym (written_is hs i h (length v + length o.types) o.exprs s is)) in
    subst (λ l. HelperFits l v1 h xs s) (sym low) (record {
      helpers = below_numbers hs i f.helpers;
      numbers = f.helpers i h is;
      args = omega (arith, few_of (slice_get hs i) h (length es) is f.few, ap length eq, as_many hs b (length v) es);
      room = omega (arith, f.room, l, same);
    })

-- ---- the block of a call

abbrev pub own_types : List Ty → TypedHelper → List Ty
own_types v h = (v ++ h.vars) ++ h.result ∷ []

written_types : List TypedHelper → TypedHelper → ℕ → ℕ → List Ty
written_types hs h b n = let i = stmts_of hs b n h.body in i.types ++ (out_of hs b (n + length i.types) h.value).types

own_long : (v : List Ty) (h : TypedHelper) → length (own_types v h) ≡ length v + length h.vars + 1
own_long v h = omega (arith, length-append (v ++ h.vars) (h.result ∷ []), length-append v h.vars)

pub base_numbered : (hs : List TypedHelper) (v : List Ty) (h : TypedHelper) (xs : List TypedExpr) (s : Span) → HelperFits hs v h xs s → IsNumbered (length v + length h.vars)
base_numbered hs v h xs s f =
    let i = stmts_of hs (length v) (length v + length h.vars + 1) h.body in
    let o = out_of hs (length v) (length v + length h.vars + 1 + length i.types) h.value in
    omega (arith, f.room, length-append h.vars (h.result ∷ (i.types ++ o.types)))

block_room : (hs : List TypedHelper) (v : List Ty) (h : TypedHelper) (xs : List TypedExpr) (s : Span) → HelperFits hs v h xs s → HasRoom (own_types v h) (length (written_types hs h (length v) (length (own_types v h))))
unfolding written_types
block_room hs v h xs s f =
    let n = length v + length h.vars + 1 in
    let i = stmts_of hs (length v) n h.body in
    let o = out_of hs (length v) (n + length i.types) h.value in
    let e : length (own_types v h) ≡ n = own_long v h in
    omega (arith, f.room, length-append h.vars (h.result ∷ (i.types ++ o.types)), e, ap (λ m. length (written_types hs h (length v) m)) e)

pub body_fits : (hs : List TypedHelper) (b : ℕ) (v v1 : List Ty) (h : TypedHelper) (ss : List ProgStmt) (xs : List TypedExpr) (s : Span) → HelperFits hs v h xs s → b ≡ length v → v1 ≡ own_types v h → ss ≡ h.body → StmtsFit hs b v1 ss
unfolding written_types
body_fits hs b v v1 h ss xs s f eb ev es =
    let i = stmts_of hs (length v) (length (own_types v h)) h.body in
    let o = out_of hs (length v) (length (own_types v h) + length i.types) h.value in
    let there : StmtsFit hs (length v) (own_types v h) h.body = record { helpers = f.helpers; numbers = (f.numbers (length v) (base_numbered hs v h xs s f)).0; room = first_room (own_types v h) i.types o.types (block_room hs v h xs s f) } in
    subst (λ n. StmtsFit hs n v1 ss) (sym eb) (subst (λ l. StmtsFit hs (length v) l ss) (sym ev) (subst (StmtsFit hs (length v) (own_types v h)) (sym es) there))

pub value_fits : (hs : List TypedHelper) (b : ℕ) (v v1 v2 : List Ty) (h : TypedHelper) (ss : List ProgStmt) (xs : List TypedExpr) (s : Span) → HelperFits hs v h xs s → b ≡ length v → v1 ≡ own_types v h → ss ≡ h.body → v2 ≡ v1 ++ (stmts_of hs b (length v1) ss).types → ExprFits hs b v2 h.value
unfolding written_types
value_fits hs b v v1 v2 h ss xs s f eb ev es made =
    let i = stmts_of hs (length v) (length (own_types v h)) h.body in
    let m : v2 ≡ own_types v h ++ i.types =
    made ∙ ap (λ n. v1 ++ (stmts_of hs n (length v1) ss).types) eb ∙ ap (λ l. l ++ (stmts_of hs (length v) (length l) ss).types) ev ∙ ap (λ l. own_types v h ++ (stmts_of hs (length v) (length (own_types v h)) l).types) es in
    let there : ExprFits hs (length v) v2 h.value =
    record { helpers = f.helpers; numbers = (f.numbers (length v) (base_numbered hs v h xs s f)).1; room = second_room (own_types v h) v2 i.types (λ n. (out_of hs (length v) n h.value).types) m (block_room hs v h xs s f) } in
    subst (λ n. ExprFits hs n v2 h.value) (sym eb) there

-- ---- statements

room_stmt : (hs : List TypedHelper) (b : ℕ) (v : List Ty) (s : ProgStmt) (o : OutStmt) → stmt_of hs b (length v) s ≡ o → StmtFits hs b v s → HasRoom v (length o.types)
room_stmt hs b v s o eq h = omega (arith, h.room, ap (λ (o : OutStmt). length o.types) eq)

pub inside_fits : (hs : List TypedHelper) (b : ℕ) (v : List Ty) (s : ProgStmt) (ss : List ProgStmt) → s.kind ≡ act.Block ss → StmtFits hs b v s → StmtsFit hs b v ss
inside_fits hs b v s ss is h = record { helpers = h.helpers; numbers = n_block hs b s ss is h.numbers; room = room_stmt hs b v s _ (stmt_block hs b (length v) s ss is) h }

abbrev last_types : List TypedHelper → ℕ → Option ProgStmt → ProgStmt → ℕ → List Ty
last_types hs b o y n = let p = held_of hs b n o in p.types ++ (stmt_of hs b (n + length p.types) y).types

abbrev rest_types : List TypedHelper → ℕ → Option ProgExpr → Option ProgStmt → ProgStmt → ℕ → List Ty
rest_types hs b e o y n = let c = option_of hs b n e in c.types ++ last_types hs b o y (n + length c.types)

module _ (hs : List TypedHelper) (b : ℕ) (v : List Ty) (s : ProgStmt) (first : List ProgStmt) (e : Option ProgExpr) (o : Option ProgStmt) (y : ProgStmt) (is : s.kind ≡ act.For first e o y) (h : StmtFits hs b v s) where
  pub first_fits : StmtsFit hs b v first
  first_fits =
      let i = stmts_of hs b (length v) first in
      record { helpers = h.helpers; numbers = (n_for hs b s first e o y is h.numbers).0; room = first_room v i.types (rest_types hs b e o y (length v + length i.types)) (room_stmt hs b v s _ (stmt_for hs b (length v) s first e o y is) h) }

  module _ (v1 : List Ty) (made : v1 ≡ v ++ (stmts_of hs b (length v) first).types) where
    room1 : HasRoom v1 (length (rest_types hs b e o y (length v1)))
    room1 = second_room v v1 (stmts_of hs b (length v) first).types (rest_types hs b e o y) made (room_stmt hs b v s _ (stmt_for hs b (length v) s first e o y is) h)

    pub for_cond_fits : OptionFits hs b v1 e
    for_cond_fits =
        let c = option_of hs b (length v1) e in
        record { helpers = h.helpers; numbers = (n_for hs b s first e o y is h.numbers).1; room = first_room v1 c.types (last_types hs b o y (length v1 + length c.types)) room1 }

    module _ (v2 : List Ty) (made2 : v2 ≡ v1 ++ (option_of hs b (length v1) e).types) where
      room2 : HasRoom v2 (length (last_types hs b o y (length v2)))
      room2 = second_room v1 v2 (option_of hs b (length v1) e).types (last_types hs b o y) made2 room1

      pub for_step_fits : HeldFits hs b v2 o
      for_step_fits =
          let p = held_of hs b (length v2) o in
          record { helpers = h.helpers; numbers = (n_for hs b s first e o y is h.numbers).2; room = first_room v2 p.types (stmt_of hs b (length v2 + length p.types) y).types room2 }

      pub for_body_fits : (v3 : List Ty) → v3 ≡ v2 ++ (held_of hs b (length v2) o).types → StmtFits hs b v3 y
      for_body_fits v3 made3 = record { helpers = h.helpers; numbers = (n_for hs b s first e o y is h.numbers).3; room = second_room v2 v3 (held_of hs b (length v2) o).types (λ n. (stmt_of hs b n y).types) made3 room2 }
