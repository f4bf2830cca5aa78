-- What is made of expressions and statements, by their parts as the code takes them apart.
use Rattle.std.proofs.Common.{◌≡◌, ℕ, ◌+◌, List, [], ◌∷◌, ◌++◌, length, refl, sym, ◌∙◌, ap}
use Rattle.std.specs.Prelude.{Bool, slice_get, Option, Some, None}
use Rattle.el_base.specs.declared.span.Span.{Span}
use Rattle.el_base.specs.declared.ty.Ty.{Ty}
use Rattle.c_ast.specs.declared.tree.Unary.{Unary}
use Rattle.c_ast.specs.declared.tree.Binary.{Binary}
use Rattle.c_ast.specs.declared.typed.TypedExprKind.TheVariants as expr
use Rattle.c_ast.specs.declared.typed.TypedStmtKind.TheVariants as stmt
use Rattle.c_ast.specs.Casts.{of_type, act_at}
use Rattle.c_ast.specs.declared.program.ProgExpr.{ProgExpr}
use Rattle.c_ast.specs.declared.program.ProgExprKind.TheVariants as prog
use Rattle.c_ast.specs.declared.program.ProgExprKind.TheBlock.{hidden-the_row-ProgExpr-0}
use Rattle.c_ast.specs.declared.program.ProgTarget.{ProgTarget}
use Rattle.c_ast.specs.declared.program.ProgStmt.{ProgStmt}
use Rattle.c_ast.specs.declared.program.ProgStmtKind.{back-ProgStmtKind-If-2}
use Rattle.c_ast.specs.declared.program.ProgStmtKind.TheVariants as act
use Rattle.c_ast.specs.declared.program.ProgStmtKind.TheBlock.{hidden-the_row-ProgStmt-0}
use Rattle.c_ast.specs.declared.program.TypedHelper.{TypedHelper}
use Rattle.c_ast.specs.declared.typed.TypedStmtKind.{TypedStmtKind}
use Rattle.c_calls.specs.Inlined.{Out, Outs, Writing, written_by, OutStmt, OutStmts, OutHeld, whole, with_call, inline_expr, inline_row, inline_of, inline_all, rest_of, inline_stmt, inline_stmts, inline_held, inline_list, behind, target_to}
use Rattle.c_inline.specs.Making.{writings_of, out_of, outs_of, option_of, call_of, stmt_of, stmts_of, held_of}
use Rattle.c_calls.proofs.TreeRows.{prog_expr_rows, prog_stmt_rows}

-- ---- expressions

abbrev pub element_out : ℕ → Outs → Out
element_out a o = record { before = o.before; kind = expr.Element a o.exprs; types = o.types }

abbrev pub unary_out : Unary → Ty → Span → Out → Out
unary_out op t at o = record { before = o.before; kind = expr.Unary op (of_type o.kind t at); types = o.types }

abbrev pub cast_out : Bool → Ty → Span → Out → Out
cast_out implied t at o = record { before = o.before; kind = expr.Cast implied (of_type o.kind t at); types = o.types }

abbrev pub two_out : List TypedHelper → ℕ → ℕ → Binary → ProgExpr → ProgExpr → Out
two_out hs b f op x y =
    let o = out_of hs b f x in
    let o2 = out_of hs b (f + length o.types) y in
    record { before = o.before ++ o2.before; kind = expr.Binary op (rest_of o x) (rest_of o2 y); types = o.types ++ o2.types }

abbrev pub three_out : List TypedHelper → ℕ → ℕ → ProgExpr → ProgExpr → ProgExpr → Out
three_out hs b f x y z =
    let o = out_of hs b f x in
    let o2 = out_of hs b (f + length o.types) y in
    let o3 = out_of hs b (f + length o.types + length o2.types) z in
    record { before = o.before ++ (o2.before ++ o3.before); kind = expr.Choose (rest_of o x) (rest_of o2 y) (rest_of o3 z); types = o.types ++ (o2.types ++ o3.types) }

row_all : (ws : List Writing) (b f : ℕ) (es : List ProgExpr) → inline_row ws b f (hidden-the_row-ProgExpr-0 es) ≡ inline_all ws b f es
unfolding prog_expr_rows
row_all ws b f [] = refl
row_all ws b f (e ∷ es) =
    let o = inline_of ws b f e in
    ap (λ (r : Outs). record { before = o.before ++ r.before; exprs = of_type o.kind e.ty e.at ∷ r.exprs; types = o.types ++ r.types }) (row_all ws b (f + length o.types) es)

pub out_number : (hs : List TypedHelper) (b f : ℕ) (e : ProgExpr) (n : ℕ) → e.kind ≡ prog.Number n → out_of hs b f e ≡ whole (expr.Number n)
out_number hs b f e n is = ap (λ k. inline_expr (writings_of hs) b f k e.at) is

pub out_var : (hs : List TypedHelper) (b f : ℕ) (e : ProgExpr) (v : ℕ) → e.kind ≡ prog.Var v → out_of hs b f e ≡ whole (expr.Var (b + v))
out_var hs b f e v is = ap (λ k. inline_expr (writings_of hs) b f k e.at) is

pub out_element : (hs : List TypedHelper) (b f : ℕ) (e : ProgExpr) (a : ℕ) (es : List ProgExpr) → e.kind ≡ prog.Element a es → out_of hs b f e ≡ element_out a (outs_of hs b f es)
out_element hs b f e a es is = unfold prog_expr_rows in ap (λ k. inline_expr (writings_of hs) b f k e.at) is ∙ ap (element_out a) (row_all (writings_of hs) b f es)

pub out_unary : (hs : List TypedHelper) (b f : ℕ) (e : ProgExpr) (op : Unary) (x : ProgExpr) → e.kind ≡ prog.Unary op x → out_of hs b f e ≡ unary_out op x.ty x.at (out_of hs b f x)
out_unary hs b f e op x is = unfold prog_expr_rows in ap (λ k. inline_expr (writings_of hs) b f k e.at) is

pub out_cast : (hs : List TypedHelper) (b f : ℕ) (e : ProgExpr) (implied : Bool) (x : ProgExpr) → e.kind ≡ prog.Cast implied x → out_of hs b f e ≡ cast_out implied x.ty x.at (out_of hs b f x)
out_cast hs b f e implied x is = unfold prog_expr_rows in ap (λ k. inline_expr (writings_of hs) b f k e.at) is

pub out_binary : (hs : List TypedHelper) (b f : ℕ) (e : ProgExpr) (op : Binary) (x y : ProgExpr) → e.kind ≡ prog.Binary op x y → out_of hs b f e ≡ two_out hs b f op x y
out_binary hs b f e op x y is = unfold prog_expr_rows in ap (λ k. inline_expr (writings_of hs) b f k e.at) is

pub out_choice : (hs : List TypedHelper) (b f : ℕ) (e x y z : ProgExpr) → e.kind ≡ prog.Choose x y z → out_of hs b f e ≡ three_out hs b f x y z
out_choice hs b f e x y z is = unfold prog_expr_rows in ap (λ k. inline_expr (writings_of hs) b f k e.at) is

pub out_call : (hs : List TypedHelper) (b f : ℕ) (e : ProgExpr) (h : ℕ) (es : List ProgExpr) → e.kind ≡ prog.Call h es → out_of hs b f e ≡ with_call (outs_of hs b f es) (call_of hs b f h es e.at)
out_call hs b f e h es is = unfold prog_expr_rows in
    ap (λ k. inline_expr (writings_of hs) b f k e.at) is ∙ ap (λ (o : Outs). with_call o (written_by (slice_get (writings_of hs) h) (f + length o.types) o.exprs e.at)) (row_all (writings_of hs) b f es)

-- ---- statements

stmts_all : (ws : List Writing) (b f : ℕ) (ss : List ProgStmt) → inline_stmts ws b f (hidden-the_row-ProgStmt-0 ss) ≡ inline_list ws b f ss
unfolding prog_stmt_rows
stmts_all ws b f [] = refl
stmts_all ws b f (s ∷ ss) =
    let y = inline_stmt ws b f s.kind s.at in
    ap (λ (r : OutStmts). record { stmts = act_at y.kind s.at ∷ r.stmts; types = y.types ++ r.types }) (stmts_all ws b (f + length y.types) ss)

held_is : (hs : List TypedHelper) (b f : ℕ) (o : Option ProgStmt) → inline_held (writings_of hs) b f (back-ProgStmtKind-If-2 o) ≡ held_of hs b f o
unfolding prog_stmt_rows
held_is hs b f None = refl
held_is hs b f (Some s) = refl

abbrev pub block_stmt : OutStmts → OutStmt
block_stmt o = record { kind = stmt.Block o.stmts; types = o.types }

pub stmt_block : (hs : List TypedHelper) (b f : ℕ) (s : ProgStmt) (ss : List ProgStmt) → s.kind ≡ act.Block ss → stmt_of hs b f s ≡ block_stmt (stmts_of hs b f ss)
stmt_block hs b f s ss is = unfold prog_stmt_rows in ap (λ k. inline_stmt (writings_of hs) b f k s.at) is ∙ ap block_stmt (stmts_all (writings_of hs) b f ss)

abbrev pub declare_stmt : List TypedHelper → ℕ → ℕ → ℕ → Option ProgExpr → Span → OutStmt
declare_stmt hs b f v e at = let o = option_of hs b f e in record { kind = behind o.before (stmt.Declare (b + v) o.expr) at; types = o.types }

pub stmt_declare : (hs : List TypedHelper) (b f : ℕ) (s : ProgStmt) (v : ℕ) (e : Option ProgExpr) → s.kind ≡ act.Declare v e → stmt_of hs b f s ≡ declare_stmt hs b f v e s.at
stmt_declare hs b f s v e is = ap (λ k. inline_stmt (writings_of hs) b f k s.at) is

abbrev pub return_stmt : List TypedHelper → ℕ → ℕ → Option ProgExpr → Span → OutStmt
return_stmt hs b f e at = let o = option_of hs b f e in record { kind = behind o.before (stmt.Return o.expr) at; types = o.types }

pub stmt_return : (hs : List TypedHelper) (b f : ℕ) (s : ProgStmt) (e : Option ProgExpr) → s.kind ≡ act.Return e → stmt_of hs b f s ≡ return_stmt hs b f e s.at
stmt_return hs b f s e is = ap (λ k. inline_stmt (writings_of hs) b f k s.at) is

abbrev pub assign_stmt : List TypedHelper → ℕ → ℕ → ProgTarget → Option Binary → ProgExpr → Span → OutStmt
assign_stmt hs b f t op e at =
    let i = outs_of hs b f t.indices in
    let o = out_of hs b (f + length i.types) e in
    record { kind = behind (i.before ++ o.before) (stmt.Assign (target_to b t i.exprs) op (rest_of o e)) at; types = i.types ++ o.types }

pub stmt_assign : (hs : List TypedHelper) (b f : ℕ) (s : ProgStmt) (t : ProgTarget) (op : Option Binary) (e : ProgExpr) → s.kind ≡ act.Assign t op e → stmt_of hs b f s ≡ assign_stmt hs b f t op e s.at
stmt_assign hs b f s t op e is = ap (λ k. inline_stmt (writings_of hs) b f k s.at) is

abbrev pub step_stmt : List TypedHelper → ℕ → ℕ → ProgTarget → Bool → Span → OutStmt
step_stmt hs b f t up at = let i = outs_of hs b f t.indices in record { kind = behind i.before (stmt.Step (target_to b t i.exprs) up) at; types = i.types }

pub stmt_step : (hs : List TypedHelper) (b f : ℕ) (s : ProgStmt) (t : ProgTarget) (up : Bool) → s.kind ≡ act.Step t up → stmt_of hs b f s ≡ step_stmt hs b f t up s.at
stmt_step hs b f s t up is = ap (λ k. inline_stmt (writings_of hs) b f k s.at) is

abbrev pub if_stmt : List TypedHelper → ℕ → ℕ → ProgExpr → ProgStmt → Option ProgStmt → Span → OutStmt
if_stmt hs b f e y o at =
    let c = out_of hs b f e in
    let m = stmt_of hs b (f + length c.types) y in
    let n = held_of hs b (f + length c.types + length m.types) o in
    record { kind = behind c.before (stmt.If (rest_of c e) (act_at m.kind y.at) n.stmt) at; types = c.types ++ (m.types ++ n.types) }

pub stmt_if : (hs : List TypedHelper) (b f : ℕ) (s : ProgStmt) (e : ProgExpr) (y : ProgStmt) (o : Option ProgStmt) → s.kind ≡ act.If e y o → stmt_of hs b f s ≡ if_stmt hs b f e y o s.at
stmt_if hs b f s e y o is = unfold prog_stmt_rows in
    let c = out_of hs b f e in
    let m = stmt_of hs b (f + length c.types) y in
    ap (λ k. inline_stmt (writings_of hs) b f k s.at) is
    ∙ ap (λ (n : OutHeld). record { kind = behind c.before (stmt.If (rest_of c e) (act_at m.kind y.at) n.stmt) s.at; types = c.types ++ (m.types ++ n.types) }) (held_is hs b (f + length c.types + length m.types) o)

abbrev pub while_stmt : List TypedHelper → ℕ → ℕ → ProgExpr → ProgStmt → OutStmt
while_stmt hs b f e y =
    let c = out_of hs b f e in
    let m = stmt_of hs b (f + length c.types) y in
    record { kind = stmt.While (rest_of c e) (act_at m.kind y.at); types = c.types ++ m.types }

pub stmt_while : (hs : List TypedHelper) (b f : ℕ) (s : ProgStmt) (e : ProgExpr) (y : ProgStmt) → s.kind ≡ act.While e y → stmt_of hs b f s ≡ while_stmt hs b f e y
stmt_while hs b f s e y is = unfold prog_stmt_rows in ap (λ k. inline_stmt (writings_of hs) b f k s.at) is

abbrev pub do_stmt : List TypedHelper → ℕ → ℕ → ProgStmt → ProgExpr → OutStmt
do_stmt hs b f y e =
    let m = stmt_of hs b f y in
    let c = out_of hs b (f + length m.types) e in
    record { kind = stmt.DoWhile (act_at m.kind y.at) (rest_of c e); types = m.types ++ c.types }

pub stmt_do : (hs : List TypedHelper) (b f : ℕ) (s : ProgStmt) (y : ProgStmt) (e : ProgExpr) → s.kind ≡ act.DoWhile y e → stmt_of hs b f s ≡ do_stmt hs b f y e
stmt_do hs b f s y e is = unfold prog_stmt_rows in ap (λ k. inline_stmt (writings_of hs) b f k s.at) is

abbrev for_by : List TypedHelper → ℕ → ℕ → OutStmts → Option ProgExpr → OutHeld → ProgStmt → ℕ → OutStmt
for_by hs b g i e p y n =
    let c = option_of hs b g e in
    let m = stmt_of hs b n y in
    record { kind = stmt.For i.stmts c.expr p.stmt (act_at m.kind y.at); types = i.types ++ (c.types ++ (p.types ++ m.types)) }

abbrev pub for_stmt : List TypedHelper → ℕ → ℕ → List ProgStmt → Option ProgExpr → Option ProgStmt → ProgStmt → OutStmt
for_stmt hs b f first e o y =
    let i = stmts_of hs b f first in
    let g = f + length i.types in
    let h = g + length (option_of hs b g e).types in
    let p = held_of hs b h o in
    for_by hs b g i e p y (h + length p.types)

pub stmt_for : (hs : List TypedHelper) (b f : ℕ) (s : ProgStmt) (first : List ProgStmt) (e : Option ProgExpr) (o : Option ProgStmt) (y : ProgStmt) → s.kind ≡ act.For first e o y → stmt_of hs b f s ≡ for_stmt hs b f first e o y
stmt_for hs b f s first e o y is = unfold prog_stmt_rows in
    let i = stmts_of hs b f first in
    let g = f + length i.types in
    let h = g + length (option_of hs b g e).types in
    ap (λ k. inline_stmt (writings_of hs) b f k s.at) is
    ∙ ap (λ (i : OutStmts). let g = f + length i.types in let h = g + length (option_of hs b g e).types in let p = inline_held (writings_of hs) b h (back-ProgStmtKind-If-2 o) in for_by hs b g i e p y (h + length p.types)) (stmts_all (writings_of hs) b f first)
    ∙ ap (λ (p : OutHeld). for_by hs b g i e p y (h + length p.types)) (held_is hs b h o)

abbrev pub alone : TypedStmtKind → OutStmt
alone kind = record { kind = kind; types = [] }

pub stmt_break : (hs : List TypedHelper) (b f : ℕ) (s : ProgStmt) → s.kind ≡ act.Break → stmt_of hs b f s ≡ alone stmt.Break
stmt_break hs b f s is = ap (λ k. inline_stmt (writings_of hs) b f k s.at) is

pub stmt_continue : (hs : List TypedHelper) (b f : ℕ) (s : ProgStmt) → s.kind ≡ act.Continue → stmt_of hs b f s ≡ alone stmt.Continue
stmt_continue hs b f s is = ap (λ k. inline_stmt (writings_of hs) b f k s.at) is

pub stmt_empty : (hs : List TypedHelper) (b f : ℕ) (s : ProgStmt) → s.kind ≡ act.Empty → stmt_of hs b f s ≡ alone stmt.Empty
stmt_empty hs b f s is = ap (λ k. inline_stmt (writings_of hs) b f k s.at) is

-- ---- kinds by equal parts

pub is_element : (e : ProgExpr) (a : ℕ) (es fs : List ProgExpr) → e.kind ≡ prog.Element a es → fs ≡ es → e.kind ≡ prog.Element a fs
is_element e a es fs is eq = is ∙ ap (prog.Element a) (sym eq)

pub is_binary : (e : ProgExpr) (op : Binary) (x y x2 y2 : ProgExpr) → e.kind ≡ prog.Binary op x y → x2 ≡ x → y2 ≡ y → e.kind ≡ prog.Binary op x2 y2
is_binary e op x y x2 y2 is ex ey = is ∙ ap (λ z. prog.Binary op z y) (sym ex) ∙ ap (prog.Binary op x2) (sym ey)

pub is_choice : (e x y z x2 y2 z2 : ProgExpr) → e.kind ≡ prog.Choose x y z → x2 ≡ x → y2 ≡ y → z2 ≡ z → e.kind ≡ prog.Choose x2 y2 z2
is_choice e x y z x2 y2 z2 is ex ey ez = is ∙ ap (λ a. prog.Choose a y z) (sym ex) ∙ ap (λ a. prog.Choose x2 a z) (sym ey) ∙ ap (prog.Choose x2 y2) (sym ez)

pub is_call : (e : ProgExpr) (h : ℕ) (es fs : List ProgExpr) → e.kind ≡ prog.Call h es → fs ≡ es → e.kind ≡ prog.Call h fs
is_call e h es fs is eq = is ∙ ap (prog.Call h) (sym eq)

pub is_block : (s : ProgStmt) (ss zs : List ProgStmt) → s.kind ≡ act.Block ss → zs ≡ ss → s.kind ≡ act.Block zs
is_block s ss zs is eq = is ∙ ap act.Block (sym eq)
