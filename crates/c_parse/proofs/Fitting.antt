-- The tree of tokens whose numbers lie in the ranges of their types has such numbers.
use Rattle.std.proofs.Common.{ℕ, suc, List, [], ◌∷◌, ◌++◌, Option, Some, None, All, Bool, false}
use Rattle.std.proofs.lemmas.List.Elements.{All-nil, All-cons, All-head, All-tail, All-append}
use denote.Hole.Carrier.{hidden}
use Rattle.el_base.specs.declared.span.Span.{Span}
use Rattle.el_base.specs.declared.ty.Ty.{Ty}
use Rattle.c_ast.specs.declared.token.Token.{Token}
use Rattle.c_ast.specs.declared.mark.Mark.{Mark}
use Rattle.c_ast.specs.declared.mark.Mark.TheVariants as mark
use Rattle.c_ast.specs.declared.key.Key.TheVariants as key
use Rattle.c_ast.specs.declared.tree.Target.{Target}
use Rattle.c_ast.specs.declared.tree.Expr.{Expr}
use Rattle.c_ast.specs.declared.tree.ExprKind.TheBlock.{shape-the_row-Expr-0, hidden-the_row-Expr-0, shape-the_row-Expr-1, hidden-the_row-Expr-1}
use Rattle.c_ast.specs.declared.tree.Stmt.{Stmt}
use Rattle.c_ast.specs.declared.tree.StmtKind.TheBlock.{shape-the_row-Stmt-0, hidden-the_row-Stmt-0, shape-the_row-Stmt-1, hidden-the_row-Stmt-1, back-StmtKind-If-2}
use Rattle.c_ast.specs.declared.tree.Tree.{Tree}
use Rattle.c_ast.specs.Derives.{marked, keyed, named, between, if_tokens, do_tokens, DerivesExpr, DerivesIndices, DerivesArgs, DerivesMoreArgs, DerivesTarget, DerivesSimple, DerivesOption, DerivesStep, DerivesDeclared, DerivesDeclarators, DerivesDeclaration, DerivesFirst, DerivesStmt, DerivesItems, Derives}
use Rattle.c_parse.proofs.EachToken.{Each, each_of, each_front, each_back, each_inside}
use Rattle.c_ast.specs.Constants.{NumberFits, NumbersFitRow, NumbersFitExpr, NumbersFitOption, NumbersFitTarget, NumbersFitStmt, NumbersFitStmts, NumbersFitHeld, NumbersFit}

-- ---- tokens

abbrev pub AreFitting : List Token → Type 0
AreFitting ts = Each NumberFits ts

front : (ts us : List Token) → AreFitting (ts ++ us) → AreFitting ts
front ts us h = each_front NumberFits ts us h

back : (ts us : List Token) → AreFitting (ts ++ us) → AreFitting us
back ts us h = each_back NumberFits ts us h

inside : (m n : Mark) (s z : Span) (ts : List Token) → AreFitting (between m s ts n z) → AreFitting ts
inside m n s z ts h = each_inside NumberFits m n s z ts h

-- ---- expressions

row_fits : (es : List Expr) → All NumbersFitExpr es → NumbersFitRow (hidden-the_row-Expr-0 es)
unfolding shape-the_row-Expr-0 hidden-the_row-Expr-0 shape-the_row-Expr-1 hidden-the_row-Expr-1 hidden
row_fits [] h = tt
row_fits (e ∷ es) h = (All-head NumbersFitExpr e es h, row_fits es (All-tail NumbersFitExpr e es h))

mutual
  unfolding shape-the_row-Expr-0 hidden-the_row-Expr-0 shape-the_row-Expr-1 hidden-the_row-Expr-1 hidden

  pub expr_fits : (l : ℕ) (ts : List Token) (e : Expr) → DerivesExpr l ts e → AreFitting ts → NumbersFitExpr e
  expr_fits l ts e (DerivesExpr.tighter k us a below d) h = expr_fits (suc k) us a d h
  expr_fits l ts e (DerivesExpr.choice us ws xs q c a b x cond chosen other) h =
      let behind = back us (marked mark.Question q ∷ (ws ++ marked mark.Colon c ∷ xs)) h in (
        expr_fits 1 us a cond (front us (marked mark.Question q ∷ (ws ++ marked mark.Colon c ∷ xs)) h),
        expr_fits 0 ws b chosen (front ws (marked mark.Colon c ∷ xs) behind.1),
        expr_fits 0 xs x other (back ws (marked mark.Colon c ∷ xs) behind.1).1,
      )
  expr_fits l ts e (DerivesExpr.joined k m op us ws s a b operator left right) h =
      (expr_fits k us a left (front us (marked m s ∷ ws) h), expr_fits (suc k) ws b right (back us (marked m s ∷ ws) h).1)
  expr_fits l ts e (DerivesExpr.prefixed m op us s a sign d) h = expr_fits 11 us a d h.1
  expr_fits l ts e (DerivesExpr.cast us ws s z t a type d) h = expr_fits 11 ws a d (back (between mark.Open s us mark.Close z) ws h)
  expr_fits l ts e (DerivesExpr.number n t s) h = h.0
  expr_fits l ts e (DerivesExpr.name x s) h = tt
  expr_fits l ts e (DerivesExpr.element x s us a es d) h = row_fits (a ∷ es) (indices_fit us (a ∷ es) d h.1)
  expr_fits l ts e (DerivesExpr.call x s a z us es d) h = row_fits es (args_fit us es d (inside mark.Open mark.Close a z us h.1))
  expr_fits l ts e (DerivesExpr.parens us s z a d) h = expr_fits 0 us a d (inside mark.Open mark.Close s z us h)

  indices_fit : (ts : List Token) (es : List Expr) → DerivesIndices ts es → AreFitting ts → All NumbersFitExpr es
  indices_fit ts es DerivesIndices.no_more h = All-nil NumbersFitExpr
  indices_fit ts es (DerivesIndices.one_more us ws s z a more d ds) h =
      All-cons NumbersFitExpr a more (expr_fits 0 us a d (inside mark.OpenBracket mark.CloseBracket s z us (front (between mark.OpenBracket s us mark.CloseBracket z) ws h)))
      (indices_fit ws more ds (back (between mark.OpenBracket s us mark.CloseBracket z) ws h))

  args_fit : (ts : List Token) (es : List Expr) → DerivesArgs ts es → AreFitting ts → All NumbersFitExpr es
  args_fit ts es DerivesArgs.no_arguments h = All-nil NumbersFitExpr
  args_fit ts es (DerivesArgs.arguments us ws a more d ds) h = All-cons NumbersFitExpr a more (expr_fits 0 us a d (front us ws h)) (more_args_fit ws more ds (back us ws h))

  more_args_fit : (ts : List Token) (es : List Expr) → DerivesMoreArgs ts es → AreFitting ts → All NumbersFitExpr es
  more_args_fit ts es DerivesMoreArgs.no_further h = All-nil NumbersFitExpr
  more_args_fit ts es (DerivesMoreArgs.one_further us ws s a more d ds) h =
      All-cons NumbersFitExpr a more (expr_fits 0 us a d (front us ws h.1)) (more_args_fit ws more ds (back us ws h.1))

option_fits : (ts : List Token) (e : Option Expr) → DerivesOption ts e → AreFitting ts → NumbersFitOption e
option_fits ts e DerivesOption.absent h = tt
option_fits ts e (DerivesOption.present us a d) h = expr_fits 0 us a d h

-- ---- assignments, steps and declarations

target_fits : (ts : List Token) (t : Target) → DerivesTarget ts t → AreFitting ts → NumbersFitTarget t
target_fits ts t (DerivesTarget.target x s us es d) h = indices_fit us es d h.1

abbrev Fits : Stmt → Type 0
Fits s = NumbersFitStmt s.kind

simple_fits : (ts : List Token) (s : Stmt) → DerivesSimple ts s → AreFitting ts → Fits s
simple_fits ts s (DerivesSimple.assign us ws m p t op e to operator value) h =
    (target_fits us t to (front us (marked m p ∷ ws) h), expr_fits 0 ws e value (back us (marked m p ∷ ws) h).1)
simple_fits ts s (DerivesSimple.step_after us m p t up to step) h = target_fits us t to (front us (marked m p ∷ []) h)
simple_fits ts s (DerivesSimple.step_before us m p t up step to) h = target_fits us t to h.1

declared_fits : (t : Ty) (ts : List Token) (s : Stmt) → DerivesDeclared t ts s → AreFitting ts → Fits s
declared_fits t ts s (DerivesDeclared.without_value u x p) h = tt
declared_fits t ts s (DerivesDeclared.with_value u x p a us e d) h = expr_fits 0 us e d h.1.1

declarators_fit : (t : Ty) (ts : List Token) (ds : List Stmt) → DerivesDeclarators t ts ds → AreFitting ts → All Fits ds
declarators_fit t ts ds (DerivesDeclarators.last_one u us d one) h = All-cons Fits d [] (declared_fits u us d one h) (All-nil Fits)
declarators_fit t ts ds (DerivesDeclarators.one_more u us ws s d more one rest) h =
    All-cons Fits d more (declared_fits u us d one (front us (marked mark.Comma s ∷ ws) h)) (declarators_fit u ws more rest (back us (marked mark.Comma s ∷ ws) h).1)

declaration_fits : (ts : List Token) (ds : List Stmt) → DerivesDeclaration ts ds → AreFitting ts → All Fits ds
declaration_fits ts ds (DerivesDeclaration.declaration us ws z t more type names) h =
    declarators_fit t ws more names (front ws (marked mark.Semicolon z ∷ []) (back us (ws ++ marked mark.Semicolon z ∷ []) h))

first_fits : (ts : List Token) (ss : List Stmt) → DerivesFirst ts ss → AreFitting ts → All Fits ss
first_fits ts ss (DerivesFirst.nothing z) h = All-nil Fits
first_fits ts ss (DerivesFirst.simple us z s d) h = All-cons Fits s [] (simple_fits us s d (front us (marked mark.Semicolon z ∷ []) h)) (All-nil Fits)
first_fits ts ss (DerivesFirst.declares us ds d) h = declaration_fits us ds d h

-- a statement that may be absent
abbrev FitsIfAny : Option Stmt → Type 0
FitsIfAny None = Unit {0}
FitsIfAny (Some s) = Fits s

step_fits : (ts : List Token) (s : Option Stmt) → DerivesStep ts s → AreFitting ts → FitsIfAny s
step_fits ts s DerivesStep.absent h = tt
step_fits ts s (DerivesStep.present us a d) h = simple_fits us a d h

-- ---- statements

stmts_fit : (ss : List Stmt) → All Fits ss → NumbersFitStmts (hidden-the_row-Stmt-0 ss)
unfolding shape-the_row-Stmt-0 hidden-the_row-Stmt-0 shape-the_row-Stmt-1 hidden-the_row-Stmt-1 hidden
stmts_fit [] h = tt
stmts_fit (s ∷ ss) h = (All-head Fits s ss h, stmts_fit ss (All-tail Fits s ss h))

held_fits : (o : Option Stmt) → FitsIfAny o → NumbersFitHeld (back-StmtKind-If-2 o)
unfolding shape-the_row-Stmt-0 hidden-the_row-Stmt-0 shape-the_row-Stmt-1 hidden-the_row-Stmt-1 hidden
held_fits None h = tt
held_fits (Some s) h = h

mutual
  unfolding shape-the_row-Stmt-0 hidden-the_row-Stmt-0 shape-the_row-Stmt-1 hidden-the_row-Stmt-1 hidden

  stmt_fits : (f : Bool) (ts : List Token) (s : Stmt) → DerivesStmt f ts s → AreFitting ts → Fits s
  stmt_fits f ts s (DerivesStmt.block us a z ss d) h = stmts_fit ss (items_fit us ss d (inside mark.OpenBrace mark.CloseBrace a z us h))
  stmt_fits f ts s (DerivesStmt.empty a) h = tt
  stmt_fits f ts s (DerivesStmt.simple us z b d) h = simple_fits us b d (front us (marked mark.Semicolon z ∷ []) h)
  stmt_fits f ts s (DerivesStmt.without_else g i a z us ws c b cond body) h = (
    expr_fits 0 us c cond (inside mark.Open mark.Close a z us (front (between mark.Open a us mark.Close z) ws h.1)),
    stmt_fits g ws b body (back (between mark.Open a us mark.Close z) ws h.1),
    tt,
  )
  stmt_fits f ts s (DerivesStmt.with_else g i a z e us ws xs c b d cond body other) h =
      let start = front (if_tokens i a us z ws) (keyed key.Else e ∷ xs) h in (
        expr_fits 0 us c cond (inside mark.Open mark.Close a z us (front (between mark.Open a us mark.Close z) ws start.1)),
        stmt_fits false ws b body (back (between mark.Open a us mark.Close z) ws start.1),
        stmt_fits g xs d other (back (if_tokens i a us z ws) (keyed key.Else e ∷ xs) h).1,
      )
  stmt_fits f ts s (DerivesStmt.while_loop g w a z us ws c b cond body) h = (
    expr_fits 0 us c cond (inside mark.Open mark.Close a z us (front (between mark.Open a us mark.Close z) ws h.1)),
    stmt_fits g ws b body (back (between mark.Open a us mark.Close z) ws h.1),
  )
  stmt_fits f ts s (DerivesStmt.do_loop g i w a z y us ws c b body cond) h =
      let start = front (do_tokens i ws w a us z) (marked mark.Semicolon y ∷ []) h in (
        stmt_fits g ws b body (front ws (keyed key.While w ∷ between mark.Open a us mark.Close z) start.1),
        expr_fits 0 us c cond (inside mark.Open mark.Close a z us (back ws (keyed key.While w ∷ between mark.Open a us mark.Close z) start.1).1),
      )
  stmt_fits f ts s (DerivesStmt.for_loop g i a b z us ws xs ys first c step body one two three four) h =
      let behind = back us (ws ++ marked mark.Semicolon b ∷ (xs ++ marked mark.Close z ∷ ys)) h.1.1 in
      let last = back ws (marked mark.Semicolon b ∷ (xs ++ marked mark.Close z ∷ ys)) behind in (
        stmts_fit first (first_fits us first one (front us (ws ++ marked mark.Semicolon b ∷ (xs ++ marked mark.Close z ∷ ys)) h.1.1)),
        option_fits ws c two (front ws (marked mark.Semicolon b ∷ (xs ++ marked mark.Close z ∷ ys)) behind),
        held_fits step (step_fits xs step three (front xs (marked mark.Close z ∷ ys) last.1)),
        stmt_fits g ys body four (back xs (marked mark.Close z ∷ ys) last.1).1,
      )
  stmt_fits f ts s (DerivesStmt.leaving a z) h = tt
  stmt_fits f ts s (DerivesStmt.continuing a z) h = tt
  stmt_fits f ts s (DerivesStmt.returning a z us e d) h = option_fits us e d (front us (marked mark.Semicolon z ∷ []) h.1)

  pub items_fit : (ts : List Token) (ss : List Stmt) → DerivesItems ts ss → AreFitting ts → All Fits ss
  items_fit ts ss DerivesItems.done h = All-nil Fits
  items_fit ts ss (DerivesItems.statement f us ws s more d ds) h = All-cons Fits s more (stmt_fits f us s d (front us ws h)) (items_fit ws more ds (back us ws h))
  items_fit ts ss (DerivesItems.declares us ws ds more d rest) h = All-append Fits ds more (declaration_fits us ds d (front us ws h)) (items_fit ws more rest (back us ws h))

-- ---- kernels

pub tree_fits_each : (ts : List Token) (tree : Tree) → Derives ts tree → AreFitting ts → NumbersFit tree
tree_fits_each ts tree (Derives.kernel rs ps us x s a z b e r params body result parameters items) h =
    let behind = back rs (named x s ∷ (between mark.Open a ps mark.Close z ++ between mark.OpenBrace b us mark.CloseBrace e)) h in
    items_fit us body items (inside mark.OpenBrace mark.CloseBrace b e us (back (between mark.Open a ps mark.Close z) (between mark.OpenBrace b us mark.CloseBrace e) behind.1))

pub tree_fits : (ts : List Token) (tree : Tree) → Derives ts tree → All NumberFits ts → NumbersFit tree
tree_fits ts tree d h = tree_fits_each ts tree d (each_of NumberFits ts h)
