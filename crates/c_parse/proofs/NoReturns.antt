-- Statements of tokens without the word return return nothing.
use Rattle.std.proofs.Common.{List, [], ◌∷◌, ◌++◌, Option, Some, None, All, Bool, false, refl}
use Rattle.std.proofs.lemmas.List.Elements.{All-nil, All-cons, All-head, All-tail, All-append}
use denote.Hole.Carrier.{hidden}
use Rattle.el_base.specs.declared.ty.Ty.{Ty}
use Rattle.c_ast.specs.declared.token.Token.{Token}
use Rattle.c_ast.specs.declared.key.Key.TheVariants as key
use Rattle.c_ast.specs.declared.mark.Mark.TheVariants as mark
use Rattle.c_ast.specs.declared.tree.Stmt.{Stmt}
use Rattle.c_ast.specs.declared.tree.StmtKind.TheBlock.{shape-the_row-Stmt-0, hidden-the_row-Stmt-0, shape-the_row-Stmt-1, hidden-the_row-Stmt-1, back-StmtKind-If-2}
use Rattle.c_ast.specs.Derives.{marked, keyed, between, if_tokens, do_tokens, DerivesSimple, DerivesStep, DerivesDeclared, DerivesDeclarators, DerivesDeclaration, DerivesFirst, DerivesStmt, DerivesItems}
use Rattle.c_ast.specs.OfTexts.{ReturnsWhere, RowReturnsWhere, HeldReturnsWhere}
use Rattle.c_ast.specs.ProgramTexts.{IsNoReturn}
use Rattle.c_parse.proofs.EachToken.{Each, each_front, each_back}

-- the token is not the word return
abbrev pub IsFree : Token → Type 0
IsFree t = IsNoReturn t.word

abbrev AreFree : List Token → Type 0
AreFree ts = Each IsFree ts

front : (ts us : List Token) → AreFree (ts ++ us) → AreFree ts
front ts us h = each_front IsFree ts us h

back : (ts us : List Token) → AreFree (ts ++ us) → AreFree us
back ts us h = each_back IsFree ts us h

-- the statement returns nothing
abbrev pub Stays : Stmt → Type 0
Stays s = ReturnsWhere false s.kind

abbrev StaysIfAny : Option Stmt → Type 0
StaysIfAny None = Unit {0}
StaysIfAny (Some s) = Stays s

-- ---- kinds

row_stays : (ss : List Stmt) → All Stays ss → RowReturnsWhere false (hidden-the_row-Stmt-0 ss)
unfolding shape-the_row-Stmt-0 hidden-the_row-Stmt-0 shape-the_row-Stmt-1 hidden-the_row-Stmt-1 hidden
row_stays [] h = tt
row_stays (s ∷ ss) h = (All-head Stays s ss h, row_stays ss (All-tail Stays s ss h))

held_stays : (o : Option Stmt) → StaysIfAny o → HeldReturnsWhere false (back-StmtKind-If-2 o)
unfolding shape-the_row-Stmt-0 hidden-the_row-Stmt-0 shape-the_row-Stmt-1 hidden-the_row-Stmt-1 hidden
held_stays None h = tt
held_stays (Some s) h = h

-- ---- statements that never return

simple_stays : (ts : List Token) (s : Stmt) → DerivesSimple ts s → Stays s
simple_stays ts s (DerivesSimple.assign us ws m p t op e to operator value) = tt
simple_stays ts s (DerivesSimple.step_after us m p t up to step) = tt
simple_stays ts s (DerivesSimple.step_before us m p t up step to) = tt

step_stays : (ts : List Token) (s : Option Stmt) → DerivesStep ts s → StaysIfAny s
step_stays ts s DerivesStep.absent = tt
step_stays ts s (DerivesStep.present us a d) = simple_stays us a d

declared_stays : (t : Ty) (ts : List Token) (s : Stmt) → DerivesDeclared t ts s → Stays s
declared_stays t ts s (DerivesDeclared.without_value u x p) = tt
declared_stays t ts s (DerivesDeclared.with_value u x p a us e d) = tt

declarators_stay : (t : Ty) (ts : List Token) (ds : List Stmt) → DerivesDeclarators t ts ds → All Stays ds
declarators_stay t ts ds (DerivesDeclarators.last_one u us d one) = All-cons Stays d [] (declared_stays u us d one) (All-nil Stays)
declarators_stay t ts ds (DerivesDeclarators.one_more u us ws s d more one rest) = All-cons Stays d more (declared_stays u us d one) (declarators_stay u ws more rest)

declaration_stays : (ts : List Token) (ds : List Stmt) → DerivesDeclaration ts ds → All Stays ds
declaration_stays ts ds (DerivesDeclaration.declaration us ws z t more type names) = declarators_stay t ws more names

first_stays : (ts : List Token) (ss : List Stmt) → DerivesFirst ts ss → All Stays ss
first_stays ts ss (DerivesFirst.nothing z) = All-nil Stays
first_stays ts ss (DerivesFirst.simple us z s d) = All-cons Stays s [] (simple_stays us s d) (All-nil Stays)
first_stays ts ss (DerivesFirst.declares us ds d) = declaration_stays us ds d

-- ---- statements

mutual
  unfolding shape-the_row-Stmt-0 hidden-the_row-Stmt-0 shape-the_row-Stmt-1 hidden-the_row-Stmt-1 hidden

  stmt_stays : (f : Bool) (ts : List Token) (s : Stmt) → DerivesStmt f ts s → AreFree ts → Stays s
  stmt_stays f ts s (DerivesStmt.block us a z ss d) h = row_stays ss (items_stay us ss d (front us (marked mark.CloseBrace z ∷ []) h.1))
  stmt_stays f ts s (DerivesStmt.empty a) h = tt
  stmt_stays f ts s (DerivesStmt.simple us z b d) h = simple_stays us b d
  stmt_stays f ts s (DerivesStmt.without_else g i a z us ws c b cond body) h = (stmt_stays g ws b body (back (between mark.Open a us mark.Close z) ws h.1), tt)
  stmt_stays f ts s (DerivesStmt.with_else g i a z e us ws xs c b d cond body other) h =
      let start = front (if_tokens i a us z ws) (keyed key.Else e ∷ xs) h in
      (stmt_stays false ws b body (back (between mark.Open a us mark.Close z) ws start.1), stmt_stays g xs d other (back (if_tokens i a us z ws) (keyed key.Else e ∷ xs) h).1)
  stmt_stays f ts s (DerivesStmt.while_loop g w a z us ws c b cond body) h = stmt_stays g ws b body (back (between mark.Open a us mark.Close z) ws h.1)
  stmt_stays f ts s (DerivesStmt.do_loop g i w a z y us ws c b body cond) h =
      let start = front (do_tokens i ws w a us z) (marked mark.Semicolon y ∷ []) h in
      stmt_stays g ws b body (front ws (keyed key.While w ∷ between mark.Open a us mark.Close z) start.1)
  stmt_stays f ts s (DerivesStmt.for_loop g i a b z us ws xs ys first c step body one two three four) h =
      let behind = back us (ws ++ marked mark.Semicolon b ∷ (xs ++ marked mark.Close z ∷ ys)) h.1.1 in
      let last = back ws (marked mark.Semicolon b ∷ (xs ++ marked mark.Close z ∷ ys)) behind in
      (row_stays first (first_stays us first one), held_stays step (step_stays xs step three), stmt_stays g ys body four (back xs (marked mark.Close z ∷ ys) last.1).1)
  stmt_stays f ts s (DerivesStmt.leaving a z) h = tt
  stmt_stays f ts s (DerivesStmt.continuing a z) h = tt
  stmt_stays f ts s (DerivesStmt.returning a z us e d) h = absurd (h.0 refl)

  pub items_stay : (ts : List Token) (ss : List Stmt) → DerivesItems ts ss → AreFree ts → All Stays ss
  items_stay ts ss DerivesItems.done h = All-nil Stays
  items_stay ts ss (DerivesItems.statement f us ws s more d ds) h = All-cons Stays s more (stmt_stays f us s d (front us ws h)) (items_stay ws more ds (back us ws h))
  items_stay ts ss (DerivesItems.declares us ws ds more d rest) h = All-append Stays ds more (declaration_stays us ds d) (items_stay ws more rest (back us ws h))
