-- What is lawful, where arrays are read and where a statement returns, by the parts of trees.
use Rattle.std.proofs.Common.{◌≡◌, ◌↔◌, ℕ, List, [], ◌∷◌, length, Option, Some, None, refl, sym, subst}
use Rattle.std.specs.Prelude.{Bool, true, false, IsTrue, pos, All}
use Rattle.el_base.specs.declared.ty.Ty.{Ty}
use Rattle.el_base.specs.Numbers.{IsInRange}
use Rattle.c_ast.specs.ResultTypes.{promoted, unary_type}
use Rattle.c_ast.specs.declared.tree.Unary.{Unary}
use Rattle.c_ast.specs.declared.tree.Binary.{Binary}
use Rattle.c_ast.specs.declared.typed.TypedExpr.{TypedExpr}
use Rattle.c_ast.specs.declared.typed.TypedExprKind.TheVariants as expr
use Rattle.c_ast.specs.declared.typed.TypedExprKind.TheBlock.{hidden-the_row-TypedExpr-0}
use Rattle.c_ast.specs.declared.typed.TypedTarget.{TypedTarget}
use Rattle.c_ast.specs.declared.typed.TypedStmt.{TypedStmt}
use Rattle.c_ast.specs.declared.typed.TypedStmtKind.TheVariants as stmt
use Rattle.c_ast.specs.declared.typed.TypedStmtKind.TheBlock.{hidden-the_row-TypedStmt-0, back-TypedStmtKind-If-2}
use Rattle.c_ast.specs.declared.normal.NormalStmt.{NormalStmt}
use Rattle.c_ast.specs.declared.normal.NormalStmtKind.TheVariants as normal
use Rattle.c_ast.specs.declared.normal.NormalStmtKind.TheBlock.{hidden-the_row-NormalStmt-0, back-NormalStmtKind-If-3}
use Rattle.c_meaning.specs.Stores.{Objects}
use Rattle.c_meaning.specs.Lawful.{IsElement, IsVar, AreOperands, AreSides, row_length, is_implied, LawfulRow, LawfulExpr, LawfulAssignment, LawfulStep, LawfulDeclaration, LawfulOption, LawfulReturn, LawfulStmtHeld, LawfulStmts, ReadsNone, both_or_either, SidesReadNone, ReadsOutside, RowReadsOutside, LawfulNormalExpr, NothingBefore, LawfulNormalStmtHeld, LawfulNormalStmts}
use Rattle.c_meaning.specs.Quiet.{QuietHeld, QuietRow}
use Rattle.c_meaning.specs.PartLaws.{IfAny, LawfulAt, LawfulNormalAt, QuietAt, IsEmptyWithout, LawfulBy, LawfulStmtBy, LawfulNormalBy, ReadsNoneBy, ReadsOutsideBy, QuietBy}
use Rattle.std.proofs.lemmas.List.Elements.{All-nil, All-cons, All-head, All-tail}
use Rattle.c_meaning.proofs.LawfulExpressions.{row_length_is}
use Rattle.c_meaning.proofs.TreeRows.{typed_expr_rows, typed_stmt_rows, normal_rows}

same : {A : Type 0} → A ↔ A
same = (λ h. h, λ h. h)

two : {A B C D : Type 0} → A ↔ C → B ↔ D → (A × B) ↔ (C × D)
two f g = (λ h. (f.0 h.0, g.0 h.1), λ h. (f.1 h.0, g.1 h.1))

three : {A B C D E F : Type 0} → A ↔ D → B ↔ E → C ↔ F → (A × B × C) ↔ (D × E × F)
three f g i = (λ h. (f.0 h.0, g.0 h.1, i.0 h.2), λ h. (f.1 h.0, g.1 h.1, i.1 h.2))

four : {A B C D E F G H : Type 0} → A ↔ E → B ↔ F → C ↔ G → D ↔ H → (A × B × C × D) ↔ (E × F × G × H)
four f g i j = (λ h. (f.0 h.0, g.0 h.1, i.0 h.2, j.0 h.3), λ h. (f.1 h.0, g.1 h.1, i.1 h.2, j.1 h.3))

six : {A B C D E F G H I J K L : Type 0} → A ↔ G → B ↔ H → C ↔ I → D ↔ J → E ↔ K → F ↔ L → (A × B × C × D × E × F) ↔ (G × H × I × J × K × L)
six f g i j m n = (λ h. (f.0 h.0, g.0 h.1, i.0 h.2, j.0 h.3, m.0 h.4, n.0 h.5), λ h. (f.1 h.0, g.1 h.1, i.1 h.2, j.1 h.3, m.1 h.4, n.1 h.5))

-- a recursion over a list that asks P of each
module _ {X : Type 0} (P : X → Type 0) (R : List X → Type 0) (none : R []) (step : (x : X) (xs : List X) → R (x ∷ xs) ↔ (P x × R xs)) where
  each : (xs : List X) → R xs ↔ All P xs
  each [] = (λ h. All-nil P, λ h. none)
  each (x ∷ xs) =
      let rest : R xs ↔ All P xs = each xs in
      let one = step x xs in
      (λ h. let both = one.0 h in All-cons P x xs both.0 (rest.0 both.1), λ h. one.1 (All-head P x xs h, rest.1 (All-tail P x xs h)))

exprs_lawful : (k : Objects) (es : List TypedExpr) → LawfulRow k (hidden-the_row-TypedExpr-0 es) ↔ All (LawfulExpr k) es
exprs_lawful k es = unfold typed_expr_rows in each (LawfulExpr k) (λ us. LawfulRow k (hidden-the_row-TypedExpr-0 us)) tt (λ e us. same) es

exprs_outside : (es : List TypedExpr) → RowReadsOutside (hidden-the_row-TypedExpr-0 es) ↔ All (λ e. ReadsOutside e.kind) es
exprs_outside es = unfold typed_expr_rows in each (λ e. ReadsOutside e.kind) (λ us. RowReadsOutside (hidden-the_row-TypedExpr-0 us)) tt (λ e us. same) es

element_same : (k : Objects) (a : ℕ) (es : List TypedExpr) (t : Ty) → IsElement k a (row_length (hidden-the_row-TypedExpr-0 es)) t ↔ IsElement k a (length es) t
element_same k a es t = (λ h. subst (λ n. IsElement k a n t) (row_length_is es) h, λ h. subst (λ n. IsElement k a n t) (sym (row_length_is es)) h)

stmts_lawful : (k : Objects) (r : Option Ty) (l : Bool) (ss : List TypedStmt) → LawfulStmts k r l (hidden-the_row-TypedStmt-0 ss) ↔ All (LawfulAt k r l) ss
stmts_lawful k r l ss = unfold typed_stmt_rows in each (LawfulAt k r l) (λ us. LawfulStmts k r l (hidden-the_row-TypedStmt-0 us)) tt (λ s us. same) ss

held_lawful : (k : Objects) (r : Option Ty) (l : Bool) (o : Option TypedStmt) → LawfulStmtHeld k r l (back-TypedStmtKind-If-2 o) ↔ IfAny (LawfulAt k r l) o
unfolding typed_stmt_rows
held_lawful k r l None = same
held_lawful k r l (Some s) = same

normals_lawful : (k : Objects) (r : Option Ty) (l : Bool) (ss : List NormalStmt) → LawfulNormalStmts k r l (hidden-the_row-NormalStmt-0 ss) ↔ All (LawfulNormalAt k r l) ss
normals_lawful k r l ss = unfold normal_rows in each (LawfulNormalAt k r l) (λ us. LawfulNormalStmts k r l (hidden-the_row-NormalStmt-0 us)) tt (λ s us. same) ss

normal_held_lawful : (k : Objects) (r : Option Ty) (l : Bool) (o : Option NormalStmt) → LawfulNormalStmtHeld k r l (back-NormalStmtKind-If-3 o) ↔ IfAny (LawfulNormalAt k r l) o
unfolding normal_rows
normal_held_lawful k r l None = same
normal_held_lawful k r l (Some s) = same

nothing_before : (c : Option TypedExpr) (b : List NormalStmt) → NothingBefore c (hidden-the_row-NormalStmt-0 b) ↔ IsEmptyWithout c b
unfolding normal_rows
nothing_before None [] = (λ h. refl, λ h. tt)
nothing_before None (s ∷ ss) = (λ h. absurd h, λ h. cc)
nothing_before (Some c) b = same

quiets : (m : Bool) (ss : List NormalStmt) → QuietRow m (hidden-the_row-NormalStmt-0 ss) ↔ All (QuietAt m) ss
quiets m ss = unfold normal_rows in each (QuietAt m) (λ us. QuietRow m (hidden-the_row-NormalStmt-0 us)) tt (λ s us. same) ss

held_quiet : (m : Bool) (o : Option NormalStmt) → QuietHeld m (back-NormalStmtKind-If-3 o) ↔ IfAny (QuietAt m) o
unfolding normal_rows
held_quiet m None = same
held_quiet m (Some s) = same

pub lawful_number : (n : ℕ) → LawfulBy (expr.Number n) (λ k t. IsInRange t (pos n))
lawful_number n = unfold typed_expr_rows in λ k t. same

pub lawful_variable : (v : ℕ) → LawfulBy (expr.Var v) (λ k t. IsVar k v t)
lawful_variable v = unfold typed_expr_rows in λ k t. same

pub lawful_element : (a : ℕ) (es : List TypedExpr) → LawfulBy (expr.Element a es) (λ k t. IsElement k a (length es) t × All (LawfulExpr k) es)
lawful_element a es = unfold typed_expr_rows in λ k t. two (element_same k a es t) (exprs_lawful k es)

pub lawful_unary : (op : Unary) (e : TypedExpr) → LawfulBy (expr.Unary op e) (λ k t. (e.ty ≡ promoted e.ty) × (t ≡ unary_type op e.ty) × LawfulExpr k e)
lawful_unary op e = unfold typed_expr_rows in λ k t. same

pub lawful_cast : (implied : Bool) (e : TypedExpr) → LawfulBy (expr.Cast implied e) (λ k t. (implied ≡ true → is_implied e.kind ≡ false) × LawfulExpr k e)
lawful_cast implied e = unfold typed_expr_rows in λ k t. same

pub lawful_binary : (op : Binary) (a b : TypedExpr) → LawfulBy (expr.Binary op a b) (λ k t. AreOperands op a.ty b.ty t × LawfulExpr k a × LawfulExpr k b)
lawful_binary op a b = unfold typed_expr_rows in λ k t. same

pub lawful_choice : (c a b : TypedExpr) → LawfulBy (expr.Choose c a b) (λ k t. AreSides a.ty b.ty t × LawfulExpr k c × LawfulExpr k a × LawfulExpr k b)
lawful_choice c a b = unfold typed_expr_rows in λ k t. same

pub stmt_block : (ss : List TypedStmt) → LawfulStmtBy (stmt.Block ss) (λ k r l. All (LawfulAt k r l) ss)
stmt_block ss = unfold typed_stmt_rows in λ k r l. stmts_lawful k r l ss

pub stmt_declaration : (v : ℕ) (e : Option TypedExpr) → LawfulStmtBy (stmt.Declare v e) (λ k r l. LawfulDeclaration k (LawfulExpr k) v e)
stmt_declaration v e = unfold typed_stmt_rows in λ k r l. same

pub stmt_assignment : (t : TypedTarget) (op : Option Binary) (e : TypedExpr) → LawfulStmtBy (stmt.Assign t op e) (λ k r l. LawfulAssignment k (LawfulExpr k) t op e)
stmt_assignment t op e = unfold typed_stmt_rows in λ k r l. same

pub stmt_stepping : (t : TypedTarget) (up : Bool) → LawfulStmtBy (stmt.Step t up) (λ k r l. LawfulStep k (LawfulExpr k) t)
stmt_stepping t up = unfold typed_stmt_rows in λ k r l. same

pub stmt_choice : (c : TypedExpr) (s : TypedStmt) (o : Option TypedStmt) → LawfulStmtBy (stmt.If c s o) (λ k r l. LawfulExpr k c × LawfulAt k r l s × IfAny (LawfulAt k r l) o)
stmt_choice c s o = unfold typed_stmt_rows in λ k r l. three same same (held_lawful k r l o)

pub stmt_while_loop : (c : TypedExpr) (s : TypedStmt) → LawfulStmtBy (stmt.While c s) (λ k r l. LawfulExpr k c × LawfulAt k r true s)
stmt_while_loop c s = unfold typed_stmt_rows in λ k r l. same

pub stmt_do_loop : (s : TypedStmt) (c : TypedExpr) → LawfulStmtBy (stmt.DoWhile s c) (λ k r l. LawfulAt k r true s × LawfulExpr k c)
stmt_do_loop s c = unfold typed_stmt_rows in λ k r l. same

pub stmt_for_loop : (f : List TypedStmt) (c : Option TypedExpr) (o : Option TypedStmt) (s : TypedStmt) → LawfulStmtBy (stmt.For f c o s) (λ k r l. All (LawfulAt k r false) f × LawfulOption (LawfulExpr k) c × IfAny (LawfulAt k r false) o × LawfulAt k r true s)
stmt_for_loop f c o s = unfold typed_stmt_rows in λ k r l. four (stmts_lawful k r false f) same (held_lawful k r false o) same

pub stmt_leaving : LawfulStmtBy stmt.Break (λ k r l. IsTrue l)
stmt_leaving = unfold typed_stmt_rows in λ k r l. same

pub stmt_continuing : LawfulStmtBy stmt.Continue (λ k r l. IsTrue l)
stmt_continuing = unfold typed_stmt_rows in λ k r l. same

pub stmt_returning : (e : Option TypedExpr) → LawfulStmtBy (stmt.Return e) (λ k r l. LawfulReturn (LawfulExpr k) r e)
stmt_returning e = unfold typed_stmt_rows in λ k r l. same

pub stmt_empty : LawfulStmtBy stmt.Empty (λ k r l. Unit {0})
stmt_empty = unfold typed_stmt_rows in λ k r l. same

pub normal_block : (ss : List NormalStmt) → LawfulNormalBy (normal.Block ss) (λ k r l. All (LawfulNormalAt k r l) ss)
normal_block ss = unfold normal_rows in λ k r l. normals_lawful k r l ss

pub normal_declaration : (v : ℕ) (e : Option TypedExpr) → LawfulNormalBy (normal.Declare v e) (λ k r l. LawfulDeclaration k (LawfulNormalExpr k) v e)
normal_declaration v e = unfold normal_rows in λ k r l. same

pub normal_assignment : (t : TypedTarget) (e : TypedExpr) → LawfulNormalBy (normal.Assign t e) (λ k r l. LawfulAssignment k (LawfulNormalExpr k) t None e)
normal_assignment t e = unfold normal_rows in λ k r l. same

pub normal_choice : (b : List NormalStmt) (c : TypedExpr) (s : NormalStmt) (o : Option NormalStmt) → LawfulNormalBy (normal.If b c s o) (λ k r l. All (LawfulNormalAt k r l) b × LawfulNormalExpr k c × LawfulNormalAt k r l s × IfAny (LawfulNormalAt k r l) o)
normal_choice b c s o = unfold normal_rows in λ k r l. four (normals_lawful k r l b) same same (normal_held_lawful k r l o)

pub normal_while_loop : (b : List NormalStmt) (c : TypedExpr) (s : NormalStmt) → LawfulNormalBy (normal.While b c s) (λ k r l. All (LawfulNormalAt k r false) b × LawfulNormalExpr k c × LawfulNormalAt k r true s)
normal_while_loop b c s = unfold normal_rows in λ k r l. three (normals_lawful k r false b) same same

pub normal_do_loop : (s : NormalStmt) (b : List NormalStmt) (c : TypedExpr) → LawfulNormalBy (normal.DoWhile s b c) (λ k r l. LawfulNormalAt k r true s × All (LawfulNormalAt k r false) b × LawfulNormalExpr k c)
normal_do_loop s b c = unfold normal_rows in λ k r l. three same (normals_lawful k r false b) same

pub normal_for_loop : (f b : List NormalStmt) (c : Option TypedExpr) (o : Option NormalStmt) (s : NormalStmt) → LawfulNormalBy (normal.For f b c o s) (λ k r l. All (LawfulNormalAt k r false) f × All (LawfulNormalAt k r false) b × LawfulOption (LawfulNormalExpr k) c × IsEmptyWithout c b × IfAny (LawfulNormalAt k r false) o × LawfulNormalAt k r true s)
normal_for_loop f b c o s = unfold normal_rows in λ k r l. six (normals_lawful k r false f) (normals_lawful k r false b) same (nothing_before c b) (normal_held_lawful k r false o) same

pub normal_leaving : LawfulNormalBy normal.Break (λ k r l. IsTrue l)
normal_leaving = unfold normal_rows in λ k r l. same

pub normal_continuing : LawfulNormalBy normal.Continue (λ k r l. IsTrue l)
normal_continuing = unfold normal_rows in λ k r l. same

pub normal_returning : (e : Option TypedExpr) → LawfulNormalBy (normal.Return e) (λ k r l. LawfulReturn (LawfulNormalExpr k) r e)
normal_returning e = unfold normal_rows in λ k r l. same

pub normal_empty : LawfulNormalBy normal.Empty (λ k r l. Unit {0})
normal_empty = unfold normal_rows in λ k r l. same

pub none_number : (n : ℕ) → ReadsNoneBy (expr.Number n) (Unit {0})
none_number n = unfold typed_expr_rows in same

pub outside_number : (n : ℕ) → ReadsOutsideBy (expr.Number n) (Unit {0})
outside_number n = unfold typed_expr_rows in same

pub outside_variable : (v : ℕ) → ReadsOutsideBy (expr.Var v) (Unit {0})
outside_variable v = unfold typed_expr_rows in same

pub outside_element : (a : ℕ) (es : List TypedExpr) → ReadsOutsideBy (expr.Element a es) (All (λ e. ReadsOutside e.kind) es)
outside_element a es = unfold typed_expr_rows in exprs_outside es

pub outside_unary : (op : Unary) (e : TypedExpr) → ReadsOutsideBy (expr.Unary op e) (ReadsOutside e.kind)
outside_unary op e = unfold typed_expr_rows in same

pub outside_cast : (implied : Bool) (e : TypedExpr) → ReadsOutsideBy (expr.Cast implied e) (ReadsOutside e.kind)
outside_cast implied e = unfold typed_expr_rows in same

pub outside_binary : (op : Binary) (a b : TypedExpr) → ReadsOutsideBy (expr.Binary op a b) (SidesReadNone (both_or_either op) a.kind b.kind × ReadsOutside a.kind × ReadsOutside b.kind)
outside_binary op a b = unfold typed_expr_rows in same

pub outside_choice : (c a b : TypedExpr) → ReadsOutsideBy (expr.Choose c a b) (ReadsOutside c.kind × ReadsNone a.kind × ReadsNone b.kind)
outside_choice c a b = unfold typed_expr_rows in same

pub quiet_block : (ss : List NormalStmt) → QuietBy (normal.Block ss) (λ m. All (QuietAt m) ss)
quiet_block ss = unfold normal_rows in λ m. quiets m ss

pub quiet_declaration : (v : ℕ) (e : Option TypedExpr) → QuietBy (normal.Declare v e) (λ m. Unit {0})
quiet_declaration v e = unfold normal_rows in λ m. same

pub quiet_assignment : (t : TypedTarget) (e : TypedExpr) → QuietBy (normal.Assign t e) (λ m. Unit {0})
quiet_assignment t e = unfold normal_rows in λ m. same

pub quiet_choice : (b : List NormalStmt) (c : TypedExpr) (s : NormalStmt) (o : Option NormalStmt) → QuietBy (normal.If b c s o) (λ m. All (QuietAt m) b × QuietAt m s × IfAny (QuietAt m) o)
quiet_choice b c s o = unfold normal_rows in λ m. three (quiets m b) same (held_quiet m o)

pub quiet_while_loop : (b : List NormalStmt) (c : TypedExpr) (s : NormalStmt) → QuietBy (normal.While b c s) (λ m. All (QuietAt false) b × QuietAt m s)
quiet_while_loop b c s = unfold normal_rows in λ m. two (quiets false b) same

pub quiet_do_loop : (s : NormalStmt) (b : List NormalStmt) (c : TypedExpr) → QuietBy (normal.DoWhile s b c) (λ m. QuietAt m s × All (QuietAt false) b)
quiet_do_loop s b c = unfold normal_rows in λ m. two same (quiets false b)

pub quiet_for_loop : (f b : List NormalStmt) (c : Option TypedExpr) (o : Option NormalStmt) (s : NormalStmt) → QuietBy (normal.For f b c o s) (λ m. All (QuietAt m) f × All (QuietAt false) b × IfAny (QuietAt m) o × QuietAt m s)
quiet_for_loop f b c o s = unfold normal_rows in λ m. four (quiets m f) (quiets false b) (held_quiet m o) same

pub quiet_leaving : QuietBy normal.Break (λ m. Unit {0})
quiet_leaving = unfold normal_rows in λ m. same

pub quiet_continuing : QuietBy normal.Continue (λ m. Unit {0})
quiet_continuing = unfold normal_rows in λ m. same

pub quiet_returning : (e : Option TypedExpr) → QuietBy (normal.Return e) (λ m. IsTrue m)
quiet_returning e = unfold normal_rows in λ m. same

pub quiet_empty : QuietBy normal.Empty (λ m. Unit {0})
quiet_empty = unfold normal_rows in λ m. same
