-- What a predictive parser makes of the tokens that it has read: the values on its stack, each with its tokens, and how each reduction takes some and leaves one.
use Rattle.std.specs.Prelude.{ℕ, List, [], ◌∷◌, ◌++◌, Bool, true, Option, Some, None}
use Rattle.std.specs.Option.{unwrap_or}
use Rattle.el_base.specs.declared.ty.Ty.{Ty}
use Rattle.el_base.specs.declared.ty.Ty.TheVariants.{I32}
use Rattle.c_ast.specs.declared.token.Token.{Token}
use Rattle.c_ast.specs.declared.token.Word.{Word}
use Rattle.c_ast.specs.declared.token.Word.TheVariants as word
use Rattle.c_ast.specs.declared.mark.Mark.{Mark}
use Rattle.c_ast.specs.declared.mark.Mark.TheVariants as mark
use Rattle.c_ast.specs.declared.tree.Unary.{Unary}
use Rattle.c_ast.specs.declared.tree.Unary.TheVariants as unary
use Rattle.c_ast.specs.declared.tree.Binary.{Binary}
use Rattle.c_ast.specs.declared.tree.Binary.TheVariants as binary
use Rattle.c_ast.specs.declared.tree.Param.{Param}
use Rattle.c_ast.specs.declared.tree.Target.{Target}
use Rattle.c_ast.specs.declared.tree.Expr.{Expr}
use Rattle.c_ast.specs.declared.tree.ExprKind.{ExprKind}
use Rattle.c_ast.specs.declared.tree.ExprKind.TheVariants as expr
use Rattle.c_ast.specs.declared.tree.Stmt.{Stmt}
use Rattle.c_ast.specs.declared.tree.StmtKind.{StmtKind}
use Rattle.c_ast.specs.declared.tree.StmtKind.TheVariants as stmt
use Rattle.c_ast.specs.declared.tree.Tree.{Tree}
use Rattle.c_ast.specs.declared.tree.Helper.{Helper}
use Rattle.c_ast.specs.declared.tree.Program.{Program}
use Rattle.c_ast.specs.Derives.{place_of, expr_of, stmt_of}
use Rattle.c_parse.specs.Tables.{operator_of, sign_of, assigning_of, step_of, plain_type}
use Rattle.c_parse.specs.Symbols.{Reduction}

-- a part of a kernel text that was read, with its tokens
pub data Value : Type 0 where
  of_token : Token → Value
  of_ty : List Token → Ty → Value
  of_expr : List Token → Expr → Value
  of_exprs : List Token → List Expr → Value
  of_maybe_expr : List Token → Option Expr → Value
  of_target : List Token → Target → Value
  of_stmt : List Token → Stmt → Value
  of_stmts : List Token → List Stmt → Value
  of_maybe_stmt : List Token → Option Stmt → Value
  of_dims : List Token → List ℕ → Value
  of_param : List Token → Param → Value
  of_params : List Token → List Param → Value
  of_result : List Token → Option Ty → Value
  of_tree : List Token → Tree → Value
  of_helpers : List Helper → Value
  of_program : Program → Value

-- ---- what words mean; of words that mean none, the default

abbrev pub mark_in : Word → Mark
mark_in (word.Mark m) = m
mark_in w = mark.Assign

abbrev pub name_in : Word → List ℕ
name_in (word.Name x) = x
name_in w = []

abbrev pub number_in : Word → ℕ
number_in (word.Number v t) = v
number_in w = 0

abbrev pub type_in : Word → Ty
type_in (word.Number v t) = t
type_in (word.Key k) = unwrap_or (plain_type k) I32
type_in w = I32

abbrev pub binary_in : Word → Binary
binary_in w = (unwrap_or (operator_of (mark_in w)) (binary.Add, 0)).0

abbrev pub unary_in : Word → Unary
unary_in w = unwrap_or (sign_of (mark_in w)) unary.Plus

abbrev pub assigning_in : Word → Option Binary
assigning_in w = unwrap_or (assigning_of (mark_in w)) None

abbrev pub step_in : Word → Bool
step_in w = unwrap_or (step_of (mark_in w)) true

-- ---- parts

abbrev pub expr_value : ExprKind → List Token → Value
expr_value kind ts = Value.of_expr ts (expr_of kind ts)

abbrev pub stmt_value : StmtKind → List Token → Value
stmt_value kind ts = Value.of_stmt ts (stmt_of kind ts)

-- a name with its indices
abbrev pub named_kind : List ℕ → List Expr → ExprKind
named_kind x [] = expr.Name x
named_kind x (e ∷ es) = expr.Element x (e ∷ es)

abbrev pub declared_as : Token → Ty → Option Expr → Stmt
declared_as t type e = record { kind = stmt.Declare (name_in t.word) type e; at = t.span }

-- ---- reductions: the value that was read last comes first; where the values are others, nothing changes

abbrev pub reduced : Reduction → List Value → List Value
reduced Reduction.plain (Value.of_token t ∷ vs) = Value.of_ty (t ∷ []) (type_in t.word) ∷ vs
reduced Reduction.with_int (Value.of_token i ∷ Value.of_ty ts t ∷ vs) = Value.of_ty (ts ++ i ∷ []) t ∷ vs
reduced Reduction.no_indices vs = Value.of_exprs [] [] ∷ vs
reduced Reduction.index (Value.of_token z ∷ Value.of_expr ts e ∷ Value.of_token a ∷ Value.of_exprs us es ∷ vs) = Value.of_exprs (us ++ a ∷ (ts ++ z ∷ [])) (es ++ e ∷ []) ∷ vs
reduced Reduction.named (Value.of_exprs ts es ∷ Value.of_token t ∷ vs) = expr_value (named_kind (name_in t.word) es) (t ∷ ts) ∷ vs
reduced Reduction.named (Value.of_token z ∷ Value.of_exprs ts es ∷ Value.of_token a ∷ Value.of_token t ∷ vs) = expr_value (expr.Call (name_in t.word) es) (t ∷ a ∷ (ts ++ z ∷ [])) ∷ vs
reduced Reduction.no_arguments (Value.of_token z ∷ Value.of_token a ∷ Value.of_exprs us es ∷ vs) = Value.of_token z ∷ Value.of_exprs [] [] ∷ Value.of_token a ∷ vs
reduced Reduction.first_argument (Value.of_expr ts e ∷ Value.of_token a ∷ Value.of_exprs us es ∷ vs) = Value.of_exprs ts (e ∷ []) ∷ Value.of_token a ∷ vs
reduced Reduction.next_argument (Value.of_expr us e ∷ Value.of_token c ∷ Value.of_exprs ts es ∷ vs) = Value.of_exprs (ts ++ c ∷ us) (es ++ e ∷ []) ∷ vs
reduced Reduction.constant (Value.of_token t ∷ vs) = expr_value (expr.Number (number_in t.word) (type_in t.word)) (t ∷ []) ∷ vs
reduced Reduction.group (Value.of_token z ∷ Value.of_expr ts e ∷ Value.of_token a ∷ vs) = Value.of_expr (a ∷ (ts ++ z ∷ [])) e ∷ vs
reduced Reduction.cast (Value.of_expr us e ∷ Value.of_token z ∷ Value.of_ty ts t ∷ Value.of_token a ∷ vs) = expr_value (expr.Cast t e) (a ∷ (ts ++ z ∷ []) ++ us) ∷ vs
reduced Reduction.signed (Value.of_expr ts e ∷ Value.of_token t ∷ vs) = expr_value (expr.Unary (unary_in t.word) e) (t ∷ ts) ∷ vs
reduced Reduction.joined (Value.of_expr us b ∷ Value.of_token t ∷ Value.of_expr ts a ∷ vs) = expr_value (expr.Binary (binary_in t.word) a b) (ts ++ t ∷ us) ∷ vs
reduced Reduction.chosen (Value.of_expr ws d ∷ Value.of_token c ∷ Value.of_expr us b ∷ Value.of_token q ∷ Value.of_expr ts a ∷ vs) = expr_value (expr.Choose a b d) (ts ++ q ∷ (us ++ c ∷ ws)) ∷ vs
reduced Reduction.target (Value.of_exprs ts es ∷ Value.of_token t ∷ vs) = Value.of_target (t ∷ ts) (record { name = name_in t.word; at = place_of (t ∷ ts); indices = es }) ∷ vs
reduced Reduction.assigned (Value.of_expr us e ∷ Value.of_token m ∷ Value.of_target ts t ∷ vs) = stmt_value (stmt.Assign t (assigning_in m.word) e) (ts ++ m ∷ us) ∷ vs
reduced Reduction.step_after (Value.of_token m ∷ Value.of_target ts t ∷ vs) = stmt_value (stmt.Step t (step_in m.word)) (ts ++ m ∷ []) ∷ vs
reduced Reduction.step_before (Value.of_target ts t ∷ Value.of_token m ∷ vs) = stmt_value (stmt.Step t (step_in m.word)) (m ∷ ts) ∷ vs
reduced Reduction.no_value vs = Value.of_maybe_expr [] None ∷ vs
reduced Reduction.value (Value.of_expr ts e ∷ Value.of_token a ∷ Value.of_maybe_expr us o ∷ vs) = Value.of_maybe_expr (a ∷ ts) (Some e) ∷ vs
reduced Reduction.first_declared (Value.of_maybe_expr ts e ∷ Value.of_token x ∷ Value.of_ty us t ∷ vs) = Value.of_stmts (x ∷ ts) (declared_as x t e ∷ []) ∷ Value.of_ty us t ∷ vs
reduced Reduction.next_declared (Value.of_maybe_expr ts e ∷ Value.of_token x ∷ Value.of_token c ∷ Value.of_stmts ds ss ∷ Value.of_ty us t ∷ vs) = Value.of_stmts (ds ++ c ∷ x ∷ ts) (ss ++ declared_as x t e ∷ []) ∷ Value.of_ty us t ∷ vs
reduced Reduction.declared (Value.of_token z ∷ Value.of_stmts ds ss ∷ Value.of_ty ts t ∷ vs) = Value.of_stmts (ts ++ (ds ++ z ∷ [])) ss ∷ vs
reduced Reduction.no_first (Value.of_token z ∷ vs) = Value.of_stmts (z ∷ []) [] ∷ vs
reduced Reduction.simple_first (Value.of_token z ∷ Value.of_stmt ts s ∷ vs) = Value.of_stmts (ts ++ z ∷ []) (s ∷ []) ∷ vs
reduced Reduction.no_condition (Value.of_token z ∷ vs) = Value.of_token z ∷ Value.of_maybe_expr [] None ∷ vs
reduced Reduction.some_condition (Value.of_expr ts e ∷ vs) = Value.of_maybe_expr ts (Some e) ∷ vs
reduced Reduction.no_step (Value.of_token z ∷ vs) = Value.of_token z ∷ Value.of_maybe_stmt [] None ∷ vs
reduced Reduction.some_step (Value.of_stmt ts s ∷ vs) = Value.of_maybe_stmt ts (Some s) ∷ vs
reduced Reduction.no_items vs = Value.of_stmts [] [] ∷ vs
reduced Reduction.statement_item (Value.of_stmt us s ∷ Value.of_stmts ts ss ∷ vs) = Value.of_stmts (ts ++ us) (ss ++ s ∷ []) ∷ vs
reduced Reduction.declared_items (Value.of_stmts us ds ∷ Value.of_stmts ts ss ∷ vs) = Value.of_stmts (ts ++ us) (ss ++ ds) ∷ vs
reduced Reduction.block (Value.of_token z ∷ Value.of_stmts ts ss ∷ Value.of_token a ∷ vs) = stmt_value (stmt.Block ss) (a ∷ (ts ++ z ∷ [])) ∷ vs
reduced Reduction.empty (Value.of_token z ∷ vs) = stmt_value stmt.Empty (z ∷ []) ∷ vs
reduced Reduction.simple (Value.of_token z ∷ Value.of_stmt ts s ∷ vs) = Value.of_stmt (ts ++ z ∷ []) s ∷ vs
reduced Reduction.no_other vs = Value.of_maybe_stmt [] None ∷ vs
reduced Reduction.other (Value.of_stmt ts s ∷ Value.of_token e ∷ Value.of_maybe_stmt us o ∷ vs) = Value.of_maybe_stmt (e ∷ ts) (Some s) ∷ vs
reduced Reduction.if_done (Value.of_maybe_stmt os o ∷ Value.of_stmt us b ∷ Value.of_token z ∷ Value.of_expr ts c ∷ Value.of_token a ∷ Value.of_token i ∷ vs) =
    stmt_value (stmt.If c b o) ((i ∷ (a ∷ (ts ++ z ∷ []) ++ us)) ++ os) ∷ vs
reduced Reduction.while_done (Value.of_stmt us b ∷ Value.of_token z ∷ Value.of_expr ts c ∷ Value.of_token a ∷ Value.of_token w ∷ vs) =
    stmt_value (stmt.While c b) (w ∷ (a ∷ (ts ++ z ∷ []) ++ us)) ∷ vs
reduced Reduction.do_done (Value.of_token y ∷ Value.of_token z ∷ Value.of_expr ts c ∷ Value.of_token a ∷ Value.of_token w ∷ Value.of_stmt us b ∷ Value.of_token d ∷ vs) =
    Value.of_stmt ((d ∷ (us ++ w ∷ a ∷ (ts ++ z ∷ []))) ++ y ∷ []) (stmt_of (stmt.DoWhile b c) (d ∷ (us ++ w ∷ a ∷ (ts ++ z ∷ [])))) ∷ vs
reduced Reduction.for_done (Value.of_stmt ws b ∷ Value.of_token z ∷ Value.of_maybe_stmt ss step ∷ Value.of_token y ∷ Value.of_maybe_expr us c ∷ Value.of_stmts ts first ∷ Value.of_token a ∷ Value.of_token f ∷ vs) =
    stmt_value (stmt.For first c step b) (f ∷ a ∷ (ts ++ (us ++ y ∷ (ss ++ z ∷ ws)))) ∷ vs
reduced Reduction.leaving (Value.of_token z ∷ Value.of_token l ∷ vs) = Value.of_stmt (l ∷ z ∷ []) (stmt_of stmt.Break (l ∷ [])) ∷ vs
reduced Reduction.continuing (Value.of_token z ∷ Value.of_token l ∷ vs) = Value.of_stmt (l ∷ z ∷ []) (stmt_of stmt.Continue (l ∷ [])) ∷ vs
reduced Reduction.returning (Value.of_token z ∷ Value.of_maybe_expr ts e ∷ Value.of_token r ∷ vs) = Value.of_stmt (r ∷ (ts ++ z ∷ [])) (stmt_of (stmt.Return e) (r ∷ ts)) ∷ vs
reduced Reduction.no_dims vs = Value.of_dims [] [] ∷ vs
reduced Reduction.dim (Value.of_token z ∷ Value.of_token d ∷ Value.of_token a ∷ Value.of_dims ts ds ∷ vs) = Value.of_dims (ts ++ a ∷ d ∷ z ∷ []) (ds ++ number_in d.word ∷ []) ∷ vs
reduced Reduction.param (Value.of_dims us ds ∷ Value.of_token x ∷ Value.of_ty ts t ∷ vs) = Value.of_param (ts ++ x ∷ us) (record { name = name_in x.word; at = x.span; ty = t; dims = ds }) ∷ vs
reduced Reduction.first_param (Value.of_param ts p ∷ vs) = Value.of_params ts (p ∷ []) ∷ vs
reduced Reduction.next_param (Value.of_param us p ∷ Value.of_token c ∷ Value.of_params ts ps ∷ vs) = Value.of_params (ts ++ c ∷ us) (ps ++ p ∷ []) ∷ vs
reduced Reduction.no_params (Value.of_token z ∷ vs) = Value.of_token z ∷ Value.of_params [] [] ∷ vs
reduced Reduction.void_params (Value.of_token v ∷ vs) = Value.of_params (v ∷ []) [] ∷ vs
reduced Reduction.void_result (Value.of_token v ∷ vs) = Value.of_result (v ∷ []) None ∷ vs
reduced Reduction.result (Value.of_ty ts t ∷ vs) = Value.of_result ts (Some t) ∷ vs
reduced Reduction.kernel (Value.of_token e ∷ Value.of_stmts ts body ∷ Value.of_token b ∷ Value.of_token z ∷ Value.of_params ps params ∷ Value.of_token a ∷ Value.of_token x ∷ Value.of_result rs r ∷ vs) =
    Value.of_tree (rs ++ x ∷ (a ∷ (ps ++ z ∷ []) ++ b ∷ (ts ++ e ∷ []))) (record { name = name_in x.word; at = x.span; result = r; params = params; body = body }) ∷ vs
reduced Reduction.no_helpers vs = Value.of_helpers [] ∷ vs
reduced Reduction.helper (Value.of_token y ∷ Value.of_token e ∷ Value.of_expr us v ∷ Value.of_token r ∷ Value.of_stmts ts body ∷ Value.of_token b
    ∷ Value.of_token z ∷ Value.of_params ps params ∷ Value.of_token a ∷ Value.of_token x ∷ Value.of_ty rs t ∷ Value.of_token f ∷ Value.of_helpers hs ∷ vs) =
    Value.of_helpers (hs ++ record { name = name_in x.word; at = x.span; result = t; params = params; body = body; value = v } ∷ []) ∷ vs
reduced Reduction.program (Value.of_tree ts tree ∷ Value.of_helpers hs ∷ vs) = Value.of_program (record { helpers = hs; kernel = tree }) ∷ vs
reduced r vs = vs
