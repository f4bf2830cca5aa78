-- How deep the constructs of a kernel text nest at each of its tokens: one case for each rule of the grammar.
-- The nesting at a token is the number of constructs that the token belongs to, from the first token of each to its last. Constructs are groups in parentheses, those of parameters, of arguments and of control statements too; casts and unary operators, each with its operand; brackets of indices and of dimensions; blocks; the statements if, while, do and for; and ?:, from its ? to the end of its third part. A cast's parentheses are no group besides.
use Rattle.std.specs.Prelude.{ℕ, suc, List, [], ◌∷◌, ◌++◌, map, Bool, Option}
use Rattle.el_base.specs.declared.ty.Ty.{Ty}
use Rattle.c_ast.specs.declared.token.Token.{Token}
use Rattle.c_ast.specs.declared.tree.Param.{Param}
use Rattle.c_ast.specs.declared.tree.Target.{Target}
use Rattle.c_ast.specs.declared.tree.Expr.{Expr}
use Rattle.c_ast.specs.declared.tree.Stmt.{Stmt}
use Rattle.c_ast.specs.declared.tree.Tree.{Tree}
use Rattle.c_ast.specs.Derives.{DerivesExpr, DerivesIndices, DerivesArgs, DerivesMoreArgs, DerivesTarget, DerivesSimple, DerivesOption, DerivesStep, DerivesDeclared, DerivesDeclarators, DerivesDeclaration, DerivesFirst, DerivesStmt, DerivesItems, DerivesDims, DerivesParam, DerivesParamList, DerivesParams, Derives}

-- tokens that all belong to n constructs
abbrev pub at_level : ℕ → List Token → List ℕ
at_level n ts = map (λ t. n) ts

-- two marks and what stands between them, where the marks belong to n constructs
abbrev pub enclosed : ℕ → List ℕ → List ℕ
enclosed n inner = n ∷ (inner ++ n ∷ [])

-- The first argument of each function is the number of constructs that hold the whole.

-- ---- expressions

abbrev mutual
  pub expr_nesting : {l : ℕ} {ts : List Token} {e : Expr} → ℕ → DerivesExpr l ts e → List ℕ
  expr_nesting n (DerivesExpr.tighter l ts e below d) = expr_nesting n d
  expr_nesting n (DerivesExpr.choice ts us vs q c a b d cond yes_part no_part) =
      expr_nesting n cond ++ suc n ∷ (expr_nesting (suc n) yes_part ++ suc n ∷ expr_nesting (suc n) no_part)
  expr_nesting n (DerivesExpr.joined l m op ts us s a b operator left right) = expr_nesting n left ++ n ∷ expr_nesting n right
  expr_nesting n (DerivesExpr.prefixed m op ts s a operator arg) = suc n ∷ expr_nesting (suc n) arg
  expr_nesting n (DerivesExpr.cast ts us s z t a ty arg) = enclosed (suc n) (at_level (suc n) ts) ++ expr_nesting (suc n) arg
  expr_nesting n (DerivesExpr.number v t s) = n ∷ []
  expr_nesting n (DerivesExpr.name x s) = n ∷ []
  expr_nesting n (DerivesExpr.element x s ts e es indices) = n ∷ indices_nesting n indices
  expr_nesting n (DerivesExpr.call x s a z ts es args) = n ∷ enclosed (suc n) (args_nesting (suc n) args)
  expr_nesting n (DerivesExpr.parens ts s z e d) = enclosed (suc n) (expr_nesting (suc n) d)

  pub indices_nesting : {ts : List Token} {es : List Expr} → ℕ → DerivesIndices ts es → List ℕ
  indices_nesting n DerivesIndices.no_more = []
  indices_nesting n (DerivesIndices.one_more ts us s z e es d ds) = enclosed (suc n) (expr_nesting (suc n) d) ++ indices_nesting n ds

  pub args_nesting : {ts : List Token} {es : List Expr} → ℕ → DerivesArgs ts es → List ℕ
  args_nesting n DerivesArgs.no_arguments = []
  args_nesting n (DerivesArgs.arguments ts us e es d ds) = expr_nesting n d ++ more_args_nesting n ds

  pub more_args_nesting : {ts : List Token} {es : List Expr} → ℕ → DerivesMoreArgs ts es → List ℕ
  more_args_nesting n DerivesMoreArgs.no_further = []
  more_args_nesting n (DerivesMoreArgs.one_further ts us s e es d ds) = n ∷ (expr_nesting n d ++ more_args_nesting n ds)

abbrev pub option_nesting : {ts : List Token} {e : Option Expr} → ℕ → DerivesOption ts e → List ℕ
option_nesting n DerivesOption.absent = []
option_nesting n (DerivesOption.present ts e d) = expr_nesting n d

-- ---- assignments, steps and declarations

abbrev pub target_nesting : {ts : List Token} {t : Target} → ℕ → DerivesTarget ts t → List ℕ
target_nesting n (DerivesTarget.target x s ts es indices) = n ∷ indices_nesting n indices

abbrev pub simple_nesting : {ts : List Token} {s : Stmt} → ℕ → DerivesSimple ts s → List ℕ
simple_nesting n (DerivesSimple.assign ts us m s t op e to operator value) = target_nesting n to ++ n ∷ expr_nesting n value
simple_nesting n (DerivesSimple.step_after ts m s t b to operator) = target_nesting n to ++ n ∷ []
simple_nesting n (DerivesSimple.step_before ts m s t b operator to) = n ∷ target_nesting n to

abbrev pub step_nesting : {ts : List Token} {s : Option Stmt} → ℕ → DerivesStep ts s → List ℕ
step_nesting n DerivesStep.absent = []
step_nesting n (DerivesStep.present ts s d) = simple_nesting n d

abbrev pub declared_nesting : {t : Ty} {ts : List Token} {s : Stmt} → ℕ → DerivesDeclared t ts s → List ℕ
declared_nesting n (DerivesDeclared.without_value t x s) = n ∷ []
declared_nesting n (DerivesDeclared.with_value t x s a ts e d) = n ∷ n ∷ expr_nesting n d

abbrev pub declarators_nesting : {t : Ty} {ts : List Token} {ds : List Stmt} → ℕ → DerivesDeclarators t ts ds → List ℕ
declarators_nesting n (DerivesDeclarators.last_one t ts s d) = declared_nesting n d
declarators_nesting n (DerivesDeclarators.one_more t ts us c s ss d ds) = declared_nesting n d ++ n ∷ declarators_nesting n ds

abbrev pub declaration_nesting : {ts : List Token} {ds : List Stmt} → ℕ → DerivesDeclaration ts ds → List ℕ
declaration_nesting n (DerivesDeclaration.declaration ts us z t ds ty declarators) = at_level n ts ++ (declarators_nesting n declarators ++ n ∷ [])

abbrev pub first_nesting : {ts : List Token} {ss : List Stmt} → ℕ → DerivesFirst ts ss → List ℕ
first_nesting n (DerivesFirst.nothing z) = n ∷ []
first_nesting n (DerivesFirst.simple ts z s d) = simple_nesting n d ++ n ∷ []
first_nesting n (DerivesFirst.declares ts ds d) = declaration_nesting n d

-- ---- statements

-- the word of a control statement and its condition, where the word belongs to n constructs
abbrev pub head_nesting : {ts : List Token} {c : Expr} → ℕ → DerivesExpr 0 ts c → List ℕ
head_nesting n d = n ∷ enclosed (suc n) (expr_nesting (suc n) d)

abbrev mutual
  pub stmt_nesting : {f : Bool} {ts : List Token} {s : Stmt} → ℕ → DerivesStmt f ts s → List ℕ
  stmt_nesting n (DerivesStmt.block ts s z ss body) = enclosed (suc n) (items_nesting (suc n) body)
  stmt_nesting n (DerivesStmt.empty s) = n ∷ []
  stmt_nesting n (DerivesStmt.simple ts z s d) = simple_nesting n d ++ n ∷ []
  stmt_nesting n (DerivesStmt.without_else f s a z ts us c b cond body) = head_nesting (suc n) cond ++ stmt_nesting (suc n) body
  stmt_nesting n (DerivesStmt.with_else f s a z e ts us vs c b d cond body other) =
      (head_nesting (suc n) cond ++ stmt_nesting (suc n) body) ++ suc n ∷ stmt_nesting (suc n) other
  stmt_nesting n (DerivesStmt.while_loop f s a z ts us c b cond body) = head_nesting (suc n) cond ++ stmt_nesting (suc n) body
  stmt_nesting n (DerivesStmt.do_loop f s w a z y ts us c b body cond) = (suc n ∷ (stmt_nesting (suc n) body ++ head_nesting (suc n) cond)) ++ suc n ∷ []
  stmt_nesting n (DerivesStmt.for_loop f s a b z ts us vs ws ss c st bs first cond step body) =
      suc n ∷ suc (suc n) ∷ (first_nesting (suc (suc n)) first ++ (option_nesting (suc (suc n)) cond ++ suc (suc n) ∷ (step_nesting (suc (suc n)) step ++ suc (suc n) ∷ stmt_nesting (suc n) body)))
  stmt_nesting n (DerivesStmt.leaving s z) = n ∷ n ∷ []
  stmt_nesting n (DerivesStmt.continuing s z) = n ∷ n ∷ []
  stmt_nesting n (DerivesStmt.returning s z ts e d) = n ∷ (option_nesting n d ++ n ∷ [])

  pub items_nesting : {ts : List Token} {ss : List Stmt} → ℕ → DerivesItems ts ss → List ℕ
  items_nesting n DerivesItems.done = []
  items_nesting n (DerivesItems.statement f ts us s ss d ds) = stmt_nesting n d ++ items_nesting n ds
  items_nesting n (DerivesItems.declares ts us ds ss d rest) = declaration_nesting n d ++ items_nesting n rest

-- ---- kernels

abbrev pub dims_nesting : {ts : List Token} {ds : List ℕ} → ℕ → DerivesDims ts ds → List ℕ
dims_nesting n DerivesDims.no_more = []
dims_nesting n (DerivesDims.one_more s m z d t us ds rest) = enclosed (suc n) (suc n ∷ []) ++ dims_nesting n rest

abbrev pub param_nesting : {ts : List Token} {p : Param} → ℕ → DerivesParam ts p → List ℕ
param_nesting n (DerivesParam.param ts us t x s ds ty dims) = at_level n ts ++ n ∷ dims_nesting n dims

abbrev pub param_list_nesting : {ts : List Token} {ps : List Param} → ℕ → DerivesParamList ts ps → List ℕ
param_list_nesting n (DerivesParamList.last_one ts p d) = param_nesting n d
param_list_nesting n (DerivesParamList.one_more ts us s p ps d ds) = param_nesting n d ++ n ∷ param_list_nesting n ds

abbrev pub params_nesting : {ts : List Token} {ps : List Param} → ℕ → DerivesParams ts ps → List ℕ
params_nesting n DerivesParams.none = []
params_nesting n (DerivesParams.none_by_void s) = n ∷ []
params_nesting n (DerivesParams.some ts ps d) = param_list_nesting n d

-- the nesting at each token of a kernel text, in order
abbrev pub nesting : {ts : List Token} {tree : Tree} → Derives ts tree → List ℕ
nesting (Derives.kernel rs ps ts x s a z b e r params body result inside items) =
    at_level 0 rs ++ 0 ∷ (enclosed 1 (params_nesting 1 inside) ++ enclosed 1 (items_nesting 1 items))
