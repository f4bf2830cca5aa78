-- Which tokens are a kernel text, and which tree they have: one case for each rule of the grammar (ISO/IEC 9899:1999 6.5, 6.7, 6.8, 6.9.1).
-- The place of an expression or statement is that of all its tokens, a semicolon at its end left aside; parentheses change no tree, and what stands in them keeps its own place. The place of a kernel, a parameter or a declaration is that of its name.
use Rattle.std.specs.Prelude.{ℕ, suc, ◌<◌, List, [], ◌∷◌, ◌++◌, Bool, true, false, Option, Some, None}
use Rattle.el_base.specs.declared.span.Span.{Span}
use Rattle.el_base.specs.declared.ty.Ty.{Ty}
use Rattle.el_base.specs.declared.ty.Ty.TheVariants.{I8, U8, I16, U16, I32, U32, I64, U64}
use Rattle.c_ast.specs.declared.token.Token.{Token}
use Rattle.c_ast.specs.declared.token.Word.TheVariants as word
use Rattle.c_ast.specs.declared.key.Key.{Key}
use Rattle.c_ast.specs.declared.key.Key.TheVariants as key
use Rattle.c_ast.specs.declared.mark.Mark.{Mark}
use Rattle.c_ast.specs.declared.mark.Mark.TheVariants as mark
use Rattle.c_ast.specs.declared.tree.Unary.{Unary}
use Rattle.c_ast.specs.declared.tree.Unary.TheVariants as unary
use Rattle.c_ast.specs.declared.tree.Binary.{Binary}
use Rattle.c_ast.specs.declared.tree.Binary.TheVariants as binary
use Rattle.c_ast.specs.declared.tree.Param.{Param}
use Rattle.c_ast.specs.declared.tree.Target.{Target}
use Rattle.c_ast.specs.declared.tree.Expr.{Expr}
use Rattle.c_ast.specs.declared.tree.ExprKind.{ExprKind}
use Rattle.c_ast.specs.declared.tree.ExprKind.TheVariants as expr
use Rattle.c_ast.specs.declared.tree.Stmt.{Stmt}
use Rattle.c_ast.specs.declared.tree.StmtKind.{StmtKind}
use Rattle.c_ast.specs.declared.tree.StmtKind.TheVariants as stmt
use Rattle.c_ast.specs.declared.tree.Tree.{Tree}

-- ---- tokens and places

abbrev pub marked : Mark → Span → Token
marked m s = record { word = word.Mark m; span = s }

abbrev pub keyed : Key → Span → Token
keyed k s = record { word = word.Key k; span = s }

abbrev pub named : List ℕ → Span → Token
named x s = record { word = word.Name x; span = s }

abbrev pub numbered : ℕ → Ty → Span → Token
numbered n t s = record { word = word.Number n t; span = s }

-- from the start of the one to the end of the other
abbrev pub join : Span → Span → Span
join a b = record { start = a.start; end = b.end; line = a.line; column = a.column }

-- the place of the last token, or s where there is none
abbrev pub last_span : Span → List Token → Span
last_span s [] = s
last_span s (t ∷ ts) = last_span t.span ts

-- the place of all of some tokens; without tokens there is none
abbrev pub place_of : List Token → Span
place_of [] = record { start = 0; end = 0; line = 0; column = 0 }
place_of (t ∷ ts) = join t.span (last_span t.span ts)

abbrev pub expr_of : ExprKind → List Token → Expr
expr_of kind ts = record { kind = kind; at = place_of ts }

abbrev pub stmt_of : StmtKind → List Token → Stmt
stmt_of kind ts = record { kind = kind; at = place_of ts }

-- between two marks
abbrev pub between : Mark → Span → List Token → Mark → Span → List Token
between m s ts n z = marked m s ∷ (ts ++ marked n z ∷ [])

-- ---- types

pub data DerivesType : List Token → Ty → Type 0 where
  fixed_8 : (s : Span) → DerivesType (keyed key.Int8 s ∷ []) I8
  fixed_16 : (s : Span) → DerivesType (keyed key.Int16 s ∷ []) I16
  fixed_32 : (s : Span) → DerivesType (keyed key.Int32 s ∷ []) I32
  fixed_64 : (s : Span) → DerivesType (keyed key.Int64 s ∷ []) I64
  unsigned_8 : (s : Span) → DerivesType (keyed key.Uint8 s ∷ []) U8
  unsigned_16 : (s : Span) → DerivesType (keyed key.Uint16 s ∷ []) U16
  unsigned_32 : (s : Span) → DerivesType (keyed key.Uint32 s ∷ []) U32
  unsigned_64 : (s : Span) → DerivesType (keyed key.Uint64 s ∷ []) U64
  plain_int : (s : Span) → DerivesType (keyed key.Int s ∷ []) I32
  plain_signed : (s : Span) → DerivesType (keyed key.Signed s ∷ []) I32
  signed_int : (s z : Span) → DerivesType (keyed key.Signed s ∷ keyed key.Int z ∷ []) I32
  plain_unsigned : (s : Span) → DerivesType (keyed key.Unsigned s ∷ []) U32
  unsigned_int : (s z : Span) → DerivesType (keyed key.Unsigned s ∷ keyed key.Int z ∷ []) U32

-- ---- operators

-- a binary operator has its mark and its level: 1 is the loosest, 10 the tightest
pub data IsBinary : Mark → Binary → ℕ → Type 0 where
  or_else : IsBinary mark.OrOr binary.Either 1
  and_also : IsBinary mark.AndAnd binary.Both 2
  bits_or : IsBinary mark.Bar binary.Or 3
  bits_xor : IsBinary mark.Caret binary.Xor 4
  bits_and : IsBinary mark.Ampersand binary.And 5
  equal : IsBinary mark.EqualEqual binary.Eq 6
  unequal : IsBinary mark.NotEqual binary.Ne 6
  less : IsBinary mark.Less binary.Lt 7
  greater : IsBinary mark.Greater binary.Gt 7
  at_most : IsBinary mark.LessEqual binary.Le 7
  at_least : IsBinary mark.GreaterEqual binary.Ge 7
  left_shift : IsBinary mark.Shl binary.Shl 8
  right_shift : IsBinary mark.Shr binary.Shr 8
  plus : IsBinary mark.Plus binary.Add 9
  minus : IsBinary mark.Minus binary.Sub 9
  times : IsBinary mark.Star binary.Mul 10
  divided : IsBinary mark.Slash binary.Div 10
  modulo : IsBinary mark.Percent binary.Rem 10

pub data IsUnary : Mark → Unary → Type 0 where
  plus : IsUnary mark.Plus unary.Plus
  minus : IsUnary mark.Minus unary.Minus
  flip : IsUnary mark.Tilde unary.Flip
  negate : IsUnary mark.Bang unary.Not

pub data IsAssigning : Mark → Option Binary → Type 0 where
  plain : IsAssigning mark.Assign None
  times : IsAssigning mark.MulAssign (Some binary.Mul)
  divided : IsAssigning mark.DivAssign (Some binary.Div)
  modulo : IsAssigning mark.RemAssign (Some binary.Rem)
  plus : IsAssigning mark.AddAssign (Some binary.Add)
  minus : IsAssigning mark.SubAssign (Some binary.Sub)
  left_shift : IsAssigning mark.ShlAssign (Some binary.Shl)
  right_shift : IsAssigning mark.ShrAssign (Some binary.Shr)
  bits_and : IsAssigning mark.AndAssign (Some binary.And)
  bits_xor : IsAssigning mark.XorAssign (Some binary.Xor)
  bits_or : IsAssigning mark.OrAssign (Some binary.Or)

-- ---- expressions: level 0 has ?:, levels 1 to 10 the binary operators, 11 the unary ones and casts, 12 the primary expressions

mutual
  pub data DerivesExpr : ℕ → List Token → Expr → Type 0 where
    -- what derives at a level derives at the next looser one
    tighter : (l : ℕ) (ts : List Token) (e : Expr) → l < 12 → DerivesExpr (suc l) ts e → DerivesExpr l ts e
    choice : (ts us vs : List Token) (q c : Span) (a b d : Expr) → DerivesExpr 1 ts a → DerivesExpr 0 us b → DerivesExpr 0 vs d
        → DerivesExpr 0 (ts ++ marked mark.Question q ∷ (us ++ marked mark.Colon c ∷ vs)) (expr_of (expr.Choose a b d) (ts ++ marked mark.Question q ∷ (us ++ marked mark.Colon c ∷ vs)))
    -- from left to right: the right side is of a tighter level
    joined : (l : ℕ) (m : Mark) (op : Binary) (ts us : List Token) (s : Span) (a b : Expr) → IsBinary m op l → DerivesExpr l ts a → DerivesExpr (suc l) us b
        → DerivesExpr l (ts ++ marked m s ∷ us) (expr_of (expr.Binary op a b) (ts ++ marked m s ∷ us))
    prefixed : (m : Mark) (op : Unary) (ts : List Token) (s : Span) (a : Expr) → IsUnary m op → DerivesExpr 11 ts a
        → DerivesExpr 11 (marked m s ∷ ts) (expr_of (expr.Unary op a) (marked m s ∷ ts))
    cast : (ts us : List Token) (s z : Span) (t : Ty) (a : Expr) → DerivesType ts t → DerivesExpr 11 us a
        → DerivesExpr 11 (between mark.Open s ts mark.Close z ++ us) (expr_of (expr.Cast t a) (between mark.Open s ts mark.Close z ++ us))
    number : (n : ℕ) (t : Ty) (s : Span) → DerivesExpr 12 (numbered n t s ∷ []) (expr_of (expr.Number n t) (numbered n t s ∷ []))
    name : (x : List ℕ) (s : Span) → DerivesExpr 12 (named x s ∷ []) (expr_of (expr.Name x) (named x s ∷ []))
    element : (x : List ℕ) (s : Span) (ts : List Token) (e : Expr) (es : List Expr) → DerivesIndices ts (e ∷ es)
        → DerivesExpr 12 (named x s ∷ ts) (expr_of (expr.Element x (e ∷ es)) (named x s ∷ ts))
    call : (x : List ℕ) (s a z : Span) (ts : List Token) (es : List Expr) → DerivesArgs ts es
        → DerivesExpr 12 (named x s ∷ between mark.Open a ts mark.Close z) (expr_of (expr.Call x es) (named x s ∷ between mark.Open a ts mark.Close z))
    parens : (ts : List Token) (s z : Span) (e : Expr) → DerivesExpr 0 ts e → DerivesExpr 12 (between mark.Open s ts mark.Close z) e

  -- bracketed indices, of which there may be none
  pub data DerivesIndices : List Token → List Expr → Type 0 where
    no_more : DerivesIndices [] []
    one_more : (ts us : List Token) (s z : Span) (e : Expr) (es : List Expr) → DerivesExpr 0 ts e → DerivesIndices us es
        → DerivesIndices (between mark.OpenBracket s ts mark.CloseBracket z ++ us) (e ∷ es)

  -- arguments with commas between them, of which there may be none
  pub data DerivesArgs : List Token → List Expr → Type 0 where
    no_arguments : DerivesArgs [] []
    arguments : (ts us : List Token) (e : Expr) (es : List Expr) → DerivesExpr 0 ts e → DerivesMoreArgs us es → DerivesArgs (ts ++ us) (e ∷ es)

  -- further arguments, each behind a comma
  pub data DerivesMoreArgs : List Token → List Expr → Type 0 where
    no_further : DerivesMoreArgs [] []
    one_further : (ts us : List Token) (s : Span) (e : Expr) (es : List Expr) → DerivesExpr 0 ts e → DerivesMoreArgs us es
        → DerivesMoreArgs (marked mark.Comma s ∷ (ts ++ us)) (e ∷ es)

-- ---- assignments and steps

pub data DerivesTarget : List Token → Target → Type 0 where
  target : (x : List ℕ) (s : Span) (ts : List Token) (es : List Expr) → DerivesIndices ts es
      → DerivesTarget (named x s ∷ ts) (record { name = x; at = place_of (named x s ∷ ts); indices = es })

-- ++ goes up, and -- down
pub data IsStep : Mark → Bool → Type 0 where
  up : IsStep mark.Increment true
  down : IsStep mark.Decrement false

pub data DerivesSimple : List Token → Stmt → Type 0 where
  assign : (ts us : List Token) (m : Mark) (s : Span) (t : Target) (op : Option Binary) (e : Expr) → DerivesTarget ts t → IsAssigning m op → DerivesExpr 0 us e
      → DerivesSimple (ts ++ marked m s ∷ us) (stmt_of (stmt.Assign t op e) (ts ++ marked m s ∷ us))
  step_after : (ts : List Token) (m : Mark) (s : Span) (t : Target) (b : Bool) → DerivesTarget ts t → IsStep m b
      → DerivesSimple (ts ++ marked m s ∷ []) (stmt_of (stmt.Step t b) (ts ++ marked m s ∷ []))
  step_before : (ts : List Token) (m : Mark) (s : Span) (t : Target) (b : Bool) → IsStep m b → DerivesTarget ts t
      → DerivesSimple (marked m s ∷ ts) (stmt_of (stmt.Step t b) (marked m s ∷ ts))

-- what may be absent
pub data DerivesOption : List Token → Option Expr → Type 0 where
  absent : DerivesOption [] None
  present : (ts : List Token) (e : Expr) → DerivesExpr 0 ts e → DerivesOption ts (Some e)

pub data DerivesStep : List Token → Option Stmt → Type 0 where
  absent : DerivesStep [] None
  present : (ts : List Token) (s : Stmt) → DerivesSimple ts s → DerivesStep ts (Some s)

-- ---- declarations: one statement for each declared name, with the place of the name

pub data DerivesDeclared : Ty → List Token → Stmt → Type 0 where
  without_value : (t : Ty) (x : List ℕ) (s : Span) → DerivesDeclared t (named x s ∷ []) (record { kind = stmt.Declare x t None; at = s })
  with_value : (t : Ty) (x : List ℕ) (s a : Span) (ts : List Token) (e : Expr) → DerivesExpr 0 ts e
      → DerivesDeclared t (named x s ∷ marked mark.Assign a ∷ ts) (record { kind = stmt.Declare x t (Some e); at = s })

pub data DerivesDeclarators : Ty → List Token → List Stmt → Type 0 where
  last_one : (t : Ty) (ts : List Token) (d : Stmt) → DerivesDeclared t ts d → DerivesDeclarators t ts (d ∷ [])
  one_more : (t : Ty) (ts us : List Token) (s : Span) (d : Stmt) (ds : List Stmt) → DerivesDeclared t ts d → DerivesDeclarators t us ds
      → DerivesDeclarators t (ts ++ marked mark.Comma s ∷ us) (d ∷ ds)

pub data DerivesDeclaration : List Token → List Stmt → Type 0 where
  declaration : (ts us : List Token) (z : Span) (t : Ty) (ds : List Stmt) → DerivesType ts t → DerivesDeclarators t us ds
      → DerivesDeclaration (ts ++ (us ++ marked mark.Semicolon z ∷ [])) ds

-- the first part of a for, with its semicolon
pub data DerivesFirst : List Token → List Stmt → Type 0 where
  nothing : (z : Span) → DerivesFirst (marked mark.Semicolon z ∷ []) []
  simple : (ts : List Token) (z : Span) (s : Stmt) → DerivesSimple ts s → DerivesFirst (ts ++ marked mark.Semicolon z ∷ []) (s ∷ [])
  declares : (ts : List Token) (ds : List Stmt) → DerivesDeclaration ts ds → DerivesFirst ts ds

-- ---- statements

-- the tokens of a control statement's parts
abbrev pub if_tokens : Span → Span → List Token → Span → List Token → List Token
if_tokens s a ts z us = keyed key.If s ∷ (between mark.Open a ts mark.Close z ++ us)

abbrev pub if_else_tokens : Span → Span → List Token → Span → List Token → Span → List Token → List Token
if_else_tokens s a ts z us e vs = if_tokens s a ts z us ++ keyed key.Else e ∷ vs

abbrev pub while_tokens : Span → Span → List Token → Span → List Token → List Token
while_tokens s a ts z us = keyed key.While s ∷ (between mark.Open a ts mark.Close z ++ us)

abbrev pub do_tokens : Span → List Token → Span → Span → List Token → Span → List Token
do_tokens s us w a ts z = keyed key.Do s ∷ (us ++ keyed key.While w ∷ between mark.Open a ts mark.Close z)

abbrev pub for_tokens : Span → Span → List Token → List Token → Span → List Token → Span → List Token → List Token
for_tokens s a ts us b vs z ws = keyed key.For s ∷ marked mark.Open a ∷ (ts ++ (us ++ marked mark.Semicolon b ∷ (vs ++ marked mark.Close z ∷ ws)))

mutual
  -- The flag tells that it ends in an if without else. An else belongs to the nearest if: what stands before it does not so end.
  pub data DerivesStmt : Bool → List Token → Stmt → Type 0 where
    block : (ts : List Token) (s z : Span) (ss : List Stmt) → DerivesItems ts ss
        → DerivesStmt false (between mark.OpenBrace s ts mark.CloseBrace z) (stmt_of (stmt.Block ss) (between mark.OpenBrace s ts mark.CloseBrace z))
    empty : (s : Span) → DerivesStmt false (marked mark.Semicolon s ∷ []) (stmt_of stmt.Empty (marked mark.Semicolon s ∷ []))
    simple : (ts : List Token) (z : Span) (s : Stmt) → DerivesSimple ts s → DerivesStmt false (ts ++ marked mark.Semicolon z ∷ []) s
    without_else : (f : Bool) (s a z : Span) (ts us : List Token) (c : Expr) (b : Stmt) → DerivesExpr 0 ts c → DerivesStmt f us b
        → DerivesStmt true (if_tokens s a ts z us) (stmt_of (stmt.If c b None) (if_tokens s a ts z us))
    with_else : (f : Bool) (s a z e : Span) (ts us vs : List Token) (c : Expr) (b d : Stmt) → DerivesExpr 0 ts c → DerivesStmt false us b → DerivesStmt f vs d
        → DerivesStmt f (if_else_tokens s a ts z us e vs) (stmt_of (stmt.If c b (Some d)) (if_else_tokens s a ts z us e vs))
    while_loop : (f : Bool) (s a z : Span) (ts us : List Token) (c : Expr) (b : Stmt) → DerivesExpr 0 ts c → DerivesStmt f us b
        → DerivesStmt f (while_tokens s a ts z us) (stmt_of (stmt.While c b) (while_tokens s a ts z us))
    do_loop : (f : Bool) (s w a z y : Span) (ts us : List Token) (c : Expr) (b : Stmt) → DerivesStmt f us b → DerivesExpr 0 ts c
        → DerivesStmt false (do_tokens s us w a ts z ++ marked mark.Semicolon y ∷ []) (stmt_of (stmt.DoWhile b c) (do_tokens s us w a ts z))
    for_loop : (f : Bool) (s a b z : Span) (ts us vs ws : List Token) (first : List Stmt) (c : Option Expr) (step : Option Stmt) (body : Stmt)
        → DerivesFirst ts first → DerivesOption us c → DerivesStep vs step → DerivesStmt f ws body
        → DerivesStmt f (for_tokens s a ts us b vs z ws) (stmt_of (stmt.For first c step body) (for_tokens s a ts us b vs z ws))
    leaving : (s z : Span) → DerivesStmt false (keyed key.Break s ∷ marked mark.Semicolon z ∷ []) (stmt_of stmt.Break (keyed key.Break s ∷ []))
    continuing : (s z : Span) → DerivesStmt false (keyed key.Continue s ∷ marked mark.Semicolon z ∷ []) (stmt_of stmt.Continue (keyed key.Continue s ∷ []))
    returning : (s z : Span) (ts : List Token) (e : Option Expr) → DerivesOption ts e
        → DerivesStmt false (keyed key.Return s ∷ (ts ++ marked mark.Semicolon z ∷ [])) (stmt_of (stmt.Return e) (keyed key.Return s ∷ ts))

  -- declarations and statements of a block
  pub data DerivesItems : List Token → List Stmt → Type 0 where
    done : DerivesItems [] []
    statement : (f : Bool) (ts us : List Token) (s : Stmt) (ss : List Stmt) → DerivesStmt f ts s → DerivesItems us ss → DerivesItems (ts ++ us) (s ∷ ss)
    declares : (ts us : List Token) (ds ss : List Stmt) → DerivesDeclaration ts ds → DerivesItems us ss → DerivesItems (ts ++ us) (ds ++ ss)

-- ---- kernels

pub data DerivesDims : List Token → List ℕ → Type 0 where
  no_more : DerivesDims [] []
  one_more : (s n z : Span) (d : ℕ) (t : Ty) (us : List Token) (ds : List ℕ) → DerivesDims us ds
      → DerivesDims (between mark.OpenBracket s (numbered d t n ∷ []) mark.CloseBracket z ++ us) (d ∷ ds)

pub data DerivesParam : List Token → Param → Type 0 where
  param : (ts us : List Token) (t : Ty) (x : List ℕ) (s : Span) (ds : List ℕ) → DerivesType ts t → DerivesDims us ds
      → DerivesParam (ts ++ named x s ∷ us) (record { name = x; at = s; ty = t; dims = ds })

-- one or more, with commas between them
pub data DerivesParamList : List Token → List Param → Type 0 where
  last_one : (ts : List Token) (p : Param) → DerivesParam ts p → DerivesParamList ts (p ∷ [])
  one_more : (ts us : List Token) (s : Span) (p : Param) (ps : List Param) → DerivesParam ts p → DerivesParamList us ps → DerivesParamList (ts ++ marked mark.Comma s ∷ us) (p ∷ ps)

pub data DerivesParams : List Token → List Param → Type 0 where
  none : DerivesParams [] []
  none_by_void : (s : Span) → DerivesParams (keyed key.Void s ∷ []) []
  some : (ts : List Token) (ps : List Param) → DerivesParamList ts ps → DerivesParams ts ps

pub data DerivesResult : List Token → Option Ty → Type 0 where
  void : (s : Span) → DerivesResult (keyed key.Void s ∷ []) None
  a_type : (ts : List Token) (t : Ty) → DerivesType ts t → DerivesResult ts (Some t)

-- the tokens of a kernel text
abbrev pub kernel_tokens : List Token → List ℕ → Span → Span → List Token → Span → Span → List Token → Span → List Token
kernel_tokens rs x s a ps z b ts e = rs ++ named x s ∷ (between mark.Open a ps mark.Close z ++ between mark.OpenBrace b ts mark.CloseBrace e)

pub data Derives : List Token → Tree → Type 0 where
  kernel : (rs ps ts : List Token) (x : List ℕ) (s a z b e : Span) (r : Option Ty) (params : List Param) (body : List Stmt)
      → DerivesResult rs r → DerivesParams ps params → DerivesItems ts body
      → Derives (kernel_tokens rs x s a ps z b ts e) (record { name = x; at = s; result = r; params = params; body = body })
