-- What was read between two places of a list of tokens.
use Rattle.std.specs.Prelude.{◌≡◌, ℕ, List, [], ◌∷◌, ◌++◌, All, Bool, true, false, Option, Some, None}
use Rattle.el_base.specs.declared.span.Span.{Span}
use Rattle.el_base.specs.declared.ty.Ty.{Ty}
use Rattle.c_ast.specs.declared.token.Token.{Token}
use Rattle.c_ast.specs.declared.token.Word.{Word}
use Rattle.c_ast.specs.declared.token.Word.TheVariants as word
use Rattle.c_ast.specs.declared.key.Key.{Key}
use Rattle.c_ast.specs.declared.key.Key.TheVariants as key
use Rattle.c_ast.specs.declared.mark.Mark.{Mark}
use Rattle.c_ast.specs.declared.mark.Mark.TheVariants as mark
use Rattle.c_ast.specs.declared.tree.Unary.{Unary}
use Rattle.c_ast.specs.declared.tree.Binary.{Binary}
use Rattle.c_ast.specs.declared.tree.Expr.{Expr}
use Rattle.c_ast.specs.declared.tree.Stmt.{Stmt}
use Rattle.c_parse.specs.Tables.{plain_type}
use Rattle.c_ast.specs.Derives.{marked, keyed, numbered, between, IsBinary, IsUnary, IsAssigning, IsStep, DerivesType, DerivesDeclarators, DerivesExpr, DerivesArgs, DerivesStmt, DerivesFirst, DerivesOption, DerivesStep, DerivesItems, DerivesParams}
use Rattle.c_ast.specs.ProgramTexts.{IsNoReturn}
use Rattle.c_ast.specs.declared.tree.Param.{Param}

-- the tokens from the one place to the other have D
pub record Reads (D : List Token → Type 0) (before after : List Token) : Type 0 where
  pub used : List Token
  pub split : before ≡ used ++ after
  pub derived : D used

-- the same of tokens and statements, where the statements were added to those of a list
pub record Adds (D : List Token → List Stmt → Type 0) (before after : List Token) (old new : List Stmt) : Type 0 where
  pub used : List Token
  pub split : before ≡ used ++ after
  pub added : List Stmt
  pub grown : new ≡ old ++ added
  pub derived : D used added

-- ---- the next token

abbrev pub mark_of : Word → Option Mark
mark_of (word.Mark m) = Some m
mark_of w = None

abbrev pub mark_at : List Token → Option Mark
mark_at [] = None
mark_at (t ∷ ts) = mark_of t.word

abbrev pub key_of : Word → Option Key
key_of (word.Key k) = Some k
key_of w = None

abbrev pub key_at : List Token → Option Key
key_at [] = None
key_at (t ∷ ts) = key_of t.word

abbrev pub is_else_word : Option Key → Bool
is_else_word (Some key.Else) = true
is_else_word k = false

abbrev pub is_else : List Token → Bool
is_else ts = is_else_word (key_at ts)

-- one token, a number
pub record Numbered (n : ℕ) (before after : List Token) : Type 0 where
  pub ty : Ty
  pub place : Span
  pub split : before ≡ numbered n ty place ∷ after

-- one token, the word int, or none where that word does not come next
pub data MaySkip (before after : List Token) : Type 0 where
  none : before ≡ after → (key_at before ≡ Some key.Int → ⊥) → MaySkip before after
  int : (s : Span) → before ≡ keyed key.Int s ∷ after → MaySkip before after

-- one token, a reserved word that names that type by itself
pub record NamesType (k : Key) (t : Ty) (before after : List Token) : Type 0 where
  pub place : Span
  pub split : before ≡ keyed k place ∷ after
  pub type : plain_type k ≡ Some t

-- ---- operators

-- one token, a binary operator of that level
pub record Operates (op : Binary) (level : ℕ) (before after : List Token) : Type 0 where
  pub mark : Mark
  pub place : Span
  pub split : before ≡ marked mark place ∷ after
  pub operator : IsBinary mark op level

-- one token, a unary operator at that place
pub record Signs (op : Unary) (place : Span) (before after : List Token) : Type 0 where
  pub mark : Mark
  pub split : before ≡ marked mark place ∷ after
  pub operator : IsUnary mark op

-- one token, an assignment
pub record Assigns (op : Option Binary) (before after : List Token) : Type 0 where
  pub mark : Mark
  pub place : Span
  pub split : before ≡ marked mark place ∷ after
  pub operator : IsAssigning mark op

-- one token, a step
pub record Steps (up : Bool) (before after : List Token) : Type 0 where
  pub mark : Mark
  pub place : Span
  pub split : before ≡ marked mark place ∷ after
  pub operator : IsStep mark up

-- ---- parts of rules

-- an expression in parentheses
pub data InParens : List Token → Expr → Type 0 where
  in_parens : (ts : List Token) (s z : Span) (e : Expr) → DerivesExpr 0 ts e → InParens (between mark.Open s ts mark.Close z) e

-- an expression in brackets
pub data InBrackets : List Token → Expr → Type 0 where
  in_brackets : (ts : List Token) (s z : Span) (e : Expr) → DerivesExpr 0 ts e → InBrackets (between mark.OpenBracket s ts mark.CloseBracket z) e

-- the arguments of a call in parentheses
pub data InCall : List Token → List Expr → Type 0 where
  in_call : (ts : List Token) (s z : Span) (es : List Expr) → DerivesArgs ts es → InCall (between mark.Open s ts mark.Close z) es

-- parameters that are scalars, and the closing parenthesis
pub data ClosedScalars : List Token → List Param → Type 0 where
  closed_scalars : (ts : List Token) (z : Span) (ps : List Param) → DerivesParams ts ps → All (λ p. p.dims ≡ []) ps → ClosedScalars (ts ++ marked mark.Close z ∷ []) ps

-- declarations and statements without the word return
pub record PlainItems (ts : List Token) (ss : List Stmt) : Type 0 where
  pub derived : DerivesItems ts ss
  pub plain : All (λ t. IsNoReturn t.word) ts

-- parameters, and the closing parenthesis
pub data ClosedParams : List Token → List Param → Type 0 where
  closed_params : (ts : List Token) (z : Span) (ps : List Param) → DerivesParams ts ps → ClosedParams (ts ++ marked mark.Close z ∷ []) ps

-- declarations and statements in braces
pub data InBraces : List Token → List Stmt → Type 0 where
  in_braces : (ts : List Token) (s z : Span) (ss : List Stmt) → DerivesItems ts ss → InBraces (between mark.OpenBrace s ts mark.CloseBrace z) ss

-- a type and the names declared with it
pub data Declaring (t : Ty) : List Token → List Stmt → Type 0 where
  declaring : (ts us : List Token) (ds : List Stmt) → DerivesType ts t → DerivesDeclarators t us ds → Declaring t (ts ++ us) ds

-- a dimension in brackets
pub data DerivesDim : List Token → ℕ → Type 0 where
  dim : (s n z : Span) (d : ℕ) (t : Ty) → DerivesDim (between mark.OpenBracket s (record { word = word.Number d t; span = n } ∷ []) mark.CloseBracket z) d

-- what stands between the parentheses of a for, with them
pub data DerivesHead : List Token → List Stmt → Option Expr → Option Stmt → Type 0 where
  head : (a b z : Span) (ts us vs : List Token) (first : List Stmt) (c : Option Expr) (step : Option Stmt)
      → DerivesFirst ts first → DerivesOption us c → DerivesStep vs step
      → DerivesHead (marked mark.Open a ∷ (ts ++ (us ++ marked mark.Semicolon b ∷ (vs ++ marked mark.Close z ∷ [])))) first c step

-- ---- statements

-- a statement was read, and no else follows that it could have taken
pub record ReadsStmt (s : Stmt) (before after : List Token) : Type 0 where
  pub open_end : Bool
  pub used : List Token
  pub split : before ≡ used ++ after
  pub derived : DerivesStmt open_end used s
  pub closed : open_end ≡ true → is_else after ≡ false
