-- Texts of programs, helpers before a kernel (ISO/IEC 9899:1999 6.5.2.2, 6.9.1): which tokens they are, which tree they have, how deep they nest, and the places at which a list of tokens is refused.
use Rattle.std.specs.Prelude.{◌≡◌, ℕ, List, [], ◌∷◌, ◌++◌, All}
use Rattle.el_base.specs.declared.span.Span.{Span}
use Rattle.el_base.specs.declared.ty.Ty.{Ty}
use Rattle.c_ast.specs.declared.token.Token.{Token}
use Rattle.c_ast.specs.declared.token.Word.{Word}
use Rattle.c_ast.specs.declared.token.Word.TheVariants as word
use Rattle.c_ast.specs.declared.key.Key.TheVariants as key
use Rattle.c_ast.specs.declared.mark.Mark.TheVariants as mark
use Rattle.c_ast.specs.declared.tree.Param.{Param}
use Rattle.c_ast.specs.declared.tree.Expr.{Expr}
use Rattle.c_ast.specs.declared.tree.Stmt.{Stmt}
use Rattle.c_ast.specs.declared.tree.Helper.{Helper}
use Rattle.c_ast.specs.declared.tree.Program.{Program}
use Rattle.c_ast.specs.declared.tree.Tree.{Tree}
use Rattle.c_ast.specs.Derives.{marked, keyed, named, between, DerivesType, DerivesParams, DerivesItems, DerivesExpr, Derives}
use Rattle.c_ast.specs.Nesting.{at_level, enclosed, params_nesting, items_nesting, expr_nesting, nesting}
use Rattle.c_ast.specs.Prefixes.{BeginsBy, NestedBy, IsShallowBy, IsUnexpectedBy, IsCutBy, IsDeepBy}

-- ---- grammar

-- the word return stands in return statements alone, so statements without one are those of tokens without the word
abbrev pub IsNoReturn : Word → Type 0
IsNoReturn (word.Key k) = k ≡ key.Return → ⊥
IsNoReturn w = Unit {0}

-- the tokens of a helper's block: its statements, and a return with the value
abbrev pub block_tokens : Span → List Token → Span → List Token → Span → Span → List Token
block_tokens b ts r us e y = between mark.OpenBrace b (ts ++ keyed key.Return r ∷ (us ++ marked mark.Semicolon e ∷ [])) mark.CloseBrace y

-- the tokens of a helper: its result, its name, its parameters and its block
abbrev pub helper_tokens : Span → List Token → List ℕ → Span → Span → List Token → Span → Span → List Token → Span → List Token → Span → Span → List Token
helper_tokens f rs x s a ps z b ts r us e y = keyed key.Static f ∷ (rs ++ named x s ∷ (between mark.Open a ps mark.Close z ++ block_tokens b ts r us e y))

-- a helper has scalars alone as parameters, and returns at its end alone
pub data DerivesHelper : List Token → Helper → Type 0 where
  helper : (rs ps ts us : List Token) (x : List ℕ) (f s a z b r e y : Span) (t : Ty) (params : List Param) (body : List Stmt) (v : Expr)
      → DerivesType rs t → DerivesParams ps params → All (λ p. p.dims ≡ []) params → DerivesItems ts body → All (λ w. IsNoReturn w.word) ts → DerivesExpr 0 us v
      → DerivesHelper (helper_tokens f rs x s a ps z b ts r us e y) (record { name = x; at = s; result = t; params = params; body = body; value = v })

pub data DerivesHelpers : List Token → List Helper → Type 0 where
  no_more : DerivesHelpers [] []
  one_more : (ts us : List Token) (h : Helper) (hs : List Helper) → DerivesHelper ts h → DerivesHelpers us hs → DerivesHelpers (ts ++ us) (h ∷ hs)

pub data DerivesProgram : List Token → Program → Type 0 where
  program : (ts us : List Token) (hs : List Helper) (tree : Tree) → DerivesHelpers ts hs → Derives us tree
      → DerivesProgram (ts ++ us) (record { helpers = hs; kernel = tree })

-- ---- nesting: a helper's braces are a block, and the parentheses of its parameters a group

abbrev pub helper_nesting : {ts : List Token} {h : Helper} → DerivesHelper ts h → List ℕ
helper_nesting (DerivesHelper.helper rs ps ts us x f s a z b r e y t params body v result inside scalars items plain value) =
    0 ∷ (at_level 0 rs ++ 0 ∷ (enclosed 1 (params_nesting 1 inside) ++ enclosed 1 (items_nesting 1 items ++ 1 ∷ (expr_nesting 1 value ++ 1 ∷ []))))

abbrev pub helpers_nesting : {ts : List Token} {hs : List Helper} → DerivesHelpers ts hs → List ℕ
helpers_nesting DerivesHelpers.no_more = []
helpers_nesting (DerivesHelpers.one_more ts us h hs d ds) = helper_nesting d ++ helpers_nesting ds

-- the nesting at each token of a program's text, in order
abbrev pub program_nesting : (ts : List Token) (p : Program) → DerivesProgram ts p → List ℕ
program_nesting ts p (DerivesProgram.program us vs hs tree ds d) = helpers_nesting ds ++ nesting d

-- ---- prefixes and refusals

abbrev pub BeginsProgram : List Token → Type 0
BeginsProgram = BeginsBy DerivesProgram

abbrev pub NestedInProgram : List Token → List ℕ → Token → ℕ → Type 0
NestedInProgram = NestedBy DerivesProgram program_nesting

abbrev pub IsShallowProgram : List Token → Type 0
IsShallowProgram = IsShallowBy DerivesProgram program_nesting

abbrev pub IsUnexpectedInProgram : List Token → Span → Type 0
IsUnexpectedInProgram = IsUnexpectedBy DerivesProgram program_nesting

abbrev pub IsCutProgram : List Token → Type 0
IsCutProgram = IsCutBy DerivesProgram program_nesting

abbrev pub IsDeepInProgram : List Token → Span → Type 0
IsDeepInProgram = IsDeepBy DerivesProgram program_nesting
