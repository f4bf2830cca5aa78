-- The tokens that begin a text, and the places at which a list of tokens is refused: of any grammar, where D derives trees from tokens and a derivation has a nesting at each token; and of kernel texts.
use Rattle.std.specs.Prelude.{◌≡◌, ℕ, ◌<◌, ◌≤◌, List, [], ◌∷◌, ◌++◌, length}
use Rattle.el_base.specs.Limits.{max_nesting}
use Rattle.el_base.specs.declared.span.Span.{Span}
use Rattle.c_ast.specs.declared.token.Token.{Token}
use Rattle.c_ast.specs.declared.tree.Tree.{Tree}
use Rattle.c_ast.specs.Derives.{Derives}
use Rattle.c_ast.specs.Nesting.{nesting}

-- ---- any grammar

-- some text begins with these tokens
pub record BeginsBy {A : Type 0} (D : List Token → A → Type 0) (ts : List Token) : Type 0 where
  pub rest : List Token
  pub tree : A
  pub derived : D (ts ++ rest) tree

-- Some text begins with these tokens and then this one, and its nesting is this at these tokens, and that at the one.
pub record NestedBy {A : Type 0} (D : List Token → A → Type 0) (nests : (ts : List Token) (x : A) → D ts x → List ℕ) (ts : List Token) (ns : List ℕ) (t : Token) (n : ℕ) : Type 0 where
  pub rest : List Token
  pub tree : A
  pub derived : D (ts ++ t ∷ rest) tree
  pub later : List ℕ
  pub known : nests (ts ++ t ∷ rest) tree derived ≡ ns ++ n ∷ later
  pub each : length ns ≡ length ts

-- at none of these tokens, which begin a text, the nesting passes the most
abbrev pub IsShallowBy : {A : Type 0} (D : List Token → A → Type 0) (nests : (ts : List Token) (x : A) → D ts x → List ℕ) → List Token → Type 0
IsShallowBy D nests ts = (us vs : List Token) (t : Token) (ns : List ℕ) (n : ℕ) → ts ≡ us ++ t ∷ vs → NestedBy D nests us ns t n → n ≤ max_nesting

-- The refusals of tokens, each with the place of a token.

-- 10: the tokens before one begin a text and are shallow, and with that one they begin none
pub record IsUnexpectedBy {A : Type 0} (D : List Token → A → Type 0) (nests : (ts : List Token) (x : A) → D ts x → List ℕ) (tokens : List Token) (at : Span) : Type 0 where
  pub before : List Token
  pub after : List Token
  pub token : Token
  pub split : tokens ≡ before ++ token ∷ after
  pub place : at ≡ token.span
  pub begins : BeginsBy D before
  pub shallow : IsShallowBy D nests before
  pub ends : BeginsBy D (before ++ token ∷ []) → ⊥

-- 11: all tokens begin a text and are shallow, and they are none
pub record IsCutBy {A : Type 0} (D : List Token → A → Type 0) (nests : (ts : List Token) (x : A) → D ts x → List ℕ) (tokens : List Token) : Type 0 where
  pub begins : BeginsBy D tokens
  pub shallow : IsShallowBy D nests tokens
  pub none : (tree : A) → D tokens tree → ⊥

-- 12: the tokens up to one begin a text; those before it are shallow, and at it the nesting passes the most
pub record IsDeepBy {A : Type 0} (D : List Token → A → Type 0) (nests : (ts : List Token) (x : A) → D ts x → List ℕ) (tokens : List Token) (at : Span) : Type 0 where
  pub before : List Token
  pub after : List Token
  pub token : Token
  pub split : tokens ≡ before ++ token ∷ after
  pub place : at ≡ token.span
  pub shallow : IsShallowBy D nests before
  pub levels : List ℕ
  pub level : ℕ
  pub nested : NestedBy D nests before levels token level
  pub passes : max_nesting < level

-- ---- kernel texts

abbrev pub kernel_nesting : (ts : List Token) (tree : Tree) → Derives ts tree → List ℕ
kernel_nesting ts tree d = nesting d

abbrev pub Begins : List Token → Type 0
Begins = BeginsBy Derives

abbrev pub Nested : List Token → List ℕ → Token → ℕ → Type 0
Nested = NestedBy Derives kernel_nesting

abbrev pub IsShallow : List Token → Type 0
IsShallow = IsShallowBy Derives kernel_nesting

abbrev pub IsUnexpected : List Token → Span → Type 0
IsUnexpected = IsUnexpectedBy Derives kernel_nesting

abbrev pub IsCut : List Token → Type 0
IsCut = IsCutBy Derives kernel_nesting

abbrev pub IsDeep : List Token → Span → Type 0
IsDeep = IsDeepBy Derives kernel_nesting
