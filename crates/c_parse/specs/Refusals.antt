-- What the refusals of tokens mean: of any grammar, where D derives trees from tokens, a derivation has a nesting at each token, and a tree has so many syntax nodes and the place of its name; and of kernel texts.
use Rattle.std.specs.Prelude.{◌≡◌, ◌≢◌, ◌⊎◌, ℕ, ◌<◌, ◌≤◌, ◌-◌, ◌^◌, min, List, Result, Ok, Err}
use Rattle.el_base.specs.Limits.{max_nodes}
use Rattle.el_base.specs.declared.span.Span.{Span}
use Rattle.c_ast.specs.declared.token.Token.{Token}
use Rattle.c_ast.specs.declared.tree.Tree.{Tree}
use Rattle.c_ast.specs.Derives.{Derives}
use Rattle.c_ast.specs.Nodes.{tree_nodes}
use Rattle.c_ast.specs.Prefixes.{IsShallowBy, IsUnexpectedBy, IsCutBy, IsDeepBy, kernel_nesting}
use Rattle.c_parse.specs.declared.refusal.ParseRefusal.{ParseRefusal}
use Rattle.c_parse.specs.declared.refusal.ParseRefusal.TheVariants as refusal
use Rattle.c_parse.specs.declared.refusal.Stop.{Stop}
use Rattle.c_parse.specs.declared.refusal.Stop.TheVariants as stop

-- the refusal of tokens that stop, where the place after them is this
abbrev pub refusal_of : Span → Stop → ParseRefusal
refusal_of end (stop.Unexpected at) = refusal.Unexpected at
refusal_of end stop.EndOfText = refusal.EndOfText end
refusal_of end (stop.TooDeep at) = refusal.TooDeep at
refusal_of end stop.Memory = refusal.Memory

-- ---- any grammar

-- a tree has too many syntax nodes: the place of its name, and how many they are, of which more than 2^64 - 1 are given as that
pub record IsLargeBy {A : Type 0} (nodes : A → ℕ) (name_at : A → Span) (tree : A) (at : Span) (n : ℕ) : Type 0 where
  pub place : at ≡ name_at tree
  pub count : n ≡ min (nodes tree) (2 ^ 64 - 1)
  pub many : max_nodes < nodes tree

-- a refusal says so
abbrev pub SaysLargeBy : {A : Type 0} (nodes : A → ℕ) (name_at : A → Span) → A → ParseRefusal → Type 0
SaysLargeBy nodes name_at tree (refusal.TooLarge at n) = IsLargeBy nodes name_at tree at n
SaysLargeBy nodes name_at tree e = ⊥

-- the tokens are a text within the limits, with this tree
pub record IsTextBy {A : Type 0} (D : List Token → A → Type 0) (nests : (ts : List Token) (x : A) → D ts x → List ℕ) (nodes : A → ℕ) (tokens : List Token) (tree : A) : Type 0 where
  pub derived : D tokens tree
  pub shallow : IsShallowBy D nests tokens
  pub small : nodes tree ≤ max_nodes

-- the tokens are a text, at none of them the nesting passes the most, and its tree has too many syntax nodes
pub record IsTooLargeBy {A : Type 0} (D : List Token → A → Type 0) (nests : (ts : List Token) (x : A) → D ts x → List ℕ) (nodes : A → ℕ) (name_at : A → Span) (tokens : List Token) (at : Span) (n : ℕ) : Type 0 where
  pub tree : A
  pub derived : D tokens tree
  pub shallow : IsShallowBy D nests tokens
  pub large : IsLargeBy nodes name_at tree at n

-- what an answer says of the tokens, behind which this place is; want of memory says nothing
abbrev pub SaysBy : {A : Type 0} (D : List Token → A → Type 0) (nests : (ts : List Token) (x : A) → D ts x → List ℕ) (nodes : A → ℕ) (name_at : A → Span) → List Token → Span → Result A ParseRefusal → Type 0
SaysBy D nests nodes name_at tokens end (Ok tree) = IsTextBy D nests nodes tokens tree
SaysBy D nests nodes name_at tokens end (Err (refusal.Unexpected at)) = IsUnexpectedBy D nests tokens at
SaysBy D nests nodes name_at tokens end (Err (refusal.EndOfText at)) = (at ≡ end) × IsCutBy D nests tokens
SaysBy D nests nodes name_at tokens end (Err (refusal.TooDeep at)) = IsDeepBy D nests tokens at
SaysBy D nests nodes name_at tokens end (Err (refusal.TooLarge at n)) = IsTooLargeBy D nests nodes name_at tokens at n
SaysBy D nests nodes name_at tokens end (Err refusal.Memory) = Unit {0}

-- no other answer but want of memory says what holds
abbrev pub IsOnlyBy : {A : Type 0} → (Result A ParseRefusal → Type 0) → Result A ParseRefusal → Type 0
IsOnlyBy {A} says r = (other : Result A ParseRefusal) → other ≢ Err refusal.Memory → says other → (r ≡ other) ⊎ (r ≡ Err refusal.Memory)

-- ---- kernel texts

abbrev pub IsLarge : Tree → ParseRefusal → Type 0
IsLarge = SaysLargeBy tree_nodes (λ tree. tree.at)

abbrev pub Says : List Token → Span → Result Tree ParseRefusal → Type 0
Says = SaysBy Derives kernel_nesting tree_nodes (λ tree. tree.at)

abbrev pub IsOnly : List Token → Span → Result Tree ParseRefusal → Type 0
IsOnly tokens end = IsOnlyBy (Says tokens end)
