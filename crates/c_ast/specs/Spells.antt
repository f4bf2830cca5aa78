-- A kernel text spells a tree: its tokens are those of the tree.
use Rattle.std.specs.Prelude.{ℕ, List}
use Rattle.c_ast.specs.Derives.{Derives}
use Rattle.c_ast.specs.Tokens.{Tokens}
use Rattle.c_ast.specs.declared.token.Token.{Token}
use Rattle.c_ast.specs.declared.tree.Tree.{Tree}

pub record Spells (bytes : List ℕ) (tree : Tree) : Type 0 where
  pub tokens : List Token
  pub read : Tokens bytes tokens
  pub derived : Derives tokens tree
