use Rattle.std.proofs.Common.{ℕ, ◌<◌, [], ◌∷◌, length}
use Rattle.el_base.specs.Limits.{max_nesting}
use Rattle.c_ast.specs.Derives.{DerivesDims}
use Rattle.c_parse.specs.Reads.{Reads}
use Rattle.c_parse.specs.Symbols.{Symbol}
use Rattle.c_parse.proofs.Chains.{Same}
use Rattle.c_parse.proofs.cursor.Cursor.dims.Given as goal

abbrev pub invariant-dims : goal.invariant-dims
invariant-dims l = record {
  read : Reads (λ ts. DerivesDims ts l.dims) l.fn.self.rest.now l.self.rest.now;
  judged : (n : ℕ) → n < max_nesting → Same (Symbol.dims n ∷ []) (Symbol.dims n ∷ []) l.fn.self.rest.now l.self.rest.now;
}

abbrev pub decreases-dims : goal.decreases-dims
decreases-dims l = length l.self.rest.now
