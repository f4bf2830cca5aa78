use Rattle.std.proofs.Common.{◌≡◌, ◌+◌, ◌*◌, ℕ, [], ◌∷◌, length}
use Rattle.el_base.specs.Limits.{max_nesting}
use Rattle.c_ast.specs.Derives.{DerivesItems}
use Rattle.c_parse.specs.Reads.{Reads}
use Rattle.c_parse.specs.Symbols.{Symbol}
use Rattle.c_parse.proofs.Chains.{Same}
use Rattle.c_parse.proofs.cursor.Cursor.+stmt.Given as goal

abbrev pub decreases-stmt : goal.decreases-stmt
decreases-stmt l = 8 * l.depth + 3

abbrev pub decreases-worded : goal.decreases-worded
decreases-worded l = 8 * l.depth + 2

abbrev pub decreases-keyed : goal.decreases-keyed
decreases-keyed l = 8 * l.depth + 1

abbrev pub decreases-block : goal.decreases-block
decreases-block l = 8 * l.depth + 1

abbrev pub decreases-braced : goal.decreases-braced
decreases-braced l = 8 * l.depth

abbrev pub decreases-item : goal.decreases-item
decreases-item l = 8 * l.depth + 4

abbrev pub decreases-if_stmt : goal.decreases-if_stmt
decreases-if_stmt l = 8 * l.depth

abbrev pub decreases-while_stmt : goal.decreases-while_stmt
decreases-while_stmt l = 8 * l.depth

abbrev pub decreases-do_stmt : goal.decreases-do_stmt
decreases-do_stmt l = 8 * l.depth

abbrev pub decreases-for_stmt : goal.decreases-for_stmt
decreases-for_stmt l = 8 * l.depth

abbrev pub invariant-braced-items : goal.invariant-braced-items
invariant-braced-items l = record {
  read : Reads (λ ts. DerivesItems ts l.body) l.initial.self.rest.now l.self.rest.now;
  judged : (n : ℕ) → n + l.depth ≡ max_nesting → Same (Symbol.body n ∷ []) (Symbol.body n ∷ []) l.initial.self.rest.now l.self.rest.now;
}

abbrev pub decreases-braced-items : goal.decreases-braced-items
decreases-braced-items l = length l.self.rest.now
