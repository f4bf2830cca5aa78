use Rattle.std.proofs.Common.{◌≡◌, ℕ, ◌+◌, ◌-◌, ◌*◌, ◌≤◌, [], ◌∷◌, ◌++◌, Some, length}
use Rattle.el_base.specs.Limits.{max_nesting}
use Rattle.c_ast.specs.declared.tree.Binary.{Binary}
use Rattle.c_ast.specs.Derives.{DerivesExpr, DerivesIndices}
use Rattle.c_parse.specs.Reads.{Reads}
use Rattle.c_parse.specs.Stops.{meaning_at}
use Rattle.c_parse.specs.Symbols.{Symbol, tails}
use Rattle.c_parse.specs.Tables.{operator_of}
use Rattle.c_parse.specs.Parts.{argument_list_symbols}
use Rattle.c_parse.proofs.CallRules.{SomeArguments}
use Rattle.c_parse.proofs.Chains.{Same}
use Rattle.c_parse.proofs.cursor.Cursor.+expr.Given as goal

abbrev pub decreases-expr : goal.decreases-expr
decreases-expr l = 20 * l.depth + 15

abbrev pub decreases-binary : goal.decreases-binary
decreases-binary l = 20 * l.depth + (15 - l.level)

abbrev pub decreases-unary : goal.decreases-unary
decreases-unary l = 20 * l.depth + 3

abbrev pub decreases-named : goal.decreases-named
decreases-named l = 20 * l.depth + 2

abbrev pub decreases-arguments : goal.decreases-arguments
decreases-arguments l = 20 * l.depth + 1

abbrev pub decreases-any_arguments : goal.decreases-any_arguments
decreases-any_arguments l = 20 * l.depth + 17

abbrev pub decreases-argument_list : goal.decreases-argument_list
decreases-argument_list l = 20 * l.depth + 16

abbrev pub decreases-signed : goal.decreases-signed
decreases-signed l = 20 * l.depth

abbrev pub decreases-cast : goal.decreases-cast
decreases-cast l = 20 * l.depth

abbrev pub decreases-group : goal.decreases-group
decreases-group l = 20 * l.depth

abbrev pub decreases-index : goal.decreases-index
decreases-index l = 20 * l.depth

abbrev pub decreases-indices : goal.decreases-indices
decreases-indices l = 20 * l.depth + 1

abbrev pub invariant-binary-operators : goal.invariant-binary-operators
invariant-binary-operators l = record {
  read : Reads (λ ts. DerivesExpr l.level ts l.left) l.fn.self.rest.now l.self.rest.now;
  tight : (op : Binary) (k : ℕ) → meaning_at operator_of l.self.rest.now ≡ Some (op, k) → l.level ≤ k → k ≤ 10 → Reads (λ ts. DerivesExpr k ts l.left) l.fn.self.rest.now l.self.rest.now;
  judged : (n : ℕ) → n + l.depth ≡ max_nesting → Same (Symbol.expression n l.level ∷ []) (tails n l.level ++ []) l.fn.self.rest.now l.self.rest.now;
}

abbrev pub decreases-binary-operators : goal.decreases-binary-operators
decreases-binary-operators l = length l.self.rest.now

abbrev pub invariant-indices-brackets : goal.invariant-indices-brackets
invariant-indices-brackets l =
    Reads (λ ts. DerivesIndices ts l.indices) l.fn.self.rest.now l.self.rest.now
    × ((n : ℕ) → n + l.depth ≡ max_nesting → Same (Symbol.indices n ∷ []) (Symbol.indices n ∷ []) l.fn.self.rest.now l.self.rest.now)

abbrev pub decreases-indices-brackets : goal.decreases-indices-brackets
decreases-indices-brackets l = length l.self.rest.now

abbrev pub invariant-argument_list-arguments : goal.invariant-argument_list-arguments
invariant-argument_list-arguments l =
    Reads (SomeArguments l.args) l.fn.self.rest.now l.self.rest.now
    × ((n : ℕ) → n + l.depth ≡ max_nesting → Same (argument_list_symbols n) (Symbol.more_arguments n ∷ []) l.fn.self.rest.now l.self.rest.now)

abbrev pub decreases-argument_list-arguments : goal.decreases-argument_list-arguments
decreases-argument_list-arguments l = length l.self.rest.now
