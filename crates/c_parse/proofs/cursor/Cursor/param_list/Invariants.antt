use Rattle.std.proofs.Common.{ℕ, ◌<◌, [], ◌∷◌, length}
use Rattle.el_base.specs.Limits.{max_nesting}
use Rattle.c_ast.specs.Derives.{DerivesParamList}
use Rattle.c_parse.specs.Reads.{Reads}
use Rattle.c_parse.specs.Symbols.{Symbol}
use Rattle.c_parse.specs.Parts.{param_list_symbols}
use Rattle.c_parse.proofs.Chains.{Same}
use Rattle.c_parse.proofs.cursor.Cursor.param_list.Given as goal

abbrev pub invariant-params : goal.invariant-params
invariant-params l = record {
  read : Reads (λ ts. DerivesParamList ts l.params) l.fn.self.rest.now l.self.rest.now;
  judged : (n : ℕ) → n < max_nesting → Same (param_list_symbols n) (Symbol.more_params n ∷ []) l.fn.self.rest.now l.self.rest.now;
}

abbrev pub decreases-params : goal.decreases-params
decreases-params l = length l.self.rest.now
