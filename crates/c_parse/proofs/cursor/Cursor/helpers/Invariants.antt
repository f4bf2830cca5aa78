use Rattle.std.proofs.Common.{[], ◌∷◌, length}
use Rattle.c_ast.specs.ProgramTexts.{DerivesHelpers}
use Rattle.c_parse.specs.Reads.{Reads}
use Rattle.c_parse.specs.Symbols.{Symbol, program_symbols}
use Rattle.c_parse.proofs.Chains.{Same}
use Rattle.c_parse.proofs.cursor.Cursor.helpers.Given as goal

abbrev pub invariant-helpers : goal.invariant-helpers
invariant-helpers l = record {
  read : Reads (λ ts. DerivesHelpers ts l.helpers) l.fn.self.rest.now l.self.rest.now;
  judged : Same program_symbols (Symbol.program ∷ []) l.fn.self.rest.now l.self.rest.now;
}

abbrev pub decreases-helpers : goal.decreases-helpers
decreases-helpers l = length l.self.rest.now
