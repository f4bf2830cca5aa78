use Rattle.std.proofs.Common.{◌≡◌, ◌+◌, ℕ, ◌∷◌, length}
use Rattle.el_base.specs.Limits.{max_nesting}
use Rattle.c_parse.specs.Reads.{Adds, Declaring}
use Rattle.c_parse.specs.Symbols.{Symbol, declarators}
use Rattle.c_parse.proofs.Chains.{Same}
use Rattle.c_parse.proofs.JudgedSimple.{more_symbols}
use Rattle.c_parse.proofs.cursor.Cursor.declaration.Given as goal

abbrev pub invariant-declarators : goal.invariant-declarators
invariant-declarators l = record {
  read : Adds (λ ts ss. Declaring l.ty ts ss) l.fn.self.rest.now l.self.rest.now l.fn.into l.into;
  judged : (n : ℕ) → n + l.depth ≡ max_nesting → Same (Symbol.a_type n ∷ declarators n) (more_symbols n) l.fn.self.rest.now l.self.rest.now;
}

abbrev pub decreases-declarators : goal.decreases-declarators
decreases-declarators l = length l.self.rest.now
