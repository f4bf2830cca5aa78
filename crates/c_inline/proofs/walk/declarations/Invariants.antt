use Rattle.std.proofs.Common.{◌≡◌, ◌+◌, ◌++◌, drop}
use Rattle.c_calls.specs.Inlined.{declaring}
use Rattle.c_inline.proofs.walk.declarations.Given as goal

abbrev pub invariant-loop-arg : goal.invariant-loop-arg
invariant-loop-arg l = record {
  number : l.var ≡ l.first + l.arg-index;
  goes : l.stmts ++ declaring l.var (drop l.arg-index l.args) l.at ≡ declaring l.first l.args l.at;
}
