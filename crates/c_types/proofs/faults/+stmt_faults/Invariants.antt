use Rattle.std.proofs.Common.{◌≡◌, take}
use Rattle.c_types.specs.Places.{first_of}
use Rattle.c_types.specs.Faults.{stmts_faults, sorts_after_all}
use Rattle.c_types.proofs.faults.+stmt_faults.Given as goal

abbrev pub invariant-of_stmts-loop-stmt : goal.invariant-of_stmts-loop-stmt
invariant-of_stmts-loop-stmt l = record {
  fault : l.first ≡ first_of (stmts_faults (take l.stmt-index l.stmts) l.returned l.in_loop l.initial.scopes);
  scopes : l.scopes ≡ sorts_after_all l.initial.scopes (take l.stmt-index l.stmts);
}
