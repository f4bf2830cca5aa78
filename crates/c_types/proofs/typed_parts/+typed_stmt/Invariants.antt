use Rattle.std.proofs.Common.{◌≡◌, take}
use Rattle.c_types.specs.TypedParts.{typed_stmts}
use Rattle.c_types.proofs.typed_parts.+typed_stmt.Given as goal

abbrev pub invariant-typed_stmts-loop-stmt : goal.invariant-typed_stmts-loop-stmt
invariant-typed_stmts-loop-stmt l = l.items ≡ typed_stmts (take l.stmt-index l.stmts)
