use Rattle.std.proofs.Common.{length, take, drop}
use Rattle.c_types.specs.ProgramContexts.{AreProgStmts}
use Rattle.c_types.specs.ProgramParts.{TypingListWith}
use Rattle.c_types.proofs.program_casts.Caster.+cast_stmt.Given as goal

abbrev pub invariant-cast_stmts-loop-stmt : goal.invariant-cast_stmts-loop-stmt
invariant-cast_stmts-loop-stmt l = record {
  casts : AreProgStmts l.self.helpers.now l.self.returned l.initial.known (take l.stmt-index l.stmts) l.items l.known;
  others : TypingListWith l.self.helpers.now l.self.returned l.known.scopes (length l.known.types) (drop l.stmt-index l.stmts);
}
