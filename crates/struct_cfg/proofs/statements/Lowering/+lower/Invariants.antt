use Rattle.std.proofs.Common.{◌≡◌, ◌+◌, ◌≤◌, drop}
use Rattle.struct_cfg.specs.Code.{draft_size, HasSpace}
use Rattle.c_meaning.specs.PartLaws.{blocks_of, steps_of}
use Rattle.struct_cfg.specs.Lists.{lower_all}
use Rattle.struct_cfg.proofs.statements.Lowering.+lower.Given as goal

abbrev pub invariant-lower_all-loop-stmt : goal.invariant-lower_all-loop-stmt
invariant-lower_all-loop-stmt l = record {
  made : lower_all l.self.arrays.now l.self.exit l.self.again (drop l.stmt-index l.stmts) l.draft ≡ lower_all l.self.arrays.now l.self.exit l.self.again l.stmts l.initial.draft;
  space : HasSpace l.draft (blocks_of (drop l.stmt-index l.stmts)) (steps_of (drop l.stmt-index l.stmts));
  few : draft_size l.draft + blocks_of (drop l.stmt-index l.stmts) + steps_of (drop l.stmt-index l.stmts) ≤ draft_size l.initial.draft + blocks_of l.stmts + steps_of l.stmts;
}
