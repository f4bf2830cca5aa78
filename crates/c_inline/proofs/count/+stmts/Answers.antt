use Rattle.std.proofs.Common.{arith, ap}
use Rattle.c_calls.specs.Counts.{inlined_list_nodes}
use Rattle.c_inline.specs.Code.{stmt_nodes}
use Rattle.c_inline.proofs.CountParts.{stmt_for}
use Rattle.c_inline.proofs.count.+stmts.Goals as goal

pub of_stmt-returns-in-For : goal.of_stmt-returns-in-For
of_stmt-returns-in-For t c =
    omega (
      arith,
      stmt_for c.args.blocks.now c.args.stmt.now _ _ _ _ c.in-For.is,
      ap (stmt_nodes c.args.blocks.now) c.get-in-For.ensures,
      ap (inlined_list_nodes c.args.blocks.now) c.as_slice-in-For.ensures,
      c.of_stmts-in-For.ensures,
      c.rest_option.ensures,
      c.of_held-in-For.ensures,
      c.of_stmt-in-For.ensures,
      c.saturating_add-in-For.ensures,
      c.saturating_add-in-For-2.ensures,
      c.saturating_add-in-For-3.ensures,
      c.saturating_add-in-For-4.ensures,
    )
