-- Worked programs with calls, by computation.
use Rattle.std.proofs.Common.{refl}
use Rattle.c_calls.specs.Worked.{EndsWithFifteen, HasTwoBlocks, HasItsNodes, LocalIsUnset, EndsWithZero, OutOfTurns}
use Rattle.c_meaning.proofs.TreeRows.{typed_rows}
use Rattle.c_calls.proofs.TreeRows.{prog_expr_rows, prog_stmt_rows}

pub ends_with_fifteen : EndsWithFifteen
ends_with_fifteen = unfold typed_rows prog_expr_rows prog_stmt_rows in (6, record { bound = 6; all_turns = refl; arrays = refl; result = refl })

pub has_two_blocks : HasTwoBlocks
has_two_blocks = unfold typed_rows prog_expr_rows prog_stmt_rows in refl

pub has_its_nodes : HasItsNodes
has_its_nodes = unfold prog_expr_rows prog_stmt_rows in refl

pub local_is_unset : LocalIsUnset
local_is_unset = unfold typed_rows prog_expr_rows prog_stmt_rows in refl

pub ends_with_zero : EndsWithZero
ends_with_zero = unfold typed_rows prog_expr_rows prog_stmt_rows in (12, record { bound = 12; all_turns = refl; arrays = refl; result = refl })

pub is_out_of_turns : OutOfTurns
is_out_of_turns = unfold typed_rows prog_expr_rows prog_stmt_rows in refl
