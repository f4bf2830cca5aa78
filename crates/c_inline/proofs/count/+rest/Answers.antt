use Rattle.std.proofs.Common.{arith, ap}
use Rattle.std.specs.Prelude.{sum_by}
use Rattle.c_calls.specs.Counts.{rest_expr_nodes}
use Rattle.c_inline.proofs.CountParts.{rest_element}
use Rattle.c_inline.proofs.count.+rest.Goals as goal

pub rest-returns-in-Element : goal.rest-returns-in-Element
rest-returns-in-Element t c =
    omega (arith, rest_element c.args.e.now _ _ c.in-Element.is, ap (sum_by rest_expr_nodes) c.as_slice.ensures, c.rests.ensures, c.saturating_add.ensures)
