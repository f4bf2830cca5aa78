use Rattle.std.proofs.Common.{◌-◌, ◌^◌, [], map, min, arith, ap, ◌∙◌}
use Rattle.c_ast.specs.Nodes.{params_nodes}
use Rattle.c_calls.specs.Counts.{blocks_nodes, inlined_list_nodes}
use Rattle.c_inline.specs.Code.{at_most_u64}
use Rattle.c_inline.proofs.Stopped.{nodes_stop}
use Rattle.c_inline.proofs.count.inlined_nodes.Goals as goal

pub returns : goal.returns
returns c =
    let P = c.args.program.now in
    let bs = c.in_ok-blocks.blocks in
    let table = c.in_ok-blocks.ensures ∙ ap (λ l. map at_most_u64 (blocks_nodes [] l)) c.as_slice.ensures in
    let body =
    c.of_stmts-body.ensures ∙ ap (λ l. min (inlined_list_nodes l c.as_slice-4.result.now) (2 ^ 64 - 1)) c.as_slice-3.ensures ∙ ap (λ l. min (inlined_list_nodes bs l) (2 ^ 64 - 1)) c.as_slice-4.ensures in
    omega (arith, nodes_stop (blocks_nodes [] P.helpers) P.kernel.body bs _ table body, c.of_params-params.ensures, ap params_nodes c.as_slice-2.ensures, c.saturating_add.ensures, c.saturating_add-2.ensures)
