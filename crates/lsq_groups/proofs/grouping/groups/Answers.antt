use Rattle.std.proofs.Common.{◌^◌, ◌∙◌, arith, sym, ap, subst, List, length}
use Rattle.std.specs.Prelude.{Bool}
use Rattle.ir.specs.Graphs.{Graph}
use Rattle.ir.specs.Accesses.{accesses_from}
use Rattle.lsq_groups.specs.Stores.{TellsReadOnly}
use Rattle.lsq_groups.specs.Order.{AreInOrder}
use Rattle.lsq_groups.proofs.Sizes.{few_blocks, all_few}
use Rattle.lsq_groups.proofs.Stored.{share}
use Rattle.lsq_groups.proofs.Ordered.{accesses_in_order}
use Rattle.lsq_groups.proofs.grouping.groups.Goals as goal

pub accesses-requires-clause-blocks : goal.accesses-requires-clause-blocks
accesses-requires-clause-blocks c = rw c.look-blocks.ensures.blocks (omega (arith, few_blocks c.args.graph.now.blocks))

pub accesses-requires-clause-steps : goal.accesses-requires-clause-steps
accesses-requires-clause-steps c = rw c.look-blocks.ensures.blocks (all_few (2 ^ 32) c.args.graph.now.blocks c.requires.size)

pub returns-clause-share : goal.returns-clause-share
returns-clause-share c =
    share c.args.graph.now c.len.result c.in_ok-read_only.read_only c.in_ok-of.of
    (c.len.ensures ∙ ap (λ (g : Graph). length g.arrays) c.graph.view_is)
    (subst (λ bs. TellsReadOnly bs c.len.result c.in_ok-read_only.read_only) c.look-blocks.ensures.blocks c.in_ok-read_only.ensures)
    (c.in_ok-of.ensures ∙ ap (λ (rs : List Bool). accesses_from rs 0 c.look-blocks.result.now) c.as_slice.ensures ∙ ap (λ bs. accesses_from c.in_ok-read_only.read_only 0 bs) c.look-blocks.ensures.blocks)

pub returns-clause-order : goal.returns-clause-order
returns-clause-order c = subst AreInOrder (sym c.in_ok-of.ensures) (accesses_in_order c.as_slice.result.now 0 c.look-blocks.result.now)
