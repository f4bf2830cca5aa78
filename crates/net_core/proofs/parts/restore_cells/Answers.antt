use Rattle.std.proofs.Common.{arith, ◌∙◌}
use Rattle.net_core.proofs.RestoreLemmas.{restoring_own, restoring_step}
use Rattle.net_core.proofs.parts.restore_cells.Goals as goal

pub restore-requires-clause-own : goal.restore-requires-clause-own
restore-requires-clause-own c =
    restoring_own c.args.units.now c.args.cells.now.items c.loop-at.cells.items c.loop-at.at c.index-units-at.result c.index_mut.result.now c.loop-at-test.true
    (c.loop-at.invariant.count ∙ c.requires.of.count) c.requires.own (c.loop-at.invariant.left c.loop-at.at (omega arith)) c.index-units-at.is c.index_mut.ensures.value

pub loop-at-preserved : goal.loop-at-preserved
loop-at-preserved c =
    restoring_step c.args.parts.now c.args.units.now c.args.cells.now.items c.loop-at.cells.items c.loop-at.at c.index-units-at.result c.index_mut.result.now c.restore.new.self c.loop-at-test.true
    c.requires.of.count c.loop-at.invariant c.index-units-at.is c.index_mut.ensures.value c.restore.ensures
