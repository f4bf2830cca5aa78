use Rattle.std.proofs.Common.{false, sym, ◌∙◌}
use Rattle.c_types.proofs.ProgramCastLemmas.{callee_step, callee_missing}
use Rattle.c_types.proofs.program_casts.callee.Goals as goal

pub loop-place-preserved : goal.loop-place-preserved
loop-place-preserved c =
    c.loop-place.invariant ∙ callee_step c.args.helpers.now c.args.name.now c.loop-place.place c.index-helpers-place.result false c.loop-place-test.true c.index-helpers-place.is (sym c.eq.ensures ∙ c.if-eq.false)

pub unreachable-requires : goal.unreachable-requires
unreachable-requires c = callee_missing c.args.helpers.now c.args.name.now c.loop-place.place c.requires.named c.loop-place.invariant c.loop-place-test.false
