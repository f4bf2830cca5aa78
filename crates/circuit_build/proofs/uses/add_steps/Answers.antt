use Rattle.std.proofs.Common.{◌≡◌, ◌-◌, length, refl, arith}
use Rattle.std.proofs.lemmas.Option.{slice_get-get_or}
use Rattle.circuit_build.proofs.Tables.{done_more}
use Rattle.circuit_build.proofs.uses.add_steps.Goals as goal

pub loop-done-preserved : goal.loop-done-preserved
loop-done-preserved c =
    let n = length c.args.steps.now in
    let lt = c.loop-done-test.true in
    done_more c.args.first n c.loop-done.done (n - c.loop-done.done - 1) c.args.steps.now _ c.args.table.now c.loop-done.table c.add_step.new.table lt refl
    (slice_get-get_or c.args.steps.now (n - c.loop-done.done - 1) _ (omega (arith, lt)))
    c.loop-done.invariant c.add_step.ensures
