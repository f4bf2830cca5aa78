use Rattle.std.proofs.Common.{◌≡◌, ◌≤◌, length, sym, subst, arith}
use Rattle.worker_run.specs.declared.sweeping.Asked.TheVariants as who
use Rattle.worker_run.proofs.SweepLemmas.{AreSweptTo, all_made, swept_next, swept_to_none, swept_to_next, swept_to_all}
use Rattle.worker_run.proofs.sweeping.sweep_each.Goals as goal

pub loop-worker-init : goal.loop-worker-init
loop-worker-init g c = subst (λ n. AreSweptTo (c.args.asked ≡ who.All) c.args.tables.now c.args.workers.now c.args.workers.now n 0) (sym c.none-round.ensures) (swept_to_none (c.args.asked ≡ who.All) c.args.tables.now c.args.workers.now c.requires.made)

pub returns-in_err-made-clause-swept : goal.returns-in_err-made-clause-swept
returns-in_err-made-clause-swept g c =
    let h = c.loop-worker.invariant.swept in
    swept_next c.args.tables.now c.args.workers.now c.loop-worker.workers c.loop-worker.worker-index c.sweep_asked.new.worker c.worker-item.result c.loop-worker-test.true
    (all_made c.args.tables.now c.args.workers.now c.loop-worker.workers h) h c.sweep_asked.ensures.swept

pub loop-worker-preserved : goal.loop-worker-preserved
loop-worker-preserved g c =
    swept_to_next (c.args.asked ≡ who.All) c.args.tables.now c.args.workers.now c.loop-worker.workers c.loop-worker.round.made c.loop-worker.worker-index c.in_ok-made.made c.and_sweep-round.result.made c.sweep_asked.new.worker c.worker-item.result
    c.loop-worker-test.true c.requires.made c.loop-worker.invariant c.sweep_asked.ensures.swept c.in_ok-made.ensures.turn c.and_sweep-round.ensures.0 c.and_sweep-round.ensures.1

pub returns-clause-turns : goal.returns-clause-turns
returns-clause-turns g c =
    swept_to_all (c.args.asked ≡ who.All) c.args.tables.now c.args.workers.now c.loop-worker.workers c.loop-worker.round.made c.loop-worker.worker-index (omega (arith, c.loop-worker-test.false, c.loop-worker.auto)) c.loop-worker.invariant
