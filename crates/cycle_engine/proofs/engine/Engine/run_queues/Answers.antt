use Rattle.std.proofs.Common.{◌∙◌, ap, length, arith}
use Rattle.cycle_engine.proofs.MarkLemmas.{reordered_listed}
use Rattle.cycle_engine.proofs.ServeLemmas.{served_first, served_full}
use Rattle.cycle_engine.proofs.TurnLemmas.{ready_marks, exit_broken}
use Rattle.cycle_engine.proofs.engine.Engine.run_queues.Goals as goal

pub loop-init : goal.loop-init
loop-init c = record {
  ready = ready_marks c.args.net.now c.args.bounds c.args.self.now c.sort_queues.new.self c.requires (ap (λ (v : _). length v.items) c.sort_queues.ensures.marked ∙ c.requires.marked)
      (reordered_listed c.args.net.now c.args.self.now.marks c.sort_queues.new.self c.sort_queues.ensures c.requires.listed);
  served = λ past start s. served_first c.args.net.now past c.args.bounds c.args.now start c.args.self.now c.sort_queues.new.self c.len-count.result c.sort_queues.ensures (omega (arith, c.len-count.ensures, c.sort_queues.new.self.queues.ok.0)) s;
}

pub loop-preserved : goal.loop-preserved
loop-preserved c = record {
  ready = c.in_ok-serve.ensures.ready;
  served = λ past start s. c.in_ok-serve.ensures.served past start c.len-count.result c.loop.counter (c.loop.invariant.served past start s) c.loop-test.true;
}

pub returns-in_err-serve-clause-full : goal.returns-in_err-serve-clause-full
returns-in_err-serve-clause-full c past start s =
    exit_broken _ _ c.from_residual.result c.in_err-serve.field-0.0 c.from_residual.ensures.1
    (c.in_err-serve.ensures.served past start c.len-count.result c.loop.counter (c.loop.invariant.served past start s) c.loop-test.true)

pub returns-clause-full : goal.returns-clause-full
returns-clause-full c past start s =
    served_full c.args.net.now past c.args.bounds c.args.now start c.loop.self c.len-count.result c.loop.counter (omega (arith, c.loop-test.false)) c.loop.invariant.ready.listed (c.loop.invariant.served past start s)
