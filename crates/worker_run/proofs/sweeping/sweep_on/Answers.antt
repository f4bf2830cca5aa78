use Rattle.std.proofs.Common.{◌<◌, ◌≤◌, arith}
use Rattle.worker_run.proofs.RunLemmas.{whole_later}
use Rattle.worker_run.proofs.SweepLemmas.{swept_self, swept_then}
use Rattle.worker_run.proofs.sweeping.sweep_on.Goals as goal

pub loop-worker-init : goal.loop-worker-init
loop-worker-init g c = record { swept = swept_self c.args.tables.now c.args.worker.now c.requires.made; idle = omega arith; debt = omega arith }

pub sweep-requires-clause-whole : goal.sweep-requires-clause-whole
sweep-requires-clause-whole g c = whole_later c.args.tables.now c.args.worker.now c.loop-worker.worker c.loop-worker.invariant.swept.same c.requires.whole

pub loop-worker-preserved-else-debt-gt-MOST_DEBT : goal.loop-worker-preserved-else-debt-gt-MOST_DEBT
loop-worker-preserved-else-debt-gt-MOST_DEBT g c = record {
  swept = swept_then c.args.tables.now c.args.worker.now c.loop-worker.worker c.sweep.new.self c.loop-worker.invariant.swept (record { made = c.sweep.ensures.made; same = c.sweep.ensures.same });
  idle = omega arith;
  debt = omega (arith, c.if-debt-gt-MOST_DEBT.false);
}

pub loop-worker-preserved-in-Idle : goal.loop-worker-preserved-in-Idle
loop-worker-preserved-in-Idle g c = record {
  swept = swept_then c.args.tables.now c.args.worker.now c.loop-worker.worker c.sweep.new.self c.loop-worker.invariant.swept (record { made = c.sweep.ensures.made; same = c.sweep.ensures.same });
  idle = omega (arith, c.if-idle-ge-MOST_IDLE.false);
  debt = c.loop-worker.invariant.debt;
}

pub go_on-requires-clause-whole : goal.go_on-requires-clause-whole
go_on-requires-clause-whole g c =
    whole_later c.args.tables.now c.loop-worker.worker c.sweep.new.self c.sweep.ensures.same
    (whole_later c.args.tables.now c.args.worker.now c.loop-worker.worker c.loop-worker.invariant.swept.same c.requires.whole)

pub loop-worker-preserved-then-go_on-gt0 : goal.loop-worker-preserved-then-go_on-gt0
loop-worker-preserved-then-go_on-gt0 g c = record {
  swept = swept_then c.args.tables.now c.args.worker.now c.sweep.new.self c.go_on.new.self
      (swept_then c.args.tables.now c.args.worker.now c.loop-worker.worker c.sweep.new.self c.loop-worker.invariant.swept (record { made = c.sweep.ensures.made; same = c.sweep.ensures.same }))
      (record { made = c.go_on.ensures.made; same = c.go_on.ensures.same });
  idle = omega arith;
  debt = c.loop-worker.invariant.debt;
}

pub loop-worker-preserved : goal.loop-worker-preserved
loop-worker-preserved g c = record {
  swept = swept_then c.args.tables.now c.args.worker.now c.sweep.new.self c.go_on.new.self
      (swept_then c.args.tables.now c.args.worker.now c.loop-worker.worker c.sweep.new.self c.loop-worker.invariant.swept (record { made = c.sweep.ensures.made; same = c.sweep.ensures.same }))
      (record { made = c.go_on.ensures.made; same = c.go_on.ensures.same });
  idle = omega (arith, c.if-idle-ge-MOST_IDLE_PAST_EXIT.false);
  debt = c.loop-worker.invariant.debt;
}

pub returns-then-debt-gt-MOST_DEBT : goal.returns-then-debt-gt-MOST_DEBT
returns-then-debt-gt-MOST_DEBT g c = swept_then c.args.tables.now c.args.worker.now c.loop-worker.worker c.sweep.new.self c.loop-worker.invariant.swept (record { made = c.sweep.ensures.made; same = c.sweep.ensures.same })

pub returns-then-idle-ge-MOST_IDLE : goal.returns-then-idle-ge-MOST_IDLE
returns-then-idle-ge-MOST_IDLE g c = swept_then c.args.tables.now c.args.worker.now c.loop-worker.worker c.sweep.new.self c.loop-worker.invariant.swept (record { made = c.sweep.ensures.made; same = c.sweep.ensures.same })

pub returns-then-load : goal.returns-then-load
returns-then-load g c = swept_then c.args.tables.now c.args.worker.now c.loop-worker.worker c.sweep.new.self c.loop-worker.invariant.swept (record { made = c.sweep.ensures.made; same = c.sweep.ensures.same })

pub returns-then-idle-ge-MOST_IDLE_PAST_EXIT : goal.returns-then-idle-ge-MOST_IDLE_PAST_EXIT
returns-then-idle-ge-MOST_IDLE_PAST_EXIT g c =
    swept_then c.args.tables.now c.args.worker.now c.sweep.new.self c.go_on.new.self
    (swept_then c.args.tables.now c.args.worker.now c.loop-worker.worker c.sweep.new.self c.loop-worker.invariant.swept (record { made = c.sweep.ensures.made; same = c.sweep.ensures.same }))
    (record { made = c.go_on.ensures.made; same = c.go_on.ensures.same })

pub returns-in-Full : goal.returns-in-Full
returns-in-Full g c = swept_then c.args.tables.now c.args.worker.now c.loop-worker.worker c.sweep.new.self c.loop-worker.invariant.swept (record { made = c.sweep.ensures.made; same = c.sweep.ensures.same })
