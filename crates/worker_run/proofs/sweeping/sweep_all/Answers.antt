use Rattle.std.proofs.Common.{◌<◌, ◌≤◌, arith}
use Rattle.worker_run.proofs.SweepLemmas.{all_made, all_whole, all_swept_self, all_swept_then, swept_by_then, rooms_later}
use Rattle.worker_run.proofs.sweeping.sweep_all.Goals as goal

pub phases-init : goal.phases-init
phases-init g c = all_swept_self c.args.tables.now c.args.workers.now c.requires.made

pub sweep_in_threads-requires-clause-whole : goal.sweep_in_threads-requires-clause-whole
sweep_in_threads-requires-clause-whole g c _ _ k d l = all_whole c.args.tables.now c.args.workers.now c.phases.workers c.phases.invariant c.requires.whole k d l

pub sweep_in_turn-requires-clause-made : goal.sweep_in_turn-requires-clause-made
sweep_in_turn-requires-clause-made g c = all_made c.args.tables.now c.phases.workers c.sweep_in_threads.new.workers c.sweep_in_threads.ensures

pub sweep_in_turn-requires-clause-whole : goal.sweep_in_turn-requires-clause-whole
sweep_in_turn-requires-clause-whole g c =
    all_whole c.args.tables.now c.phases.workers c.sweep_in_threads.new.workers c.sweep_in_threads.ensures (all_whole c.args.tables.now c.args.workers.now c.phases.workers c.phases.invariant c.requires.whole)

pub returns-then-sweep_in_turn : goal.returns-then-sweep_in_turn
returns-then-sweep_in_turn g c =
    swept_by_then c.args.tables.now (g.G.Gate.is_open c.args.gate.now) c.args.workers.now c.phases.workers c.sweep_in_turn.new.workers c.phases.invariant
    (swept_by_then c.args.tables.now (g.G.Gate.is_open c.args.gate.now) c.phases.workers c.sweep_in_threads.new.workers c.sweep_in_turn.new.workers c.sweep_in_threads.ensures (c.sweep_in_turn.ensures.over c.if-sweep_in_turn.true))

pub phases-preserved : goal.phases-preserved
phases-preserved g c =
    all_swept_then c.args.tables.now c.args.workers.now c.phases.workers c.sweep_in_turn.new.workers c.phases.invariant
    (all_swept_then c.args.tables.now c.phases.workers c.sweep_in_threads.new.workers c.sweep_in_turn.new.workers c.sweep_in_threads.ensures c.sweep_in_turn.ensures.swept)

pub phases-smaller : goal.phases-smaller
phases-smaller g c =
    let less = c.sweep_in_turn.ensures.fewer c.if-sweep_in_turn.false in
    let before = rooms_later c.args.tables.now c.phases.workers c.sweep_in_threads.new.workers (all_made c.args.tables.now c.args.workers.now c.phases.workers c.phases.invariant) c.sweep_in_threads.ensures in
    omega (arith, less, before)
