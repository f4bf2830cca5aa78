use Rattle.std.proofs.Common.{◌<◌, ◌≤◌, arith}
use Rattle.worker_run.proofs.SweepLemmas.{all_made, all_whole, all_swept_self, all_swept_then, rooms_later}
use Rattle.worker_run.proofs.sweeping.sweep_in_turn.Goals as goal

pub rounds-init : goal.rounds-init
rounds-init g c = all_swept_self c.args.tables.now c.args.workers.now c.requires.made

pub sweep_round-requires-clause-made : goal.sweep_round-requires-clause-made
sweep_round-requires-clause-made g c = all_made c.args.tables.now c.args.workers.now c.rounds.workers c.rounds.invariant

pub sweep_round-requires-clause-whole : goal.sweep_round-requires-clause-whole
sweep_round-requires-clause-whole g c = all_whole c.args.tables.now c.args.workers.now c.rounds.workers c.rounds.invariant c.requires.whole

pub returns-in_default-clause-swept : goal.returns-in_default-clause-swept
returns-in_default-clause-swept g c = all_swept_then c.args.tables.now c.args.workers.now c.rounds.workers c.sweep_round.new.workers c.rounds.invariant c.sweep_round.ensures.swept

pub returns-in_default-clause-over : goal.returns-in_default-clause-over
returns-in_default-clause-over g c _ = record {
  swept = all_swept_then c.args.tables.now c.args.workers.now c.rounds.workers c.sweep_round.new.workers c.rounds.invariant c.sweep_round.ensures.swept;
  stopped = λ opened j d l. absurd (c.in_default.ensures.shut opened);
}

pub returns-then-round-eq0-clause-swept : goal.returns-then-round-eq0-clause-swept
returns-then-round-eq0-clause-swept g c = all_swept_then c.args.tables.now c.args.workers.now c.rounds.workers c.sweep_round.new.workers c.rounds.invariant c.sweep_round.ensures.swept

pub returns-then-round-eq0-clause-over : goal.returns-then-round-eq0-clause-over
returns-then-round-eq0-clause-over g c _ = record {
  swept = all_swept_then c.args.tables.now c.args.workers.now c.rounds.workers c.sweep_round.new.workers c.rounds.invariant c.sweep_round.ensures.swept;
  stopped = λ opened. c.in-Some.ensures.turns.none c.if-round-eq0.true;
}

pub returns-then-pays-clause-swept : goal.returns-then-pays-clause-swept
returns-then-pays-clause-swept g c = all_swept_then c.args.tables.now c.args.workers.now c.rounds.workers c.sweep_round.new.workers c.rounds.invariant c.sweep_round.ensures.swept

pub returns-then-pays-clause-fewer : goal.returns-then-pays-clause-fewer
returns-then-pays-clause-fewer g c _ =
    let less = c.in-Some.ensures.turns.some (omega (arith, c.if-round-eq0.false)) in
    let before = rooms_later c.args.tables.now c.args.workers.now c.rounds.workers c.requires.made c.rounds.invariant in
    omega (arith, less, before)

pub rounds-preserved : goal.rounds-preserved
rounds-preserved g c = all_swept_then c.args.tables.now c.args.workers.now c.rounds.workers c.sweep_round.new.workers c.rounds.invariant c.sweep_round.ensures.swept

pub rounds-smaller : goal.rounds-smaller
rounds-smaller g c = let less = c.in-Some.ensures.turns.some (omega (arith, c.if-round-eq0.false)) in omega (arith, less)

pub rounds-preserved-then-is_long : goal.rounds-preserved-then-is_long
rounds-preserved-then-is_long g c = all_swept_then c.args.tables.now c.args.workers.now c.rounds.workers c.sweep_round.new.workers c.rounds.invariant c.sweep_round.ensures.swept
