use Rattle.std.proofs.Common.{[], refl, arith}
use Rattle.net_replay.proofs.WayLemmas.{logged_none}
use Rattle.worker_run.proofs.running.finish_gathered.Goals as goal

pub returns-in-None-clause-finished : goal.returns-in-None-clause-finished
returns-in-None-clause-finished c = record {
  firings = [];
  finishes = record { leads = refl; ends = record { rest = c.in-None.ensures; counted = omega arith; within = c.requires.made } };
  logged = logged_none c.args.keep c.args.log.now;
}
