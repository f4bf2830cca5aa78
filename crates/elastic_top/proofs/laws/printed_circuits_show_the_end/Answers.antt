use Rattle.elastic_top.proofs.PrintedLemmas.{replays_show, runs_show}
use Rattle.elastic_top.proofs.laws.printed_circuits_show_the_end.Goals as goal

pub returns-clause-replay : goal.returns-clause-replay
returns-clause-replay c = replays_show c.printed_circuits_are_right.ensures.replays

pub returns-clause-run : goal.returns-clause-run
returns-clause-run c = runs_show c.printed_circuits_are_right.ensures.runs
