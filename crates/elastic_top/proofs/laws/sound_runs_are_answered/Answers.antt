use Rattle.elastic_top.proofs.PrintedLemmas.{sound_runs}
use Rattle.elastic_top.proofs.laws.sound_runs_are_answered.Goals as goal

pub returns : goal.returns
returns c = sound_runs c.a_net_has_one_refusal.ensures.none c.sound_runs_are_not_refused.ensures
