use Rattle.net_replay.proofs.ScheduleLemmas.{one_schedule}
use Rattle.net_replay.proofs.laws.one_schedule.Goals as goal

pub returns : goal.returns
returns c = one_schedule
