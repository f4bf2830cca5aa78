use Rattle.queue_marks.proofs.MarkedRuns.{queues_have}
use Rattle.queue_marks.proofs.laws.queues_have_the_mark.Goals as goal

pub returns : goal.returns
returns c = queues_have
