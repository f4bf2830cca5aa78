use Rattle.queue_marks.proofs.MarkedRuns.{runs_marked, ends_marked}
use Rattle.queue_marks.proofs.laws.marks_allow_runs.Goals as goal

pub returns : goal.returns
returns c = record { runs = runs_marked; ends = ends_marked }
