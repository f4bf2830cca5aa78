use Rattle.ir.proofs.SampleRuns.{samples_run}
use Rattle.ir.proofs.worked.samples_run.Goals as goal

pub returns : goal.returns
returns c = samples_run
