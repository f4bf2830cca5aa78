use Rattle.net_runs.proofs.SaveLemmas.{inputs_refused}
use Rattle.net_runs.proofs.saves.save_text.Goals as goal

pub returns-in-Err-clause-err : goal.returns-in-Err-clause-err
returns-in-Err-clause-err c = inputs_refused c.args.net.now c.args.inputs.now c.args.at c.in-Err.refused c.in-Err.ensures.err
