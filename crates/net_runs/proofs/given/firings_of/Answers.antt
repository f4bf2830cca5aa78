use Rattle.net_runs.proofs.given.firings_of.Goals as goal

pub returns-in-Err-clause-err : goal.returns-in-Err-clause-err
returns-in-Err-clause-err c = c.schedule_fault.ensures c.args.bytes.now c.in-Err.ensures.says
