use Rattle.net_runs.proofs.given.inputs_of.Goals as goal

pub returns-in-Err-clause-err : goal.returns-in-Err-clause-err
returns-in-Err-clause-err c = c.inputs_fault.ensures c.args.net.now c.args.bytes.now c.in-Err.ensures.says
