use Rattle.c_types.proofs.Refusals.{typed, refused, no_faults}
use Rattle.c_types.proofs.checker.check_rules.Goals as goal

pub returns-in_err-first_fault-clause-faults : goal.returns-in_err-first_fault-clause-faults
returns-in_err-first_fault-clause-faults c = no_faults c.args.tree.now

pub returns-in-None-clause-kept : goal.returns-in-None-clause-kept
returns-in-None-clause-kept c = typed c.args.tree.now c.in_ok-first_fault.field-0 c.in_ok-first_fault.ensures c.in-None.is

pub returns-in-None-clause-faults : goal.returns-in-None-clause-faults
returns-in-None-clause-faults c = no_faults c.args.tree.now

pub returns-in-Some-clause-refused : goal.returns-in-Some-clause-refused
returns-in-Some-clause-refused c = refused c.args.tree.now c.in_ok-first_fault.field-0 c.in-Some.fault c.in_ok-first_fault.ensures c.in-Some.is

pub returns-in-Some-clause-faults : goal.returns-in-Some-clause-faults
returns-in-Some-clause-faults c = no_faults c.args.tree.now
