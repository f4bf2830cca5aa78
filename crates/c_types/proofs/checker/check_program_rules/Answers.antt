use Rattle.c_types.proofs.Refusals.{program_typed, program_refused, no_program_faults}
use Rattle.c_types.proofs.checker.check_program_rules.Goals as goal

pub returns-in_err-first_program_fault-clause-faults : goal.returns-in_err-first_program_fault-clause-faults
returns-in_err-first_program_fault-clause-faults c = no_program_faults c.args.program.now

pub returns-in-None-clause-kept : goal.returns-in-None-clause-kept
returns-in-None-clause-kept c = program_typed c.args.program.now c.in_ok-first_program_fault.field-0 c.in_ok-first_program_fault.ensures c.in-None.is

pub returns-in-None-clause-faults : goal.returns-in-None-clause-faults
returns-in-None-clause-faults c = no_program_faults c.args.program.now

pub returns-in-Some-clause-refused : goal.returns-in-Some-clause-refused
returns-in-Some-clause-refused c = program_refused c.args.program.now c.in_ok-first_program_fault.field-0 c.in-Some.fault c.in_ok-first_program_fault.ensures c.in-Some.is

pub returns-in-Some-clause-faults : goal.returns-in-Some-clause-faults
returns-in-Some-clause-faults c = no_program_faults c.args.program.now
