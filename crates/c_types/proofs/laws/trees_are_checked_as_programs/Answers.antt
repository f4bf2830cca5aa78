use Rattle.c_types.proofs.AloneKernels.{alone_keeps, alone_refused}
use Rattle.c_types.proofs.laws.trees_are_checked_as_programs.Goals as goal

pub returns-clause-kept : goal.returns-clause-kept
returns-clause-kept c = alone_keeps

pub returns-clause-refused : goal.returns-clause-refused
returns-clause-refused c = alone_refused
