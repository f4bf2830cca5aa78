use Rattle.std.proofs.Common.{◌≡◌, take}
use Rattle.c_types.specs.Places.{first_of}
use Rattle.c_types.specs.ProgramFaults.{helpers_faults, sorts_after_helpers}
use Rattle.c_types.proofs.programs.of_helpers.Given as goal

abbrev pub invariant-loop-helper : goal.invariant-loop-helper
invariant-loop-helper l = record {
  fault : l.first ≡ first_of (helpers_faults l.initial.scopes (take l.helper-index l.helpers));
  scopes : l.scopes ≡ sorts_after_helpers l.initial.scopes (take l.helper-index l.helpers);
}
