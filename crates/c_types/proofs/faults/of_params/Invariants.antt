use Rattle.std.proofs.Common.{◌≡◌, ◌-◌, ◌^◌, min, take}
use Rattle.c_types.specs.Places.{first_of}
use Rattle.c_types.specs.Faults.{params_faults, sorts_after_params}
use Rattle.c_types.proofs.ParamSteps.{all_elements}
use Rattle.c_types.proofs.faults.of_params.Given as goal

abbrev pub invariant-loop-param : goal.invariant-loop-param
invariant-loop-param l = record {
  fault : l.first ≡ first_of (params_faults (take l.param-index l.params) l.initial.scopes 0);
  scopes : l.scopes ≡ sorts_after_params l.initial.scopes (take l.param-index l.params);
  total : l.total ≡ min (all_elements (take l.param-index l.params)) (2 ^ 64 - 1);
}
