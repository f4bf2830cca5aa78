use Rattle.std.proofs.Common.{◌≡◌, ◌++◌, drop}
use Rattle.circuit_build.specs.Fronts.{params_laid, param_ends}
use Rattle.circuit_build.proofs.draft.Draft.lay_params.Given as goal

abbrev pub invariant-loop-scalar : goal.invariant-loop-scalar
invariant-loop-scalar l = record {
  draft : params_laid l.scalar_number (drop l.scalar-index l.scalars) l.self ≡ params_laid 0 l.scalars l.initial.self;
  ends : l.ends ++ param_ends l.scalar_number (drop l.scalar-index l.scalars) l.self ≡ param_ends 0 l.scalars l.initial.self;
}
