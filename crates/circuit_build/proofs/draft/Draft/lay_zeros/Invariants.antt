use Rattle.std.proofs.Common.{◌≡◌, ◌++◌, drop}
use Rattle.circuit_build.specs.Endings.{zeros_laid, zero_ends}
use Rattle.circuit_build.proofs.draft.Draft.lay_zeros.Given as goal

abbrev pub invariant-loop-width : goal.invariant-loop-width
invariant-loop-width l = record {
  draft : zeros_laid (drop l.width-index l.args) l.self ≡ zeros_laid l.args l.initial.self;
  ends : l.ends ++ zero_ends (drop l.width-index l.args) l.self ≡ zero_ends l.args l.initial.self;
}
