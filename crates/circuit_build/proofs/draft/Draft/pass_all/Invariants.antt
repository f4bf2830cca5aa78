use Rattle.std.proofs.Common.{◌≡◌, ◌++◌, drop}
use Rattle.circuit_build.specs.Jumps.{all_passed, passed_ends}
use Rattle.circuit_build.proofs.draft.Draft.pass_all.Given as goal

abbrev pub invariant-loop-value : goal.invariant-loop-value
invariant-loop-value l = record {
  draft : all_passed l.head l.args (drop l.value-index l.values) l.self ≡ all_passed l.head l.args l.values l.initial.self;
  ends : l.ends ++ passed_ends l.head l.args (drop l.value-index l.values) l.self ≡ passed_ends l.head l.args l.values l.initial.self;
}
