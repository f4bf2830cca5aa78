use Rattle.std.proofs.Common.{◌≡◌, ◌++◌, drop}
use Rattle.circuit_build.specs.Jumps.{all_branched, all_sides, yes_ends, no_ends}
use Rattle.circuit_build.proofs.draft.Draft.branch_all.Given as goal

abbrev pub invariant-loop-count : goal.invariant-loop-count
invariant-loop-count l = record {
  draft : all_branched l.cond l.value (drop l.count-index l.for_yes) l.for_no l.self ≡ all_branched l.cond 0 l.for_yes l.for_no l.initial.self;
  yes : l.yes ++ yes_ends (all_sides l.cond l.value (drop l.count-index l.for_yes) l.for_no l.self) ≡ yes_ends (all_sides l.cond 0 l.for_yes l.for_no l.initial.self);
  no : l.no ++ no_ends (all_sides l.cond l.value (drop l.count-index l.for_yes) l.for_no l.self) ≡ no_ends (all_sides l.cond 0 l.for_yes l.for_no l.initial.self);
}
