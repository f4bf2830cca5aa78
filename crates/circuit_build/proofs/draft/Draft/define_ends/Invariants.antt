use Rattle.std.proofs.Common.{◌≡◌, drop}
use Rattle.circuit_build.specs.Blocks.{ends_defined}
use Rattle.circuit_build.proofs.draft.Draft.define_ends.Given as goal

abbrev pub invariant-loop-end : goal.invariant-loop-end
invariant-loop-end l = ends_defined (drop l.end-index l.ends) l.self ≡ ends_defined l.ends l.initial.self
