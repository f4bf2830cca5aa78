use Rattle.std.proofs.Common.{◌≡◌, drop}
use Rattle.circuit_build.specs.Blocks.{args_defined}
use Rattle.circuit_build.proofs.draft.Draft.define_args.Given as goal

abbrev pub invariant-loop-width : goal.invariant-loop-width
invariant-loop-width l = args_defined l.unit (drop l.width-index l.args) l.self ≡ args_defined l.first l.args l.initial.self
