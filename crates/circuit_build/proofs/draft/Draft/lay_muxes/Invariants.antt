use Rattle.std.proofs.Common.{◌≡◌, drop}
use Rattle.circuit_build.specs.Blocks.{muxes_laid}
use Rattle.circuit_build.proofs.draft.Draft.lay_muxes.Given as goal

abbrev pub invariant-loop-width : goal.invariant-loop-width
invariant-loop-width l = muxes_laid l.ins (drop l.width-index l.args) l.self ≡ muxes_laid l.ins l.args l.initial.self
