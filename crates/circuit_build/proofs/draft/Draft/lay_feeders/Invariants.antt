use Rattle.std.proofs.Common.{◌≡◌, drop}
use Rattle.circuit_build.specs.Endings.{feeders_laid}
use Rattle.circuit_build.proofs.draft.Draft.lay_feeders.Given as goal

abbrev pub invariant-loop-block : goal.invariant-loop-block
invariant-loop-block l = feeders_laid l.counts l.target (drop l.block-index l.blocks) l.self ≡ feeders_laid l.counts 0 l.blocks l.initial.self
