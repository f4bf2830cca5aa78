use Rattle.std.proofs.Common.{◌≡◌, drop}
use Rattle.circuit_build.specs.Blocks.{blocks_laid}
use Rattle.circuit_build.proofs.draft.Draft.lay_blocks.Given as goal

abbrev pub invariant-loop-block : goal.invariant-loop-block
invariant-loop-block l = blocks_laid l.arrays l.join l.counts l.at (drop l.block-index l.blocks) l.rest l.self ≡ blocks_laid l.arrays l.join l.counts 0 l.blocks l.accesses l.initial.self
