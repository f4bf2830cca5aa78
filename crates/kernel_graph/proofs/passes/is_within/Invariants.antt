use Rattle.std.proofs.Common.{◌≡◌, drop}
use Rattle.std.specs.List.{list_all}
use Rattle.kernel_graph.specs.Optimized.{is_light}
use Rattle.kernel_graph.proofs.passes.is_within.Given as goal

abbrev pub invariant-loop-block : goal.invariant-loop-block
invariant-loop-block l = list_all (is_light l.most) l.graph.blocks ≡ list_all (is_light l.most) (drop l.block-index l.graph.blocks)
