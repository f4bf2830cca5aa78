use Rattle.std.proofs.Common.{◌≡◌, drop}
use Rattle.kernel_graph.specs.Optimized.{after_passes}
use Rattle.kernel_graph.proofs.passes.passed.Given as goal

abbrev pub invariant-loop-pass : goal.invariant-loop-pass
invariant-loop-pass l = after_passes l.most (drop l.pass-index l.passes) l.made ≡ after_passes l.most l.passes l.initial.made
