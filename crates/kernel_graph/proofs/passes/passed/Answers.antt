use Rattle.std.proofs.Common.{sym, ◌∙◌}
use Rattle.kernel_graph.proofs.Passed.{none_passed}
use Rattle.kernel_graph.proofs.passes.passed.Goals as goal

pub returns-then-not-has_size_within : goal.returns-then-not-has_size_within
returns-then-not-has_size_within c =
    none_passed c.args.most c.loop-pass.pass-index c.args.passes.now c.loop-pass.made c.args.graph c.loop-pass-test.true (sym c.has_size_within.ensures ∙ c.if-not-has_size_within.true) c.loop-pass.invariant
