use Rattle.std.proofs.Common.{◌≡◌, ◌∙◌, ap, arith}
use Rattle.std.specs.List.{sum}
use Rattle.std.proofs.lemmas.Result.{IfOk-weaker}
use Rattle.kernel_bench.specs.Summaries.{summary_text}
use Rattle.kernel_bench.proofs.Resting.{total_is, tells}
use Rattle.kernel_bench.proofs.bench.told.Goals as goal

pub sum_of-sum-requires : goal.sum_of-sum-requires
sum_of-sum-requires c =
    let total : sum c.arrays.result.now ≡ 524800 =
    ap sum c.arrays.ensures
    ∙ total_is c.args.number c.args.net.now c.requires c.cycles_are_runs.ensures.runs c.in_ok-timed.timed c.in_ok-timed.ensures.timed c.good_nets_stay_good.ensures.computes
    c.kernel_ends.ensures in
    omega (arith, total)

pub returns : goal.returns
returns c =
    IfOk-weaker c.summary.result _ _
    (λ text is. tells c.args.number c.args.net.now c.requires c.cycles_are_runs.ensures.runs c.in_ok-timed.timed c.in_ok-timed.ensures.timed c.completion.ensures
    c.good_nets_stay_good.ensures.computes c.kernel_ends.ensures c.in_ok-timed.ensures.few text.items
    (is ∙ ap (summary_text c.in_ok-timed.timed.firings c.in_ok-timed.timed.cycles) (c.sum_of-sum.ensures ∙ ap sum c.arrays.ensures))) c.summary.ensures
