use Rattle.std.proofs.Common.{sym, subst}
use Rattle.net_types.specs.Inputs.{InputsFit}
use Rattle.cycle_engine.specs.Timings.{IsTimingFault}
use Rattle.kernel_bench.proofs.Resting.{inputs_fit, not_limited}
use Rattle.kernel_bench.proofs.bench.rested.Goals as goal

pub run_cycles-requires-clause-fit : goal.run_cycles-requires-clause-fit
run_cycles-requires-clause-fit c =
    subst (InputsFit c.args.net.now) (sym c.in_ok-inputs.ensures) (inputs_fit c.args.number c.args.net.now c.requires c.inputs_are_patterns.ensures.fit c.kernel_ends.ensures)

pub unreachable-requires : goal.unreachable-requires
unreachable-requires c =
    not_limited c.args.number c.args.net.now c.requires c.cycles_are_runs.ensures.long c.good_nets_stay_good.ensures.in_time c.kernel_ends.ensures c.in-Err-Limit.field-0
    c.in-Err-Limit.field-0-0 c.in-Err-Limit.field-0-is
    (subst (λ i. IsTimingFault c.args.net.now i 32000000 c.in-Err-Limit.field-0) c.in_ok-inputs.ensures c.in-Err-Limit.ensures.timed)
