use Rattle.std.proofs.Common.{◌≡◌, ◌⊎◌, ℕ, ◌+◌, ◌-◌, ◌<◌, ◌≤◌, Bool, true, false, cond, lt_of_le_of_lt, sym, subst}
use Rattle.el_base.specs.Limits.{max_delay}
use Rattle.net_types.specs.declared.net.Net.{Net}
use Rattle.net_types.specs.declared.firing.Inputs.{Inputs}
use Rattle.net_replay.specs.declared.fault.RunFault.{RunFault}
use Rattle.cycle_engine.specs.declared.engine.Bounds.{Bounds}
use Rattle.cycle_engine.specs.declared.engine.Engine.{Engine}
use Rattle.cycle_engine.specs.declared.runs.Timed.{Timed}
use Rattle.cycle_engine.specs.Timings.{IsTimed, IsTimingFault}
use Rattle.cycle_engine.specs.private.Goings.{all_made, HasNoneComing}
use Rattle.cycle_engine.specs.private.Places.{HasRun}
use Rattle.cycle_engine.proofs.QuietLemmas.{run_passed, less_passed}
use Rattle.cycle_engine.proofs.RunLemmas.{to_do, run_first, run_step, run_less, run_timed, timed_few, broken_timing}
use Rattle.cycle_engine.proofs.runs.run_cycles.Goals as goal

-- whether it goes on, as it was tested
run_at : (net : Net) (inputs : Inputs) (b : Bounds) (e : Engine) (cycle last : ℕ) (going x : Bool) → going ≡ x → HasRun net inputs b e cycle last going → HasRun net inputs b e cycle last x
run_at net inputs b e cycle last going x i run = let P : Bool → Type 0 = HasRun net inputs b e cycle last in subst P i run

pub cycles-init : goal.cycles-init
cycles-init c =
    let b : Bounds = record { limit = c.args.limit; keep = c.args.keep } in
    run_first c.args.net.now c.args.inputs.now b c.in_ok-engine.engine c.in_ok-engine.ensures.ready c.in_ok-engine.ensures.done

pub returns-in-Err-clause-timed : goal.returns-in-Err-clause-timed
returns-in-Err-clause-timed c =
    let b : Bounds = record { limit = c.args.limit; keep = c.args.keep } in
    let run = run_at c.args.net.now c.args.inputs.now b c.cycles.engine c.cycles.cycle c.cycles.last c.cycles.going true c.cycles-test.true c.cycles.invariant in
    let P : RunFault → Type 0 = IsTimingFault c.args.net.now c.args.inputs.now c.args.limit in
    subst P (sym c.fault.ensures)
    (broken_timing c.args.net.now c.args.inputs.now b c.in-Err.broken (c.in-Err.ensures.cycled (record { inputs = c.args.inputs.now; cycles = run.cycles }) run.done))

pub cycles-preserved : goal.cycles-preserved
cycles-preserved c =
    let b : Bounds = record { limit = c.args.limit; keep = c.args.keep } in
    let run = run_at c.args.net.now c.args.inputs.now b c.cycles.engine c.cycles.cycle c.cycles.last c.cycles.going true c.cycles-test.true c.cycles.invariant in
    let P : ℕ → Type 0 = λ n. HasRun c.args.net.now c.args.inputs.now (record { limit = c.args.limit; keep = c.args.keep }) c.run_cycle.new.self (c.cycles.cycle + 1) n c.goes_on-going.result in
    run_passed c.args.net.now c.args.inputs.now b c.run_cycle.new.self (c.cycles.cycle + 1) c.last_of-last.result c.next_cycle-cycle.result c.goes_on-going.result c.next_cycle-cycle.ensures
    (subst P (sym c.last_of-last.ensures)
    (run_step c.args.net.now c.args.inputs.now b c.cycles.engine c.run_cycle.new.self c.cycles.cycle c.cycles.last c.in-Ok.fired c.goes_on-going.result c.net.ensures.checked run c.in-Ok.ensures.ready
    (c.in-Ok.ensures.cycled (record { inputs = c.args.inputs.now; cycles = run.cycles }) run.done) (λ g. subst (λ n. c.cycles.cycle + 1 ≤ n + max_delay) c.last_of-last.ensures (c.goes_on-going.ensures.near g))
    (λ g. subst (λ n. (max_delay < c.cycles.cycle + 1 - n) ⊎ ((c.in-Ok.fired ≡ false) × HasNoneComing c.run_cycle.new.self)) c.last_of-last.ensures (c.goes_on-going.ensures.spent g))))

pub cycles-smaller : goal.cycles-smaller
cycles-smaller c =
    let b : Bounds = record { limit = c.args.limit; keep = c.args.keep } in
    let run = run_at c.args.net.now c.args.inputs.now b c.cycles.engine c.cycles.cycle c.cycles.last c.cycles.going true c.cycles-test.true c.cycles.invariant in
    let P : ℕ → Type 0 = λ n. to_do c.args.limit (all_made c.run_cycle.new.self) (c.cycles.cycle + 1) n c.goes_on-going.result < to_do c.args.limit (all_made c.cycles.engine) c.cycles.cycle c.cycles.last c.cycles.going in
    let Q : Bool → Type 0 = λ g. to_do c.args.limit (all_made c.run_cycle.new.self) (c.cycles.cycle + 1) (cond c.in-Ok.fired (c.cycles.cycle + 1) c.cycles.last) c.goes_on-going.result < to_do c.args.limit (all_made c.cycles.engine) c.cycles.cycle c.cycles.last g in
    let less = subst P (sym c.last_of-last.ensures) (subst Q (sym c.cycles-test.true)
    (run_less c.args.net.now c.args.inputs.now b c.cycles.engine c.run_cycle.new.self c.cycles.cycle c.cycles.last c.in-Ok.fired c.goes_on-going.result c.net.ensures.checked run c.in-Ok.ensures.ready
    (c.in-Ok.ensures.cycled (record { inputs = c.args.inputs.now; cycles = run.cycles }) run.done) (λ g. subst (λ n. c.cycles.cycle + 1 ≤ n + max_delay) c.last_of-last.ensures (c.goes_on-going.ensures.near g))
    (λ g. subst (λ n. (max_delay < c.cycles.cycle + 1 - n) ⊎ ((c.in-Ok.fired ≡ false) × HasNoneComing c.run_cycle.new.self)) c.last_of-last.ensures (c.goes_on-going.ensures.spent g)))) in
    let more = less_passed c.args.limit (all_made c.run_cycle.new.self) (c.cycles.cycle + 1) c.last_of-last.result c.next_cycle-cycle.result c.goes_on-going.result c.next_cycle-cycle.ensures.on in
    lt_of_le_of_lt more less

pub returns-clause-timed : goal.returns-clause-timed
returns-clause-timed c =
    let b : Bounds = record { limit = c.args.limit; keep = c.args.keep } in
    let run = run_at c.args.net.now c.args.inputs.now b c.cycles.engine c.cycles.cycle c.cycles.last c.cycles.going false c.cycles-test.false c.cycles.invariant in
    let P : Timed → Type 0 = IsTimed c.args.net.now c.args.inputs.now c.args.limit c.args.keep in
    subst P (sym c.timed.ensures) (run_timed c.args.net.now c.args.inputs.now b c.cycles.engine c.cycles.cycle c.cycles.last run)

pub returns-clause-few : goal.returns-clause-few
returns-clause-few c = timed_few c.args.net.now c.args.inputs.now c.args.limit c.args.keep c.timed.result (
    let b : Bounds = record { limit = c.args.limit; keep = c.args.keep } in
    let run = run_at c.args.net.now c.args.inputs.now b c.cycles.engine c.cycles.cycle c.cycles.last c.cycles.going false c.cycles-test.false c.cycles.invariant in
    let P : Timed → Type 0 = IsTimed c.args.net.now c.args.inputs.now c.args.limit c.args.keep in
    subst P (sym c.timed.ensures) (run_timed c.args.net.now c.args.inputs.now b c.cycles.engine c.cycles.cycle c.cycles.last run))
