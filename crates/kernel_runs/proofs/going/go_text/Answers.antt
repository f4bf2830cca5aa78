use Rattle.std.specs.Prelude.{Err}
use Rattle.kernel_runs.specs.Goes.{Goes}
use Rattle.kernel_runs.specs.Refusals.{of_kernel, of_run}
use Rattle.kernel_runs.proofs.GoLemmas.{converted, kernel_goes, run_goes}
use Rattle.kernel_runs.proofs.going.go_text.Goals as goal

pub returns-clause-ok : goal.returns-clause-ok
returns-clause-ok g c =
    let compiled = c.in_ok-compiled.compiled in
    record {
      kernel = record { typed = compiled.typed; nodes = compiled.nodes };
      read = c.in_ok-compiled.ensures.says.kernel;
      net = compiled.net;
      circuit = c.in_ok-compiled.ensures.says.circuit;
      holds = c.in_ok-text.ensures.ok;
    }

pub returns-in_err-compiled-clause-err : goal.returns-in_err-compiled-clause-err
returns-in_err-compiled-clause-err g c =
    let e = c.in_err-compiled.field-0.0 in
    converted (λ refused. Goes c.args.kernel.now c.args.inputs.now c.args.circuit c.args.run (Err refused)) c.from_residual.result (of_kernel e) c.from_residual.ensures.1
    (kernel_goes c.args.kernel.now c.args.inputs.now c.args.circuit c.args.run e c.in_err-compiled.ensures.says)

pub returns-in_err-text-clause-err : goal.returns-in_err-text-clause-err
returns-in_err-text-clause-err g c =
    let e = c.in_err-text.field-0.0 in
    let compiled = c.in_ok-compiled.compiled in
    converted (λ refused. Goes c.args.kernel.now c.args.inputs.now c.args.circuit c.args.run (Err refused)) c.from_residual-in_err-text.result (of_run e)
    c.from_residual-in_err-text.ensures.1
    (run_goes c.args.kernel.now c.args.inputs.now c.args.circuit c.args.run (record { typed = compiled.typed; nodes = compiled.nodes }) compiled.net
    c.in_ok-compiled.ensures.says.kernel c.in_ok-compiled.ensures.says.circuit e c.in_err-text.ensures.moves c.in_err-text.ensures.err)
