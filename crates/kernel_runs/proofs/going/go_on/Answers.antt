use Rattle.std.proofs.Common.{◌≢◌}
use Rattle.c_meaning.specs.declared.profile.Profile.TheVariants.{Plain}
use Rattle.net_runs.specs.declared.refusal.RunRefusal.TheVariants as run
use Rattle.kernel_runs.proofs.GoLemmas.{converted}
use Rattle.kernel_runs.proofs.RightLemmas.{goes_to, moves}
use Rattle.kernel_runs.proofs.going.go_on.Goals as goal

pub returns-clause-ok : goal.returns-clause-ok
returns-clause-ok g c =
    goes_to c.inputs_texts_have_one_reading.ensures c.good_nets_stay_good.ensures.computes c.numbers_stay_in_range.ensures.results c.args.compiled.now.typed c.args.compiled.now.net
    c.requires.lawful c.requires.good c.args.inputs.now c.args.run c.in_ok-results.results.items c.in_ok-results.ensures.ok c.in_ok-text.text.items
    (rw (c.net.ensures.net, c.as_slice.ensures.value) at c.in_ok-text.ensures)

pub returns-in_err-results-clause-moves : goal.returns-in_err-results-clause-moves
returns-in_err-results-clause-moves g c =
    let e = c.in_err-results.field-0.0 in
    converted (λ r. r ≢ run.Stuck) c.from_residual.result e c.from_residual.ensures.1
    (moves c.good_nets_stay_good.ensures.computes c.args.compiled.now.typed c.args.compiled.now.net (c.requires.good Plain) c.args.inputs.now c.args.run e c.in_err-results.ensures.err)

pub returns-in_err-text-clause-moves : goal.returns-in_err-text-clause-moves
returns-in_err-text-clause-moves g c = converted (λ r. r ≢ run.Stuck) c.from_residual-in_err-text.result run.Memory c.from_residual-in_err-text.ensures.1 (λ e. absurd (cc))
