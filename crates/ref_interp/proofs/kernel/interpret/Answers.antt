use Rattle.std.proofs.Common.{sym, ap, ◌∙◌}
use Rattle.c_meaning.specs.Statements.{objects, body_run}
use Rattle.ref_interp.specs.Outcomes.{input_numbers}
use Rattle.ref_interp.proofs.Headers.{inputs_fit, has_results}
use Rattle.ref_interp.proofs.kernel.interpret.Goals as goal

pub returns-clause-says : goal.returns-clause-says
returns-clause-says c =
    let k = objects c.args.profile c.args.typed.now in
    let i = input_numbers c.args.typed.now c.args.inputs.now in
    let op = c.in_ok-cells.ensures c.args.profile c.requires.lawful c.requires.fit in
    let ran = c.run_body-ending.ensures c.patterns_follow_numbers.ensures c.parts_are_known.ensures c.requires.lawful op.cells in
    (c.concluded.ensures c.args.profile i c.ends_are_one.ensures.kernels c.larger_bounds_keep_ends.ensures.kernels c.ends_need_only_their_turns.ensures c.patterns_are_those_of_their_numbers.ensures c.requires.lawful (ap (λ s. body_run k c.args.typed.now.body s c.args.turns) (sym op.is) ∙ ran.is) ran.cells ran.given).0

pub returns-clause-only : goal.returns-clause-only
returns-clause-only c =
    let k = objects c.args.profile c.args.typed.now in
    let i = input_numbers c.args.typed.now c.args.inputs.now in
    let op = c.in_ok-cells.ensures c.args.profile c.requires.lawful c.requires.fit in
    let ran = c.run_body-ending.ensures c.patterns_follow_numbers.ensures c.parts_are_known.ensures c.requires.lawful op.cells in
    (c.concluded.ensures c.args.profile i c.ends_are_one.ensures.kernels c.larger_bounds_keep_ends.ensures.kernels c.ends_need_only_their_turns.ensures c.patterns_are_those_of_their_numbers.ensures c.requires.lawful (ap (λ s. body_run k c.args.typed.now.body s c.args.turns) (sym op.is) ∙ ran.is) ran.cells ran.given).1

pub returns-clause-results : goal.returns-clause-results
returns-clause-results c =
    let k = c.args.typed.now in
    has_results k c.args.profile (input_numbers k c.args.inputs.now) c.args.turns c.concluded.result c.numbers_stay_in_range.ensures.results c.patterns_have_their_width.ensures c.requires.lawful
    (inputs_fit k c.args.inputs.now c.patterns_stand_for_numbers_in_range.ensures c.requires.fit) (returns-clause-says c)
