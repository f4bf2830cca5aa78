use Rattle.std.proofs.lemmas.Result.{err_from_is_err_and}
use Rattle.inputs_text.proofs.WholeLemmas.{says_inputs, inputs_fit, says_no_scalar, says_no_array}
use Rattle.inputs_text.proofs.reader.inputs_of.Goals as goal

pub returns-clause-says : goal.returns-clause-says
returns-clause-says c bytes finds =
    says_inputs c.patterns_have_their_width.ensures c.args.scalars.now c.args.arrays.now bytes c.args.found.now.entries c.requires.names finds
    c.in_ok-patterns.patterns c.in_ok-elements.elements c.in_ok-patterns.ensures.ok c.in_ok-elements.ensures.ok

pub returns-clause-fit : goal.returns-clause-fit
returns-clause-fit c bytes finds =
    inputs_fit c.patterns_have_their_width.ensures c.args.scalars.now c.args.arrays.now bytes c.args.found.now.entries c.requires.names finds
    c.in_ok-patterns.patterns c.in_ok-elements.elements c.in_ok-patterns.ensures.ok c.in_ok-elements.ensures.ok

pub returns-in_err-elements-clause-says : goal.returns-in_err-elements-clause-says
returns-in_err-elements-clause-says c bytes finds =
    let p = err_from_is_err_and c.from_residual-in_err-elements.result c.from_residual-in_err-elements.ensures.1 in
    rw (p.1, p.2) (says_no_array c.patterns_have_their_width.ensures c.args.scalars.now c.args.arrays.now bytes c.args.found.now.entries c.requires.names finds
    c.in_ok-patterns.patterns c.in_ok-patterns.ensures.ok c.in_err-elements.field-0.0 c.in_err-elements.ensures.err)

pub returns-in_err-patterns-clause-says : goal.returns-in_err-patterns-clause-says
returns-in_err-patterns-clause-says c bytes finds =
    let p = err_from_is_err_and c.from_residual.result c.from_residual.ensures.1 in
    rw (p.1, p.2) (says_no_scalar c.patterns_have_their_width.ensures c.args.scalars.now c.args.arrays.now bytes c.args.found.now.entries c.requires.names finds
    c.in_err-patterns.field-0.0 c.in_err-patterns.ensures.err)
