use Rattle.std.proofs.Common.{subst}
use Rattle.std.proofs.lemmas.Result.{err_from_is_err_and}
use Rattle.inputs_text.specs.Readings.{FindsAll, RefusesLines}
use Rattle.inputs_text.proofs.WholeLemmas.{are_single, says_line}
use Rattle.inputs_text.proofs.reader.read_asked.Goals as goal

pub inputs_of-requires-clause-single : goal.inputs_of-requires-clause-single
inputs_of-requires-clause-single c =
    are_single c.patterns_have_their_width.ensures c.args.scalars.now c.args.arrays.now c.args.bytes.now c.read_lines.new.found.entries c.requires.names
    (subst (λ asked. FindsAll asked c.args.bytes.now c.read_lines.new.found.entries) c.requires.asked c.in_ok-read_lines.ensures.found)

pub returns-clause-says : goal.returns-clause-says
returns-clause-says c =
    c.inputs_of.ensures.says c.args.bytes.now (subst (λ asked. FindsAll asked c.args.bytes.now c.read_lines.new.found.entries) c.requires.asked c.in_ok-read_lines.ensures.found)

pub returns-clause-fit : goal.returns-clause-fit
returns-clause-fit c =
    c.inputs_of.ensures.fit c.args.bytes.now (subst (λ asked. FindsAll asked c.args.bytes.now c.read_lines.new.found.entries) c.requires.asked c.in_ok-read_lines.ensures.found)

pub returns-in_err-read_lines-clause-says : goal.returns-in_err-read_lines-clause-says
returns-in_err-read_lines-clause-says c =
    let p = err_from_is_err_and c.from_residual.result c.from_residual.ensures.1 in
    rw (p.1, p.2) (says_line c.args.scalars.now c.args.arrays.now c.args.bytes.now c.in_err-read_lines.field-0.0
    (subst (λ asked. RefusesLines asked c.args.bytes.now c.in_err-read_lines.field-0.0) c.requires.asked c.in_err-read_lines.ensures.refused))

pub read_lines-requires-clause-none : goal.read_lines-requires-clause-none
read_lines-requires-clause-none c = c.new-found.ensures.empty
