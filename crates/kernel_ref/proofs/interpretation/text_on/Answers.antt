use Rattle.std.proofs.Common.{◌≡◌, ◌∙◌, ap, map, subst}
use Rattle.std.specs.Prelude.{Err}
use Rattle.c_meaning.specs.Headers.{scalars_of, flat}
use Rattle.inputs_text.specs.Refusals.{Says}
use Rattle.kernel_ref.specs.Texts.{SaysInputs}
use Rattle.kernel_ref.proofs.AnswerLemmas.{inputs_refused}
use Rattle.kernel_ref.proofs.interpretation.text_on.Goals as goal

pub returns-clause-err : goal.returns-clause-err
returns-clause-err c =
    let k = c.args.typed.now in
    let scalars : c.as_slice-2.result.now ≡ scalars_of k.params = c.as_slice-2.ensures ∙ c.in_ok-scalars.ensures ∙ ap scalars_of c.as_slice.ensures in
    let arrays : c.as_slice-3.result.now ≡ map flat k.arrays = c.as_slice-3.ensures ∙ c.in_ok-arrays.ensures in
    let says : SaysInputs k c.args.bytes.now (Err c.in-Err.refused) =
    subst (λ ss. Says ss (map flat k.arrays) c.args.bytes.now (Err c.in-Err.refused)) scalars
    (subst (λ xs. Says c.as_slice-2.result.now xs c.args.bytes.now (Err c.in-Err.refused)) arrays c.in-Err.ensures.says) in
    inputs_refused k c.args.bytes.now c.args.options c.inputs_fault.result (c.inputs_fault.ensures k c.args.bytes.now says)
