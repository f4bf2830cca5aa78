use Rattle.std.specs.Prelude.{Ok, Err}
use Rattle.std.proofs.lemmas.Result.{IfOk-weaker, IfErr-weaker}
use Rattle.kernel_ref.proofs.AnswerLemmas.{run_refused}
use Rattle.kernel_ref.proofs.interpretation.interpret_text.Goals as goal

pub returns-clause-ok : goal.returns-clause-ok
returns-clause-ok c = c.text_on.ensures.ok

pub returns-clause-err : goal.returns-clause-err
returns-clause-err c = IfErr-weaker c.text_on.result _ _ (λ r is. run_refused c.args.typed.now c.args.bytes.now c.args.options r is) c.text_on.ensures.err

pub returns-clause-only_text : goal.returns-clause-only_text
returns-clause-only_text c =
    IfOk-weaker c.text_on.result _ _ (λ text is. c.inputs_have_one_answer.ensures c.args.typed.now c.args.bytes.now c.args.options (Ok text.items) is) c.text_on.ensures.ok

pub returns-clause-only_refusal : goal.returns-clause-only_refusal
returns-clause-only_refusal c =
    IfErr-weaker c.text_on.result _ _
    (λ r is. c.inputs_have_one_answer.ensures c.args.typed.now c.args.bytes.now c.args.options (Err r) (run_refused c.args.typed.now c.args.bytes.now c.args.options r is))
    c.text_on.ensures.err
