use Rattle.std.proofs.Common.{◌++◌, ap, ◌∙◌}
use Rattle.std.proofs.lemmas.List.{take_all}
use Rattle.inputs_text.specs.Results.{spaced}
use Rattle.inputs_text.proofs.ResultLemmas.{number_more}
use Rattle.inputs_text.proofs.results.put_numbers.Goals as goal

pub loop-pattern-preserved : goal.loop-pattern-preserved
loop-pattern-preserved c = number_more c.args.ty _ _ _ _ c.loop-pattern.pattern-index _ c.args.patterns.now c.loop-pattern.invariant c.in_ok-push.ensures.items c.in_ok-put_number.ensures c.loop-pattern-test.true

pub returns : goal.returns
returns c = c.loop-pattern.invariant ∙ ap (λ ps. c.args.text.now.items ++ spaced c.args.ty ps) (take_all c.loop-pattern.pattern-index c.args.patterns.now c.loop-pattern-test.false)
