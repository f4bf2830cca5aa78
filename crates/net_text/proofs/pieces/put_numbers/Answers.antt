use Rattle.std.proofs.Common.{◌∷◌, ◌++◌, decimal, ap, ◌∙◌}
use Rattle.std.specs.List.{flat_map}
use Rattle.std.proofs.lemmas.List.{take_all}
use Rattle.net_text.proofs.PrintedLines.{one_more_written, with_separator}
use Rattle.net_text.proofs.pieces.put_numbers.Goals as goal

pub loop-number-preserved : goal.loop-number-preserved
loop-number-preserved c = one_more_written (λ n. 32 ∷ decimal n) _ _ _ c.loop-number.number-index _ c.args.numbers.now c.loop-number.invariant
    (with_separator 32 _ _ _ _ c.in_ok-put_bytes.ensures.ok c.in_ok-put_u64.ensures.ok) c.loop-number-test.true

pub returns : goal.returns
returns c = record { ok = c.loop-number.invariant ∙ ap (λ ns. c.args.text.now.items ++ flat_map (λ n. 32 ∷ decimal n) ns) (take_all c.loop-number.number-index c.args.numbers.now c.loop-number-test.false) }
