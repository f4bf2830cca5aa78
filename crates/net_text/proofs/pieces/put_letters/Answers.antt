use Rattle.std.proofs.Common.{◌++◌, ◌∷◌, [], ap, ◌∙◌}
use Rattle.net_text.specs.Pieces.{port_letter}
use Rattle.net_text.proofs.PrintedLines.{letter_written}
use Rattle.net_text.proofs.pieces.put_letters.Goals as goal

pub loop-port-preserved : goal.loop-port-preserved
loop-port-preserved c = letter_written port_letter _ _ _ c.loop-port.port-index _ c.args.ports.now c.loop-port.invariant (c.in_ok-push.ensures.items ∙ ap (λ b. c.loop-port.text.items ++ b ∷ []) c.letter.ensures) c.loop-port-test.true
