use Rattle.std.proofs.Common.{◌≡◌, map, take, decimal}
use Rattle.net_text.specs.Fits.{GroupFits}
use Rattle.net_text.proofs.read_pieces.read_numbers.Given as goal

abbrev pub invariant-loop-part : goal.invariant-loop-part
invariant-loop-part l = record { fits : GroupFits l.numbers; same : map decimal l.numbers ≡ map (λ part. part.now) (take l.part-index l.parts) }
