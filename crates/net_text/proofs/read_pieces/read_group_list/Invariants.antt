use Rattle.std.proofs.Common.{◌≡◌, map, take}
use Rattle.net_text.specs.Fits.{GroupsFit}
use Rattle.net_text.specs.Pieces.{group_text}
use Rattle.net_text.proofs.read_pieces.read_group_list.Given as goal

abbrev pub invariant-loop-part : goal.invariant-loop-part
invariant-loop-part l = record { fits : GroupsFit l.groups; same : map group_text l.groups ≡ map (λ part. part.now) (take l.part-index l.parts) }
