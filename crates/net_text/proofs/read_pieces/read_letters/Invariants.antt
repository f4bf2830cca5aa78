use Rattle.std.proofs.Common.{◌≡◌, map, take}
use Rattle.net_text.specs.Pieces.{port_letter}
use Rattle.net_text.proofs.read_pieces.read_letters.Given as goal

abbrev pub invariant-loop-byte : goal.invariant-loop-byte
invariant-loop-byte l = map port_letter l.ports ≡ take l.byte-index l.bytes
