use Rattle.std.proofs.Common.{◌≡◌, ◌++◌, map, take}
use Rattle.net_text.specs.Pieces.{port_letter}
use Rattle.net_text.proofs.pieces.put_letters.Given as goal

abbrev pub invariant-loop-port : goal.invariant-loop-port
invariant-loop-port l = l.text.items ≡ l.initial.text.items ++ map port_letter (take l.port-index l.ports)
