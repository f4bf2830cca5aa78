use Rattle.std.proofs.Common.{◌≡◌, true, take}
use Rattle.net_text.specs.Reads.{lacks}
use Rattle.net_text.proofs.read_pieces.cut.Given as goal

abbrev pub invariant-loop-i : goal.invariant-loop-i
invariant-loop-i l = lacks l.separator (take l.i l.bytes) ≡ true
