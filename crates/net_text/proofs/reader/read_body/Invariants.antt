use Rattle.std.proofs.Common.{◌+◌, ◌≤◌, length}
use Rattle.net_text.proofs.Texts.{Draft}
use Rattle.net_text.proofs.reader.read_body.Given as goal

abbrev pub invariant-lines : goal.invariant-lines
invariant-lines l = record { draft : Draft l.version l.fn.name l.body l.stage l.net l.rest l.number; room : l.number + length l.rest ≤ length l.body + 3 }

abbrev pub decreases-lines : goal.decreases-lines
decreases-lines l = length l.rest
