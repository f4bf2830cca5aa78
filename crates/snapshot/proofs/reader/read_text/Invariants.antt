use Rattle.std.proofs.Common.{◌+◌, ◌≤◌, length}
use Rattle.snapshot.proofs.Progress.{Read}
use Rattle.snapshot.proofs.reader.read_text.Given as goal

abbrev pub invariant-lines : goal.invariant-lines
invariant-lines l = record { read : Read l.fn.net l.fn.bytes l.draft l.rest l.number; room : l.number + length l.rest ≤ length l.fn.bytes + 1 }

abbrev pub decreases-lines : goal.decreases-lines
decreases-lines l = length l.rest
