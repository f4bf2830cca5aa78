use Rattle.std.proofs.Common.{length}
use Rattle.net_replay.proofs.ScheduleLemmas.{IsReadTo}
use Rattle.net_replay.proofs.schedule_reader.read_lines.Given as goal

abbrev pub invariant-lines : goal.invariant-lines
invariant-lines l = IsReadTo l.bytes l.firings l.rest l.number

abbrev pub decreases-lines : goal.decreases-lines
decreases-lines l = length l.rest
