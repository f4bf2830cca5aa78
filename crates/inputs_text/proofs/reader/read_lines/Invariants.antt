use Rattle.std.proofs.Common.{length}
use Rattle.inputs_text.proofs.RunLemmas.{LinesSoFar}
use Rattle.inputs_text.proofs.reader.read_lines.Given as goal

abbrev pub invariant-lines : goal.invariant-lines
invariant-lines l = LinesSoFar l.slots.entries l.bytes l.rest l.found.entries l.number

abbrev pub decreases-lines : goal.decreases-lines
decreases-lines l = length l.rest
