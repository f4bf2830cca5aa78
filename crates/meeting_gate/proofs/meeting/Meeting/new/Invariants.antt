use Rattle.std.specs.Prelude.{◌≡◌, length}
use Rattle.meeting_gate.proofs.meeting.Meeting.new.Given as goal

abbrev pub invariant-loop : goal.invariant-loop
invariant-loop l = length l.asked.items ≡ l.counter
